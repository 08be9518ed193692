-- A stock ends: its headers all wait in lists, and each gives its block home.
use Rattle.std.proofs.Common.{◌≡◌, ◌↔◌, ℕ, ◌+◌, ◌&&◌, Bool, true, false, if◌then◌else◌, nat_eq, List, [], ◌∷◌, ◌++◌, length, Option, Some, None, option_map, MatchOption, refl, sym, ◌∙◌, ap, arith, eqb-true, eq-eqb, subst}
use Rattle.std.specs.List.{list_all}
use Rattle.block_region.specs.Regions.{BlockRegion}
use Rattle.il_machine.specs.declared.header.HeaderState.{HeaderState}
use Rattle.il_machine.specs.World.{HeaderRecord}
use Rattle.il_machine.specs.Buffers.{is_block}
use Rattle.il_machine.specs.Headers.{Once, count_headers, find_header, state_of, weight}
use Rattle.header_core.specs.Blocks.{IsSameRegion}
use Rattle.header_core.specs.Keys.{key_number}
use Rattle.port_stock.specs.declared.entry.Entry.{Entry}
use Rattle.port_stock.specs.declared.port.Port.{Port}
use Rattle.port_stock.specs.Blocks.{HasBlocks, blocks_out, key_of}
use Rattle.port_stock.specs.Conditions.{AllWait}
use Rattle.port_stock.specs.Ending.{AreEnding, IsEnding}
use Rattle.port_stock.specs.Entries.{AreOf, Each, IsKept, headers_of, record_of}
use Rattle.port_stock.specs.Kept.{is_waiting, stocked}
use Rattle.port_stock.specs.Rings.{IsLawful}
use Rattle.port_stock.proofs.Reading.{header_shown, view}

-- ---- the last entry is taken off

each_front : {A : Type 0} (P : A → Type 0) (xs : List A) (x : A) → Each P (xs ++ x ∷ []) → Each P xs × P x
each_front P [] x h = (tt, h.0)
each_front P (y ∷ ys) x h = let r = each_front P ys x h.1 in ((h.0, r.0), r.1)

count_front : (xs : List Entry) (x : Entry) → count_headers is_block (headers_of (xs ++ x ∷ [])) ≡ count_headers is_block (headers_of xs) + weight (is_block x.state)
count_front [] x = omega arith
count_front (y ∷ ys) x = let e = count_front ys x in omega arith

pub ending_last : (r : BlockRegion) (xs : List Entry) (x : Entry) → AreEnding r (xs ++ x ∷ []) → IsEnding (key_of r) x
ending_last r xs x h = (each_front (IsEnding (key_of r)) xs x h.each).1

pub ending_fewer : (r t : BlockRegion) (xs : List Entry) (x : Entry) → AreEnding r (xs ++ x ∷ []) → IsSameRegion r t → t.free ≡ r.free + weight (is_block x.state) → AreEnding t xs
ending_fewer r t xs x h same free =
    let F = each_front (IsEnding (key_of r)) xs x h.each in
    let own : key_of r ≡ key_of t = ap key_number (sym same.0) in
    let c = count_front xs x in
    let b = h.blocks in
    let s = same.1 in
    record { each = subst (λ (key : ℕ). Each (IsEnding key) xs) own F.0; blocks = omega arith }

pub ended : (r : BlockRegion) (es : List Entry) → length es ≡ 0 → AreEnding r es → r.free ≡ r.blocks
ended r [] l h = let b = h.blocks in omega arith
ended r (e ∷ es) l h = absurd (omega arith)

-- ---- all entries

and_true : (a b : Bool) → (a && b) ≡ true → (a ≡ true) × (b ≡ true)
and_true true b h = (refl, h)
and_true false b h = absurd cc

true_and : (a b : Bool) → a ≡ true → b ≡ true → (a && b) ≡ true
true_and a b h k = rw h k

module _ (p : HeaderState → Bool) where
  abbrev Passes : HeaderState → Type 0
  Passes h = p h ≡ true

  mapped : (o : Option HeaderRecord) → MatchOption o (Unit {0}) (λ r. Passes r.state) → MatchOption (option_map state_of o) (Unit {0}) Passes
  mapped None h = tt
  mapped (Some r) h = h

  unmapped : (o : Option HeaderRecord) → MatchOption (option_map state_of o) (Unit {0}) Passes → MatchOption o (Unit {0}) (λ r. Passes r.state)
  unmapped None h = tt
  unmapped (Some r) h = h

  behind : (n : ℕ) (r : HeaderRecord) (rs : List HeaderRecord) (b : Bool) → nat_eq r.state.number n ≡ b → find_header r.state.number rs ≡ None → MatchOption (if b then Some r else find_header n rs) (Unit {0}) (λ r. Passes r.state)
      → MatchOption (find_header n rs) (Unit {0}) (λ r. Passes r.state)
  behind n r rs true e none h =
      let same : r.state.number ≡ n = eqb-true r.state.number n e in
      let P : Option HeaderRecord → Type 0 = λ o. MatchOption o (Unit {0}) (λ r. Passes r.state) in
      subst (λ (m : ℕ). P (find_header m rs)) same (subst P (sym none) tt)
  behind n r rs false e none h = h

  pub each_passes : (es : List Entry) → Once (headers_of es) → ((n : ℕ) → MatchOption (find_header n (headers_of es)) (Unit {0}) (λ r. Passes r.state)) → Each (λ e. Passes e.state) es
  each_passes [] o w = tt
  each_passes (e ∷ es) o w =
      let P : Bool → Type 0 = λ b. MatchOption (if b then Some (record_of e) else find_header e.state.number (headers_of es)) (Unit {0}) (λ r. Passes r.state) in
      let here : Passes e.state = subst P (eq-eqb e.state.number e.state.number refl) (w e.state.number) in
      (here, each_passes es o.1 (λ n. behind n (record_of e) (headers_of es) (nat_eq e.state.number n) refl o.0 (w n)))

  all_passes : (es : List Entry) → Each (λ e. Passes e.state) es → list_all (λ e. p e.state) es ≡ true
  all_passes [] h = refl
  all_passes (e ∷ es) h = true_and _ _ h.0 (all_passes es h.1)

  found_passes : (es : List Entry) → list_all (λ e. p e.state) es ≡ true → (n : ℕ) → MatchOption (find_header n (headers_of es)) (Unit {0}) (λ r. Passes r.state)
  found_passes [] h n = tt
  found_passes (e ∷ es) h n =
      let a = and_true _ _ h in
      elim (nat_eq e.state.number n) as (λ b. MatchOption (if b then Some (record_of e) else find_header n (headers_of es)) (Unit {0}) (λ r. Passes r.state)) [ true ↦ a.0 | false ↦ found_passes es a.1 n ]

  module _ (key : ℕ) (ps : List Port) (es : List Entry) (next : ℕ) where
    abbrev All : Type 0
    All = (number : ℕ) → MatchOption ((stocked (view key ps (headers_of es) next)).headers.header number) (Unit {0}) Passes

    shown : (n : ℕ) → option_map state_of (find_header n (headers_of es)) ≡ (stocked (view key ps (headers_of es) next)).headers.header n
    shown n = header_shown (view key ps (headers_of es) next) n

    pub all_each : Once (headers_of es) → All → Each (λ e. Passes e.state) es
    all_each o w =
        let P : Option HeaderState → Type 0 = λ o. MatchOption o (Unit {0}) Passes in
        each_passes es o (λ n. unmapped (find_header n (headers_of es)) (subst P (sym (shown n)) (w n)))

    -- a test of all entries tells of all headers
    pub tested : (b : Bool) → b ≡ list_all (λ e. p e.state) es → Once (headers_of es) → (b ≡ true) ↔ All
    tested b h o =
        let P : Option HeaderState → Type 0 = λ o. MatchOption o (Unit {0}) Passes in
        ((λ t n. subst P (shown n) (mapped (find_header n (headers_of es)) (found_passes es (sym h ∙ t) n))), (λ w. h ∙ all_passes es (all_each o w)))

abbrev waits : HeaderState → Bool
waits h = is_waiting h.queue

all_three : (key : ℕ) (es : List Entry) → Each IsKept es → AreOf key es → Each (λ e. waits e.state ≡ true) es → Each (IsEnding key) es
all_three key [] k o w = tt
all_three key (e ∷ es) k o w = (record { kept = k.0; of_key = o.0; waits = w.0 }, all_three key es k.1 o.1 w.1)

pub all_end : (r : BlockRegion) (ps : List Port) (es : List Entry) (next places : ℕ) → IsLawful (key_of r) ps es (blocks_out r) next places → HasBlocks r → AllWait (stocked (view (key_of r) ps (headers_of es) next)) → AreEnding r es
all_end r ps es next places L B w =
    let c = L.blocked in
    let t = L.tells.counted is_block in
    let f = B.free in
    let b = B.blocks in
    record {
      each = all_three (key_of r) es L.kept L.keys (all_each waits (key_of r) ps es next L.once w);
      blocks = omega arith;
    }
