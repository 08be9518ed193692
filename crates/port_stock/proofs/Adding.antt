-- Ports come and go, a header is made, and a stock begins and ends.
use Rattle.std.proofs.Common.{◌≡◌, ℕ, zero, suc, ◌+◌, ◌*◌, ◌<◌, ◌≤◌, Bool, true, false, not, ◌||◌, nat_eq, List, [], ◌∷◌, ◌++◌, length, length-append, filter, Option, Some, None, option_map, MatchOption, Result, Ok, Err, OnErr, cond, if◌then◌else◌, refl, sym, ◌∙◌, ap, arith, subst, append_assoc, append-nil, inl, inr}
use Rattle.std.proofs.lemmas.List.{length-map}
use Rattle.std.proofs.lemmas.Bool.Decides.{nat_tests}
use Rattle.il_machine.specs.declared.port.PortKey.{PortKey}
use Rattle.il_machine.specs.declared.header.Queue.TheVariants.{Out}
use Rattle.il_machine.specs.declared.header.HeaderState.{HeaderState}
use Rattle.il_machine.specs.World.{HeaderRecord}
use Rattle.il_machine.specs.Headers.{Once, count_headers, empty_load, find_header, is_for, same_key, weight}
use Rattle.il_machine.specs.Buffers.{is_block}
use Rattle.il_machine.specs.Places.{first_place, AtMostOne}
use Rattle.il_machine.proofs.Places.{once_push, push_None}
use Rattle.il_machine.specs.Stock.{Stocked, added, home_owner, keys_from, no_stock, header_made, removed}
use Rattle.header_core.specs.BufferHeader.{BufferHeader}
use Rattle.stock_laws.proofs.Flat.{count-append, once-append}
use Rattle.stock_laws.proofs.Keys.{key_tells, same_key-sym}
use Rattle.port_stock.specs.declared.entry.Entry.{Entry}
use Rattle.port_stock.specs.declared.port.Port.{Port}
use Rattle.port_stock.specs.Kept.{Flat, StockKept, of_flat, stocked}
use Rattle.port_stock.specs.Conditions.{HasFewer, IsHeaderOf, IsOutside, IsPeer, IsPort, IsUnmade, IsWithoutPorts, has_key, is_home_among, made_in}
use Rattle.port_stock.specs.Entries.{AreOf, Each, IsKept, headers_of}
use Rattle.port_stock.specs.Rings.{Differ, HasCounted, IsKnownBy, IsLawful, IsPortOf, Recounts, Tells, is_at, new_ports, no_port, port_at, port_keys}
use Rattle.port_stock.proofs.Places.{mapped_none}
use Rattle.port_stock.proofs.Stocking.{kept, reads}
use Rattle.port_stock.proofs.Lawful.{fresh_number, home_owned, lawful_room}
use Rattle.port_stock.proofs.Calls.{Becomes}
use Rattle.port_stock.proofs.Making.{made_outside, new_number, make_becomes}
use Rattle.port_stock.proofs.Keeping.{add_becomes, begins, is_left, keys_length, remove_becomes, left_length}
use Rattle.port_stock.proofs.Reading.{view, told, shelf_keys, keys_shown}
use Rattle.port_stock.proofs.Telling.{made_tells}
use Rattle.port_stock.proofs.Knowing.{absent, count_length, counted_at, guests, table_length, zero_port}
use Rattle.port_stock.proofs.Turning.{Turns, flat_old, length_keys, old, port_there, told_old, turned}

pub on_err : {A E : Type 0} (r : Result A E) (P : Type 0) → P → OnErr r P
on_err (Ok x) P p = tt
on_err (Err e) P p = p

-- ---- ports are added

pub keys_added : (ps : List Port) (component index count : ℕ) → port_keys (ps ++ new_ports component index count) ≡ port_keys ps ++ keys_from component index count
keys_added [] component index zero = refl
keys_added [] component index (suc count) = ap (λ (v : List PortKey). record { component = component; port = index } ∷ v) (keys_added [] component (index + 1) count)
keys_added (p ∷ ps) component index count = ap (λ (v : List PortKey). p.key ∷ v) (keys_added ps component index count)

new_at : (k : PortKey) (component index count : ℕ) → port_at k (new_ports component index count) ≡ no_port k
new_at k component index zero = refl
new_at k component index (suc count) =
    let key : PortKey = record { component = component; port = index } in
    elim (key_tells key k) [
      | inl x ↦ rw x.0 (ap no_port x.1)
      | inr x ↦ rw x.0 (new_at k component (index + 1) count)
    ]

added_at : (k : PortKey) (ps : List Port) (component index count : ℕ) → port_at k (ps ++ new_ports component index count) ≡ port_at k ps
added_at k [] component index count = new_at k component index count
added_at k (p ∷ ps) component index count =
    elim (is_at k p) as (λ v. (if v then p else port_at k (ps ++ new_ports component index count)) ≡ (if v then p else port_at k ps)) [ true ↦ refl | false ↦ added_at k ps component index count ]

place_none : (key : PortKey) (ps : List Port) → has_key key (port_keys ps) ≡ false → first_place (is_at key) ps ≡ None
place_none key [] h = refl
place_none key (p ∷ ps) h = elim (same_key key p.key) as (λ v. same_key key p.key ≡ v → (v || has_key key (port_keys ps)) ≡ false → cond (same_key p.key key) (Some 0) (option_map suc (first_place (is_at key) ps)) ≡ None) [
  | true ↦ λ t e. absurd cc
  | false ↦ λ t e. rw (same_key-sym p.key key, t) (ap (option_map suc) (place_none key ps e))
] refl h

-- no port of the component has an index from this one on
abbrev IsFree : ℕ → ℕ → List Port → Type 0
IsFree component index ps = (key : PortKey) → key.component ≡ component → index ≤ key.port → first_place (is_at key) ps ≡ None

differ_more : (count : ℕ) (ps : List Port) (component index : ℕ) → Differ ps → IsFree component index ps → Differ (ps ++ new_ports component index count)
differ_more zero ps component index D F = subst Differ (sym (append-nil ps)) D
differ_more (suc count) ps component index D F =
    let key : PortKey = record { component = component; port = index } in
    let more : Differ (ps ++ no_port key ∷ []) = λ k. once_push (is_at k) ps (no_port key) (D k) (λ t. elim (key_tells key k) [
      | inl x ↦ subst (λ (l : PortKey). first_place (is_at l) ps ≡ None) x.1 (F key refl (omega arith))
      | inr x ↦ absurd (let z : false ≡ true = sym x.0 ∙ t in cc)
    ]) in
    let free : IsFree component (index + 1) (ps ++ no_port key ∷ []) = λ k c l.
    let apart : is_at k (no_port key) ≡ false = elim (key_tells key k) [
      | inl x ↦ let e : index ≡ k.port = ap (λ (v : PortKey). v.port) x.1 in absurd (omega arith)
      | inr x ↦ x.0
    ] in
    push_None (is_at k) ps (no_port key) (F k c (omega arith)) ∙ rw apart refl in
    subst Differ (append_assoc ps (no_port key ∷ []) (new_ports component (index + 1) count)) (differ_more count (ps ++ no_port key ∷ []) component (index + 1) more free)

module _ (key : ℕ) (ps : List Port) (es : List Entry) (blocks next places : ℕ) (L : IsLawful key ps es blocks next places) where
  abbrev flat_of : Flat
  flat_of = flat_old key ps es blocks next places L

  abbrev old_of : StockKept
  old_of = old key ps es blocks next places L

  told_of : stocked old_of ≡ of_flat flat_of
  told_of = told_old key ps es blocks next places L

  free_of : (component : ℕ) → IsWithoutPorts component (stocked old_of) → IsFree component 0 ps
  free_of component W k c l =
      let none : has_key k (port_keys ps) ≡ false = elim (has_key k (port_keys ps)) as (λ v. has_key k (port_keys ps) ≡ v → v ≡ false) [
        | true ↦ λ t. absurd (W k (ap (has_key k) (sym (keys_shown old_of) ∙ shelf_keys ps) ∙ t) c)
        | false ↦ λ t. refl
      ] refl in
      place_none k ps none

  pub add_turns : (qs : List Port) (component count room : ℕ) → qs ≡ ps ++ new_ports component 0 count → IsWithoutPorts component (stocked old_of) → 32 * (length ps + count) ≤ room
      → Turns key qs es blocks next room (added component count (stocked old_of))
  add_turns qs component count room h W r =
      let keys : port_keys qs ≡ port_keys ps ++ keys_from component 0 count = ap port_keys h ∙ keys_added ps component 0 count in
      let B = add_becomes flat_of (port_keys qs) component count L.headers keys in
      let T : Tells qs (headers_of es) L.flat = record {
        port = λ k. let e : port_at k qs ≡ port_at k ps = ap (port_at k) h ∙ added_at k ps component 0 count in subst (λ (p : Port). IsPortOf L.flat k p) (sym e) (L.tells.port k);
        found = L.tells.found;
        counted = L.tells.counted;
      } in
      let l : length qs ≡ length ps + count
      = sym (length_keys qs) ∙ (ap length keys ∙ (let a : length (port_keys ps ++ keys_from component 0 count) ≡ length (port_keys ps) + length (keys_from component 0 count) = simp length-append in let b = keys_length component 0 count in let c = length_keys ps in omega arith)) in
      record {
        lawful = record {
          flat = L.flat;
          tells = T;
          headers = B.lawful;
          differ = subst Differ (sym h) (differ_more count ps component 0 L.differ (free_of component W));
          once = L.once;
          blocked = L.blocked;
          kept = L.kept;
          keys = L.keys;
          room = omega arith;
        };
        is = told key qs (headers_of es) L.flat next T L.headers.once ∙ (B.is ∙ ap (added component count) (sym told_of));
      }

  pub same_turns : (qs : List Port) (vs : List Entry) (room : ℕ) → qs ≡ ps → vs ≡ es → places ≤ room → Turns key qs vs blocks next room (stocked old_of)
  same_turns qs vs room q v r =
      let T : Turns key ps es blocks next room (stocked old_of) = record {
        lawful = record {
          flat = L.flat;
          tells = L.tells;
          headers = L.headers;
          differ = L.differ;
          once = L.once;
          blocked = L.blocked;
          kept = L.kept;
          keys = L.keys;
          room = let o = L.room in omega arith;
        };
        is = refl;
      } in
      subst (λ (a : List Port). Turns key a vs blocks next room (stocked old_of)) (sym q) (subst (λ (b : List Entry). Turns key ps b blocks next room (stocked old_of)) (sym v) T)

  pub peer_there : (o : Option PortKey) → IsPeer o (stocked old_of) → MatchOption o (Unit {0}) (λ k. has_key k (port_keys ps) ≡ true)
  peer_there None h = tt
  peer_there (Some k) h = port_there key ps es blocks next places L k h

  -- ---- ports are taken away

  abbrev left_port : ℕ → Port → Bool
  left_port component p = not (nat_eq p.key.component component)

  keys_left : (component : ℕ) (xs : List Port) → port_keys (filter (left_port component) xs) ≡ filter (is_left component) (port_keys xs)
  keys_left component [] = refl
  keys_left component (p ∷ xs) = let i = keys_left component xs in elim (nat_eq p.key.component component) as (λ v. port_keys (if not v then p ∷ filter (left_port component) xs else filter (left_port component) xs) ≡ (if not v then p.key ∷ filter (is_left component) (port_keys xs) else filter (is_left component) (port_keys xs))) [
    | true ↦ i
    | false ↦ ap (λ (v : List PortKey). p.key ∷ v) i
  ]

  left_at : (component : ℕ) (k : PortKey) (xs : List Port) → port_at k (filter (left_port component) xs) ≡ (if nat_eq k.component component then no_port k else port_at k xs)
  left_at component k [] = elim (nat_eq k.component component) as (λ v. no_port k ≡ (if v then no_port k else no_port k)) [ true ↦ refl | false ↦ refl ]
  left_at component k (p ∷ xs) =
      let i = left_at component k xs in
      elim (key_tells p.key k) [
        | inl x ↦
            let c : nat_eq p.key.component component ≡ nat_eq k.component component = ap (λ (v : PortKey). nat_eq v.component component) x.1 in
            rw c (elim (nat_eq k.component component) as (λ v. port_at k (filter (left_port component) xs) ≡ (if v then no_port k else port_at k xs) → port_at k (if not v then p ∷ filter (left_port component) xs else filter (left_port component) xs) ≡ (if v then no_port k else port_at k (p ∷ xs)))
            [ true ↦ λ e. e | false ↦ λ e. rw x.0 refl ] i)
        | inr x ↦
            rw x.0 (elim (nat_eq p.key.component component) as (λ v. port_at k (if not v then p ∷ filter (left_port component) xs else filter (left_port component) xs) ≡ (if nat_eq k.component component then no_port k else port_at k xs)) [ true ↦ i | false ↦ rw x.0 i ])
      ]

  none_left_at : (component : ℕ) (k : PortKey) (xs : List Port) → first_place (is_at k) xs ≡ None → first_place (is_at k) (filter (left_port component) xs) ≡ None
  none_left_at component k [] h = refl
  none_left_at component k (p ∷ xs) h =
      elim (is_at k p) as (λ v. is_at k p ≡ v → cond v (Some 0) (option_map suc (first_place (is_at k) xs)) ≡ None → first_place (is_at k) (filter (left_port component) (p ∷ xs)) ≡ None) [
        | true ↦ λ t e. absurd cc
        | false ↦ λ t e.
            let i = none_left_at component k xs (mapped_none (first_place (is_at k) xs) e) in
            elim (nat_eq p.key.component component) as (λ v. first_place (is_at k) (if not v then p ∷ filter (left_port component) xs else filter (left_port component) xs) ≡ None) [ true ↦ i | false ↦ rw t (ap (option_map suc) i) ]
      ] refl h

  left_once : (component : ℕ) (k : PortKey) (xs : List Port) → AtMostOne (is_at k) xs → AtMostOne (is_at k) (filter (left_port component) xs)
  left_once component k [] o = tt
  left_once component k (p ∷ xs) o =
      elim (nat_eq p.key.component component) as (λ v. AtMostOne (is_at k) (if not v then p ∷ filter (left_port component) xs else filter (left_port component) xs)) [
        | true ↦ left_once component k xs o.1
        | false ↦ ((λ t. none_left_at component k xs (o.0 t)), left_once component k xs o.1)
      ]

  gone_count : (component : ℕ) (k : PortKey) → IsUnmade component (stocked old_of) → k.component ≡ component → count_headers (is_for k) L.flat ≡ 0
  gone_count component k U c =
      let shown : (of_flat flat_of).headers.count (is_for k) ≡ (stocked old_of).headers.count (is_for k) = ap (λ (s : Stocked). s.headers.count (is_for k)) (sym told_of) in
      let flat : count_headers (is_for k) L.flat ≡ (of_flat flat_of).headers.count (is_for k) = ap (λ s. s.count (is_for k)) (reads flat_of).looks in
      elim (has_key k (port_keys ps)) as (λ v. has_key k (port_keys ps) ≡ v → count_headers (is_for k) L.flat ≡ 0) [
        | true ↦ λ t. flat ∙ (shown ∙ U k (ap (has_key k) (sym (keys_shown old_of) ∙ shelf_keys ps) ∙ t) c)
        | false ↦ λ t. sym (L.tells.port k).made ∙ ap (λ (p : Port). p.made) (absent k ps t)
      ] refl

  pub remove_turns : (qs : List Port) (component : ℕ) → qs ≡ filter (left_port component) ps → IsUnmade component (stocked old_of) → Turns key qs es blocks next places (removed component (stocked old_of))
  remove_turns qs component h U =
      let keys : port_keys qs ≡ filter (is_left component) (port_keys ps) = ap port_keys h ∙ keys_left component ps in
      let B = remove_becomes flat_of (port_keys qs) component L.headers (subst (λ (s : Stocked). IsUnmade component s) told_of U) keys in
      let T : Tells qs (headers_of es) L.flat = record {
        port = λ k.
            let e : port_at k qs ≡ (if nat_eq k.component component then no_port k else port_at k ps) = ap (port_at k) h ∙ left_at component k ps in
            let P : Bool → Type 0 = λ v. IsPortOf L.flat k (if v then no_port k else port_at k ps) in
            subst (λ (p : Port). IsPortOf L.flat k p) (sym e) (elim (nat_eq k.component component) as (λ v. nat_eq k.component component ≡ v → P v) [
              | true ↦ λ t. let c : k.component ≡ component = grind (arith, nat_tests) in zero_port k L.flat (port_keys ps) next L.headers (gone_count component k U c) (guests ps (headers_of es) L.flat next L.tells L.headers k L.flat L.headers.owned)
              | false ↦ λ t. L.tells.port k
            ] refl);
        found = L.tells.found;
        counted = L.tells.counted;
      } in
      let l : length qs ≤ length ps = let a = sym (length_keys qs) ∙ ap length keys in let b = left_length component (port_keys ps) in let c = length_keys ps in omega arith in
      record {
        lawful = record {
          flat = L.flat;
          tells = T;
          headers = B.lawful;
          differ = λ k. subst (AtMostOne (is_at k)) (sym h) (left_once component k ps (L.differ k));
          once = L.once;
          blocked = L.blocked;
          kept = L.kept;
          keys = L.keys;
          room = let o = L.room in omega arith;
        };
        is = told key qs (headers_of es) L.flat next T L.headers.once ∙ (B.is ∙ ap (removed component) (sym told_of));
      }

  -- ---- a header is made

  module _ (state : HeaderState) (num : state.number ≡ next) (o : state.queue ≡ Out) where
    gone_in : find_header state.number L.flat ≡ None
    gone_in = rw num (fresh_number (port_keys ps) next L.flat L.headers)

    pub gone_number : (stocked old_of).headers.header (stocked old_of).next ≡ None
    gone_number = subst (λ (s : Stocked). s.headers.header s.next ≡ None) (sym told_of) (new_number flat_of L.headers)

    abbrev made : HeaderRecord
    made = record { state = state; load = empty_load None }

    own_room : IsPort state.port (stocked old_of) → made_in (stocked old_of) state.port < 32 → length (headers_of es) < 32 * length (port_keys ps)
    own_room p m =
        let few : made_in (of_flat flat_of) state.port < 32 = subst (λ (s : Stocked). made_in s state.port < 32) told_of m in
        let flat : count_headers (is_for state.port) L.flat ≡ made_in (of_flat flat_of) state.port = ap (λ s. s.count (is_for state.port)) (reads flat_of).looks in
        let r = lawful_room (port_keys ps) next L.flat state.port L.headers (port_there key ps es blocks next places L state.port p) (omega arith) in
        let l = table_length ps (headers_of es) L.flat L.tells in
        omega arith

    pub table_room : (len : ℕ) → len ≡ length es → IsPort state.port (stocked old_of) → made_in (stocked old_of) state.port < 32 → len < places
    table_room len l p m =
        let r = own_room p m in
        let a : length (headers_of es) ≡ length es = simp length-map in
        let b = length_keys ps in
        let c = L.room in
        omega arith

    pub more_blocks : (len : ℕ) → len ≡ length es → blocks ≤ len
    more_blocks len l =
        let a = count_length is_block (headers_of es) in
        let b = L.tells.counted is_block in
        let c : length (headers_of es) ≡ length es = simp length-map in
        let d = L.blocked in
        omega arith

    pub nothing_counted : (k : PortKey) → HasCounted None (port_at k ps)
    nothing_counted k = counted_at ps (headers_of es) L.flat next L.tells L.headers None (λ test. omega arith) k

    module _ (home : is_home_among state.port state.peer state.home ≡ true) (owner : state.owner ≡ home_owner state.home) (p : IsPort state.port (stocked old_of)) (few : made_in (stocked old_of) state.port < 32) (peer : HasFewer (made_in (stocked old_of)) state.peer) where
      becomes : Becomes key (port_keys ps) (L.flat ++ made ∷ []) (next + 1) (header_made state (of_flat flat_of))
      becomes =
          make_becomes flat_of (L.flat ++ made ∷ []) state L.headers num o (subst (λ (s : Stocked). IsPort state.port s) told_of p) home owner (subst (λ (s : Stocked). made_in s state.port < 32) told_of few)
          (subst (λ (s : Stocked). HasFewer (made_in s) state.peer) told_of peer) refl

      pub known_made : IsKnownBy state.port state.peer (Some state)
      known_made = (refl, refl, home_owned state home owner)

      pub make_turns : (qs : List Port) (vs : List Entry) (more room : ℕ) → headers_of vs ≡ headers_of es ++ made ∷ [] → Each IsKept vs → AreOf key vs → Recounts None (Some state) ps qs → more ≡ blocks + weight (is_block state) → room ≡ places
          → Turns key qs vs more (next + 1) room (header_made state (stocked old_of))
      make_turns qs vs more room h E K C b r =
          let T = made_tells ps qs (headers_of es) L.flat made gone_in o L.tells C in
          let P : List HeaderRecord → Type 0 = λ ts. Tells qs ts (L.flat ++ made ∷ []) in
          let gone : find_header state.number (headers_of es) ≡ None = L.tells.found state.number ∙ gone_in in
          let count : more ≡ count_headers is_block (L.flat ++ made ∷ []) = let x = count-append is_block L.flat made in let y = L.blocked in omega arith in
          turned key ps es blocks next places L qs vs (L.flat ++ made ∷ []) more (next + 1) room _ _ C.keys C.differ (subst P (sym h) T) (subst Once (sym h) (once-append (headers_of es) made L.once gone)) becomes count E K r
          (ap (header_made state) (sym told_of))

      pub make_outside : (qs : List Port) (vs : List Entry) (more room : ℕ) (header : BufferHeader) → Turns key qs vs more (next + 1) room (header_made state (stocked old_of)) → header.held.number ≡ next → header.key ≡ key → IsHeaderOf state header
          → IsOutside header (stocked (view key qs (headers_of vs) (next + 1)))
      make_outside qs vs more room header N n own f =
          let X = made_outside flat_of (L.flat ++ made ∷ []) state header L.headers num o n own f refl in
          let now : of_flat (kept key (port_keys ps) (L.flat ++ made ∷ []) (next + 1)) ≡ stocked (view key qs (headers_of vs) (next + 1)) = becomes.is ∙ (ap (header_made state) (sym told_of) ∙ sym N.is) in
          subst (λ (s : Stocked). IsOutside header s) now X

-- ---- a stock begins and ends

no_headers : Tells [] [] []
no_headers = record {
  port = λ k. record { named = refl; todo = refl; done = refl; todo_places = refl; done_places = refl; made = refl; outstanding = refl; foreign = refl };
  found = λ n. refl;
  counted = λ test. refl;
}

pub begun : (key blocks places : ℕ) → blocks ≡ 0 → IsLawful key [] [] blocks 0 places
begun key blocks places none = record {
  flat = [];
  tells = no_headers;
  headers = record { once = tt; numbered = tt; placed = tt; few = λ k. omega arith; owned = tt };
  differ = λ k. tt;
  once = tt;
  blocked = none;
  kept = tt;
  keys = tt;
  room = omega arith;
}

pub begun_is : (key : ℕ) → stocked (view key [] [] 0) ≡ no_stock (stocked (view key [] [] 0)).key
begun_is key = let e = told key [] [] [] 0 no_headers tt in e ∙ (begins key ∙ ap (λ (s : Stocked). no_stock s.key) (sym e))
