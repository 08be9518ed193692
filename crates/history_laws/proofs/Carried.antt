-- The trails of all headers, as the headers of a world change by one step.
use Rattle.std.proofs.Common.{◌≡◌, ◌≢◌, ◌⊎◌, inl, inr, ℕ, ◌+◌, ◌≤◌, ◌<◌, List, [], ◌∷◌, ◌++◌, Option, Some, None, option_map, refl, sym, ◌∙◌, ap, subst, arith}
use Rattle.std.proofs.lemmas.Bool.{cases_eq}
use Rattle.std.proofs.lemmas.List.{append-nil}
use Rattle.il_machine.specs.declared.header.HeaderState.{HeaderState}
use Rattle.il_machine.specs.declared.header.Owner.TheVariants as owners
use Rattle.il_machine.specs.declared.port.PortKey.{PortKey}
use Rattle.il_machine.specs.World.{HeaderRecord, World}
use Rattle.il_machine.specs.Headers.{is_for, find_header, without, empty_load, state_of, Once}
use Rattle.il_machine.specs.Look.{look}
use Rattle.il_machine.specs.Trails.{Unmade, With, Move, moved, trail, home_stop, HasTrail, HaveTrails}
use Rattle.machine_laws.proofs.Finding.{push_last, push_else, once_push, without_else, without_same, once_without}
use Rattle.machine_laws.proofs.Replacing.{IsReplaced}
use Rattle.machine_laws.proofs.Keys.{none_or_some}
use Rattle.history_laws.specs.Memory.{memory_of}
use Rattle.history_laws.proofs.Owners.{Settles}
use Rattle.history_laws.proofs.Trails.{trail_more, trail_own, trail_other, trail_begins, trail_on, trail_ends, has_same}

-- nothing moves
pub record IsStill (w : World) (ms : List Move) (v : World) : Type 0 where
  pub headers : v.headers ≡ w.headers
  pub made : v.made ≡ w.made
  pub moves : ms ≡ []

-- a header is made, to home
pub record IsMade (w : World) (ms : List Move) (v : World) : Type 0 where
  pub state : HeaderState
  pub memory : Option (List ℕ)
  pub number : state.number ≡ w.made
  pub headers : v.headers ≡ w.headers ++ record { state = state; load = empty_load memory } ∷ []
  pub made : v.made ≡ w.made + 1
  pub home : With state.owner ≡ home_stop state.home
  pub moves : ms ≡ moved w.made Unmade (With state.owner)

-- a header that is at home is unmade
pub record IsUnmade (w : World) (ms : List Move) (v : World) : Type 0 where
  pub number : ℕ
  pub was : HeaderRecord
  pub found : find_header number w.headers ≡ Some was
  pub headers : v.headers ≡ without number w.headers
  pub made : v.made ≡ w.made
  pub home : With (was.state).owner ≡ home_stop (was.state).home
  pub moves : ms ≡ moved number (With (was.state).owner) Unmade

-- a header goes from one owner to another
pub record IsMoved (w : World) (ms : List Move) (v : World) : Type 0 where
  pub number : ℕ
  pub was : HeaderRecord
  pub now : HeaderRecord
  pub replaced : IsReplaced number was now w.headers v.headers
  pub made : v.made ≡ w.made
  pub home : (now.state).home ≡ (was.state).home
  pub made_for : (key : PortKey) → is_for key now.state ≡ is_for key was.state
  -- it comes from the client, or its memory stays
  pub memory : ((was.state).owner ≡ owners.Client) ⊎ (memory_of now ≡ memory_of was)
  pub moves : ms ≡ moved number (With (was.state).owner) (With (now.state).owner)

-- the header of the number goes from one owner to another, neither of them the client
pub record IsPassedOn (number : ℕ) (hs : List HeaderRecord) (ms : List Move) (ks : List HeaderRecord) : Type 0 where
  pub was : HeaderRecord
  pub now : HeaderRecord
  pub found : find_header number hs ≡ Some was
  pub here : find_header number ks ≡ Some now
  pub home : (now.state).home ≡ (was.state).home
  pub made_for : (key : PortKey) → is_for key now.state ≡ is_for key was.state
  pub from_other : (was.state).owner ≢ owners.Client
  pub to_other : (now.state).owner ≢ owners.Client
  -- it comes from a work, or its memory stays
  pub memory : ((k : ℕ) × ((was.state).owner ≡ owners.Work k)) ⊎ (memory_of now ≡ memory_of was)
  pub moves : trail number ms ≡ moved number (With (was.state).owner) (With (now.state).owner)

-- the header of the number stays as it is
abbrev pub IsLeft : ℕ → List HeaderRecord → List Move → List HeaderRecord → Type 0
IsLeft number hs ms ks = (find_header number ks ≡ find_header number hs) × (trail number ms ≡ [])

-- several headers go from one owner to another, each once
pub record ArePassedOn (hs : List HeaderRecord) (ms : List Move) (ks : List HeaderRecord) : Type 0 where
  pub once : Once ks
  pub each : (number : ℕ) → IsLeft number hs ms ks ⊎ IsPassedOn number hs ms ks

pub record AreMoved (w : World) (ms : List Move) (v : World) : Type 0 where
  pub headers : ArePassedOn w.headers ms v.headers
  pub made : v.made ≡ w.made

pub data Carried (w : World) (ms : List Move) (v : World) : Type 0 where
  Still : IsStill w ms v → Carried w ms v
  Made : IsMade w ms v → Carried w ms v
  Gone : IsUnmade w ms v → Carried w ms v
  Moved : IsMoved w ms v → Carried w ms v
  Several : AreMoved w ms v → Carried w ms v

-- each header has a number that was given
abbrev pub AreBelow : World → Type 0
AreBelow w = (n : ℕ) (r : HeaderRecord) → find_header n w.headers ≡ Some r → n < w.made

pub none_made : (w : World) → AreBelow w → find_header w.made w.headers ≡ None
none_made w B = elim (none_or_some (find_header w.made w.headers)) [
  | inl none ↦ none
  | inr some ↦ let l : w.made < w.made = B w.made some.0 some.1 in absurd (omega arith)
]

-- the trail of a number that doesn't move
unmoved : (n : ℕ) (ms : List Move) (m : Move) → m.header ≢ n → trail n (ms ++ m ∷ []) ≡ trail n ms
unmoved n ms m a = trail_more n ms (m ∷ []) ∙ (rw (trail_other n m a) (append-nil (trail n ms)))

moved_by : (ms : List Move) (m : Move) → trail m.header (ms ++ m ∷ []) ≡ trail m.header ms ++ m ∷ []
moved_by ms m = trail_more m.header ms (m ∷ []) ∙ ap (λ (l : List Move). trail m.header ms ++ l) (trail_own m)

-- the trail of what is found at the number
has_trail : (n : ℕ) (v : World) (x : Option HeaderRecord) (ms ns : List Move) → find_header n v.headers ≡ x → ms ≡ ns → HasTrail (option_map state_of x) ns → HasTrail ((look v).headers.header n) ms
has_trail n v x ms ns f e T = rw (f, e) T

had_trail : (n : ℕ) (w : World) (x : Option HeaderRecord) (ms : List Move) → HaveTrails w ms → find_header n w.headers ≡ x → HasTrail (option_map state_of x) (trail n ms)
had_trail n w x ms T f = subst (λ (o : Option HeaderRecord). HasTrail (option_map state_of o) (trail n ms)) f (T.each n)

-- a number that isn't moved, and at which the same is found
left : (n : ℕ) (w v : World) (ms : List Move) (m : Move) → HaveTrails w ms → m.header ≢ n → find_header n v.headers ≡ find_header n w.headers → HasTrail ((look v).headers.header n) (trail n (ms ++ m ∷ []))
left n w v ms m T a f = has_trail n v (find_header n w.headers) (trail n (ms ++ m ∷ [])) (trail n ms) f (unmoved n ms m a) (T.each n)

made_trails : (w v : World) (old ms : List Move) → Once w.headers → AreBelow w → HaveTrails w old → IsMade w ms v → HaveTrails v (old ++ ms) × Once v.headers
made_trails w v old ms o B T M =
    let r : HeaderRecord = record { state = M.state; load = empty_load M.memory } in
    let m : Move = record { header = w.made; from = Unmade; to = With (M.state).owner } in
    let fresh : find_header r.state.number w.headers ≡ None = rw M.number (none_made w B) in
    let e = M.moves in
    let each : (n : ℕ) → HasTrail ((look v).headers.header n) (trail n (old ++ ms)) = λ n. rw e (elim (cases_eq w.made n) [
      | inl is ↦
          let f : find_header n v.headers ≡ Some r = rw (M.headers, ← is) (subst (λ (k : ℕ). find_header k (w.headers ++ r ∷ []) ≡ Some r) M.number (push_last w.headers r fresh)) in
          let y : trail n old ≡ [] = T.none_yet n (omega (arith, is)) in
          let t : trail n (old ++ m ∷ []) ≡ m ∷ [] = subst (λ (k : ℕ). trail k (old ++ m ∷ []) ≡ trail k old ++ m ∷ []) is (moved_by old m) ∙ rw y refl in
          has_trail n v (Some r) (trail n (old ++ m ∷ [])) (m ∷ []) f t (trail_begins w.made M.state M.home)
      | inr a ↦
          let f : find_header n v.headers ≡ find_header n w.headers = rw M.headers (push_else n w.headers r (λ k. a (sym M.number ∙ k))) in
          left n w v old m T a f
    ]) in
    let none_yet : (n : ℕ) → v.made ≤ n → trail n (old ++ ms) ≡ [] = λ n l. rw e (
    let k = M.made in
    let a : w.made ≢ n = λ q. omega arith in
    unmoved n old m a ∙ T.none_yet n (omega arith)) in
    (record { each = each; none_yet = none_yet }, rw M.headers (once_push w.headers r o fresh))

gone_trails : (w v : World) (old ms : List Move) → Once w.headers → AreBelow w → HaveTrails w old → IsUnmade w ms v → HaveTrails v (old ++ ms) × Once v.headers
gone_trails w v old ms o B T M =
    let m : Move = record { header = M.number; from = With ((M.was).state).owner; to = Unmade } in
    let e = M.moves in
    let below : M.number < w.made = B M.number M.was M.found in
    let each : (n : ℕ) → HasTrail ((look v).headers.header n) (trail n (old ++ ms)) = λ n. rw e (elim (cases_eq M.number n) [
      | inl is ↦
          let f : find_header n v.headers ≡ None = rw (M.headers, ← is) (without_same M.number w.headers o) in
          let was : HasTrail (Some (M.was).state) (trail M.number old) = had_trail M.number w (Some M.was) old T M.found in
          let t : trail n (old ++ m ∷ []) ≡ trail M.number old ++ m ∷ [] = subst (λ (k : ℕ). trail k (old ++ m ∷ []) ≡ trail M.number old ++ m ∷ []) is (moved_by old m) in
          has_trail n v None (trail n (old ++ m ∷ [])) (trail M.number old ++ m ∷ []) f t (trail_ends M.number (M.was).state (trail M.number old) was M.home)
      | inr a ↦
          let f : find_header n v.headers ≡ find_header n w.headers = rw M.headers (without_else M.number n w.headers (λ k. a (sym k))) in
          left n w v old m T a f
    ]) in
    let none_yet : (n : ℕ) → v.made ≤ n → trail n (old ++ ms) ≡ [] = λ n l. rw e (
    let k = M.made in
    let a : M.number ≢ n = λ q. omega arith in
    unmoved n old m a ∙ T.none_yet n (omega arith)) in
    (record { each = each; none_yet = none_yet }, rw M.headers (once_without M.number w.headers o))

moved_trails : (w v : World) (old ms : List Move) → Once w.headers → AreBelow w → HaveTrails w old → IsMoved w ms v → HaveTrails v (old ++ ms) × Once v.headers
moved_trails w v old ms o B T M =
    let R = M.replaced in
    let m : Move = record { header = M.number; from = With ((M.was).state).owner; to = With ((M.now).state).owner } in
    let e = M.moves in
    let below : M.number < w.made = B M.number M.was R.was in
    let each : (n : ℕ) → HasTrail ((look v).headers.header n) (trail n (old ++ ms)) = λ n. rw e (elim (cases_eq M.number n) [
      | inl is ↦
          let f : find_header n v.headers ≡ Some M.now = rw (← is) R.here in
          let was : HasTrail (Some (M.was).state) (trail M.number old) = had_trail M.number w (Some M.was) old T R.was in
          let t : trail n (old ++ m ∷ []) ≡ trail M.number old ++ m ∷ [] = subst (λ (k : ℕ). trail k (old ++ m ∷ []) ≡ trail M.number old ++ m ∷ []) is (moved_by old m) in
          has_trail n v (Some M.now) (trail n (old ++ m ∷ [])) (trail M.number old ++ m ∷ []) f t
          (trail_on M.number (M.was).state (M.now).state (trail M.number old) was M.home)
      | inr a ↦
          let f : find_header n v.headers ≡ find_header n w.headers = R.others n (λ k. a (sym k)) in
          left n w v old m T a f
    ]) in
    let none_yet : (n : ℕ) → v.made ≤ n → trail n (old ++ ms) ≡ [] = λ n l. rw e (
    let k = M.made in
    let a : M.number ≢ n = λ q. omega arith in
    unmoved n old m a ∙ T.none_yet n (omega arith)) in
    (record { each = each; none_yet = none_yet }, R.once)

several_trails : (w v : World) (old ms : List Move) → AreBelow w → HaveTrails w old → AreMoved w ms v → HaveTrails v (old ++ ms) × Once v.headers
several_trails w v old ms B T M =
    let each : (n : ℕ) → HasTrail ((look v).headers.header n) (trail n (old ++ ms)) = λ n. elim ((M.headers).each n) [
      | inl L ↦ has_trail n v (find_header n w.headers) (trail n (old ++ ms)) (trail n old) L.0 (trail_more n old ms ∙ (rw L.1 (append-nil (trail n old)))) (T.each n)
      | inr P ↦
          let m : Move = record { header = n; from = With ((P.was).state).owner; to = With ((P.now).state).owner } in
          let was : HasTrail (Some (P.was).state) (trail n old) = had_trail n w (Some P.was) old T P.found in
          has_trail n v (Some P.now) (trail n (old ++ ms)) (trail n old ++ m ∷ []) P.here (trail_more n old ms ∙ ap (λ (l : List Move). trail n old ++ l) P.moves)
          (trail_on n (P.was).state (P.now).state (trail n old) was P.home)
    ] in
    let none_yet : (n : ℕ) → v.made ≤ n → trail n (old ++ ms) ≡ [] = λ n l. elim ((M.headers).each n) [
      | inl L ↦ let k = M.made in trail_more n old ms ∙ (rw L.1 (append-nil (trail n old) ∙ T.none_yet n (omega arith)))
      | inr P ↦ let k = M.made in let b = B n P.was P.found in absurd (omega arith)
    ] in
    (record { each = each; none_yet = none_yet }, (M.headers).once)

still_trails : (w v : World) (old ms : List Move) → Once w.headers → HaveTrails w old → IsStill w ms v → HaveTrails v (old ++ ms) × Once v.headers
still_trails w v old ms o T S =
    let e : old ++ ms ≡ old = ap (λ (l : List Move). old ++ l) S.moves ∙ append-nil old in
    let f : (n : ℕ) → find_header n v.headers ≡ find_header n w.headers = λ n. ap (find_header n) S.headers in
    let k = S.made in (
      record {
        each = λ n. has_trail n v (find_header n w.headers) (trail n (old ++ ms)) (trail n old) (f n) (ap (trail n) e) (T.each n);
        none_yet = λ n l. ap (trail n) e ∙ T.none_yet n (omega arith);
      },
      rw S.headers o,
    )

-- The trails go on by the moves.
pub carried_trails : (w v : World) (old ms : List Move) → Once w.headers → AreBelow w → HaveTrails w old → Carried w ms v → HaveTrails v (old ++ ms) × Once v.headers
carried_trails w v old ms o B T (Still S) = still_trails w v old ms o T S
carried_trails w v old ms o B T (Made M) = made_trails w v old ms o B T M
carried_trails w v old ms o B T (Gone M) = gone_trails w v old ms o B T M
carried_trails w v old ms o B T (Moved M) = moved_trails w v old ms o B T M
carried_trails w v old ms o B T (Several M) = several_trails w v old ms B T M

-- While things happen no header moves.
pub settled_trails : (w v : World) (ms : List Move) → Settles w.headers v.headers → v.made ≡ w.made → HaveTrails w ms → HaveTrails v ms
settled_trails w v ms S k T = record {
  each = λ n. has_same (find_header n w.headers) (find_header n v.headers) (trail n ms) (S.stands n) (T.each n);
  none_yet = λ n l. T.none_yet n (omega arith);
}
