-- A header that was made for a port is that port's until it is unmade, and its number doesn't come back. So where the port's disable
-- is completed it is unmade, and has come back as often as it was handed over.
use Rattle.std.proofs.Common.{◌≡◌, ◌≢◌, ◌⊎◌, inl, inr, ℕ, ◌<◌, Bool, true, false, List, [], ◌∷◌, ◌++◌, Option, Some, None, MatchOption, option_map, refl, sym, ◌∙◌, ap, subst, append_assoc, arith}
use Rattle.std.proofs.lemmas.Bool.{cases_eq}
use Rattle.std.proofs.lemmas.List.{append-nil}
use Rattle.std.specs.Prelude.{◌||◌}
use Rattle.omx_types.specs.declared.command.Completion.TheVariants as completions
use Rattle.il_machine.specs.declared.port.PortKey.{PortKey}
use Rattle.il_machine.specs.declared.header.HeaderState.{HeaderState}
use Rattle.il_machine.specs.declared.header.Home.{Home}
use Rattle.il_machine.specs.declared.header.Home.TheVariants as homes
use Rattle.il_machine.specs.declared.header.Owner.TheVariants as owners
use Rattle.il_machine.specs.World.{HeaderRecord, World, port_of}
use Rattle.il_machine.specs.Headers.{find_header, is_for, same_key, is_key, empty_load, Once}
use Rattle.il_machine.specs.Look.{look}
use Rattle.il_machine.specs.Acts.{Act, Reply}
use Rattle.il_machine.specs.Run.{Step, Meets}
use Rattle.il_machine.specs.Effect.{effect}
use Rattle.il_machine.specs.Queued.{WasDue}
use Rattle.il_machine.specs.Trails.{Unmade, With, Move, moves, RunMoves, trail, home_stop, IsLegalFor, returns, hand_overs, IsTrailOf, IsTrailOfNone, HasTrail, HaveTrails}
use Rattle.il_machine.specs.Sound.{Sound}
use Rattle.machine_laws.proofs.Finding.{push_else, without_else, without_same}
use Rattle.machine_laws.proofs.Keys.{there_is}
use Rattle.machine_laws.proofs.Lookups.{port_parts}
use Rattle.machine_laws.proofs.Parts.{parts_of}
use Rattle.machine_laws.proofs.Steps.{sound_step}
use Rattle.history_laws.specs.Settled.{AreAllBack, IsUnmadeAndBack}
use Rattle.history_laws.proofs.Homes.{found_state}
use Rattle.history_laws.proofs.Owners.{Settles, Stand, stand_of}
use Rattle.history_laws.proofs.Closing.{times_settle, times_made}
use Rattle.history_laws.proofs.Carried.{Carried, Still, Made, Gone, Moved, Several}
use Rattle.history_laws.proofs.Trails.{trail_more}
use Rattle.history_laws.proofs.Outcome.{Turn, turn, Outcome, Nothing, Done}
use Rattle.history_laws.proofs.Steps.{step_comes}
use Rattle.history_laws.proofs.TrailLaw.{trails_after, trails_of_steps}
use Rattle.history_laws.proofs.DisabledLaw.{disabled_unmade}

-- ---- a header of the port

-- the number was given; its header is unmade, or made for the port
record Lasts (key : PortKey) (number : ℕ) (w : World) : Type 0 where
  given : number < w.made
  found : (find_header number w.headers ≡ None) ⊎ ((r : HeaderRecord) × (find_header number w.headers ≡ Some r) × (is_for key r.state ≡ true))

as_found : (key : PortKey) (number : ℕ) (w v : World) → find_header number v.headers ≡ find_header number w.headers → number < v.made → Lasts key number w → Lasts key number v
as_found key number w v f g L = record {
  given = g;
  found = elim L.found [ inl none ↦ inl (f ∙ none) | inr (r, e, k) ↦ inr (r, f ∙ e, k) ];
}

carried_lasts : (key : PortKey) (number : ℕ) (w v : World) (ms : List Move) → Once w.headers → Carried w ms v → Lasts key number w → Lasts key number v
carried_lasts key number w v ms o (Still S) L = as_found key number w v (ap (find_header number) S.headers) (rw S.made L.given) L
carried_lasts key number w v ms o (Made M) L =
    let g = L.given in
    let m = M.made in
    let k = M.number in
    let r : HeaderRecord = record { state = M.state; load = empty_load M.memory } in
    let a : (M.state).number ≢ number = λ e. omega arith in
    as_found key number w v (ap (find_header number) M.headers ∙ push_else number w.headers r a) (omega arith) L
carried_lasts key number w v ms o (Gone M) L = elim (cases_eq number M.number) [
  | inl is ↦
      let f : find_header number v.headers ≡ None = ap (find_header number) M.headers ∙ (rw is (without_same M.number w.headers o)) in
      record { given = rw M.made L.given; found = inl f }
  | inr a ↦ as_found key number w v (ap (find_header number) M.headers ∙ without_else M.number number w.headers a) (rw M.made L.given) L
]
carried_lasts key number w v ms o (Moved M) L =
    let R = M.replaced in
    elim (cases_eq number M.number) [
      | inl is ↦ record {
        given = rw M.made L.given;
        found = elim L.found [
          | inl none ↦ let a : find_header number w.headers ≡ Some M.was = rw is R.was in absurd cc
          | inr (r, e, k) ↦
              let a : find_header number w.headers ≡ Some M.was = rw is R.was in
              let b : Some r ≡ Some M.was = sym e ∙ a in
              let c : r ≡ M.was = cc in
              inr (M.now, rw is R.here, M.made_for key ∙ (subst (λ (x : HeaderRecord). is_for key x.state ≡ true) c k))
        ];
      }
      | inr a ↦ as_found key number w v (R.others number a) (rw M.made L.given) L
    ]
carried_lasts key number w v ms o (Several M) L = elim ((M.headers).each number) [
  | inl x ↦ as_found key number w v x.0 (rw M.made L.given) L
  | inr P ↦ record {
    given = rw M.made L.given;
    found = elim L.found [
      | inl none ↦ let a : find_header number w.headers ≡ Some P.was = P.found in absurd cc
      | inr (r, e, k) ↦
          let b : Some r ≡ Some P.was = sym e ∙ P.found in
          let c : r ≡ P.was = cc in
          inr (P.now, P.here, P.made_for key ∙ (subst (λ (x : HeaderRecord). is_for key x.state ≡ true) c k))
    ];
  }
]

same_for : (key : PortKey) (r s : HeaderRecord) → stand_of s ≡ stand_of r → is_for key s.state ≡ is_for key r.state
same_for key r s e = ap (λ (x : Stand). is_for_both key x.port x.peer) e
  where
    is_for_both : PortKey → PortKey → Option PortKey → Bool
    is_for_both key port peer = same_key port key || is_key key peer

settled_lasts : (key : PortKey) (number : ℕ) (w v : World) → Settles w.headers v.headers → v.made ≡ w.made → Lasts key number w → Lasts key number v
settled_lasts key number w v S m L = record {
  given = rw m L.given;
  found = both (find_header number w.headers) (find_header number v.headers) (S.stands number) L.found;
}
  where
    Found : Option HeaderRecord → Type 0
    Found o = (o ≡ None) ⊎ ((r : HeaderRecord) × (o ≡ Some r) × (is_for key r.state ≡ true))

    both : (a b : Option HeaderRecord) → option_map stand_of b ≡ option_map stand_of a → Found a → Found b
    both a None e f = inl refl
    both None (Some s) e f = absurd cc
    both (Some r) (Some s) e (inl none) = absurd cc
    both (Some r) (Some s) e (inr (x, is, k)) =
        let t : stand_of s ≡ stand_of r = cc in
        let q : r ≡ x = cc in
        inr (s, refl, same_for key r s t ∙ subst (λ (y : HeaderRecord). is_for key y.state ≡ true) (sym q) k)

-- ---- steps

outcome_lasts : (key : PortKey) (number : ℕ) (w v : World) (t : Turn) → Once w.headers → Outcome w t v → Lasts key number w → Lasts key number t.after
outcome_lasts key number w v t o (Nothing e m) L = subst (Lasts key number) (sym (ap (λ (x : Turn). x.after) m)) L
outcome_lasts key number w v t o (Done C E) L = carried_lasts key number w t.after t.moves o E.carried L

effect_lasts : (key : PortKey) (number : ℕ) (w : World) (a : Act) (r : Reply) (v : World) → Sound w → Meets w a → Step w a r v → Lasts key number w → Lasts key number (effect w a r)
effect_lasts key number w a r v S M h L = outcome_lasts key number w v (turn w a r) S.once (step_comes w a r v S M h) L

closes_lasts : (key : PortKey) (number : ℕ) (w v : World) (t : Turn) → Once (t.after).headers → Outcome w t v → Lasts key number w → Lasts key number t.after → Lasts key number v
closes_lasts key number w v t o (Nothing e m) L A = subst (Lasts key number) (sym e) L
closes_lasts key number w v t o (Done C E) L A =
    settled_lasts key number t.after v (times_settle C.steps t.after v C.by_steps o) (times_made C.steps t.after v C.by_steps) A

-- the trails and the header of a run's end
record Ends (key : PortKey) (number : ℕ) (w : World) (ms : List Move) : Type 0 where
  sound : Sound w
  trails : HaveTrails w ms
  lasts : Lasts key number w

run_ends : (key : PortKey) (number : ℕ) (w v : World) (xs : List (Act × Reply)) (old ms : List Move) → Ends key number w old → RunMoves w xs ms v → Ends key number v (old ++ ms)
run_ends key number w v [] old ms E (e, m) =
    let k : old ++ ms ≡ old = ap (λ (l : List Move). old ++ l) m ∙ append-nil old in
    subst (λ (x : World). Ends key number x (old ++ ms)) (sym e) (subst (λ (l : List Move). Ends key number w l) (sym k) E)
run_ends key number w v (x ∷ xs) old ms E (mid, rest, M, h, more, e) =
    let a = trails_after w old x.0 x.1 mid E.sound E.trails M h in
    let l = effect_lasts key number w x.0 x.1 mid E.sound M h E.lasts in
    let next : Ends key number mid (old ++ moves w x.0 x.1) = record {
      sound = sound_step w mid x.0 x.1 M h E.sound;
      trails = trails_of_steps w old x.0 x.1 mid E.sound E.trails M h;
      lasts = closes_lasts key number w mid (turn w x.0 x.1) a.1 (step_comes w x.0 x.1 mid E.sound M h) E.lasts l;
    } in
    let k : old ++ ms ≡ (old ++ moves w x.0 x.1) ++ rest = ap (λ (l : List Move). old ++ l) e ∙ sym (append_assoc old (moves w x.0 x.1) rest) in
    subst (λ (l : List Move). Ends key number v l) (sym k) (run_ends key number mid v xs (old ++ moves w x.0 x.1) rest next more)

-- ---- one home

one_home : (g h : Home) → home_stop g ≡ home_stop h → g ≡ h
one_home homes.Client homes.Client e = refl
one_home homes.Client (homes.Port k) e = absurd cc
one_home (homes.Port k) homes.Client e = absurd cc
one_home (homes.Port j) (homes.Port k) e = let s : With (owners.Port j) ≡ With (owners.Port k) = e in let is : j ≡ k = cc in ap (λ (x : PortKey). homes.Port x) is

-- a longer trail that is legal is so for the same home
same_home : (s : HeaderState) (h : Home) (ms ns : List Move) → IsTrailOf s ms → IsLegalFor h (ms ++ ns) → h ≡ s.home
same_home s h [] ns T L = let e : Unmade ≡ With s.owner = T.ends in absurd cc
same_home s h (m ∷ ms) ns T L = one_home h s.home (sym L.1 ∙ (T.legal).1)

none_back : (s : HeaderState) (ms ns : List Move) → IsTrailOf s ms → IsTrailOfNone (ms ++ ns) → returns s.home (ms ++ ns) ≡ hand_overs s.home (ms ++ ns)
none_back s ms ns T N = subst (λ (h : Home). returns h (ms ++ ns) ≡ hand_overs h (ms ++ ns)) (same_home s N.home ms ns T N.legal) N.returned

-- ---- the disable

begins : (key : PortKey) (number : ℕ) (u : World) (s : HeaderState) → Sound u → (look u).headers.header number ≡ Some s → is_for key s ≡ true → Lasts key number u
begins key number u s S e k =
    let r = found_state number u s e in
    let is : (r.0).state ≡ s = r.2 in
    record { given = (parts_of u S).below number r.0 r.1; found = inr (r.0, r.1, rw is k) }

unmade_by_then : (key : PortKey) (number : ℕ) (w : World) (ms : List Move) → Lasts key number w → AreAllBack w ms key → ((look w).headers.header number ≡ None) × IsTrailOfNone (trail number ms)
unmade_by_then key number w ms L B = elim L.found [
  | inl none ↦
      let n : (look w).headers.header number ≡ None = rw none refl in
      (n, at_none ((look w).headers.header number) n (B number))
  | inr (r, e, k) ↦
      let n : (look w).headers.header number ≡ Some r.state = rw e refl in
      let f = at_some ((look w).headers.header number) r.state n (B number) in
      absurd cc
]
  where
    at_none : (o : Option HeaderState) → o ≡ None → MatchOption o (IsTrailOfNone (trail number ms)) (λ s. is_for key s ≡ false) → IsTrailOfNone (trail number ms)
    at_none o e h = rw e at h

    at_some : (o : Option HeaderState) (s : HeaderState) → o ≡ Some s → MatchOption o (IsTrailOfNone (trail number ms)) (λ s. is_for key s ≡ false) → is_for key s ≡ false
    at_some o s e h = rw e at h

pub disabled_back : (u : World) (old : List Move) (xs : List (Act × Reply)) (ms : List Move) (w : World) (a : Act) (r : Reply) (v : World) (key : PortKey) (D : WasDue (effect w a r) v key.component (completions.Disable key.port)) (number : ℕ) (s : HeaderState)
    → Sound u → HaveTrails u old → RunMoves u xs ms w → Meets w a → Step w a r v → (look u).headers.header number ≡ Some s → is_for key s ≡ true
    → IsUnmadeAndBack D.before (old ++ ms ++ moves w a r) number s.home
disabled_back u old xs ms w a r v key D number s S T R M h e k =
    let E = run_ends key number u w xs old ms (record { sound = S; trails = T; lasts = begins key number u s S e k }) R in
    let at = trails_after w (old ++ ms) a r v E.sound E.trails M h in
    let l = effect_lasts key number w a r v E.sound M h E.lasts in
    let before = settled_lasts key number (effect w a r) D.before (times_settle D.earlier (effect w a r) D.before D.reached at.1) (times_made D.earlier (effect w a r) D.before D.reached) l in
    let all = (old ++ ms) ++ moves w a r in
    let c = (D.happens).component in
    let p = there_is (port_of c key.port) _ (disabled_unmade w (old ++ ms) a r v key.component key.port D E.sound E.trails M h) in
    let own = D.whose in
    let is : (p.0).key ≡ key = (port_parts c key.port p.0 p.1).key ∙ (λ i. record { component = own i; port = key.port }) in
    let B : AreAllBack D.before all key = subst (λ (x : PortKey). AreAllBack D.before all x) is (p.2).1 in
    let n = unmade_by_then key number D.before all before B in
    let was : IsTrailOf s (trail number old) = subst (λ (o : Option HeaderState). HasTrail o (trail number old)) e (T.each number) in
    let parts : trail number all ≡ trail number old ++ trail number (ms ++ moves w a r) = ap (trail number) (append_assoc old ms (moves w a r)) ∙ trail_more number old (ms ++ moves w a r) in
    let N : IsTrailOfNone (trail number old ++ trail number (ms ++ moves w a r)) = subst IsTrailOfNone parts n.1 in
    let q = none_back s (trail number old) (trail number (ms ++ moves w a r)) was N in
    record { unmade = n.0; returned = subst (λ (l : List Move). returns s.home l ≡ hand_overs s.home l) (sym parts) q }
