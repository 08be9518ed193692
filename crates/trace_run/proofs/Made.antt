-- Which headers were made for the client: those that were before, and the one that the act made.
use Rattle.std.proofs.Common.{◌≡◌, ◌≢◌, ◌⊎◌, inl, inr, ℕ, ◌<◌, List, [], ◌∷◌, ◌++◌, map, Option, Some, None, option_map, Ok, refl, sym, ◌∙◌, ap, subst}
use Rattle.std.proofs.lemmas.Bool.{cases_eq}
use Rattle.il_machine.specs.declared.answer.Acted.TheVariants.{Did}
use Rattle.il_machine.specs.declared.port.Link.{Link}
use Rattle.il_machine.specs.declared.port.Port.{Port}
use Rattle.il_machine.specs.declared.header.Home.TheVariants as homes
use Rattle.il_machine.specs.declared.header.Owner.{Owner}
use Rattle.il_machine.specs.declared.header.Owner.TheVariants as owners
use Rattle.il_machine.specs.World.{Component, HeaderRecord, Stream, World, component_numbered, stream_of}
use Rattle.il_machine.specs.Claims.{CarriedHeader, ClaimedWork}
use Rattle.il_machine.specs.Stepping.{WorkDone}
use Rattle.il_machine.specs.Headers.{Once, find_header, seen, empty_load}
use Rattle.il_machine.specs.Flow.{in_port}
use Rattle.il_machine.specs.Notes.{TakenEmpty, TakenFilled, TookNote}
use Rattle.il_machine.specs.Acts.{Act, Reply}
use Rattle.il_machine.specs.Acts as acts
use Rattle.il_machine.specs.Run.{Step, Meets}
use Rattle.il_machine.specs.Sound.{Sound}
use Rattle.il_machine.specs.Effect.{effect}
use Rattle.il_machine.specs.Trails.{Stop, Unmade, With, Move, moves, moved, front_move, release_moves, over, over_moves, back, back_moves, key_of, port_named, port_stop, client_stop, home_stop, claimed_move, finished_move, finished_moves}
use Rattle.machine_laws.proofs.Finding.{push_last, push_else, once_push, without_else, without_same, once_without}
use Rattle.machine_laws.proofs.Keys.{none_or_some}
use Rattle.machine_laws.proofs.Parts.{parts_of}
use Rattle.history_laws.proofs.Carried.{Carried, Still, Made, Gone, Moved, Several, none_made}
use Rattle.history_laws.proofs.Closing.{times_settle}
use Rattle.history_laws.proofs.Outcome.{turn, Outcome, Nothing, Done}
use Rattle.history_laws.proofs.Owners.{Settles, Stand, stand_of}
use Rattle.history_laws.proofs.Steps.{step_comes}

-- the number of the header that the act made for the client
abbrev pub made_by : Act → Reply → Option ℕ
made_by (acts.AllocateBuffer h port) (acts.Allocated (Ok header)) = Some header.number
made_by (acts.UseBuffer h port bytes) (acts.Used (Ok header)) = Some header.number
made_by a r = None

-- ---- the moves tell what was made

first_from : List Move → Stop
first_from [] = Unmade
first_from (m ∷ ms) = m.from

first_to : List Move → Stop
first_to [] = Unmade
first_to (m ∷ ms) = m.to

first_number : List Move → ℕ
first_number [] = 0
first_number (m ∷ ms) = m.header

no_front : (from to : Stop) (ns : List ℕ) (n : ℕ) → from ≢ Unmade → front_move from to ns ≡ moved n Unmade client_stop → ⊥
unfolding first_from
no_front from to [] n a e = cc
no_front from to (m ∷ ns) n a e = a (ap first_from e)

-- a header that was owned isn't made
no_owned : (n m : ℕ) (owner : Owner) (to : Stop) → moved n (With owner) to ≡ moved m Unmade client_stop → ⊥
unfolding first_from
no_owned n m owner to e = let k : With owner ≡ Unmade = ap first_from e in cc

no_other : (n m : ℕ) (to : Stop) → to ≢ client_stop → moved n Unmade to ≡ moved m Unmade client_stop → ⊥
unfolding first_to
no_other n m to a e = a (ap first_to e)

no_released : (w : World) (o : Option Port) (n : ℕ) → release_moves w o ≡ moved n Unmade client_stop → ⊥
no_released w None n e = cc
no_released w (Some p) n e = no_front (port_stop p.key) Unmade (in_port (seen w.headers) p) n (λ k. cc) e

no_over : (w : World) (p : Port) (o : Option Link) (n : ℕ) → over w p o ≡ moved n Unmade client_stop → ⊥
no_over w p None n e = cc
no_over w p (Some link) n e = no_front (port_stop p.key) (port_stop link.peer) ((seen w.headers).done p.key) n (λ k. cc) e

no_handed : (w : World) (o : Option Port) (n : ℕ) → over_moves w o ≡ moved n Unmade client_stop → ⊥
no_handed w None n e = cc
no_handed w (Some p) n e = no_over w p p.state.link n e

no_back : (w : World) (p : Port) (o : Option Link) (n : ℕ) → back w p o ≡ moved n Unmade client_stop → ⊥
no_back w p None n e = no_front (port_stop p.key) (With (owners.Notice p.key.component)) ((seen w.headers).todo p.key) n (λ k. cc) e
no_back w p (Some link) n e = no_front (port_stop p.key) (port_stop link.peer) ((seen w.headers).done p.key ++ (seen w.headers).todo p.key) n (λ k. cc) e

no_handed_back : (w : World) (o : Option Port) (n : ℕ) → back_moves w o ≡ moved n Unmade client_stop → ⊥
no_handed_back w None n e = cc
no_handed_back w (Some p) n e = no_back w p p.state.link n e

no_claimed : (k n : ℕ) (xs : List CarriedHeader) → map (claimed_move k) xs ≡ moved n Unmade client_stop → ⊥
unfolding first_from
no_claimed k n [] e = cc
no_claimed k n (x ∷ xs) e = let a : port_stop (record { component = k; port = x.port }) ≡ Unmade = ap first_from e in cc

no_landed : (c : Component) (s : Stream) (done : WorkDone) (n : ℕ) (xs : List CarriedHeader) → map (finished_move c s done) xs ≡ moved n Unmade client_stop → ⊥
unfolding first_from
no_landed c s done n [] e = cc
no_landed c s done n (x ∷ xs) e = let a : With (owners.Work c.handle.generation) ≡ Unmade = ap first_from e in cc

no_finished : (c : Option Component) (s : Option Stream) (done : WorkDone) (n : ℕ) → finished_moves c s done ≡ moved n Unmade client_stop → ⊥
no_finished None s done n e = cc
no_finished (Some c) None done n e = cc
no_finished (Some c) (Some s) done n e = no_landed c s done n done.headers e

number_moved : (n m : ℕ) → moved n Unmade client_stop ≡ moved m Unmade client_stop → n ≡ m
unfolding first_number
number_moved n m e = ap first_number e

told_by_moves : (w : World) (a : Act) (r : Reply) (n : ℕ) → moves w a r ≡ moved n Unmade client_stop → made_by a r ≡ Some n
told_by_moves w (acts.AllocateBuffer h port) (acts.Allocated (Ok header)) n e = ap (λ (k : ℕ). Some k) (number_moved header.number n e)
told_by_moves w (acts.UseBuffer h port bytes) (acts.Used (Ok header)) n e = ap (λ (k : ℕ). Some k) (number_moved header.number n e)
told_by_moves w (acts.FreeBuffer h port header) (acts.Freed (Ok memory)) n e = absurd (no_owned header n owners.Client Unmade e)
told_by_moves w (acts.EmptyThisBuffer h port header) (acts.Plain (Ok done)) n e = absurd (no_owned header.number n owners.Client (port_stop (key_of h port)) e)
told_by_moves w (acts.FillThisBuffer h port header) (acts.Plain (Ok done)) n e = absurd (no_owned header.number n owners.Client (port_stop (key_of h port)) e)
told_by_moves w (acts.TakeNote h) (acts.Took (Ok (TookNote (TakenEmpty header)))) n e = absurd (no_owned header.number n (owners.Notice h.generation) client_stop e)
told_by_moves w (acts.TakeNote h) (acts.Took (Ok (TookNote (TakenFilled header)))) n e = absurd (no_owned header.number n (owners.Notice h.generation) client_stop e)
told_by_moves w (acts.Supply h port) (acts.Supplied (Ok Did)) n e = absurd (no_other w.made n (port_stop (key_of h port)) (λ k. cc) e)
told_by_moves w (acts.Release h port) (acts.Acted (Ok Did)) n e = absurd (no_released w (port_named h port w) n e)
told_by_moves w (acts.HandOver h port) (acts.Acted (Ok Did)) n e = absurd (no_handed w (port_named h port w) n e)
told_by_moves w (acts.HandBack h port) (acts.Acted (Ok Did)) n e = absurd (no_handed_back w (port_named h port w) n e)
told_by_moves w (acts.Claim h) (acts.Claimed (Ok (ClaimedWork work))) n e = absurd (no_claimed work.component n work.headers e)
told_by_moves w (acts.Finish done) acts.Finished n e = absurd (no_finished (component_numbered done.component w) (stream_of done.component w) done n e)
told_by_moves w _ _ n e = absurd cc

-- ---- one step

-- the header of the number is made, and its home is the client
abbrev pub IsHome : ℕ → List HeaderRecord → Type 0
IsHome n hs = (r : HeaderRecord) × (find_header n hs ≡ Some r) × (r.state.home ≡ homes.Client)

home_as : (n : ℕ) (hs ks : List HeaderRecord) → find_header n ks ≡ find_header n hs → IsHome n ks → IsHome n hs
home_as n hs ks e (r, f, h) = (r, sym e ∙ f, h)

settled_home : (n : ℕ) (hs ks : List HeaderRecord) → Settles hs ks → IsHome n ks → IsHome n hs
settled_home n hs ks S (r, f, h) =
    let a : Some (stand_of r) ≡ option_map stand_of (find_header n hs) = sym (ap (option_map stand_of) f) ∙ S.stands n in
    elim (none_or_some (find_header n hs)) [
      | inl none ↦ let b : Some (stand_of r) ≡ None = a ∙ ap (option_map stand_of) none in absurd cc
      | inr (s, is) ↦
          let b : Some (stand_of r) ≡ Some (stand_of s) = a ∙ ap (option_map stand_of) is in
          let c : stand_of r ≡ stand_of s = cc in
          (s, is, sym (ap (λ (x : Stand). x.home) c) ∙ h)
    ]

carried_home : (n : ℕ) (w v : World) (ms : List Move) → Once w.headers → ((k : ℕ) (r : HeaderRecord) → find_header k w.headers ≡ Some r → k < w.made) → Carried w ms v → IsHome n v.headers
    → IsHome n w.headers ⊎ (ms ≡ moved n Unmade client_stop)
carried_home n w v ms o B (Still S) H = inl (home_as n w.headers v.headers (ap (find_header n) S.headers) H)
carried_home n w v ms o B (Made M) H =
    let r : HeaderRecord = record { state = M.state; load = empty_load M.memory } in
    elim (cases_eq (M.state).number n) [
      | inl is ↦
          let none : find_header (M.state).number w.headers ≡ None = rw M.number (none_made w B) in
          let last : find_header n v.headers ≡ Some r = ap (find_header n) M.headers ∙ (rw (← is) (push_last w.headers r none)) in
          let same : Some H.0 ≡ Some r = sym H.1 ∙ last in
          let here : H.0 ≡ r = cc in
          let home : (M.state).home ≡ homes.Client = sym (ap (λ (x : HeaderRecord). x.state.home) here) ∙ H.2 in
          let owner : With (M.state).owner ≡ client_stop = M.home ∙ ap home_stop home in
          inr (M.moves ∙ (rw (owner, sym M.number, is) refl))
      | inr a ↦ inl (home_as n w.headers v.headers (ap (find_header n) M.headers ∙ push_else n w.headers r a) H)
    ]
carried_home n w v ms o B (Gone M) H = elim (cases_eq n M.number) [
  | inl is ↦
      let f : find_header n v.headers ≡ None = ap (find_header n) M.headers ∙ (rw is (without_same M.number w.headers o)) in
      let b : Some H.0 ≡ None = sym H.1 ∙ f in
      absurd cc
  | inr a ↦ inl (home_as n w.headers v.headers (ap (find_header n) M.headers ∙ without_else M.number n w.headers a) H)
]
carried_home n w v ms o B (Moved M) H =
    let R = M.replaced in
    elim (cases_eq n M.number) [
      | inl is ↦
          let here : find_header n v.headers ≡ Some M.now = rw is R.here in
          let same : Some H.0 ≡ Some M.now = sym H.1 ∙ here in
          let it : H.0 ≡ M.now = cc in
          let was : find_header n w.headers ≡ Some M.was = rw is R.was in
          inl (M.was, was, sym M.home ∙ (sym (ap (λ (x : HeaderRecord). x.state.home) it) ∙ H.2))
      | inr a ↦ inl (home_as n w.headers v.headers (R.others n a) H)
    ]
carried_home n w v ms o B (Several M) H = elim ((M.headers).each n) [
  | inl x ↦ inl (home_as n w.headers v.headers x.0 H)
  | inr P ↦
      let same : Some H.0 ≡ Some P.now = sym H.1 ∙ P.here in
      let it : H.0 ≡ P.now = cc in
      inl (P.was, P.found, sym P.home ∙ (sym (ap (λ (x : HeaderRecord). x.state.home) it) ∙ H.2))
]

carried_once : (w v : World) (ms : List Move) → Once w.headers → ((k : ℕ) (r : HeaderRecord) → find_header k w.headers ≡ Some r → k < w.made) → Carried w ms v → Once v.headers
carried_once w v ms o B (Still S) = rw S.headers o
carried_once w v ms o B (Made M) =
    let none : find_header (M.state).number w.headers ≡ None = rw M.number (none_made w B) in
    rw M.headers (once_push w.headers (record { state = M.state; load = empty_load M.memory }) o none)
carried_once w v ms o B (Gone M) = rw M.headers (once_without M.number w.headers o)
carried_once w v ms o B (Moved M) = (M.replaced).once
carried_once w v ms o B (Several M) = (M.headers).once

outcome_home : (n : ℕ) (w : World) (a : Act) (r : Reply) (v : World) → Sound w → Outcome w (turn w a r) v → IsHome n v.headers → IsHome n w.headers ⊎ (made_by a r ≡ Some n)
outcome_home n w a r v S (Nothing e m) H = inl (subst (λ (x : World). IsHome n x.headers) e H)
outcome_home n w a r v S (Done C E) H =
    let t = turn w a r in
    let after = carried_once w (effect w a r) t.moves S.once (parts_of w S).below E.carried in
    let before = settled_home n (effect w a r).headers v.headers (times_settle C.steps (effect w a r) v C.by_steps after) H in
    elim (carried_home n w (effect w a r) t.moves S.once (parts_of w S).below E.carried before) [
      | inl h ↦ inl h
      | inr e ↦ inr (told_by_moves w a r n e)
    ]

-- A header whose home is the client was made before, or by the act.
pub made_step : (n : ℕ) (w : World) (a : Act) (r : Reply) (v : World) → Sound w → Meets w a → Step w a r v → IsHome n v.headers → IsHome n w.headers ⊎ (made_by a r ≡ Some n)
made_step n w a r v S M h H = outcome_home n w a r v S (step_comes w a r v S M h) H
