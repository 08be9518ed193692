-- A history is a run in which nothing is freed: what its steps gave is what the clients have heard, and a handle names its place for ever.
use Rattle.std.proofs.Common.{◌≡◌, inl, inr, ℕ, Bool, true, false, ◌||◌, if◌then◌else◌, List, [], ◌∷◌, ◌++◌, map, filter, slice_get, All, Option, Some, None, option_and_then, refl, sym, ◌∙◌, ap, subst}
use Rattle.std.proofs.lemmas.List.Elements.{All-nil, All-cons}
use Rattle.omx_types.specs.declared.command.Completion.TheVariants as completions
use Rattle.omx_types.specs.declared.command.Event.TheVariants as events
use Rattle.omx_types.specs.declared.command.Note.{Note}
use Rattle.omx_types.specs.declared.command.Note.TheVariants.{EmptyDone, FillDone, Told}
use Rattle.omx_types.specs.declared.handle.Handle.{Handle}
use Rattle.il_machine.specs.declared.answer.Progress.{Progress}
use Rattle.il_machine.specs.Acts.{Act, Reply}
use Rattle.il_machine.specs.Acts as acts
use Rattle.il_machine.specs.Answers.{component_named}
use Rattle.il_machine.specs.Components.{has_eos, is_given_to, no_progress, noted_by}
use Rattle.il_machine.specs.Queued.{notes_given}
use Rattle.il_machine.specs.Run.{Meets, Run, Step}
use Rattle.il_machine.specs.World.{Component, Given, Stream, World, is_at, number_of, place_of}
use Rattle.il_machine.proofs.Places.{is_first_place, passes_at}
use Rattle.machine_laws.proofs.Finding.{either}
use Rattle.history_laws.specs.Given.{is_freed_by}
use Rattle.history_laws.proofs.Outcome.{same_number}
use Rattle.history_laws.specs.GivenIn.{given_in}
use Rattle.history_laws.proofs.Delivering.{run_given}
use Rattle.history_laws.proofs.Seats.{handle_lives}
use Rattle.play_model.specs.Play.{Play}
use Rattle.play_world_laws.specs.Telling.{heard, progress_by}
use Rattle.play_world_laws.specs.PlayWorlds.{PlayCast}
use Rattle.read_world_laws.specs.Beside.{IsBeside}
use Rattle.read_world_laws.specs.Inside.{inside, taken_in}
use Rattle.read_world_laws.specs.Mended.{given_without, is_fault, mend, mended, without_faults}
use Rattle.play_history_laws.specs.Histories.{IsUnasked}
use Rattle.play_history_laws.specs.Order.{Cursor}
use Rattle.play_history_laws.proofs.Taken.{asked_beside}
use Rattle.play_history_laws.specs.Faults.{IsAnyAllowed, IsFailedStep, IsFaultHistory, IsFaulty}
use Rattle.play_history_laws.specs.Telling.{IsAlike}
use Rattle.play_history_laws.proofs.Faulty.{all_faulty, one_faulty}
use Rattle.play_history_laws.proofs.StreamsKept.{in_place}

-- ---- nothing is freed

abbrev IsFree : Act → Type 0
IsFree (acts.FreeHandle h) = Unit {0}
IsFree _ = ⊥

frees_not : (number : ℕ) (a : Act) (r : Reply) → (IsFree a → ⊥) → is_freed_by number a r ≡ false
frees_not number (acts.FreeHandle h) r N = absurd (N tt)
frees_not number _ r N = refl

unasked_not : (a : Act) → IsUnasked a → IsFree a → ⊥
unasked_not (acts.FreeHandle h) U F = U
unasked_not _ U F = F

failed_not : (a : Act) → IsFailedStep a → IsFree a → ⊥
failed_not (acts.FreeHandle h) U F = U
failed_not _ U F = F

beside_not : (a : Act) → IsBeside a → IsFree a → ⊥
beside_not (acts.FreeHandle h) U F = U
beside_not _ U F = F

pub allowed_frees : (number : ℕ) (x : PlayCast) (k : Cursor) (w : World) (a : Act) (r : Reply) (j : Cursor) → IsAnyAllowed x k w a j → is_freed_by number a r ≡ false
allowed_frees number x k w a r j A = elim A [
  | inl O ↦ elim O.0 [
    | inl U ↦ frees_not number a r (unasked_not a U)
    | inr F ↦ frees_not number a r (failed_not a F)
  ]
  | inr B ↦ frees_not number a r (beside_not a (asked_beside x k w a j B))
]

pub history_runs : (x : PlayCast) (steps : List (Act × Reply)) (k : Cursor) (w : World) (j : Cursor) (v : World) → IsFaultHistory x k w steps j v → Run w steps v
history_runs x [] k w j v (e, f) = f
history_runs x (step ∷ steps) k w j v (i, mid, m, s, A, rest) = (mid, m, s, history_runs x steps i mid j v rest)

pub history_frees : (number : ℕ) (x : PlayCast) (steps : List (Act × Reply)) (k : Cursor) (w : World) (j : Cursor) (v : World) → IsFaultHistory x k w steps j v → All (λ (y : Act × Reply). is_freed_by number y.0 y.1 ≡ false) steps
history_frees number x [] k w j v H = All-nil _
history_frees number x (step ∷ steps) k w j v (i, mid, m, s, A, rest) =
    All-cons (λ (y : Act × Reply). is_freed_by number y.0 y.1 ≡ false) step steps (allowed_frees number x k (inside (mend w.streams w)) step.0 step.1 i A) (history_frees number x steps i mid j v rest)

-- ---- what was heard, without the faults

told_alike : (n : Note) (p q : Progress) → IsAlike p q → IsAlike (noted_by n p) (noted_by n q)
told_alike (EmptyDone number) p q A = A
told_alike (FillDone number) p q A = A
told_alike (Told (events.CmdComplete (completions.State s))) p q A = record { state = refl; eos = A.eos; settings = A.settings; port = A.port }
told_alike (Told (events.CmdComplete (completions.Flush port))) p q A = A
told_alike (Told (events.CmdComplete (completions.Disable port))) p q A = record { state = A.state; eos = A.eos; settings = A.settings; port = refl }
told_alike (Told (events.CmdComplete (completions.Enable port))) p q A = record { state = A.state; eos = A.eos; settings = A.settings; port = refl }
told_alike (Told (events.CmdComplete (completions.Mark port))) p q A = A
told_alike (Told (events.Error error)) p q A = record { state = A.state; eos = A.eos; settings = A.settings; port = A.port }
told_alike (Told (events.Mark value)) p q A = A
told_alike (Told (events.PortSettingsChanged port)) p q A = record { state = A.state; eos = A.eos; settings = refl; port = A.port }
told_alike (Told (events.BufferFlag port flags)) p q A = record { state = A.state; eos = ap (λ (e : Bool). e || has_eos flags) A.eos; settings = A.settings; port = A.port }
told_alike (Told events.ResourcesAcquired) p q A = A

fault_alike : (n : Note) (p q : Progress) → is_fault n ≡ true → IsAlike p q → IsAlike p (noted_by n q)
fault_alike (Told (events.Error error)) p q f A = record { state = A.state; eos = A.eos; settings = A.settings; port = A.port }
fault_alike _ p q f A = absurd cc

without_alike : (ns : List Note) (p q : Progress) → IsAlike p q → IsAlike (progress_by (without_faults ns) p) (progress_by ns q)
without_alike [] p q A = A
without_alike (n ∷ ns) p q A = either (is_fault n)
    (λ t. subst (λ (l : List Note). IsAlike (progress_by l p) (progress_by ns (noted_by n q))) (sym (ap (λ (b : Bool). if b then without_faults ns else n ∷ without_faults ns) t)) (without_alike ns p (noted_by n q) (fault_alike n p q t A)))
    (λ t. subst (λ (l : List Note). IsAlike (progress_by l p) (progress_by ns (noted_by n q))) (sym (ap (λ (b : Bool). if b then without_faults ns else n ∷ without_faults ns) t)) (without_alike ns (noted_by n p) (noted_by n q) (told_alike n p q A)))

abbrev notes_to : ℕ → List Given → List Note
notes_to number given = map (λ g. g.note) (filter (is_given_to number) given)

-- by whether it is for the component, and tells a fault
module _ (number : ℕ) (g : Given) (gs : List Given) where
  to_it : is_given_to number g ≡ true → notes_to number (g ∷ gs) ≡ g.note ∷ notes_to number gs
  to_it t = ap (λ (q : Bool). map (λ (y : Given). y.note) (if q then g ∷ filter (is_given_to number) gs else filter (is_given_to number) gs)) t

  to_other : is_given_to number g ≡ false → notes_to number (g ∷ gs) ≡ notes_to number gs
  to_other t = ap (λ (q : Bool). map (λ (y : Given). y.note) (if q then g ∷ filter (is_given_to number) gs else filter (is_given_to number) gs)) t

  given_out : is_fault g.note ≡ true → given_without (g ∷ gs) ≡ given_without gs
  given_out f = ap (λ (q : Bool). if q then given_without gs else g ∷ given_without gs) f

  given_in_both : is_fault g.note ≡ false → given_without (g ∷ gs) ≡ g ∷ given_without gs
  given_in_both f = ap (λ (q : Bool). if q then given_without gs else g ∷ given_without gs) f

note_out : (n : Note) (ns : List Note) → is_fault n ≡ true → without_faults (n ∷ ns) ≡ without_faults ns
note_out n ns f = ap (λ (q : Bool). if q then without_faults ns else n ∷ without_faults ns) f

note_in_both : (n : Note) (ns : List Note) → is_fault n ≡ false → without_faults (n ∷ ns) ≡ n ∷ without_faults ns
note_in_both n ns f = ap (λ (q : Bool). if q then without_faults ns else n ∷ without_faults ns) f

given_alike : (number : ℕ) (given : List Given) → notes_to number (given_without given) ≡ without_faults (notes_to number given)
given_alike number [] = refl
given_alike number (g ∷ given) =
    let r = given_alike number given in
    let was : List Note = notes_to number given in
    either (is_given_to number g)
    (λ t. either (is_fault g.note)
    (λ f. ap (notes_to number) (given_out number g given f) ∙ (r ∙ sym (ap without_faults (to_it number g given t) ∙ note_out g.note was f)))
    (λ f. ap (notes_to number) (given_in_both number g given f) ∙ (to_it number g (given_without given) t ∙ (ap (λ (l : List Note). g.note ∷ l) r ∙ sym (ap without_faults (to_it number g given t) ∙ note_in_both g.note was f)))))
    (λ t. either (is_fault g.note)
    (λ f. ap (notes_to number) (given_out number g given f) ∙ (r ∙ sym (ap without_faults (to_other number g given t))))
    (λ f. ap (notes_to number) (given_in_both number g given f) ∙ (to_other number g (given_without given) t ∙ (r ∙ sym (ap without_faults (to_other number g given t))))))

-- read without faults, a component has told what its client was given
pub given_heard : (ss : List Stream) (w : World) (c : Component) → IsAlike (heard (inside (mend ss w)) (taken_in (mended c))) (progress_by (notes_given (number_of c) w) no_progress)
given_heard ss w c = subst (λ (ns : List Note). IsAlike (progress_by ns no_progress) (progress_by (notes_given (number_of c) w) no_progress)) (sym (given_alike (number_of c) w.given))
    (without_alike (notes_given (number_of c) w) no_progress no_progress (record { state = refl; eos = refl; settings = refl; port = refl }))

-- ---- in the world to which a history leads

module _ (x : PlayCast) (k : Cursor) (recent : ℕ) (p : Play) (ss : List Stream) (w : World) (D : IsFaulty x k recent p ss w) (steps : List (Act × Reply)) (j : Cursor) (v : World) (H : IsFaultHistory x k w steps j v) where
  pub told_so : w.given ≡ [] → (i : ℕ) (c : Component) → slice_get v.components i ≡ Some c → IsAlike (heard (inside (mend v.streams v)) (taken_in (mended c))) (progress_by (given_in i steps) no_progress)
  told_so none i c e =
      let B = all_faulty x steps k recent p ss w j v D H in
      let number : number_of c ≡ i = in_place x j B.recent B.now B.later v ((B.faulty).taken).played i c e in
      let given : notes_given i v ≡ given_in i steps = run_given w v steps i D.sound (history_runs x steps k w j v H) (history_frees i x steps k w j v H) ∙ ap (λ (gs : List Given). notes_to i gs ++ given_in i steps) none in
      subst (λ (ns : List Note). IsAlike (heard (inside (mend v.streams v)) (taken_in (mended c))) (progress_by ns no_progress)) (ap (λ (n : ℕ). notes_given n v) number ∙ given) (given_heard v.streams v c)

-- over one act a client is given what the act gives
pub one_given : (x : PlayCast) (k : Cursor) (recent : ℕ) (p : Play) (ss : List Stream) (w : World) → IsFaulty x k recent p ss w → (a : Act) (r : Reply) (v : World) (j : Cursor) → Meets w a → Step w a r v → IsAnyAllowed x k (inside (mend w.streams w)) a j
    → (i : ℕ) → notes_given i v ≡ notes_given i w ++ given_in i ((a, r) ∷ [])
one_given x k recent p ss w D a r v j m s A i =
    run_given w v ((a, r) ∷ []) i D.sound (v, m, s, refl) (All-cons (λ (y : Act × Reply). is_freed_by i y.0 y.1 ≡ false) (a, r) [] (allowed_frees i x k (inside (mend w.streams w)) a r j A) (All-nil _))

-- ---- handles

named_at : (h : Handle) (w : World) (c : Component) → component_named h w.components ≡ Some c → (i : ℕ) × (place_of h w.components ≡ Some i) × (slice_get w.components i ≡ Some c)
named_at h w c e = by (place_of h w.components) refl e
  where
    by : (o : Option ℕ) → place_of h w.components ≡ o → option_and_then (slice_get w.components) o ≡ Some c → (i : ℕ) × (place_of h w.components ≡ Some i) × (slice_get w.components i ≡ Some c)
    by None p f = absurd cc
    by (Some i) p f = (i, p, f)

module _ (x : PlayCast) (k : Cursor) (recent : ℕ) (p : Play) (ss : List Stream) (w : World) (D : IsFaulty x k recent p ss w) where
  one_named : (a : Act) (r : Reply) (v : World) (j : Cursor) → Meets w a → Step w a r v → IsAnyAllowed x k (inside (mend w.streams w)) a j → (h : Handle) (i : ℕ) → place_of h w.components ≡ Some i → place_of h v.components ≡ Some i
  one_named a r v j m s A h i e =
      let t = passes_at (is_at h) w.components i (sym (is_first_place (is_at h) w.components) ∙ e) in
      let c : Component = t.0 in
      let named : component_named h w.components ≡ Some c = ap (option_and_then (slice_get w.components)) e ∙ t.1 in
      let was : number_of c ≡ h.generation = same_number w h i c e t.1 in
      let place : number_of c ≡ i = in_place x k recent p ss w (D.taken).played i c t.1 in
      let d = handle_lives w a r v h c D.sound m s (allowed_frees h.generation x k (inside (mend w.streams w)) a r j A) named in
      let B = one_faulty x k recent p ss w D a r v j m s A in
      let now = named_at h v d.0 d.1 in
      let number : number_of d.0 ≡ h.generation = same_number v h now.0 d.0 now.1 now.2 in
      let there : number_of d.0 ≡ now.0 = in_place x j B.recent B.now B.later v ((B.faulty).taken).played now.0 d.0 now.2 in
      now.1 ∙ ap Some (sym there ∙ (number ∙ (sym was ∙ place)))

pub all_named : (x : PlayCast) (steps : List (Act × Reply)) (k : Cursor) (recent : ℕ) (p : Play) (ss : List Stream) (w : World) (j : Cursor) (v : World) → IsFaulty x k recent p ss w → IsFaultHistory x k w steps j v
    → (h : Handle) (i : ℕ) → place_of h w.components ≡ Some i → place_of h v.components ≡ Some i
all_named x [] k recent p ss w j v D (e, f) h i n = ap (λ (z : World). place_of h z.components) f ∙ n
all_named x (step ∷ steps) k recent p ss w j v D (i2, mid, m, s, A, rest) h i n =
    let B = one_faulty x k recent p ss w D step.0 step.1 mid i2 m s A in
    all_named x steps i2 B.recent B.now B.later mid j v B.faulty rest h i (one_named x k recent p ss w D step.0 step.1 mid i2 m s A h i n)
