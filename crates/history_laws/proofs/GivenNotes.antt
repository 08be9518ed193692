-- The notes that were given for a component, over each step and run.
use Rattle.std.proofs.Common.{◌≡◌, ◌≢◌, inl, inr, ℕ, ◌<◌, ◌≤◌, true, false, not, nat_eq, nat_lt, List, [], ◌∷◌, ◌++◌, Option, Some, None, Ok, All, refl, sym, ◌∙◌, ap, subst, eqb-true, eq-eqb, ne_eqb, arith}
use Rattle.std.specs.Prelude.{IsSome, map, filter}
use Rattle.std.proofs.lemmas.Bool.{eqb-false, ltb-true, ltb-false}
use Rattle.std.proofs.lemmas.List.{append-nil}
use Rattle.std.proofs.lemmas.List.Elements.{All-nil, All-cons, All-head, All-tail}
use Rattle.omx_types.specs.declared.handle.Handle.{Handle}
use Rattle.omx_types.specs.declared.command.Note.{Note}
use Rattle.omx_types.specs.declared.command.Note.TheVariants.{Told, EmptyDone, FillDone}
use Rattle.il_machine.specs.declared.answer.Progress.{Progress}
use Rattle.il_machine.specs.World.{component_numbered, Component, World, Given, no_world, number_of, place_of}
use Rattle.il_machine.specs.Answers.{plain, component_named}
use Rattle.il_machine.specs.Components.{is_given_to, without_component, no_progress, noted_by, progress_after, progress_of}
use Rattle.il_machine.specs.Notes.{Taken, TakenEvent, TakenEmpty, TakenFilled, TookNote, with_given, with_client}
use Rattle.il_machine.specs.Due.{ClosesTo}
use Rattle.part_api.specs.declared.attached.Attached.{Attached}
use Rattle.il_machine.specs.Queued.{notes_given}
use Rattle.il_machine.specs.Effect.{effect}
use Rattle.il_machine.specs.Acts.{Act, Reply}
use Rattle.il_machine.specs.Acts as acts
use Rattle.il_machine.specs.Run.{Step, Meets, Run}
use Rattle.il_machine.specs.Sound.{Sound}
use Rattle.machine_laws.proofs.Finding.{either}
use Rattle.machine_laws.proofs.Steps.{sound_step, sound_none}
use Rattle.history_laws.specs.Given.{IsGivenToNumbered, note_of, note_for, is_freed_by, LeavesNotes}
use Rattle.history_laws.proofs.Quiet.{gather, others_given, given_push}
use Rattle.history_laws.proofs.Outcome.{turn, IsNamed, same_number}
use Rattle.history_laws.proofs.ComponentActs.{named_is}
use Rattle.history_laws.proofs.GivenHeaders.{resolved}
use Rattle.history_laws.proofs.KeyLaw.{effect_leaves}
use Rattle.history_laws.proofs.Named.{is_named}
use Rattle.history_laws.proofs.Steps.{step_comes}
use Rattle.history_laws.proofs.QueueLaw.{times_given, effects_close, some_named}
use Rattle.history_laws.proofs.RunLaw.{none_given, outcome_empty}

pub closing_given : (w v : World) → ClosesTo w v → v.given ≡ w.given
closing_given w v C = times_given C.steps w v C.by_steps

-- the step ends with what its act made of the notes
as_effect : (w : World) (a : Act) (r : Reply) (v : World) (number : ℕ) → Sound w → Meets w a → Step w a r v → notes_given number v ≡ notes_given number (effect w a r)
as_effect w a r v number S M h = elim (effects_close w a r v S M h) [
  | inl e ↦ ap (notes_given number) (e.1 ∙ sym e.0)
  | inr C ↦ ap (gather number) (closing_given (effect w a r) v C)
]

-- ---- a note that is given

taken_is : (w : World) (h : Handle) (taken : Taken) (i : ℕ) (c : Component) → IsNamed w h i c
    → (effect w (acts.TakeNote h) (acts.Took (Ok (TookNote taken)))).given ≡ w.given ++ record { component = number_of c; note = note_of taken } ∷ []
taken_is w h (TakenEvent event) i c N = ap (λ (x : World). x.given) (named_is w h i c (λ i c. with_given i c (Told event) w) N.place N.there)
taken_is w h (TakenEmpty header) i c N =
    ap (λ (x : World). x.given) (named_is w h i c (λ i c. with_client header.number (with_given i c (EmptyDone header.number) w)) N.place N.there)
taken_is w h (TakenFilled header) i c N =
    ap (λ (x : World). x.given) (named_is w h i c (λ i c. with_client header.number (with_given i c (FillDone header.number) w)) N.place N.there)

-- the notes for a number, where one more was given by the handle
after_take : (w : World) (h : Handle) (taken : Taken) (v : World) (number : ℕ) → Step w (acts.TakeNote h) (acts.Took (Ok (TookNote taken))) v
    → (g : Given) × (g.component ≡ h.generation) × (g.note ≡ note_of taken) × (notes_given number (effect w (acts.TakeNote h) (acts.Took (Ok (TookNote taken)))) ≡ notes_given number w ++ gather number (g ∷ []))
after_take w h taken v number s =
    let x = resolved plain w v h (TookNote taken) _ s in
    let g : Given = record { component = number_of x.1; note = note_of taken } in
    (g, (x.2).number, refl, ap (gather number) (taken_is w h taken x.0 x.1 x.2) ∙ given_push number w.given g)

own_gathered : (number : ℕ) (g : Given) → g.component ≡ number → gather number (g ∷ []) ≡ g.note ∷ []
own_gathered number g e = rw (eq-eqb g.component number e) refl

none_gathered : (number : ℕ) (g : Given) → g.component ≢ number → gather number (g ∷ []) ≡ []
none_gathered number g n = rw (ne_eqb g.component number n) refl

-- ---- a component that is freed

freed_is : (w : World) (h : Handle) (file : Option Attached) (v : World) → Step w (acts.FreeHandle h) (acts.Removed (Ok file)) v
    → (effect w (acts.FreeHandle h) (acts.Removed (Ok file))).given ≡ filter (λ g. not (is_given_to h.generation g)) w.given
freed_is w h file v s =
    let x = resolved plain w v h file _ s in
    let N = x.2 in
    ap (λ (y : World). y.given) (named_is w h x.0 x.1 (λ i c. without_component i c w) N.place N.there)
    ∙ ap (λ (k : ℕ). filter (λ g. not (is_given_to k g)) w.given) N.number

none_left : (number : ℕ) (given : List Given) → gather number (filter (λ g. not (is_given_to number g)) given) ≡ []
none_left number [] = refl
none_left number (g ∷ given) = either (is_given_to number g)
    (λ t. rw t (none_left number given))
    (λ f. rw f (rw f (none_left number given)))

-- ---- each act

leaves : (w : World) (a : Act) (r : Reply) (v : World) (number : ℕ) → Step w a r v → note_for number a r ≡ None → is_freed_by number a r ≡ false → notes_given number (effect w a r) ≡ notes_given number w
leaves w (acts.TakeNote h) (acts.Took (Ok (TookNote taken))) v number s n f = either (nat_eq h.generation number)
    (λ t. let e : Some (note_of taken) ≡ None = rw t at n in absurd cc)
    (λ t.
    let x = after_take w h taken v number s in
    let apart : (x.0).component ≢ number = λ e. eqb-false _ _ t (sym x.1 ∙ e) in
    x.3 ∙ (ap (λ (l : List Note). notes_given number w ++ l) (none_gathered number x.0 apart) ∙ append-nil (notes_given number w)))
leaves w (acts.FreeHandle h) (acts.Removed (Ok file)) v number s n f =
    ap (gather number) (freed_is w h file v s) ∙ others_given number h.generation w.given (eqb-false _ _ f)
leaves w a r v number s n f = ap (gather number) (effect_leaves w a r).1

adds : (w : World) (a : Act) (r : Reply) (v : World) (number : ℕ) (note : Note) → Step w a r v → note_for number a r ≡ Some note → notes_given number (effect w a r) ≡ notes_given number w ++ note ∷ []
adds w (acts.TakeNote h) (acts.Took (Ok (TookNote taken))) v number note s n = either (nat_eq h.generation number)
    (λ t.
    let e : Some (note_of taken) ≡ Some note = rw t at n in
    let is : note_of taken ≡ note = cc in
    let x = after_take w h taken v number s in
    let own = own_gathered number x.0 (x.1 ∙ eqb-true _ _ t) in
    x.3 ∙ ap (λ (l : List Note). notes_given number w ++ l) (own ∙ ap (λ (k : Note). k ∷ []) (x.2 ∙ is)))
    (λ t. let e : None ≡ Some note = rw t at n in absurd cc)
adds w _ _ v number note s n = absurd cc

frees : (w : World) (a : Act) (r : Reply) (v : World) (number : ℕ) → Step w a r v → is_freed_by number a r ≡ true → notes_given number (effect w a r) ≡ []
frees w (acts.FreeHandle h) (acts.Removed (Ok file)) v number s f =
    ap (gather number) (freed_is w h file v s) ∙ subst (λ (k : ℕ). gather number (filter (λ g. not (is_given_to k g)) w.given) ≡ []) (sym (eqb-true _ _ f)) (none_left number w.given)
frees w _ _ v number s f = absurd cc

-- ---- the law

pub steps_stay : (w : World) (a : Act) (r : Reply) (v : World) (number : ℕ) → Sound w → Meets w a → Step w a r v → LeavesNotes number a r → notes_given number v ≡ notes_given number w
steps_stay w a r v number S M h L = as_effect w a r v number S M h ∙ leaves w a r v number h L.0 L.1

pub steps_add : (w : World) (a : Act) (r : Reply) (v : World) (number : ℕ) (note : Note) → Sound w → Meets w a → Step w a r v → note_for number a r ≡ Some note → notes_given number v ≡ notes_given number w ++ note ∷ []
steps_add w a r v number note S M h e = as_effect w a r v number S M h ∙ adds w a r v number note h e

pub steps_free : (w : World) (a : Act) (r : Reply) (v : World) (number : ℕ) → Sound w → Meets w a → Step w a r v → is_freed_by number a r ≡ true → notes_given number v ≡ []
steps_free w a r v number S M h e = as_effect w a r v number S M h ∙ frees w a r v number h e

front_empty : (front rest : List Note) → front ++ rest ≡ [] → front ≡ []
front_empty [] rest e = refl
front_empty (x ∷ front) rest e = absurd cc

-- nothing is given for a number that isn't given yet
none_above : (n : ℕ) (given : List Given) → All (λ g. g.component < n) given → (number : ℕ) → n ≤ number → gather number given ≡ []
none_above n [] A number l = refl
none_above n (g ∷ given) A number l =
    let b : g.component < n = All-head (λ g. g.component < n) g given A in
    let f : is_given_to number g ≡ false = ne_eqb g.component number (λ e. omega (arith, b, l, e)) in
    rw f (none_above n given (All-tail (λ g. g.component < n) g given A) number l)

all_below : (n : ℕ) (given : List Given) → ((number : ℕ) → n ≤ number → gather number given ≡ []) → All (λ g. g.component < n) given
all_below n [] N = All-nil (λ g. g.component < n)
all_below n (g ∷ given) N = All-cons (λ g. g.component < n) g given
    (either (nat_lt g.component n)
    (λ t. ltb-true g.component n t)
    (λ f.
    let own : is_given_to g.component g ≡ true = eq-eqb g.component g.component refl in
    let e : g.note ∷ gather g.component given ≡ [] = rw own at (N g.component (ltb-false g.component n f)) in
    absurd cc))
    (all_below n given (λ number l. either (is_given_to number g)
    (λ t. let e : g.note ∷ gather number given ≡ [] = rw t at (N number l) in absurd cc)
    (λ f. rw f at (N number l))))

pub comes_without : (w : World) (a : Act) (r : Reply) (v : World) (number : ℕ) → Sound w → IsGivenToNumbered w → Meets w a → Step w a r v
    → component_numbered number w ≡ None → IsSome (component_numbered number v) → notes_given number v ≡ []
comes_without w a r v number S G M h none there =
    let d = some_named number v there in
    let empty = outcome_empty w v (turn w a r) number d.0 (none_above w.numbered w.given G) (step_comes w a r v S M h) (sym (is_named number w) ∙ none) d.1 in
    as_effect w a r v number S M h ∙ front_empty (notes_given number (effect w a r)) _ empty

pub runs_numbered : (key units : ℕ) (xs : List (Act × Reply)) (v : World) → Run (no_world key units) xs v → IsGivenToNumbered v
runs_numbered key units xs v R = all_below v.numbered v.given (none_given (no_world key units) v xs (sound_none key units) (λ k l. refl) R)

pub runs_stay : (w v : World) (xs : List (Act × Reply)) (number : ℕ) → Sound w → Run w xs v → All (λ x. LeavesNotes number x.0 x.1) xs → notes_given number v ≡ notes_given number w
runs_stay w v [] number S e A = ap (notes_given number) e
runs_stay w v (x ∷ xs) number S (mid, M, h, more) A =
    runs_stay mid v xs number (sound_step w mid x.0 x.1 M h S) more (All-tail (λ y. LeavesNotes number y.0 y.1) x xs A)
    ∙ steps_stay w x.0 x.1 mid number S M h (All-head (λ y. LeavesNotes number y.0 y.1) x xs A)

-- ---- the progress

abbrev all_noted : List Note → Progress → Progress
all_noted [] p = p
all_noted (note ∷ notes) p = all_noted notes (noted_by note p)

noted_last : (notes : List Note) (note : Note) (p : Progress) → all_noted (notes ++ note ∷ []) p ≡ noted_by note (all_noted notes p)
noted_last [] note p = refl
noted_last (x ∷ notes) note p = noted_last notes note (noted_by x p)

after_is : (given : List Given) (p : Progress) → progress_after given p ≡ all_noted (map (λ (g : Given). g.note) given) p
after_is [] p = refl
after_is (g ∷ given) p = after_is given (noted_by g.note p)

named_so : (w : World) (h : Handle) (c : Component) (o : Option ℕ) → place_of h w.components ≡ o → component_named h w.components ≡ Some c → number_of c ≡ h.generation
named_so w h c None p e = let a : None ≡ Some c = rw p at e in absurd cc
named_so w h c (Some i) p e = same_number w h i c p (rw p at e)

progress_is : (w : World) (h : Handle) (c : Component) → component_named h w.components ≡ Some c → progress_of c w ≡ all_noted (notes_given h.generation w) no_progress
progress_is w h c e = after_is (filter (is_given_to (number_of c)) w.given) no_progress ∙ ap (λ (k : ℕ). all_noted (notes_given k w) no_progress) (named_so w h c (place_of h w.components) refl e)

pub progress_told : (w : World) (a : Act) (r : Reply) (v : World) (h : Handle) (note : Note) (c d : Component) → Sound w → Meets w a → Step w a r v → note_for h.generation a r ≡ Some note
    → component_named h w.components ≡ Some c → component_named h v.components ≡ Some d → progress_of d v ≡ noted_by note (progress_of c w)
progress_told w a r v h note c d S M s n e f =
    progress_is v h d f
    ∙ (ap (λ (l : List Note). all_noted l no_progress) (steps_add w a r v h.generation note S M s n)
    ∙ (noted_last (notes_given h.generation w) note no_progress ∙ ap (noted_by note) (sym (progress_is w h c e))))

pub progress_stays : (w v : World) (xs : List (Act × Reply)) (h : Handle) (c d : Component) → Sound w → Run w xs v → All (λ x. LeavesNotes h.generation x.0 x.1) xs
    → component_named h w.components ≡ Some c → component_named h v.components ≡ Some d → progress_of d v ≡ progress_of c w
progress_stays w v xs h c d S R A e f = progress_is v h d f ∙ (ap (λ (l : List Note). all_noted l no_progress) (runs_stay w v xs h.generation S R A) ∙ sym (progress_is w h c e))
