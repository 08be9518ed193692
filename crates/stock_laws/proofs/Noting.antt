-- Notes are queued and taken, in each world.
use Rattle.std.proofs.Common.{◌≡◌, ◌≢◌, inl, inr, ℕ, ◌<◌, true, List, [], ◌∷◌, ◌++◌, Option, Some, None, All, slice_get, slice_set, filter, refl, sym, ◌∙◌, ap, subst, arith}
use Rattle.std.proofs.lemmas.Bool.Decides.{nat_tests, eqb_tells}
use Rattle.std.proofs.lemmas.List.Elements.{filter-append, All-push}
use Rattle.std.proofs.Common.{append-nil}
use Rattle.omx_types.specs.declared.command.Note.{Note}
use Rattle.il_machine.specs.declared.answer.Progress.{Progress}
use Rattle.il_machine.specs.World.{Component, Given, World, number_of, with_component}
use Rattle.il_machine.specs.Look.{Look}
use Rattle.il_machine.specs.Components.{progress_of, progress_after, is_given_to, no_progress}
use Rattle.il_machine.specs.Notes.{first_taken, with_given, back_in}
use Rattle.il_machine.specs.Whole.{Kept, Noticed, IsNoticed, HasProgress}
use Rattle.stock_laws.specs.Bare.{StandsBare, StepsBare, StepsBareWhere}
use Rattle.stock_laws.specs.Parts.{IsAlone}
use Rattle.stock_laws.proofs.Lists.{get_set_same, get_set_other}
use Rattle.stock_laws.proofs.Parts.{streams_set}
use Rattle.stock_laws.proofs.Lifting.{with_look, progress_number}

-- ---- the queued notes have another header

-- what is kept, with other headers in queued notes
abbrev pub with_noticed : List Noticed → Kept → Kept
with_noticed hs k = record k { noticed = hs }

pub renoticed : (k : Kept) (hs : List Noticed) (w : World) → StandsBare k w → All (IsNoticed w) hs → StandsBare (with_noticed hs k) w
renoticed k hs w S N = record { looks = S.looks; loads = S.loads; noticed = N; progress = S.progress; streams = S.streams; once = S.once; given = S.given }

-- ---- a note is taken

abbrev pub IsOnly : ℕ → Component → List Component → Type 0
IsOnly i c components = IsAlone i c components

-- what is kept, with the client object of the place out
abbrev pub with_client_out : ℕ → Kept → Kept
with_client_out i k = record k { clients = slice_set k.clients i None }

not_given : (n m : ℕ) (note : Note) → n ≢ m → filter (is_given_to n) (record { component = m; note = note } ∷ []) ≡ []
not_given n m note d = grind (arith, nat_tests)

same_progress : (d : Component) (m : ℕ) (note : Note) (given : List Given) → number_of d ≢ m → filter (is_given_to (number_of d)) (given ++ record { component = m; note = note } ∷ []) ≡ filter (is_given_to (number_of d)) given
same_progress d m note given e = filter-append (is_given_to (number_of d)) given (record { component = m; note = note } ∷ []) ∙ rw (not_given (number_of d) m note e) (append-nil _)

taken_progress : (k : Kept) (w : World) (i : ℕ) (c : Component) (note : Note) → slice_get w.components i ≡ Some c → IsOnly i c w.components → HasProgress k.clients w → HasProgress (slice_set k.clients i None) (with_given i c note w)
taken_progress k w i c note at only P = λ j d h out.
    let same : j ≡ i → slice_get (slice_set k.clients i None) j ≡ Some (Some (progress_of d (with_given i c note w))) = λ e.
    let g : Some d ≡ Some (first_taken c) = sym h ∙ rw e (get_set_same w.components i c (first_taken c) at) in
    let q : d ≡ first_taken c = cc in
    let o : d.client_out ≡ true = ap (λ (x : Component). x.client_out) q in
    absurd cc in
    let other : j ≢ i → slice_get (slice_set k.clients i None) j ≡ Some (Some (progress_of d (with_given i c note w))) = λ e.
    let here : slice_get w.components j ≡ Some d = sym (get_set_other w.components i j (first_taken c) e) ∙ h in
    let p = P j d here out in
    let n = only j d here e in
    get_set_other k.clients i j None e ∙ (p ∙ ap (λ (gs : List Given). Some (Some (progress_after gs no_progress))) (sym (same_progress d (number_of c) note w.given n))) in
    elim (eqb_tells j i) [ inl e ↦ same e.1 | inr e ↦ other e.1 ]

-- an event is taken
pub lift_given : (k : Kept) (i : ℕ) (c : Component) (note : Note) → slice_get k.looks.components i ≡ Some c → IsOnly i c k.looks.components → number_of c < k.looks.numbered
    → StepsBare k (with_client_out i (with_look i (first_taken c) k)) (λ w v. v ≡ with_given i c note w)
lift_given k i c note at only few = λ w S.
    let cs : w.components ≡ k.looks.components = ap (λ (l : Look). l.components) S.looks in
    let n : w.numbered ≡ k.looks.numbered = ap (λ (l : Look). l.numbered) S.looks in (
      with_given i c note w,
      record {
        looks = ap (λ (l : Look). record l { components = slice_set l.components i (first_taken c) }) S.looks;
        loads = S.loads;
        noticed = S.noticed;
        progress = taken_progress k w i c note (rw cs at) (subst (IsOnly i c) (sym cs) only) S.progress;
        streams = streams_set w i c (first_taken c) (rw cs at) (record { number = refl; kind = refl; file = refl; failed = refl; work = refl }) S.streams;
        once = S.once;
        given = All-push (λ g. g.component < w.numbered) w.given (record { component = number_of c; note = note }) S.given (rw n few);
      },
      refl,
    )

-- ---- the client object is in again

-- what is kept, with a client object of the place in
abbrev pub with_client_in : ℕ → Progress → Kept → Kept
with_client_in i p k = record k { clients = slice_set k.clients i (Some p) }

ended_progress : (k : Kept) (w : World) (i : ℕ) (c : Component) (p : Progress) (x : Option Progress) → slice_get w.components i ≡ Some c → slice_get k.clients i ≡ Some x → p ≡ progress_of c w → HasProgress k.clients w → HasProgress (slice_set k.clients i (Some p)) (with_component i (back_in c) w)
ended_progress k w i c p x at client is P = λ j d h out.
    let same : j ≡ i → slice_get (slice_set k.clients i (Some p)) j ≡ Some (Some (progress_of d w)) = λ e.
    let g : Some d ≡ Some (back_in c) = sym h ∙ rw e (get_set_same w.components i c (back_in c) at) in
    let q : d ≡ back_in c = cc in
    let m : number_of d ≡ number_of c = ap number_of q in
    rw (e, get_set_same k.clients i x (Some p) client) (ap (λ (y : Progress). Some (Some y)) (is ∙ sym (progress_number d c w m))) in
    let other : j ≢ i → slice_get (slice_set k.clients i (Some p)) j ≡ Some (Some (progress_of d w)) = λ e.
    let here : slice_get w.components j ≡ Some d = sym (get_set_other w.components i j (back_in c) e) ∙ h in
    get_set_other k.clients i j (Some p) e ∙ P j d here out in
    elim (eqb_tells j i) [ inl e ↦ same e.1 | inr e ↦ other e.1 ]

pub lift_ended : (k : Kept) (i : ℕ) (c : Component) (p : Progress) (x : Option Progress) → slice_get k.looks.components i ≡ Some c → slice_get k.clients i ≡ Some x
    → StepsBareWhere k (with_client_in i p (with_look i (back_in c) k)) (λ w. p ≡ progress_of c w) (λ w v. v ≡ with_component i (back_in c) w)
lift_ended k i c p x at client = λ w S is.
    let cs : w.components ≡ k.looks.components = ap (λ (l : Look). l.components) S.looks in (
      with_component i (back_in c) w,
      record {
        looks = ap (λ (l : Look). record l { components = slice_set l.components i (back_in c) }) S.looks;
        loads = S.loads;
        noticed = S.noticed;
        progress = ended_progress k w i c p x (rw cs at) client is S.progress;
        streams = streams_set w i c (back_in c) (rw cs at) (record { number = refl; kind = refl; file = refl; failed = refl; work = refl }) S.streams;
        once = S.once;
        given = S.given;
      },
      refl,
    )
