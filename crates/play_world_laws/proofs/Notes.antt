-- A note is taken, which is nothing for the play; its client object is given back, and then it was told.
use Rattle.std.proofs.Common.{◌≡◌, ◌≢◌, ℕ, zero, suc, Bool, true, false, nat_eq, if◌then◌else◌, List, [], ◌∷◌, ◌++◌, map, filter, drop, slice_get, Some, MatchOption, refl, sym, ◌∙◌, ap, eq-eqb, ne_eqb, append-nil}
use Rattle.omx_types.specs.declared.handle.Handle.{Handle}
use Rattle.omx_types.specs.declared.command.Note.{Note}
use Rattle.il_machine.specs.declared.answer.Progress.{Progress}
use Rattle.il_machine.specs.World.{Component, Given, World, number_of, place_of, with_component}
use Rattle.il_machine.specs.Components.{is_given_to, no_progress, noted_by}
use Rattle.il_machine.specs.Queued.{notes_given}
use Rattle.il_machine.specs.Due.{ClosesTo}
use Rattle.il_machine.specs.Notes.{EndNote, first_taken, with_given, back_in}
use Rattle.machine_laws.proofs.Finding.{either}
use Rattle.machine_laws.proofs.Keys.{at_there}
use Rattle.machine_laws.proofs.Notices.{first_is}
use Rattle.play_model.specs.Play.{Play}
use Rattle.play_world_laws.specs.Telling.{last_note, earlier_notes, heard_of, unheard, heard, progress_by, state_note}

-- ---- the last of many

pub last_push : (ns : List Note) (n : Note) → last_note (ns ++ n ∷ []) ≡ n ∷ []
last_push [] n = refl
last_push (m ∷ []) n = refl
last_push (m ∷ k ∷ ns) n = last_push (k ∷ ns) n

pub earlier_push : (ns : List Note) (n : Note) → earlier_notes (ns ++ n ∷ []) ≡ ns
earlier_push [] n = refl
earlier_push (m ∷ []) n = refl
earlier_push (m ∷ k ∷ ns) n = ap (λ (l : List Note). m ∷ l) (earlier_push (k ∷ ns) n)

pub parted : (ns : List Note) → earlier_notes ns ++ last_note ns ≡ ns
parted [] = refl
parted (m ∷ []) = refl
parted (m ∷ k ∷ ns) = ap (λ (l : List Note). m ∷ l) (parted (k ∷ ns))

pub progress_push : (ns : List Note) (n : Note) (p : Progress) → progress_by (ns ++ n ∷ []) p ≡ noted_by n (progress_by ns p)
progress_push [] n p = refl
progress_push (m ∷ ns) n p = progress_push ns n (noted_by m p)

given_push : (number k : ℕ) (note : Note) (gs : List Given) → map (λ g. g.note) (filter (is_given_to number) (gs ++ record { component = k; note = note } ∷ []))
    ≡ map (λ g. g.note) (filter (is_given_to number) gs) ++ (if nat_eq k number then note ∷ [] else [])
given_push number k note [] = either (nat_eq k number) (λ t. rw t refl) (λ f. rw f refl)
given_push number k note (g ∷ gs) =
    let i = given_push number k note gs in
    either (nat_eq g.component number)
    (λ t. rw t (ap (λ (l : List Note). g.note ∷ l) i))
    (λ f. rw f i)

pub no_state_note : (phase stage : ℕ) → stage ≢ 3 → state_note phase stage ≡ []
no_state_note phase zero n = refl
no_state_note phase (suc zero) n = refl
no_state_note phase (suc (suc zero)) n = refl
no_state_note phase (suc (suc (suc zero))) n = absurd (n refl)
no_state_note phase (suc (suc (suc (suc k)))) n = refl

-- ---- a note is taken

module _ (w : World) (i : ℕ) (a : Component) (note : Note) (at : number_of a ≡ i) (o : a.client_out ≡ false) (f : slice_get a.notes 0 ≡ Some note) where
  abbrev taken_now : World
  taken_now = with_given i a note w

  pub given_here : notes_given (number_of a) taken_now ≡ notes_given (number_of a) w ++ note ∷ []
  given_here = given_push (number_of a) (number_of a) note w.given ∙ rw (eq-eqb (number_of a) (number_of a) refl) refl

  pub given_else : (k : ℕ) → k ≢ i → notes_given k taken_now ≡ notes_given k w
  given_else k n = given_push k (number_of a) note w.given ∙ (rw (ne_eqb (number_of a) k (λ s. n (sym s ∙ at))) (append-nil (notes_given k w)))

  pub unheard_same : unheard taken_now (first_taken a) ≡ unheard w a
  unheard_same =
      let now : unheard taken_now (first_taken a) ≡ note ∷ drop 1 a.notes = ap (λ (g : List Note). last_note g ++ drop 1 a.notes) given_here ∙ ap (λ (g : List Note). g ++ drop 1 a.notes) (last_push (notes_given (number_of a) w) note) in
      let was : unheard w a ≡ a.notes = rw o refl in
      now ∙ (sym (first_is a.notes note f) ∙ sym was)

  pub heard_same : heard taken_now (first_taken a) ≡ heard w a
  heard_same =
      let now : heard taken_now (first_taken a) ≡ progress_by (notes_given (number_of a) w) no_progress =
      ap (λ (g : List Note). progress_by (earlier_notes g) no_progress) given_here ∙ ap (λ (g : List Note). progress_by g no_progress) (earlier_push (notes_given (number_of a) w) note) in
      let was : heard w a ≡ progress_by (notes_given (number_of a) w) no_progress = rw o refl in
      now ∙ sym was

-- ---- its client object is given back

-- what was heard of it, once the note that is out was heard
pub heard_back : (w : World) (i : ℕ) (a : Component) (n : Note) → a.client_out ≡ true → last_note (notes_given (number_of a) w) ≡ n ∷ [] → heard (with_component i (back_in a) w) (back_in a) ≡ noted_by n (heard w a)
heard_back w i a n o e =
    let given : List Note = notes_given (number_of a) w in
    let knew : progress_by (earlier_notes given) no_progress ≡ heard w a = sym (ap (λ (b : Bool). progress_by (heard_of b given) no_progress) o) in
    let whole : given ≡ earlier_notes given ++ n ∷ [] = sym (parted given) ∙ ap (λ (g : List Note). earlier_notes given ++ g) e in
    ap (λ (g : List Note). progress_by g no_progress) whole ∙ (progress_push (earlier_notes given) n no_progress ∙ ap (noted_by n) knew)

-- ---- both acts

pub told_else : (p : Play) (c k : ℕ) → k ≢ c → (if nat_eq k c then true else p.told k) ≡ p.told k
told_else p c k e = rw (ne_eqb k c e) refl

pub ended_at : (w : World) (h : Handle) (v : World) (i : ℕ) (a : Component) → place_of h w.components ≡ Some i → slice_get w.components i ≡ Some a → EndNote w h v → ClosesTo (with_component i (back_in a) w) v
ended_at w h v i a e f s =
    at_there (slice_get w.components i) (λ c. ClosesTo (with_component i (back_in c) w) v) a f
    (at_there (place_of h w.components) (λ j. MatchOption (slice_get w.components j) ⊥ (λ c. ClosesTo (with_component j (back_in c) w) v)) i e s)
