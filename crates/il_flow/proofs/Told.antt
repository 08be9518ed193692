-- What has gone through a part and its file, once a step was done.
use Rattle.std.proofs.Common.{◌≡◌, ℕ, ◌+◌, ◌-◌, ◌≤◌, Bool, true, false, not, if◌then◌else◌, List, [], ◌∷◌, ◌++◌, length, take, drop, refl, ap, sym, subst, ◌∙◌, arith, append_assoc}
use Rattle.std.specs.Prelude.{Option, Some, None, option_map, MatchOption}
use Rattle.std.specs.Io.KnownBytes.{append_known}
use Rattle.std.proofs.lemmas.List.{drop-drop}
use Rattle.omx_types.specs.declared.format.Format.{Format}
use Rattle.part_api.specs.declared.attached.Attached.{Attached}
use Rattle.part_api.specs.declared.attached.Attached.TheVariants.{From, To}
use Rattle.part_api.specs.Steps.{ComesFirst}
use Rattle.part_api.specs.Terms.{Terms, Writing, begun, written}
use Rattle.part_forms.specs.Sinking.{head_due, sink_text, writes_of}
use Rattle.audio_parts.specs.FileTerms.{IsOfTerms}
use Rattle.il_machine.specs.Lists.{is_empty}
use Rattle.il_machine.specs.Kinds.{is_sink}
use Rattle.il_machine.specs.World.{Stream}
use Rattle.il_machine.specs.Whole.{IsWriting}
use Rattle.il_machine.specs.Stepping.{IsTold, format_at, text_by}

-- ---- what a source's file gives

front_of_joined : (xs ys : List ℕ) → take (length xs) (xs ++ ys) ≡ xs
front_of_joined [] ys = refl
front_of_joined (x ∷ xs) ys = ap (λ l. x ∷ l) (front_of_joined xs ys)

back_of_joined : (xs ys : List ℕ) → drop (length xs) (xs ++ ys) ≡ ys
back_of_joined [] ys = refl
back_of_joined (x ∷ xs) ys = back_of_joined xs ys

pub record IsGiven (known rest : Option (List ℕ)) (place count : ℕ) (piece : List ℕ) : Type 0 where
  pub told : IsTold known place count piece
  pub left : rest ≡ option_map (drop (place + count)) known

pub given : (known old new : Option (List ℕ)) (place count : ℕ) (piece : List ℕ) → length piece ≡ count → old ≡ option_map (drop place) known → ComesFirst piece old new
    → IsGiven known new place count piece
given None old new place count piece size e h = record { told = size; left = subst (λ o. ComesFirst piece o new) e h }
given (Some bytes) old new place count piece size e h =
    let k : ComesFirst piece (Some (drop place bytes)) new = subst (λ o. ComesFirst piece o new) e h in
    record {
      told = (size, sym (ap (take count) k.2 ∙ ap (λ n. take n (piece ++ k.0)) (sym size) ∙ front_of_joined piece k.0));
      left = k.1 ∙ ap (λ l. Some l) (sym (back_of_joined piece k.0) ∙ ap (λ n. drop n (piece ++ k.0)) size ∙ ap (drop count) (sym k.2) ∙ drop-drop count place bytes);
    }

-- ---- what a sink's file takes

in_turn : (a b c : List ℕ) → (a ++ b) ++ c ≡ a ++ (b ++ c)
in_turn a b c = rw append_assoc refl

pub append_twice : (known : Option (List ℕ)) (xs ys : List ℕ) → append_known (append_known known xs) ys ≡ append_known known (xs ++ ys)
append_twice None xs ys = refl
append_twice (Some bytes) xs ys = ap (λ l. Some l) (in_turn bytes xs ys)

some_head : (format : Format) (planned left frames : ℕ) (piece : List ℕ) → is_empty (sink_text false format planned left frames piece) ≡ false
unfolding head_due
some_head format planned left frames piece = refl

is_headed : (before : List ℕ) (headed : Bool) (format : Format) (planned left frames : ℕ) (piece : List ℕ) → headed ≡ not (is_empty before)
    → true ≡ not (is_empty (before ++ sink_text headed format planned left frames piece))
is_headed (x ∷ xs) headed format planned left frames piece e = refl
is_headed [] headed format planned left frames piece e =
    subst (λ b. true ≡ not (is_empty (sink_text b format planned left frames piece))) (sym e) (ap not (sym (some_head format planned left frames piece)))

pub sub_twice : (a b n : ℕ) → a - b - n ≡ a - (b + n)
sub_twice a b n = omega arith

went_on : (t : Terms) (s : Stream) (n : ℕ) (piece text : List ℕ) (w : Writing) → IsWriting t s w → text ≡ writes_of (begun n (Some w)) piece
    → MatchOption (written (begun n (Some w))) ⊥ (IsWriting t (record s { frames = s.frames + n; written = s.written ++ text }))
went_on t s n piece text w h e = (
  h.0,
  subst (λ l. true ≡ not (is_empty (s.written ++ l))) (sym e) (is_headed s.written w.headed w.format w.planned w.left n piece h.1),
  ap (λ k. k - n) h.2 ∙ sub_twice w.planned s.frames n,
  refl,
)

-- so far the writing of a sink's file has come
pub still_writing : (t : Terms) (s : Stream) (n : ℕ) (piece text : List ℕ) (old new : Option Writing) → MatchOption old ⊥ (IsWriting t s) → text ≡ writes_of (begun n old) piece
    → new ≡ written (begun n old) → MatchOption new ⊥ (IsWriting t (record s { frames = s.frames + n; written = s.written ++ text }))
still_writing t s n piece text None new h e k = absurd h
still_writing t s n piece text (Some w) new h e k =
    subst (λ o. MatchOption o ⊥ (IsWriting t (record s { frames = s.frames + n; written = s.written ++ text }))) (sym k) (went_on t s n piece text w h e)

no_text : (file : Option Attached) (format : Format) (s : Stream) (n : ℕ) (piece : List ℕ) → ((planned : ℕ) → file ≡ Some (To planned) → ⊥) → text_by file format s n piece ≡ []
no_text None format s n piece none = refl
no_text (Some (From f frames)) format s n piece none = refl
no_text (Some (To planned)) format s n piece none = absurd (none planned refl)

if_same : (b : Bool) (xs : List ℕ) → xs ≡ [] → (if b then xs else []) ≡ []
if_same true xs e = e
if_same false xs e = refl

-- what a sink's file takes is the text of the machine, and no other part's file takes any
pub text_is : (t : Terms) (s : Stream) (n : ℕ) (came piece : List ℕ) (writing : Option Writing) → IsOfTerms t writing
    → ((planned : ℕ) → t.file ≡ Some (To planned) → MatchOption writing ⊥ (IsWriting t s)) → (1 ≤ length t.inputs → came ≡ piece)
    → writes_of (begun n writing) came ≡ (if is_sink t.kind then text_by t.file (format_at t 0) s n piece else [])
text_is t s n came piece None none h e = sym (if_same (is_sink t.kind) (text_by t.file (format_at t 0) s n piece) (no_text t.file (format_at t 0) s n piece none))
text_is t s n came piece (Some w) is h e =
    let x : IsWriting t s w = h w.planned is.2 in
    ap (λ b. sink_text b w.format w.planned w.left n came) x.1
    ∙ ap (λ k. sink_text (not (is_empty s.written)) w.format w.planned k n came) x.2
    ∙ ap (λ l. sink_text (not (is_empty s.written)) w.format w.planned (w.planned - s.frames) n l) (e (let one = ap length is.1 in omega (arith, one)))
    ∙ rw (is.0, is.1, is.2) refl
