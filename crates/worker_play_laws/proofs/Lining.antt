-- The lines of entries, one after the other.
use Rattle.std.proofs.Common.{◌≡◌, ℕ, ◌+◌, Bool, true, false, not, All, List, [], ◌∷◌, map, Option, Some, None, sym, refl, ◌∙◌, ap, subst}
use Rattle.std.specs.Prelude.{cond, filter}
use Rattle.std.proofs.lemmas.List.Elements.{All-cons, All-head, All-nil, All-tail, filter_passes}
use Rattle.play_log.specs.Choosing.{chosen, picked}
use Rattle.play_log.specs.Entries.{Entry, is_unprinted, printed}
use Rattle.play_log.specs.Lines.{IsLogLine, LogLine}
use Rattle.play_log.specs.Logged.{AllSay, AreLinesOf}
use Rattle.play_log.specs.Places.{PlacedLine}
use Rattle.play_log.specs.Saying.{Says}
use Rattle.play_log.specs.Scenes.{Scene}

abbrev pub line_in : PlacedLine → LogLine
line_in l = l.line

module _ (scene : Scene) where
  -- the entry has this line, or is one that a log leaves out
  abbrev pub IsLined : Option LogLine → Entry → Type 0
  IsLined None entry = is_unprinted entry.reply ≡ true
  IsLined (Some line) entry = IsLogLine line × Says scene line entry × (is_unprinted entry.reply ≡ false)

  one : (o : Option LogLine) (n : ℕ) (entry : Entry) (rest : List PlacedLine) (entries : List Entry) → IsLined o entry → AreLinesOf scene entries (map line_in rest) → AreLinesOf scene (entry ∷ entries) (map line_in (picked o n rest))
  one None n entry rest entries is L = record {
    canonical = L.canonical;
    say = subst (λ (b : Bool). AllSay scene (map line_in rest) (cond (not b) (entry ∷ printed entries) (printed entries))) (sym is) L.say;
  }
  one (Some line) n entry rest entries is L = record {
    canonical = All-cons IsLogLine line (map line_in rest) is.0 L.canonical;
    say = subst (λ (b : Bool). AllSay scene (line ∷ map line_in rest) (cond (not b) (entry ∷ printed entries) (printed entries))) (sym is.2) (is.1, L.say);
  }

  module _ {E : Type 0} (says : E → Option LogLine) where
    abbrev pub AreLined : List E → List Entry → Type 0
    AreLined [] [] = Unit {0}
    AreLined (e ∷ es) (entry ∷ entries) = IsLined (says e) entry × AreLined es entries
    AreLined _ _ = ⊥

    pub are_lines : (n : ℕ) (es : List E) (entries : List Entry) → AreLined es entries → AreLinesOf scene entries (map line_in (chosen says n es))
    are_lines n [] [] A = record { canonical = All-nil IsLogLine; say = tt }
    are_lines n [] (entry ∷ entries) A = absurd A
    are_lines n (e ∷ es) [] A = absurd A
    are_lines n (e ∷ es) (entry ∷ entries) A = one (says e) n entry (chosen says (n + 1) es) entries A.0 (are_lines (n + 1) es entries A.1)

-- ---- of the entries that are printed each is printed

filter_same : {X : Type 0} (p : X → Bool) (xs : List X) → All (λ x. p x ≡ true) xs → filter p xs ≡ xs
filter_same p [] A = refl
filter_same {X} p (x ∷ xs) A =
    ap (λ (b : Bool). cond b (x ∷ filter p xs) (filter p xs)) (All-head (λ y. p y ≡ true) x xs A) ∙ ap (λ (ys : List X). x ∷ ys) (filter_same p xs (All-tail (λ y. p y ≡ true) x xs A))

pub printed_again : (entries : List Entry) → printed (printed entries) ≡ printed entries
printed_again entries =
    let test = λ (entry : Entry). not (is_unprinted entry.reply) in
    filter_same test (printed entries) (filter_passes test entries)
