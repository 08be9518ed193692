-- Lists of words, and the text that they are.
use Rattle.std.specs.Prelude.{ℕ, List, ◌∷◌, map, take, drop}
use Rattle.std.specs.List.{flat_map}
use Rattle.std.specs.Borrow.{Bor}
use Rattle.line_text.specs.declared.line_words.LineWords.{LineWords}

-- the bytes of each word
abbrev pub texts : List (Bor (List ℕ)) → List (List ℕ)
texts words = map (λ word. word.now) words

-- the words of a line that are held
abbrev pub held_words : LineWords → List (List ℕ)
held_words words = texts (take words.count words.room)

-- a space before each word
abbrev pub after_spaces : List (List ℕ) → List ℕ
after_spaces words = flat_map (λ word. 32 ∷ word) words

-- the words, parted by one space
abbrev pub spaced : List (List ℕ) → List ℕ
spaced words = drop 1 (after_spaces words)
