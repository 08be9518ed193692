-- Lists of words, and the text that they are.
use Rattle.std.specs.Prelude.{◌≡◌, ℕ, List, ◌∷◌, ◌++◌, map, take, drop}
use Rattle.std.specs.Fmt.{decimal}
use Rattle.std.specs.List.{flat_map}
use Rattle.std.specs.Borrow.{Bor}
use Rattle.act_text.specs.Ports.{port_word}
use Rattle.act_text.specs.declared.put.Word.{Word}
use Rattle.act_text.specs.declared.put.Word.TheVariants.{Bytes, Port, Number}

-- the bytes of a word that is to be put
abbrev pub word_bytes : Word → List ℕ
word_bytes (Bytes bytes) = bytes.now
word_bytes (Port port) = port_word port.now
word_bytes (Number number) = decimal number

abbrev pub put_words : List Word → List (List ℕ)
put_words words = map word_bytes words

-- bytes were appended
pub record IsGrown (old new : List ℕ) : Type 0 where
  pub rest : List ℕ
  pub is : new ≡ old ++ rest
