-- The parts of a word around its first dot.
use Rattle.std.proofs.Common.{◌≡◌, ℕ, zero, suc, ◌+◌, ◌≤◌, ◌<◌, ◌^◌, ◌==◌, true, false, IsFalse, IfSome, IfNone, List, [], ◌∷◌, ◌++◌, length, get_or, take, drop, refl, sym, ap, ◌∙◌, subst, arith, Option, Some, None, rules}
use Rattle.std.specs.Fmt.{decimal}
use Rattle.std.specs.List.{list_all}
use Rattle.std.proofs.lemmas.Grind.{common_steps}
use Rattle.act_text.specs.Names.{is_name, is_name_byte, IsName}
use Rattle.act_text.specs.Ports.{IsPortName, port_word}
use Rattle.act_text.specs.declared.name.PortName.{PortName}
use Rattle.act_text.specs.Reading.{both, name_of, port_of, before_dot, after_dot, port_name}
use Rattle.line_text.specs.ReadNumbers.{small_number}
use Rattle.line_text.proofs.Numerals.{number_below-decimal}

no_dot : (b : ℕ) → (b ≡ 46 → ⊥) → (b == 46) ≡ false
no_dot b other = Prim.grind (arith, common_steps)

-- the place of the first dot parts a word
pub dot-parts : (place : ℕ) (word : List ℕ) → place ≤ length word → ((k : ℕ) → k < place → get_or word k 0 ≡ 46 → ⊥) → (place < length word → get_or word place 0 ≡ 46) → (before_dot word ≡ take place word) × (after_dot word ≡ drop (place + 1) word)
dot-parts zero [] within before at = (refl, refl)
dot-parts zero (byte ∷ bytes) within before at =
    let dot : byte ≡ 46 = at (omega arith) in
    (rw dot refl, rw dot refl)
dot-parts (suc place) [] within before at = absurd (omega arith)
dot-parts (suc place) (byte ∷ bytes) within before at =
    let other = no_dot byte (before 0 (omega arith)) in
    let parts = dot-parts place bytes (omega arith) (λ k below. before (suc k) (omega arith)) (λ below. at (omega arith)) in
    let next : suc place + 1 ≡ suc (place + 1) = omega arith in
    (rw (other, parts.0) refl, rw (next, other, parts.1) refl)

name_byte-no_dot : (b : ℕ) → is_name_byte b ≡ true → (b == 46) ≡ false
name_byte-no_dot b is = Prim.grind (arith, common_steps)

-- bytes of a name come before the dot
bytes-before : (name rest : List ℕ) → list_all is_name_byte name ≡ true → (before_dot (name ++ (46 ∷ rest)) ≡ name) × (after_dot (name ++ (46 ∷ rest)) ≡ rest)
bytes-before [] rest is = (refl, refl)
bytes-before (byte ∷ bytes) rest is =
    let first : is_name_byte byte ≡ true = Prim.grind (arith, common_steps) in
    let others : list_all is_name_byte bytes ≡ true = Prim.grind (arith, common_steps) in
    let other = name_byte-no_dot byte first in
    let parts = bytes-before bytes rest others in
    (rw (other, parts.0) refl, rw (other, parts.1) refl)

pub name-bytes : (name : List ℕ) → IsName name → list_all is_name_byte name ≡ true
name-bytes [] is = refl
name-bytes (first ∷ rest) is = Prim.grind (arith, common_steps)

pub name_of-name : (name : List ℕ) → IsName name → name_of name ≡ Some name
unfolding name_of
name_of-name name is = let test : is_name name ≡ true = search rules in rw test refl

pub name_of-other : (word : List ℕ) → IsFalse (is_name word) → None ≡ name_of word
unfolding name_of
name_of-other word other = let test : is_name word ≡ false = search rules in rw test refl

-- a word that is a name, or none
pub name_of-read : (word : List ℕ) (r : Option (List ℕ)) → IfSome r (λ name. name ≡ word) → IfSome r IsName → IfNone r (IsFalse (is_name word)) → r ≡ name_of word
name_of-read word (Some name) same named none = ap Some same ∙ sym (name_of-name word (subst IsName same named))
name_of-read word None same named none = name_of-other word none

-- a port is read back
pub port_of-port : (port : PortName) → IsPortName port → port_of (port_word port) ≡ Some port
unfolding port_of
port_of-port port is =
    let parts = bytes-before port.component (decimal port.index) (name-bytes port.component is.named) in
    let fits : port.index < 2 ^ 64 = omega (arith, is.fits) in
    let name = name_of-name port.component is.named in
    let index = number_below-decimal (2 ^ 32) port.index fits is.fits in
    rw (parts.0, parts.1, name, index) refl

-- what the parts around the first dot are, the port is
pub port_of-parts : (place : ℕ) (word : List ℕ) → place ≤ length word → ((k : ℕ) → k < place → get_or word k 0 ≡ 46 → ⊥) → (place < length word → get_or word place 0 ≡ 46) → (name : Option (List ℕ)) (index : Option ℕ) → name ≡ name_of (take place word) → index ≡ small_number (drop (place + 1) word) → both name index port_name ≡ port_of word
unfolding port_of
port_of-parts place word within before at name index name_is index_is =
    let parts = dot-parts place word within before at in
    rw (name_is, index_is, parts.0, parts.1) refl
