-- The rule of the words: each holds the last state that was shown of its component, and how many were shown before it.
use Rattle.std.specs.Prelude.{◌≡◌, ℕ, ◌+◌, ◌-◌, ◌*◌, ◌<◌, List, [], ◌∷◌, ◌++◌, map, length, slice_index_or, slice_set, true, false}
use mathlib.Core.Option.{some}
use lib.ListN.{get_elem?}
use Rattle.atomic_table.specs.Table.{Me, Step}
use Rattle.atomic_table.specs.Table as table
use Rattle.omx_types.specs.declared.state.State.{State}
use Rattle.omx_types.specs.declared.state.State.TheVariants.{Invalid}
use Rattle.omx_types.specs.Numbers.{state_number}
use Rattle.state_words.specs.declared.view.View.{View}

-- the states of one component, in the order in which they were shown: the version of a state is its place
abbrev pub States : Type 0
States = List State

abbrev pub Begins : States → States → Type 0
Begins xs ys = (rest : States) × (xs ++ rest ≡ ys)

-- what is known of a component
abbrev pub states_of : List States → ℕ → States
states_of known index = slice_index_or known index []

-- the last version that is known of a component
abbrev pub version_of : List States → ℕ → ℕ
version_of known index = length (states_of known index) - 1

-- the last that is known of a component is this version and state
abbrev pub LastIs : List States → ℕ → ℕ → State → Type 0
LastIs known index version state = (length (states_of known index) ≡ version + 1) × (get_elem? (states_of known index) version ≡ some state)

-- what is known of each component is a beginning of what is known there
abbrev pub Within : List States → List States → Type 0
Within xs ys = (index : ℕ) → Begins (states_of xs index) (states_of ys index)

-- one more state of a component was shown
abbrev pub after : List States → ℕ → State → List States
after known index state = slice_set known index (states_of known index ++ state ∷ [])

abbrev pub last_or : State → States → State
last_or d [] = d
last_or d (x ∷ xs) = last_or x xs

-- the word of a component with these states: its version times 8, and the number of its state
abbrev pub word_of : States → ℕ
word_of l = (length l - 1) * 8 + state_number (last_or Invalid l)

abbrev pub words_of : List States → List ℕ
words_of shown = 0 ∷ map word_of shown

-- each component was shown in one state
abbrev pub firsts : States → List States
firsts states = map (λ s. s ∷ []) states

abbrev pub Opening : States → List ℕ → Type 0
Opening states words = words ≡ 0 ∷ map state_number states

abbrev pub opens : States → View
opens states = record { shows = true; spent = false; seen = firsts states; also = [] }

abbrev pub reader : View → View
reader v = record { shows = false; spent = v.spent; seen = v.seen; also = [] }

abbrev pub merged : View → View → View
merged v w = record v { also = w.seen }

abbrev pub nobody : View
nobody = record { shows = false; spent = true; seen = []; also = [] }

abbrev pub learned : View → List States → View
learned v seen = record v { seen = seen; also = [] }

pub record Fits (shown : List States) (id : ℕ) (v : View) : Type 0 where
  pub shower : v.shows ≡ true → (id ≡ 0) × (v.seen ≡ shown)
  pub seen : Within v.seen shown
  pub also : Within v.also shown
  pub each : v.spent ≡ false → length v.seen ≡ length shown

-- the shower knows all that was shown, and the last state of each is what its word holds
pub record Kept (s : table.State (Unit {0}) View) : Type 0 where
  pub shown : List States
  pub words : s.words ≡ words_of shown
  pub some_state : (index : ℕ) → index < length shown → 0 < length (states_of shown index)
  pub fits : (id : ℕ) (v : View) → get_elem? s.views id ≡ some v → Fits shown id v

-- the states that were shown so far are known, and the word found is that of its component
pub record Looks (s : Step (Unit {0})) (m : Me (Unit {0}) View) (n : ℕ) (m' : Me (Unit {0}) View) : Type 0 where
  pub shown : List States
  pub after : m' ≡ (learned m.0 shown, m.1)
  pub seen : Within m.0.seen shown
  pub also : Within m.0.also shown
  pub each : m.0.spent ≡ false → length shown ≡ length m.0.seen
  pub found : 0 < s.word → s.word - 1 < length shown → (n ≡ word_of (states_of shown (s.word - 1))) × (0 < length (states_of shown (s.word - 1)))
  pub shower : m.0.shows ≡ true → shown ≡ m.0.seen

-- one more state of the word's component is known
abbrev pub Shows : Step (Unit {0}) → Me (Unit {0}) View → ℕ → Me (Unit {0}) View → Type 0
Shows s m n m' = (x : State) → s.word - 1 < length m.0.seen → s.first ≡ word_of (states_of m.0.seen (s.word - 1) ++ x ∷ []) → m' ≡ (learned m.0 (after m.0.seen (s.word - 1) x), m.1)
