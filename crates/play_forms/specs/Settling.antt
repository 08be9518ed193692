-- Values of the links of a play, one by one, where each follows from those that its giver takes. A rule says what a component gives
-- at an output, by its place and by what comes in at each of its inputs.
use Rattle.std.specs.Prelude.{◌≡◌, ℕ, ◌==◌, ◌&&◌, if◌then◌else◌, List, [], ◌∷◌, length, slice_get, Some}
use Rattle.play_forms.specs.declared.joint.Joint.{Joint}

-- what comes in at an input of the component at a place; nothing, where no link does
abbrev pub into : {A : Type 0} → A → List Joint → List A → ℕ → ℕ → A
into none (joint ∷ joints) (value ∷ values) place input =
    if joint.taker == place && joint.input == input then value else into none joints values place input
into none _ _ place input = none

-- what goes out at an output of the component at a place; nothing, where no link takes it
abbrev pub out_of : {A : Type 0} → A → List Joint → List A → ℕ → ℕ → A
out_of none (joint ∷ joints) (value ∷ values) place output =
    if joint.giver == place && joint.output == output then value else out_of none joints values place output
out_of none _ _ place output = none

-- each link has what its giver gives there
pub record AreSettled {A : Type 0} (rule : ℕ → (ℕ → A) → ℕ → A) (none : A) (joints : List Joint) (values : List A) : Type 0 where
  pub many : length values ≡ length joints
  pub each : (k : ℕ) (joint : Joint) → slice_get joints k ≡ Some joint
      → slice_get values k ≡ Some (rule joint.giver (into none joints values joint.giver) joint.output)

-- the links that the component at a place gives get what it gives; the others keep what they have
abbrev pub with_given : {A : Type 0} → (ℕ → A) → List Joint → List A → ℕ → List A
with_given given (joint ∷ joints) (value ∷ values) place =
    (if joint.giver == place then given joint.output else value) ∷ with_given given joints values place
with_given given _ _ place = []

-- one component after the other gives
abbrev pub given_along : {A : Type 0} → (ℕ → (ℕ → A) → ℕ → A) → A → List Joint → List ℕ → List A → List A
given_along rule none joints [] values = values
given_along rule none joints (place ∷ places) values =
    given_along rule none joints places (with_given (rule place (into none joints values place)) joints values place)
