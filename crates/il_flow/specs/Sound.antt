-- What is true of each work, and of each that comes back.
use Rattle.std.specs.Prelude.{◌≡◌, ℕ, ◌<◌, ◌≤◌, Bool, true, false, List, [], length, Option, None, is_some}
use Rattle.std.proofs.Math.ListN.{get_or}
use Rattle.part_api.specs.Terms.{Terms}
use Rattle.audio_parts.specs.Shapes.{IsLawful}
use Rattle.header_core.specs.BufferHeader.{BufferHeader, IsSized}
use Rattle.il_flow.specs.Layouts.{ports_of}
use Rattle.il_flow.specs.Places.{AreWithin, EachFrom, carried_from}

-- each output gave a header
abbrev pub HaveOutputs : Terms → List (Option BufferHeader) → Type 0
HaveOutputs t places = (port : ℕ) → length t.inputs ≤ port → port < ports_of t → is_some (get_or places port None) ≡ true

-- The part can do the step, and the headers are those of its ports. An announcement has none.
pub record IsSound (t : Terms) (can_step : Type 0) (places : List (Option BufferHeader)) (announces : Bool) : Type 0 where
  pub lawful : IsLawful t
  pub few : length places ≤ 9
  pub within : AreWithin (ports_of t) 0 places
  pub sized : EachFrom (λ port h. IsSized h) 0 places
  pub ready : announces ≡ false → can_step
  pub outputs : announces ≡ false → HaveOutputs t places
  pub none : announces ≡ true → carried_from 0 places ≡ []

-- Of one that comes back what is set of the part is lawful. An announcement has no header.
pub record IsReturned (t : Terms) (places : List (Option BufferHeader)) (announces : Bool) : Type 0 where
  pub lawful : IsLawful t
  pub none : announces ≡ true → carried_from 0 places ≡ []
