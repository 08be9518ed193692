-- Client objects that are out.
use Rattle.std.specs.Prelude.{◌≡◌, true, Err, Result, MatchOption}
use Rattle.omx_types.specs.declared.handle.Handle.{Handle}
use Rattle.omx_types.specs.declared.error.OmxError.{OmxError}
use Rattle.il_machine.specs.World.{World}
use Rattle.il_machine.specs.Answers.{component_named}

-- the handle names a component whose client object is out
abbrev pub IsObjectOut : Handle → World → Type 0
IsObjectOut h w = MatchOption (component_named h w.components) ⊥ (λ c. c.client_out ≡ true)

-- the call was refused, and left the world as it was
abbrev pub IsRefused : {T : Type 0} → Result T OmxError → World → World → Type 0
IsRefused result w v = (e : OmxError) × (result ≡ Err e) × (v ≡ w)
