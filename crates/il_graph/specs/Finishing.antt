-- A component's work comes back to a graph, with its part.
use Rattle.std.specs.Prelude.{◌≡◌, Bool, ◌||◌, Option, is_some, IsSomeAnd}
use Rattle.omx_types.specs.declared.fault.PartFault.{PartFault}
use Rattle.part_api.specs.Terms.{Terms}
use Rattle.il_machine.specs.World.{Component, World}
use Rattle.il_machine.specs.Acts as acts
use Rattle.il_machine.specs.Run.{Meets}
use Rattle.il_machine.specs.Stepping.{WorkDone}
use Rattle.il_machine.specs.Whole.{IsBack, PartSeen}

-- in the world the work is out and comes back so, and its part has had through it what then has gone through it
abbrev pub Returns : World → WorkDone → PartSeen → Type 0
Returns w done p = Meets w (acts.Finish done) × IsBack w done p

-- the part has failed by now
abbrev pub failed_by : Option PartFault → Component → Component
failed_by fault c = record c { part = record c.part { failed = c.part.failed || is_some fault } }

-- The work is the component's, an announcement or not, and so is its part: of its kind, with its file, and failed where it failed.
pub record IsItsOwn (c : Component) (announces : Bool) (fault : Option PartFault) (t : Terms) (failed : Bool) : Type 0 where
  pub work : IsSomeAnd c.work (λ work. work.announces ≡ announces)
  pub kind : t.kind ≡ c.settings.kind
  pub its_file : t.file ≡ c.file
  pub so_failed : failed ≡ (c.part.failed || is_some fault)
