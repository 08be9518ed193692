-- The links of a play by their outputs (false) and inputs (true).
use Rattle.std.specs.Prelude.{ℕ, Bool, not}
use Rattle.il_machine.specs.declared.port.PortKey.{PortKey}
use Rattle.play_world_laws.specs.Cast.{Cast}
use Rattle.play_world_laws.specs.PlayWorlds.{end_of_link}

abbrev pub sides_of : Cast → Bool → ℕ → PortKey
sides_of x input l = end_of_link x (not input) l
