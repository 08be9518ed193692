-- One component in place of another of the same handle, with the same settings and links of ports and the same headers in its notes.
use Rattle.std.specs.Prelude.{◌≡◌, map, Option}
use Rattle.il_machine.specs.declared.port.Link.{Link}
use Rattle.il_machine.specs.declared.port.PortState.{PortState}
use Rattle.il_machine.specs.World.{Component}
use Rattle.il_machine.specs.Census.{note_numbers}

abbrev pub link_of : PortState → Option Link
link_of p = p.link

pub record IsChange (c d : Component) : Type 0 where
  pub handle : d.handle ≡ c.handle
  pub ports : d.settings.ports ≡ c.settings.ports
  pub links : map link_of d.ports ≡ map link_of c.ports
  pub notes : note_numbers d.notes ≡ note_numbers c.notes
