-- A file that comes to a component, as its owner tells of it.
use Rattle.std.specs.Prelude.{ℕ, List, Option}
use Rattle.part_api.specs.declared.attached.Attached.{Attached}
use Rattle.part_api.specs.declared.attached.Attached.TheVariants.{From, To}
use Rattle.il_machine.specs.Files.{Offered, OfferedFrom, OfferedTo}

-- by the frames for which it comes, how many bytes it has from its place to its size, which matters only where it is read, and what it tells
abbrev pub offered : Attached → ℕ → Option (List ℕ) → Offered
offered (From format frames) there known = OfferedFrom format frames there known
offered (To planned) there known = OfferedTo planned known
