use denote.RattleType.{RattleType}
use denote.Param.Send.{IsSync}
use Rattle.std.specs.declared.alloc.Allocator.{Ghosts}
use Rattle.block_region.proofs.Crosses.{sole-sync}
use Rattle.block_region.specs.contracts.memory.Sole as C

pub sync : (A : RattleType) (g : Ghosts A.Denot) → IsSync (C.the_row A g)
sync = sole-sync
