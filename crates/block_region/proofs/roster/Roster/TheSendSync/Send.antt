use denote.Param.Send.{IsSend}
use Rattle.block_region.proofs.Crosses.{roster-send}
use Rattle.block_region.specs.contracts.roster.Roster as C

pub send : IsSend C.the_row
send = roster-send
