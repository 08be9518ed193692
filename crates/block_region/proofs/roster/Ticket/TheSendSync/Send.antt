use denote.Param.Send.{IsSend}
use Rattle.block_region.proofs.Crosses.{ticket-send}
use Rattle.block_region.specs.contracts.roster.Ticket as C

pub send : IsSend C.the_row
send = ticket-send
