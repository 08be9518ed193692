use denote.Param.Send.{IsSend}
use Rattle.block_region.proofs.Crosses.{seal-send}
use Rattle.block_region.specs.contracts.seal.Seal as C

pub send : IsSend C.the_row
send = seal-send
