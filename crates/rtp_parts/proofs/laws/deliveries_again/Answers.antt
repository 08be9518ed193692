use Rattle.rtp_parts.proofs.DeliveredCodes.{deliveries_unpack}
use Rattle.rtp_parts.proofs.laws.deliveries_again.Goals as goal

pub returns : goal.returns
returns c = deliveries_unpack
