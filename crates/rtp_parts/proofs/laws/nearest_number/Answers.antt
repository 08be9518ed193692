use Rattle.std.proofs.Common.{arith}
use Rattle.rtp_parts.proofs.laws.nearest_number.Goals as goal

pub returns-clause-is : goal.returns-clause-is
returns-clause-is c = λ greatest sequence low small. record { low = omega arith; high = omega arith; same = omega arith }

pub returns-clause-only : goal.returns-clause-only
returns-clause-only c = λ greatest sequence number low small is. omega (arith, is.low, is.high, is.same)
