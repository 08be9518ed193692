use Rattle.std.proofs.Common.{length}
use Rattle.il_flow.proofs.frames.+least_frames.Given as goal

abbrev pub decreases-least_frames : goal.decreases-least_frames
decreases-least_frames l = length l.places.now
