use Rattle.audio_parts.proofs.PortFrames.{has_frames}
use Rattle.audio_parts.proofs.laws.frames_by_format.Goals as goal

pub returns : goal.returns
returns c = has_frames
