use Rattle.wav_form.proofs.Again.{Reads-again}
use Rattle.wav_form.proofs.laws.head_again.Goals as goal

pub returns : goal.returns
returns c = Reads-again
