use Rattle.play_forms.proofs.Plainly.{plain_is}
use Rattle.play_forms.proofs.laws.law_of_plain.Goals as goal

pub returns : goal.returns
returns c = record { plain = plain_is }
