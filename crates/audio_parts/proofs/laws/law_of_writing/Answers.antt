use Rattle.std.proofs.Common.{refl}
use Rattle.audio_parts.proofs.WholeFiles.{texts_are, whole_file}
use Rattle.audio_parts.proofs.laws.law_of_writing.Goals as goal

pub returns : goal.returns
returns c = record { new = λ name format planned. record { head = refl; frames = refl }; text = texts_are; whole = whole_file }
