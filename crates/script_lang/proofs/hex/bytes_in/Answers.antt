use Rattle.script_lang.proofs.HexWords.{found-word}
use Rattle.script_lang.proofs.hex.bytes_in.Goals as goal

pub returns-clause-some : goal.returns-clause-some
returns-clause-some c = (found-word c.args.word.now c.digits_in.result c.digits_in.ensures).0

pub returns-clause-bytes : goal.returns-clause-bytes
returns-clause-bytes c = (found-word c.args.word.now c.digits_in.result c.digits_in.ensures).1
