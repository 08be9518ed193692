use Rattle.std.proofs.Common.{sym, arith}
use Rattle.std.proofs.lemmas.Grind.{common_steps}
use Rattle.act_text.proofs.ActsAgain.{act_of-other}
use Rattle.act_text.proofs.read_acts.of_more.Goals as goal
use Rattle.act_text.proofs.read_acts.of_more.Goals.{in_default-via-then-rest-lt1, in_default-via-else-rest-lt1+else-rest-lt2+then-rest-lt3, in_default-via-else-rest-lt1+else-rest-lt2+else-rest-lt3+else-rest-lt4+then-rest-lt5, in_default-via-else-rest-lt1+else-rest-lt2+else-rest-lt3+else-rest-lt4+else-rest-lt5+else-rest-lt6}

pub returns-in_default-clause-is : goal.returns-in_default-clause-is
returns-in_default-clause-is c = sym (act_of-other c.args.verb.now c.args.subject.now c.args.what.now c.args.rest.now c.requires (Prim.grind (arith, common_steps)) (Prim.grind (arith, common_steps)) (Prim.grind (arith, common_steps)))
