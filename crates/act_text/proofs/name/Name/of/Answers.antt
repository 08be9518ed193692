use Rattle.std.proofs.Common.{rules}
use Rattle.act_text.specs.Names.{IsName}
use Rattle.act_text.proofs.NameBytes.{padded}
use Rattle.act_text.proofs.name.Name.of.Goals as goal

pub invariant_of-result : goal.invariant_of-result
invariant_of-result c =
    let named : IsName c.args.word.now = search rules in
    padded c.args.word.now named c.copy_from_slice.new.self c.copy_from_slice.ensures.after
