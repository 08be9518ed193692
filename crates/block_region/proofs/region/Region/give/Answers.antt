use Rattle.std.proofs.Common.{rules, ◌-◌, replicate, true}
use Rattle.block_region.proofs.Entries.{homes-most}
use Rattle.block_region.proofs.Counts.{is_home-before, marked-before}
use Rattle.block_region.proofs.region.Region.give.Goals as goal

pub push_reserved-requires : goal.push_reserved-requires
push_reserved-requires c = let most = homes-most c.replace_with-ticket.new.dest.home in search rules

pub returns-clause-was_out : goal.returns-clause-was_out
returns-clause-was_out c =
    let before = is_home-before c.self.inside.roster.home (replicate (c.self.inside.blocks - c.self.inside.begun) true) c.args.block.number in
    search rules

pub returns-clause-given : goal.returns-clause-given
returns-clause-given c =
    let before = marked-before c.self.inside.roster.home (replicate (c.self.inside.blocks - c.self.inside.begun) true) c.args.block.number true in
    search rules
