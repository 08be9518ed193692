use Rattle.std.proofs.Common.{rules, ◌-◌}
use Rattle.block_region.proofs.Entries.{homes-most}
use Rattle.block_region.proofs.Counts.{homes-more, outs-more}
use Rattle.block_region.proofs.region.Region.free.Goals as goal

pub overflow_cast-result : goal.overflow_cast-result
overflow_cast-result c = let most = homes-most c.self.inside.roster.home in search rules

pub overflow_add-result : goal.overflow_add-result
overflow_add-result c = let most = homes-most c.self.inside.roster.home in search rules

pub returns-clause-counted : goal.returns-clause-counted
returns-clause-counted c =
    let more = homes-more c.self.inside.roster.home (c.self.inside.blocks - c.self.inside.begun) in
    search rules

pub returns-clause-whole : goal.returns-clause-whole
returns-clause-whole c =
    let more = outs-more c.self.inside.roster.home (c.self.inside.blocks - c.self.inside.begun) in
    search rules
