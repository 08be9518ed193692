use Rattle.std.proofs.Common.{◌∙◌}
use Rattle.header_core.proofs.Keys.{key_number_inj}
use Rattle.header_core.proofs.header.Header.into_memory.Goals as goal

pub give-requires : goal.give-requires
give-requires c = key_number_inj c.in-Region.block.key c.args.region.now.key (c.in-Region.ensures.of_key ∙ c.requires)
