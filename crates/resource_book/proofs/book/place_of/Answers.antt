use Rattle.std.proofs.Common.{rules}
use Rattle.std.proofs.lemmas.List.Sorted.{IsPartitionPoint-from_clause}
use Rattle.resource_book.specs.Rows.{is_below}
use Rattle.resource_book.proofs.Standing.{are_parted, parted_at}
use Rattle.resource_book.proofs.book.place_of.Goals as goal

pub returns : goal.returns
returns c =
    let n = c.args.component in
    let rows = c.args.rows.now in
    parted_at (is_below n) rows c.partition_point.result c.partition_point.ensures.bound
    (IsPartitionPoint-from_clause (is_below n) rows c.partition_point.result c.partition_point.ensures.partitioned (are_parted n rows c.requires) (λ a r f' k. search rules))
