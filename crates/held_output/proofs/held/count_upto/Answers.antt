use Rattle.std.proofs.Common.{nat_le, rules}
use Rattle.std.proofs.lemmas.List.Sorted.{IsPartitionPoint-from_clause, IsPartitionedBy-leb}
use Rattle.held_output.proofs.OnHeld.{IsLimit, IsLimit-from_point, Rises-sorted, take-limit, drop-limit}
use Rattle.held_output.proofs.held.count_upto.Goals as goal

pub returns-clause-parted : goal.returns-clause-parted
returns-clause-parted c =
    let parted = IsPartitionedBy-leb (λ p. p.number) _ c.args.limit (Rises-sorted _ c.requires) in
    let point = IsPartitionPoint-from_clause (λ p. nat_le p.number c.args.limit) _ _ c.partition_point.ensures.partitioned parted (λ a r q k. search rules) in
    let limit : IsLimit c.args.limit c.partition_point.result c.args.pieces.now = IsLimit-from_point _ _ _ c.partition_point.ensures.bound point in
    (take-limit _ _ _ limit, drop-limit _ _ _ limit)
