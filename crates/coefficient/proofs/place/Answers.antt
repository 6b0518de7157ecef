-- `coefficient::place` meets its contract: the keys rise, so the last one that is at most m stands before the first that is not.
-- Assumes nothing.
use Rattle.std.proofs.Common.{◌≡◌, ℕ, leb, true, false, arith, rules}
use Rattle.std.specs.List.Sorted.{IsPartitionPoint}
use Rattle.std.proofs.lemmas.List.Sorted.{IsPartitionPoint-from_clause}
use Rattle.coefficient.specs.Table.{pairs}
use Rattle.coefficient.proofs.Pairs.{parted, some, reached}
use Rattle.coefficient.proofs.place.Goals as goal

point : (c : goal.After-partition_point) → IsPartitionPoint {X = ℕ × ℕ} (λ p. leb p.0 c.args.m ≡ true) (λ p. leb p.0 c.args.m ≡ false) pairs c.partition_point.result
point c =
    IsPartitionPoint-from_clause {X = ℕ × ℕ} (λ p. leb p.0 c.args.m) _ _ (rw c.table2.ensures at c.partition_point.ensures.partitioned) (parted c.args.m) (λ a r q k. search rules)

pub overflow_sub-result : goal.overflow_sub-result
overflow_sub-result c = some _ _ c.requires (omega (arith, c.partition_point.ensures.bound)) (point c)

pub returns : goal.returns
returns c = reached _ _ c.requires (omega (arith, c.partition_point.ensures.bound)) (point c)
