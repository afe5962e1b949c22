use Rattle.order.specs.Order.{used_of}
use Rattle.order.specs.Laws.{table, tabled}
use Prim.Native.Nat.{◌/◌, ◌%◌}
use Rattle.order.proofs.tables.next.Goals as goal

pub returns : goal.returns
unfolding table used_of
returns c = tabled (λ k. used_of (k / 4) (k % 4)) 256 _ c.requires
