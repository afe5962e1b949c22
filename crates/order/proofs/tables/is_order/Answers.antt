use Rattle.order.specs.Order.{is_order}
use Rattle.order.proofs.Tests.{answers, answered}
use Rattle.order.proofs.tables.is_order.Goals as goal

pub returns : goal.returns
unfolding answers is_order
returns c = answered is_order 64 _ c.requires
