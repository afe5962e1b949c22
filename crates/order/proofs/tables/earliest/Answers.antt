use Rattle.order.specs.Order.{earliest_of}
use Rattle.order.specs.Laws.{table, tabled}
use Rattle.order.proofs.tables.earliest.Goals as goal

pub returns : goal.returns
unfolding table earliest_of
returns c = tabled earliest_of 64 _ c.requires
