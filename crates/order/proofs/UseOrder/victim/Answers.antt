use borrow.Author.Rules.{rules}
use Rattle.order.specs.Order.{earliest_of}
use Rattle.order.specs.Laws.{earliest_small}
use mathlib.Core.Path.{◌≡◌, ap, ◌∙◌}
use Rattle.order.proofs.UseOrder.victim.Goals as goal

pub returns : goal.returns
returns c = let e : c.from.result ≡ earliest_of c.bits-code.result = c.from.ensures ∙ c.earliest.ensures in
    (e ∙ ap earliest_of c.bits-code.ensures.0, rw e (earliest_small _ (search rules)))
