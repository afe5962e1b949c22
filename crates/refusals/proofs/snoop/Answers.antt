use Rattle.std.proofs.Common.{◌∙◌}
use Rattle.state.specs.Refusal.{handed_on}
use Rattle.refusals.specs.Refusals.{snoop_refusal, stops, goes_on}
use Rattle.refusals.proofs.snoop.Goals as goal

pub returns-in_err-ram_test : goal.returns-in_err-ram_test
unfolding snoop_refusal
returns-in_err-ram_test c = rw (handed_on _ _ c.from_residual.ensures) (stops _ 1 _ _ c.in_err-ram_test.ensures)

pub returns-in_err-cells_test : goal.returns-in_err-cells_test
unfolding snoop_refusal
returns-in_err-cells_test c = rw (handed_on _ _ c.from_residual-in_err-cells_test.ensures) (stops _ 3 _ _ c.in_err-cells_test.ensures ∙ goes_on _ 0 _ c.in_ok-ram_test.ensures)

pub returns : goal.returns
unfolding snoop_refusal
returns c = c.address_test.ensures ∙ goes_on _ 2 _ c.in_ok-cells_test.ensures ∙ goes_on _ 0 _ c.in_ok-ram_test.ensures
