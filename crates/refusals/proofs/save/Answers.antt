use Rattle.std.proofs.Common.{◌∙◌}
use Rattle.state.specs.Refusal.{handed_on}
use Rattle.refusals.specs.Refusals.{save_refusal, stops, goes_on}
use Rattle.refusals.proofs.save.Goals as goal

pub returns-in_err-cells_test : goal.returns-in_err-cells_test
unfolding save_refusal
returns-in_err-cells_test c = rw (handed_on _ _ c.from_residual.ensures) (stops _ 3 _ _ c.in_err-cells_test.ensures)

pub returns : goal.returns
unfolding save_refusal
returns c = c.out_test.ensures ∙ goes_on _ 2 _ c.in_ok-cells_test.ensures
