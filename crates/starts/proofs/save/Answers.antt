use Rattle.std.proofs.Common.{sym}
use Rattle.state.specs.Refusal.{number_of, handed_on, some_number}
use borrow.Author.Tests.{ne_eqb}
use Rattle.refusals.specs.Refusals.{save_cells}
use Rattle.starts.specs.Starts.{save_by}
use Rattle.starts.proofs.save.Goals as goal

pub returns-in_err-save : goal.returns-in_err-save
unfolding save_by
returns-in_err-save c = rw (handed_on _ _ c.from_residual.ensures, ← c.in_err-save.ensures, ne_eqb (number_of c.in_err-save.field-0.0) 0 (some_number _))

pub unreachable-requires : goal.unreachable-requires
unreachable-requires c = c.in_default.ensures.cases (save_cells _ _ (sym c.in_ok-save.ensures))

pub returns : goal.returns
unfolding save_by
returns c = rw (← c.in_ok-save.ensures, ← c.in-Some.ensures.cases.same, ← c.save-2.ensures)
