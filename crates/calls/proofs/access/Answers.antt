use Rattle.std.proofs.Common.{sym}
use borrow.Author.Tests.{ne_eqb}
use Rattle.state.specs.Refusal.{number_of, handed_on, some_number}
use Rattle.refusals.specs.Refusals.{access_cells}
use Rattle.calls.specs.Calls.{access_by}
use Rattle.calls.proofs.access.Goals as goal

pub returns-in_err-access : goal.returns-in_err-access
unfolding access_by
returns-in_err-access c = rw (handed_on _ _ c.from_residual.ensures, ← c.in_err-access.ensures, ne_eqb (number_of c.in_err-access.field-0.0) 0 (some_number _))

pub unreachable-requires : goal.unreachable-requires
unreachable-requires c = c.in_default.ensures.cases (access_cells _ _ _ _ _ (sym c.in_ok-access.ensures))

pub returns : goal.returns
unfolding access_by
returns c = rw (← c.in_ok-access.ensures, ← c.in-Some.ensures.cases.same, ← c.access-2.ensures)
