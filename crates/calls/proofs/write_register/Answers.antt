use Rattle.std.proofs.Common.{sym}
use borrow.Author.Tests.{ne_eqb}
use Rattle.state.specs.Refusal.{number_of, handed_on, some_number}
use Rattle.refusals.specs.Refusals.{write_cells}
use Rattle.calls.specs.Calls.{write_by}
use Rattle.calls.proofs.write_register.Goals as goal

pub returns-in_err-write : goal.returns-in_err-write
unfolding write_by
returns-in_err-write c = rw (handed_on _ _ c.from_residual.ensures, ← c.in_err-write.ensures, ne_eqb (number_of c.in_err-write.field-0.0) 0 (some_number _))

pub unreachable-requires : goal.unreachable-requires
unreachable-requires c = c.in_default.ensures.cases (write_cells _ _ _ _ (sym c.in_ok-write.ensures))

pub returns : goal.returns
unfolding write_by
returns c = rw (← c.in_ok-write.ensures, ← c.in-Some.ensures.cases.same, ← c.write_register.ensures)
