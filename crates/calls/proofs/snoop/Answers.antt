use Rattle.std.proofs.Common.{sym}
use borrow.Author.Tests.{ne_eqb}
use Rattle.state.specs.Refusal.{number_of, handed_on, some_number}
use Rattle.refusals.specs.Refusals.{snoop_cells}
use Rattle.calls.specs.Calls.{snoop_by}
use Rattle.calls.proofs.snoop.Goals as goal

pub returns-in_err-snoop : goal.returns-in_err-snoop
unfolding snoop_by
returns-in_err-snoop c = rw (handed_on _ _ c.from_residual.ensures, ← c.in_err-snoop.ensures, ne_eqb (number_of c.in_err-snoop.field-0.0) 0 (some_number _))

pub unreachable-requires : goal.unreachable-requires
unreachable-requires c = c.in_default.ensures.cases (snoop_cells _ _ _ (sym c.in_ok-snoop.ensures))

pub returns : goal.returns
unfolding snoop_by
returns c = rw (← c.in_ok-snoop.ensures, ← c.in-Some.ensures.cases.same, ← c.snoop-2.ensures)
