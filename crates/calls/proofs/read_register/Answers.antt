use borrow.Author.Tests.{ne_eqb}
use Rattle.state.specs.Refusal.{number_of, handed_on, some_number}
use Rattle.calls.specs.Calls.{read_by}
use Rattle.calls.proofs.read_register.Goals as goal

pub returns-in_err-read : goal.returns-in_err-read
unfolding read_by
returns-in_err-read c = rw (handed_on _ _ c.from_residual.ensures, ← c.in_err-read.ensures, ne_eqb (number_of c.in_err-read.field-0.0) 0 (some_number _))

pub returns : goal.returns
unfolding read_by
returns c = rw (← c.in_ok-read.ensures, c.read-2.ensures)
