use Rattle.state.specs.Refusal.{number_of, handed_on, some_number}
use borrow.Author.Tests.{ne_eqb}
use Rattle.restarts.specs.Restarts.{unit_by}
use Rattle.restarts.proofs.reset.Goals as goal

pub returns-in_err-reset : goal.returns-in_err-reset
unfolding unit_by
returns-in_err-reset c = rw (handed_on _ _ c.from_residual.ensures, ← c.registers-u.ensures, ← c.in_err-reset.ensures, ne_eqb (number_of c.in_err-reset.field-0.0) 0 (some_number _))

pub returns : goal.returns
unfolding unit_by
returns c = rw (c.put_registers.ensures, ← c.registers-u.ensures, ← c.in_ok-reset.ensures)
