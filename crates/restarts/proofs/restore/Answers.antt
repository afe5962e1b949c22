use Rattle.state.specs.Refusal.{number_of, handed_on, some_number}
use borrow.Author.Tests.{ne_eqb}
use Rattle.restarts.specs.Restarts.{unit_by}
use Rattle.restarts.proofs.restore.Goals as goal

pub returns-in_err-restore : goal.returns-in_err-restore
unfolding unit_by
returns-in_err-restore c = rw (handed_on _ _ c.from_residual.ensures, ← c.registers-u.ensures, ← c.in_err-restore.ensures, ne_eqb (number_of c.in_err-restore.field-0.0) 0 (some_number _))

pub returns : goal.returns
unfolding unit_by
returns c = rw (c.put_registers.ensures, ← c.registers-u.ensures, ← c.in_ok-restore.ensures)
