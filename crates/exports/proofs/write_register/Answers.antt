use borrow.Author.Tests.{ne_eqb}
use Rattle.state.specs.Refusal.{number_of, handed_on, some_number}
use Rattle.exports.specs.Exports.{write_by}
use Rattle.exports.proofs.write_register.Goals as goal

pub returns-in_err-moved : goal.returns-in_err-moved
unfolding write_by
returns-in_err-moved c = rw (handed_on _ _ c.from_residual.ensures, ← c.registers-u.ensures, ← c.in_err-moved.ensures, ne_eqb (number_of c.in_err-moved.field-0.0) 0 (some_number _))

pub returns : goal.returns
unfolding write_by
returns c = rw (c.put_registers.ensures, ← c.registers-u.ensures, ← c.in_ok-moved.ensures)
