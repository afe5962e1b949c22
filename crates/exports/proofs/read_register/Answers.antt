use borrow.Author.Tests.{ne_eqb}
use Rattle.state.specs.Refusal.{number_of, handed_on, some_number}
use Rattle.exports.specs.Exports.{read_by}
use Rattle.exports.proofs.read_register.Goals as goal

pub returns-in_err-read_register : goal.returns-in_err-read_register
unfolding read_by
returns-in_err-read_register c = rw (handed_on _ _ c.from_residual.ensures, ← c.registers-u.ensures, ← c.in_err-read_register.ensures, ne_eqb (number_of c.in_err-read_register.field-0.0) 0 (some_number _))

pub returns : goal.returns
unfolding read_by
returns c = rw (← c.registers-u.ensures, ← c.in_ok-read_register.ensures)
