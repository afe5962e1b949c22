use borrow.Author.Tests.{ne_eqb}
use Rattle.state.specs.Refusal.{number_of, handed_on, some_number}
use Rattle.exports.specs.Exports.{snoop_by}
use Rattle.exports.proofs.snoop.Goals as goal

pub returns-in_err-answer : goal.returns-in_err-answer
unfolding snoop_by
returns-in_err-answer c = rw (handed_on _ _ c.from_residual.ensures, ← c.registers-u.ensures, ← c.bit-g.ensures, ← c.bit-im.ensures, ← c.in_err-answer.ensures, ne_eqb (number_of c.in_err-answer.field-0.0) 0 (some_number _))

pub returns : goal.returns
unfolding snoop_by
returns c = rw (c.snooped.ensures, c.put_registers.ensures, ← c.registers-u.ensures, ← c.bit-g.ensures, ← c.bit-im.ensures, ← c.in_ok-answer.ensures)
