use Rattle.exports.specs.Exports.{access_by}
use Rattle.exports.proofs.any_access.Goals as goal

pub returns : goal.returns
unfolding access_by
returns c = rw (c.put_registers.ensures, c.put_answer.ensures, ← c.registers-u.ensures, ← c.access-access.ensures, ← c.access-answer.ensures)
