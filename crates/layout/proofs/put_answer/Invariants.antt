-- the head, the rows so far, and zeros
use Rattle.std.proofs.Common.{◌≡◌, ◌≤◌}
use Rattle.layout.proofs.Rows.{stage}
use Rattle.layout.proofs.put_answer.Given as goal

abbrev pub invariant-loop-i : goal.invariant-loop-i
invariant-loop-i l = (l.i ≤ 6) × (l.reply ≡ stage l.fn.a l.i)
