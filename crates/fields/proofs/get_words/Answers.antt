use Rattle.std.proofs.Common.{sym, ◌∙◌, arith}
use lib.ListN.{length-set}
use Rattle.fields.specs.Laws.{read_one, read_all}
use Rattle.fields.proofs.get_words.Goals as goal

pub loop-i-preserved : goal.loop-i-preserved
loop-i-preserved c =
    let l = c.loop-i in
    (omega arith, simp length-set (omega arith), rw c.word_at.ensures (read_one _ _ l.out _ l.i l.invariant.1 (omega arith) ∙ l.invariant.2))

pub returns : goal.returns
returns c = let l = c.loop-i in sym (read_all _ _ l.out _ l.i l.invariant.1 (omega arith)) ∙ l.invariant.2
