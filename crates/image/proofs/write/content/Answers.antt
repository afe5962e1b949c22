use mathlib.Core.Path.{sym, ◌∙◌}
use native.Mathlib.Omega.{arith}
use Rattle.saved.specs.Laws.{put_one, put_all}
use Rattle.image.proofs.write.content.Goals as goal

pub loop-i-preserved : goal.loop-i-preserved
loop-i-preserved c =
    let l = c.loop-i in
    (omega arith, c.put_word.auto.out ∙ l.invariant.1, rw (c.put_word.ensures, c.own_word.ensures) (put_one _ _ l.out _ l.i (omega arith)) ∙ l.invariant.2)

pub returns : goal.returns
returns c =
    let l = c.loop-i in sym (put_all _ _ l.out _ l.i (omega arith)) ∙ l.invariant.2
