use mathlib.Core.Path.{refl}
use native.Mathlib.Omega.{arith}
use lib.ListN.{length-set}
use borrow.Author.Rules.{rules}
use Rattle.order.specs.Laws.{table, fill_next}
use Rattle.fresh.specs.Fresh.{fresh_word, fresh_lines, filled}
use Rattle.fresh.proofs.empty.Goals as goal

pub loop-i-init : goal.loop-i-init
unfolding table
loop-i-init c = (search rules, refl, refl)

pub loop-i-preserved : goal.loop-i-preserved
loop-i-preserved c =
    (search rules, simp length-set c.loop-i.invariant.1, rw (c.word.ensures, c.loop-i.invariant.2) (fill_next fresh_word _ _ (omega arith)))

pub returns : goal.returns
unfolding fresh_lines
returns c = filled _ _ _ c.loop-i.i (omega arith) (omega arith) c.loop-i.invariant.2
