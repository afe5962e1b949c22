use borrow.Author.Rules.{rules}
use Rattle.words.specs.Words.{merge_of}
use Rattle.words.specs.Laws.{merge_all}
use mathlib.Core.Path.{sym}
use Rattle.words.proofs.merge.Goals as goal

pub returns-then-enables-eq15 : goal.returns-then-enables-eq15
returns-then-enables-eq15 c = sym (rw c.if-enables-eq15.true (merge_all _ _ (search rules)))

pub returns : goal.returns
unfolding merge_of
returns c = rw (c.lane-4.ensures.0, c.lane-3.ensures.0, c.lane-2.ensures.0, c.lane.ensures.0)
