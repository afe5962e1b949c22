use Rattle.memory.specs.Laws.{whole_part}
use Rattle.memory.proofs.line.Goals as goal

pub returns-clause-part : goal.returns-clause-part
returns-clause-part c = rw (c.shown.ensures.part, whole_part _ c.part.ensures.whole c.part.ensures.none, c.part.ensures.part)

pub returns-clause-moved : goal.returns-clause-moved
returns-clause-moved c = rw (c.shown.ensures.moved, c.part.ensures.part)
