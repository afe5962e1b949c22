use Rattle.answers.specs.Answers.{flown_of}
use Rattle.unit.specs.Mapped.{ended_mapped}
use Rattle.unit.proofs.mapped.Goals as goal

pub returns : goal.returns
unfolding flown_of
returns c = rw c.flown.ensures (ended_mapped _ _ _ _ _ _ _ _ _ _ _ _ _ _ _ _ (rw c.area-area.ensures at c.begin-f.ensures) c.run-f.ensures)
