use Rattle.std.proofs.Common.{ap}
use borrow.Author.Tests.{eq-eqb, ne_eqb}
use Rattle.refusals.specs.Refusals.{restore_refusal}
use Rattle.saved.specs.Verdict.{restore_of, Loaded}
use Rattle.starts.specs.Starts.{unit_by, UnitDone}
use Rattle.starts.proofs.restore.Goals as goal

abbrev done_of : Loaded → UnitDone
done_of l = record { number = l.number; unit = l.unit }

pub returns-in_default : goal.returns-in_default
unfolding unit_by restore_refusal
returns-in_default c = rw (ne_eqb _ _ c.in_default.ensures.cases)

pub returns : goal.returns
unfolding unit_by restore_refusal restore_of
returns c = rw (eq-eqb _ _ c.in-Some.ensures.cases.long, ← c.in-Some.ensures.cases.same) (ap done_of c.restore.ensures)
