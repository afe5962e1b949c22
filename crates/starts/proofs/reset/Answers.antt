use Rattle.state.specs.Refusal.{number_of, handed_on, some_number}
use borrow.Author.Tests.{ne_eqb}
use Rattle.starts.specs.Starts.{unit_by, fresh_of}
use Rattle.starts.proofs.reset.Goals as goal

pub returns-in_err-reset : goal.returns-in_err-reset
unfolding unit_by fresh_of
returns-in_err-reset c = rw (handed_on _ _ c.from_residual.ensures, ← c.in_err-reset.ensures, ne_eqb (number_of c.in_err-reset.field-0.0) 0 (some_number _))

pub returns : goal.returns
unfolding unit_by fresh_of
returns c =
    rw (← c.in_ok-reset.ensures, c.store.ensures, c.reset-2.ensures, c.clear-2.ensures, c.empty.ensures, c.clear.ensures)
