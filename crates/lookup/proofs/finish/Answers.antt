use Rattle.lookup.specs.Lookup.{walked_of}
use Rattle.lookup.specs.Laws.{permitted, barred}
use Rattle.std.proofs.lemmas.Result.{err_from_is_err_and}
use mathlib.Core.Path.{sym, ◌∙◌}
use Rattle.lookup.proofs.finish.Goals as goal

pub returns-in_err-permit : goal.returns-in_err-permit
unfolding walked_of
returns-in_err-permit c =
    let b = barred _ _ _ _ (sym c.permit.ensures ∙ c.in_err-permit.was) in
    let p = err_from_is_err_and c.from_residual.result c.from_residual.ensures.1 in
    rw (p.1, p.2, ← c.combined-both.ensures, b.0, b.1)

pub returns-then-stale : goal.returns-then-stale
unfolding walked_of
returns-then-stale c = rw (← c.combined-both.ensures, permitted _ _ _ _ (sym c.permit.ensures ∙ c.in_ok-permit.was), ← c.stale.ensures, c.if-stale.true, ← c.renewed-next.ensures, ← c.described.ensures)

pub returns : goal.returns
unfolding walked_of
returns c = rw (← c.combined-both.ensures, permitted _ _ _ _ (sym c.permit.ensures ∙ c.in_ok-permit.was), ← c.stale.ensures, c.if-stale.false)
