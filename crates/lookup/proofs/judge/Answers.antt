use Rattle.std.proofs.Common.{rules, ◌≡◌, Some}
use Rattle.std.proofs.lemmas.Result.{err_from_is_err_and}
use mathlib.Core.Path.{sym, ◌∙◌}
use Rattle.lookup.specs.declared.Place.TheVariants.{Block, Page}
use Rattle.lookup.specs.Lookup.{guarded_of, entered_of}
use Rattle.lookup.specs.Laws.{permitted, barred}
use Rattle.lookup.proofs.judge.Goals as goal

pub returns-in_err-permit-in-Some-Block : goal.returns-in_err-permit-in-Some-Block
unfolding guarded_of
returns-in_err-permit-in-Some-Block c =
    let e : c.args.place ≡ Some (Block c.in-Some-Block.t) = search rules in
    let b = barred _ _ _ _ (sym c.permit.ensures ∙ c.in_err-permit-in-Some-Block.was) in
    let p = err_from_is_err_and c.from_residual.result c.from_residual.ensures.1 in
    rw (p.1, p.2, e, b.0, b.1)

pub returns-in_err-permit-in-Some-Page : goal.returns-in_err-permit-in-Some-Page
unfolding entered_of
returns-in_err-permit-in-Some-Page c =
    let e : c.args.place ≡ Some (Page c.in-Some-Page.n c.in-Some-Page.t) = search rules in
    let b = barred _ _ _ _ (sym c.permit-in-Some-Page.ensures ∙ c.in_err-permit-in-Some-Page.was) in
    let p = err_from_is_err_and c.from_residual-in_err-permit-in-Some-Page.result c.from_residual-in_err-permit-in-Some-Page.ensures.1 in
    rw (p.1, p.2, e, b.0, b.1)

pub returns-then-write-t : goal.returns-then-write-t
unfolding entered_of
returns-then-write-t c =
    let e : c.args.place ≡ Some (Page c.in-Some-Page.n c.in-Some-Page.t) = search rules in
    rw (e, permitted _ _ _ _ (sym c.permit-in-Some-Page.ensures ∙ c.in_ok-permit-in-Some-Page.was), c.if-write-t.true)

pub returns-in_ok-permit-in-Some-Block : goal.returns-in_ok-permit-in-Some-Block
unfolding guarded_of
returns-in_ok-permit-in-Some-Block c =
    let e : c.args.place ≡ Some (Block c.in-Some-Block.t) = search rules in
    rw (e, permitted _ _ _ _ (sym c.permit.ensures ∙ c.in_ok-permit-in-Some-Block.was))

pub returns-else-write-t : goal.returns-else-write-t
unfolding entered_of
returns-else-write-t c =
    let e : c.args.place ≡ Some (Page c.in-Some-Page.n c.in-Some-Page.t) = search rules in
    rw (e, permitted _ _ _ _ (sym c.permit-in-Some-Page.ensures ∙ c.in_ok-permit-in-Some-Page.was), c.if-write-t.false)
