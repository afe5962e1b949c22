use Rattle.std.proofs.Common.{◌≡◌, ◌+◌, ◌-◌, ◌*◌, length, arith, rules, refl, ap, ◌∙◌}
use Rattle.layout.proofs.Rows.{rows, stage, row_put, rows_put}
use Rattle.layout.proofs.put_answer.Goals as goal

pub loop-i-init : goal.loop-i-init
unfolding rows
loop-i-init c = (omega arith, rw (c.copy_from_slice.ensures.after, c.number.ensures, c.value.ensures, c.place.ensures))

pub loop-i-preserved : goal.loop-i-preserved
loop-i-preserved c =
    let six : length c.args.a.list ≡ 6 = search rules in
    let three : 5 + c.loop-i.i * 3 + 3 - (5 + c.loop-i.i * 3) ≡ 3 = omega arith in
    (omega arith, rw (c.loop-i.invariant.1, three) (row_put c.args.a c.loop-i.i _ _ six (omega arith) refl (c.copy_from_slice-in-loop-i.ensures.after ∙ c.row.ensures)))

pub returns : goal.returns
returns c =
    let six : length c.args.a.list ≡ 6 = search rules in
    let last : c.loop-i.i ≡ 6 = omega arith in
    c.loop-i.invariant.1 ∙ ap (stage c.args.a) last ∙ rows_put c.args.a six
