use Rattle.std.proofs.Common.{rules, sym, ◌∙◌, ap}
use borrow.Author.Tests.{ne_eqb}
use Rattle.state.specs.Refusal.{handed_on, some_number}
use Rattle.refusals.specs.Refusals.{access_cells}
use Rattle.hits.specs.Hits.{hit_in}
use Rattle.exports.specs.Quick.{call_taken, quick_right, refused_right}
use Rattle.exports.proofs.access.Goals as goal

pub returns-in_err-access : goal.returns-in_err-access
returns-in_err-access c = rw (handed_on _ _ c.from_residual.ensures) (refused_right c.args.unit.now c.args.pair.now c.args.patc.now c.args.lines.now c.args.cells.now c.args.ram.now c.args.rom.now c.args.address c.args.kind c.args.enables c.args.word c.args.reply.now _ c.in_err-access.ensures (ne_eqb _ _ (some_number _)))

pub unreachable-requires : goal.unreachable-requires
unreachable-requires c = c.in_default.ensures.cases (access_cells _ _ _ _ _ (sym c.in_ok-access.ensures))

pub returns-in-Ok : goal.returns-in-Ok
returns-in-Ok c =
    let hit = sym c.look.ensures ∙ ap hit_in c.in-Ok.is in
    rw (c.answer.ensures.0, c.answer.ensures.1, c.answer.ensures.2, c.bit.ensures, ← hit, c.in-Some.ensures.cases.same)
    (quick_right c.args.unit.now c.args.pair.now c.args.patc.now c.args.lines.now c.args.cells.now c.args.ram.now c.args.rom.now c.args.address c.args.kind c.args.enables c.args.word c.args.reply.now (search rules) (sym c.in_ok-access.ensures) (rw hit (search rules)))

pub returns : goal.returns
returns c = rw (c.any_access.ensures, c.in-Some.ensures.cases.same) (call_taken c.args.unit.now c.args.pair.now c.args.patc.now c.args.lines.now c.args.cells.now c.args.ram.now c.args.rom.now c.args.address c.args.kind c.args.enables c.args.word c.args.reply.now (sym c.in_ok-access.ensures))
