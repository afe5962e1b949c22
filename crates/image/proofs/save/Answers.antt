-- `save` meets its contract: no room, or five fields stored one after the other.
use Rattle.std.proofs.Common.{◌≡◌, length, rules}
use Rattle.saved.specs.Chip.{chip}
use Rattle.saved.specs.Laws.{save_refused, save_done}
use Rattle.image.proofs.save.Goals as goal

pub returns-then-out-lt22039 : goal.returns-then-out-lt22039
returns-then-out-lt22039 c = save_refused _ _ c.if-out-lt22039.true

pub returns : goal.returns
returns c =
    let eight : length c.args.u.now.ports ≡ 8 = search rules in
    let entries : length c.args.patc.now ≡ 112 = search rules in
    let sets : length c.args.lines.now ≡ 1280 = search rules in
    let words : length c.args.cells.now ≡ 4096 = search rules in
    save_done (chip c.args.u.now c.args.pair.now c.args.patc.now c.args.lines.now c.args.cells.now)
    (record { ports = eight; patc = entries; lines = sets; cells = words })
    c.args.out.now _ _ _ _ _ _ c.if-out-lt22039.false c.register_words.ensures
    c.field.ensures c.field-2.ensures c.field-3.ensures c.field-4.ensures c.field-5.ensures
