-- `restore` meets its contract: a refusal leaves all as it was, and an image that is taken is read whole.
use Rattle.std.proofs.Common.{◌≡◌, ℕ, List, length, sym, arith, rules}
use Rattle.state.specs.Refusal.{handed_on, some_number}
use Rattle.saved.specs.Chip.{chip}
use Rattle.saved.specs.Verdict.{verdict_of}
use Rattle.saved.specs.Laws.{taken_passes, restore_refused, restore_done}
use Rattle.image.proofs.restore.Goals as goal

-- an image that is taken is 22,039 bytes
long : (src : List ℕ) → 0 ≡ verdict_of src → length src ≡ 22039
long src e = (taken_passes _ (sym e)).long

pub returns-in_err-verdict : goal.returns-in_err-verdict
returns-in_err-verdict c = rw (handed_on _ _ c.from_residual.ensures) (restore_refused _ _ _ c.in_err-verdict.ensures (some_number _))

pub registers_at-requires : goal.registers_at-requires
registers_at-requires c = let h = long c.args.src.now c.in_ok-verdict.ensures in omega arith

pub pair_at-held-requires : goal.pair_at-held-requires
pair_at-held-requires c = let h = long c.args.src.now c.in_ok-verdict.ensures in omega arith

pub get_words-requires : goal.get_words-requires
get_words-requires c =
    let h = long c.args.src.now c.in_ok-verdict.ensures in
    let n : length c.args.patc.now ≡ 112 = search rules in
    omega arith

pub get_words-requires-2 : goal.get_words-requires-2
get_words-requires-2 c =
    let h = long c.args.src.now c.in_ok-verdict.ensures in
    let n : length c.args.lines.now ≡ 1280 = search rules in
    omega arith

pub get_words-requires-3 : goal.get_words-requires-3
get_words-requires-3 c =
    let h = long c.args.src.now c.in_ok-verdict.ensures in
    let n : length c.args.cells.now ≡ 4096 = search rules in
    omega arith

pub returns : goal.returns
returns c =
    let entries : length c.args.patc.now ≡ 112 = search rules in
    let sets : length c.args.lines.now ≡ 1280 = search rules in
    let words : length c.args.cells.now ≡ 4096 = search rules in
    rw (
      c.store.ensures,
      c.pair_at-held.ensures,
      c.registers_at.ensures,
      c.get_words.ensures,
      entries,
      c.get_words-2.ensures,
      sets,
      c.get_words-3.ensures,
      words,
    ) (restore_done c.args.src.now (chip c.args.u.now c.args.pair.now c.args.patc.now c.args.lines.now c.args.cells.now) (sym c.in_ok-verdict.ensures))
