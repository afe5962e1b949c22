-- Reset, and the saved image: a number and nothing changed, or no number and the unit as it then stands.
use Rattle.std.specs.Prelude.{ℕ, List, Result, eqb, length}
use Rattle.words.specs.Words.{pick}
use Rattle.state.specs.declared.FaultPair.{FaultPair}
use Rattle.state.specs.declared.Registers.{Registers}
use Rattle.state.specs.declared.Refusal.{Refusal}
use Rattle.state.specs.Refusal.{number_in}
use Rattle.state.specs.Reset.{reset_of, no_fault}
use Rattle.fresh.specs.Fresh.{cleared_of, fresh_lines}
use Rattle.saved.specs.Chip.{Chip, chip}
use Rattle.saved.specs.Image.{Saved, saved, save_of, read_of as unit_at}
use Rattle.refusals.specs.Refusals.{reset_refusal, save_refusal, restore_refusal}

-- what reset and restoring answer
pub record UnitReply : Type 0 where
  pub number : ℕ
  pub registers : Registers

-- .. as the software says it: a result, and the registers as they then stand
abbrev pub unit_said : Registers → Result (Unit {0}) Refusal → UnitReply
unit_said u r = record { number = number_in r; registers = u }

-- a number, and the whole unit as it then stands
pub record UnitDone : Type 0 where
  pub number : ℕ
  pub unit : Chip

abbrev pub unit_done : UnitReply → FaultPair → List ℕ → List ℕ → List ℕ → UnitDone
unit_done r p ps ls cs = record { number = r.number; unit = chip r.registers p ps ls cs }

unfoldable pub unit_by : ℕ → Chip → Chip → UnitDone
unit_by n after c = record { number = n; unit = pick (eqb n 0) after c }

unfoldable pub fresh_of : Chip → ℕ → Chip
fresh_of c number = chip (reset_of number) no_fault (cleared_of c.patc) (fresh_lines c.lines) (cleared_of c.cells)

abbrev pub reset_call : Chip → ℕ → UnitDone
reset_call c number = unit_by (reset_refusal (length c.cells)) (fresh_of c number) c

abbrev pub restore_call : Chip → List ℕ → UnitDone
restore_call c image = unit_by (restore_refusal (length c.cells) image) (unit_at image) c

unfoldable pub save_by : ℕ → Chip → List ℕ → Saved
save_by n c out = pick (eqb n 0) (save_of c out) (saved n out)

abbrev pub save_call : Chip → List ℕ → Saved
save_call c out = save_by (save_refusal (length c.cells) (length out)) c out
