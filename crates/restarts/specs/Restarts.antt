-- Reset, restoring and saving on plain arrays: a refusal's number and nothing changed, or 0, and what the call does.
use Rattle.std.specs.Prelude.{ℕ, List}
use Rattle.state.specs.declared.FaultPair.{FaultPair}
use Rattle.lent.specs.Lent.{unless}
use Rattle.saved.specs.Chip.{Chip, chip}
use Rattle.saved.specs.Image.{Saved}
use Rattle.starts.specs.Starts.{UnitDone, reset_call, restore_call, save_call}
use Rattle.layout.specs.Layout.{registers_of, unit_of}

pub record UnitOut : Type 0 where
  pub number : ℕ
  pub unit : List ℕ
  pub fault : FaultPair
  pub patc : List ℕ
  pub lines : List ℕ
  pub cells : List ℕ

abbrev pub unit_out : ℕ → List ℕ → FaultPair → List ℕ → List ℕ → List ℕ → UnitOut
unit_out n unit p ps ls cs = record { number = n; unit = unit; fault = p; patc = ps; lines = ls; cells = cs }

unfoldable pub unit_by : List ℕ → UnitDone → UnitOut
unit_by unit d =
    unit_out d.number (unless d.number unit (unit_of d.unit.registers)) d.unit.pair d.unit.patc d.unit.lines d.unit.cells

abbrev pub chip_of : List ℕ → FaultPair → List ℕ → List ℕ → List ℕ → Chip
chip_of unit p ps ls cs = chip (registers_of unit) p ps ls cs

abbrev pub reset_export : List ℕ → FaultPair → List ℕ → List ℕ → List ℕ → ℕ → UnitOut
reset_export unit p ps ls cs number = unit_by unit (reset_call (chip_of unit p ps ls cs) number)

abbrev pub restore_export : List ℕ → FaultPair → List ℕ → List ℕ → List ℕ → List ℕ → UnitOut
restore_export unit p ps ls cs image = unit_by unit (restore_call (chip_of unit p ps ls cs) image)

-- ---- saving

abbrev pub save_export : List ℕ → FaultPair → List ℕ → List ℕ → List ℕ → List ℕ → Saved
save_export unit p ps ls cs out = save_call (chip_of unit p ps ls cs) out
