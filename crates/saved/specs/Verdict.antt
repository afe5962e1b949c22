-- When an image is taken, and what is then read: document 01's numbers 7 to 10, in rising order.
use Rattle.std.specs.Prelude.{ℕ, Bool, not, ◌&&◌, List, eqb, length}
use Rattle.words.specs.Words.{pick}
use Rattle.fields.specs.Fields.{head_at}
use Rattle.state.specs.declared.FaultPair.{FaultPair}
use Rattle.state.specs.declared.Registers.{Registers}
use Rattle.saved.specs.Chip.{Chip, chip}
use Rattle.saved.specs.Image.{read_of}
use Rattle.saved.specs.Tests.{bits_right, no_doubles}

-- does each field's head stand at its place?
unfoldable pub heads_of : List ℕ → Bool
heads_of b = head_at b 0 1 40 && head_at b 43 2 32 && head_at b 78 3 448 && head_at b 529 4 5120 && head_at b 5652 5 16384

-- the first number that applies, 0 if none does
unfoldable pub verdict_of : List ℕ → ℕ
verdict_of b =
    pick (not (eqb (length b) 22039)) 7
    (pick (not (heads_of b)) 8
    (pick (not (bits_right (read_of b))) 9
    (pick (not (no_doubles (read_of b))) 10 0)))

-- the answer is the number alone, and nothing changes; with none the unit is what the image holds
pub record Loaded : Type 0 where
  pub number : ℕ
  pub unit : Chip

abbrev pub loaded_with : ℕ → Chip → Loaded
loaded_with number c = record { number = number; unit = c }

unfoldable pub restore_of : List ℕ → Chip → Loaded
restore_of b c = loaded_with (verdict_of b) (pick (eqb (verdict_of b) 0) (read_of b) c)

-- .. as the software hands it over: a number, and all that is lent
abbrev pub loaded : ℕ → Registers → FaultPair → List ℕ → List ℕ → List ℕ → Loaded
loaded number u pair patc lines cells = loaded_with number (chip u pair patc lines cells)
