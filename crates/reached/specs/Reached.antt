-- The units that can be reached, by reset, by an image that is read, and by calls on any memory.
use Rattle.std.specs.Prelude.{ℕ, ◌^◌, ◌<◌, ◌≡◌, Bool, List, length}
use Rattle.state.specs.declared.Access.{Access}
use Rattle.state.specs.Reset.{reset_of, no_fault}
use Rattle.fresh.specs.Fresh.{cleared_of, fresh_lines}
use Rattle.control.specs.Control.{Kept, write_of}
use Rattle.unit.specs.Unit.{Whole, access_of, Snooping, snoop_of}
use Rattle.fields.specs.Fields.{Bytes, Words}
use Rattle.saved.specs.Chip.{Chip, chip}
use Rattle.saved.specs.Verdict.{verdict_of, restore_of}

-- ---- a unit after a call

abbrev pub on_whole : Whole → Chip
on_whole x = chip x.accessed.registers x.accessed.pair x.patc x.lines x.cells

abbrev pub after_access : Chip → List ℕ → List ℕ → Access → Chip
after_access c ram rom a = on_whole (access_of c.registers c.pair c.patc c.lines c.cells ram rom a)

abbrev pub on_kept : Kept → List ℕ → Chip
on_kept x cells = chip x.stored.registers x.stored.pair x.patc x.lines cells

abbrev pub after_write : Chip → List ℕ → List ℕ → ℕ → ℕ → Chip
after_write c ram rom offset value = on_kept (write_of c.registers c.pair c.patc c.lines c.cells ram rom offset value) c.cells

abbrev pub on_snooping : Chip → Snooping → Chip
on_snooping c x = chip x.watched.registers c.pair c.patc x.lines c.cells

abbrev pub after_snoop : Chip → List ℕ → ℕ → Bool → Bool → Chip
after_snoop c ram address g im = on_snooping c (snoop_of c.registers c.lines c.cells ram address g im)

-- ---- reached units

-- lent memory and what a call hands over are words of 32 bits, an image is bytes. Reading a register and saving change nothing, nor does a refused call
pub data Reached : Chip → Type 0 where
  reset : (number : ℕ) → number < 256 → (ps ls cs : List ℕ) → length ps ≡ 112 → length ls ≡ 1280 → length cs ≡ 4096
      → Reached (chip (reset_of number) no_fault (cleared_of ps) (fresh_lines ls) (cleared_of cs))
  restored : (b : List ℕ) (c : Chip) → Bytes b → verdict_of b ≡ 0 → Reached (restore_of b c).unit
  accessed : (c : Chip) → Reached c → (ram rom : List ℕ) → Words ram → Words rom → (a : Access) → a.address < 2 ^ 32 → a.word < 2 ^ 32
      → Reached (after_access c ram rom a)
  wrote : (c : Chip) → Reached c → (ram rom : List ℕ) (offset value : ℕ) → value < 2 ^ 32 → Reached (after_write c ram rom offset value)
  snooped : (c : Chip) → Reached c → (ram : List ℕ) (address : ℕ) (g im : Bool) → Reached (after_snoop c ram address g im)
