-- A command as a program runs it: SAR written, then SCR. What a flush command does to lines and RAM is the sweep of its kind and range.
use Rattle.std.specs.Prelude.{ℕ, ◌≡◌}
use Rattle.std.proofs.Math.Path.{refl}
use Rattle.std.proofs.Common.{◌∙◌}
use mathlib.Core.List.{List, [], ◌∷◌}
use Rattle.state.specs.Own.{own_scr}
use Rattle.sweep.specs.declared.Kind.{Kind}
use Rattle.sweep.specs.declared.Kind.TheVariants.{Invalidate, CopyBack, Both}
use Rattle.sweep.specs.declared.Range.{Range}
use Rattle.sweep.specs.declared.Range.TheVariants.{Line, Page, Segment, All}
use Rattle.sweep.specs.Sweep.{Sweep, sweep_of}
use Rattle.commands.specs.declared.Command.TheVariants.{Flush}
use Rattle.registers.specs.Registers.{with_scr, with_sar, set_register_of}
use Rattle.commands.specs.Commands.{command_of, range_of, flush_of, run_of}
use Rattle.control.specs.Control.{Kept, write_of}
use Rattle.flush_laws.specs.Sweep.{flush_each}

-- a register write on what earlier calls left
abbrev pub write : List ℕ → List ℕ → Kept → ℕ → ℕ → Kept
write cs rom s offset value = write_of s.stored.registers s.stored.pair s.patc s.lines cs s.ram rom offset value

-- SAR written, then SCR
abbrev pub command : List ℕ → List ℕ → Kept → ℕ → ℕ → Kept
command cs rom s code sar = write cs rom (write cs rom s 0x00C sar) 0x004 code

-- a code that asks for a flush
abbrev pub Asks : ℕ → Kind → Range → Type 0
Asks code k r = command_of (own_scr code) ≡ Flush k r

-- 14-17 invalidate, 18-1B copy back, 1C-1F both; the low two bits say line, page, segment, all
pub codes :
    Asks 0x14 Invalidate Line × Asks 0x15 Invalidate Page × Asks 0x16 Invalidate Segment × Asks 0x17 Invalidate All
    × Asks 0x18 CopyBack Line × Asks 0x19 CopyBack Page × Asks 0x1A CopyBack Segment × Asks 0x1B CopyBack All
    × Asks 0x1C Both Line × Asks 0x1D Both Page × Asks 0x1E Both Segment × Asks 0x1F Both All
unfolding command_of range_of own_scr
codes = (refl, refl, refl, refl, refl, refl, refl, refl, refl, refl, refl, refl)

module _ (cs rom : List ℕ) (s : Kept) (code sar : ℕ) (k : Kind) (r : Range) (asks : Asks code k r) where
  abbrev sweep : Sweep
  sweep = sweep_of k r sar cs s.lines s.ram 1024

  -- such a command leaves the lines and the RAM of its sweep, and every entry as it was; it counts the sweep's words
  pub flush_lines : (command cs rom s code sar).lines ≡ sweep.lines
  unfolding write_of set_register_of with_scr with_sar run_of flush_of
  flush_lines = rw asks

  pub flush_ram : (command cs rom s code sar).ram ≡ sweep.ram
  unfolding write_of set_register_of with_scr with_sar run_of flush_of
  flush_ram = rw asks

  pub flush_entries : (command cs rom s code sar).patc ≡ s.patc
  unfolding write_of set_register_of with_scr with_sar run_of flush_of
  flush_entries = rw asks

  pub flush_words : (command cs rom s code sar).stored.words ≡ sweep.flushed.words
  unfolding write_of set_register_of with_scr with_sar run_of flush_of
  flush_words = rw asks

-- one code at each of several addresses
unfoldable pub commands : List ℕ → List ℕ → ℕ → List ℕ → Kept → Kept
commands cs rom code [] s = s
commands cs rom code (sar ∷ sars) s = commands cs rom code sars (command cs rom s code sar)

-- .. leaves the lines and the RAM of the sweeps one after the other
module _ (cs rom : List ℕ) (code : ℕ) (k : Kind) (r : Range) (asks : Asks code k r) where
  pub each_lines : (sars : List ℕ) (s : Kept) → (commands cs rom code sars s).lines ≡ (flush_each k r cs sars s.lines s.ram).lines
  unfolding commands flush_each
  each_lines [] s = refl
  each_lines (sar ∷ sars) s = each_lines sars (command cs rom s code sar) ∙ rw (flush_lines cs rom s code sar k r asks, flush_ram cs rom s code sar k r asks)

  pub each_ram : (sars : List ℕ) (s : Kept) → (commands cs rom code sars s).ram ≡ (flush_each k r cs sars s.lines s.ram).ram
  unfolding commands flush_each
  each_ram [] s = refl
  each_ram (sar ∷ sars) s = each_ram sars (command cs rom s code sar) ∙ rw (flush_lines cs rom s code sar k r asks, flush_ram cs rom s code sar k r asks)
