-- Writing SCR runs bits 5-0.
use Rattle.std.specs.Prelude.{ℕ, ◌+◌, Bool, true, false, List, eqb}
use Rattle.words.specs.Words.{pick, bits_of}
use Rattle.state.specs.declared.Registers.{Registers}
use Rattle.sweep.specs.declared.Kind.{Kind}
use Rattle.sweep.specs.declared.Kind.TheVariants.{Invalidate, CopyBack, Both}
use Rattle.sweep.specs.declared.Range.{Range}
use Rattle.sweep.specs.declared.Range.TheVariants.{Line, Page, Segment, All}
use Rattle.sweep.specs.Sweep.{Sweep, sweep_of}
use Rattle.patc.specs.declared.Range.TheVariants.{Page as EntriesOfPage, Segment as EntriesOfSegment, All as AllEntries}
use Rattle.patc.specs.Patc.{cleared_of}
use Rattle.commands.specs.declared.Command.{Command}
use Rattle.commands.specs.declared.Command.TheVariants.{Nothing, Flush, Probe, Clear}
use Rattle.registers.specs.Registers.{Ran, with_status}
use Rattle.commands.specs.Probe.{ce_of, ran_of, probe_of}

-- the low two bits say line, page, segment, all
unfoldable pub range_of : ℕ → Range
range_of low = pick (eqb low 0) Line (pick (eqb low 1) Page (pick (eqb low 2) Segment All))

-- 20 (user) and 24 (supervisor) probe SAR
unfoldable pub probing_of : ℕ → Bool → Command
probing_of low s = pick (eqb low 0) (Probe s) Nothing

-- 31-33 (user) and 35-37 (supervisor) clear V in PATC entries: page, segment, all
unfoldable pub clearing_of : ℕ → Bool → Command
clearing_of low s =
    pick (eqb low 1) (Clear s EntriesOfPage) (pick (eqb low 2) (Clear s EntriesOfSegment) (pick (eqb low 3) (Clear s AllEntries) Nothing))

-- 14-17 invalidate, 18-1B copy back, 1C-1F both; other codes do nothing
abbrev pub group_of : ℕ → ℕ → Command
group_of group low =
    pick (eqb group 5) (Flush Invalidate (range_of low))
    (pick (eqb group 6) (Flush CopyBack (range_of low))
    (pick (eqb group 7) (Flush Both (range_of low))
    (pick (eqb group 8) (probing_of low false)
    (pick (eqb group 9) (probing_of low true) (pick (eqb group 12) (clearing_of low false) (pick (eqb group 13) (clearing_of low true) Nothing))))))

unfoldable pub command_of : ℕ → Command
command_of code = group_of (bits_of code 5 2) (bits_of code 1 0)

-- flush sets SSR anew, CE kept; the first bus error sets BE and puts the line's address in SAR
unfoldable pub flushed_of : Registers → Bool → ℕ → Registers
flushed_of u ok failing = pick ok (with_status u (ce_of u.ssr) u.sar) (with_status u (ce_of u.ssr + 16384) failing)

pub record FlushRan : Type 0 where
  pub ran : Ran
  pub lines : List ℕ
  pub ram : List ℕ

abbrev pub flush_ran : Ran → List ℕ → List ℕ → FlushRan
flush_ran r ls ram = record { ran = r; lines = ls; ram = ram }

abbrev pub flush_by : Registers → Sweep → FlushRan
flush_by u s = flush_ran (ran_of (flushed_of u s.flushed.ok s.flushed.failing) s.flushed.words) s.lines s.ram

unfoldable pub flush_of : Registers → Kind → Range → List ℕ → List ℕ → List ℕ → FlushRan
flush_of u k r ls cs ram = flush_by u (sweep_of k r u.sar cs ls ram 1024)

-- a command's registers and words, the entries, the directory and RAM after it
pub record Commanded : Type 0 where
  pub ran : Ran
  pub patc : List ℕ
  pub lines : List ℕ
  pub ram : List ℕ

abbrev pub commanded : Ran → List ℕ → List ℕ → List ℕ → Commanded
commanded r ps ls ram = record { ran = r; patc = ps; lines = ls; ram = ram }

abbrev pub with_entries : FlushRan → List ℕ → Commanded
with_entries f ps = commanded f.ran ps f.lines f.ram

unfoldable pub run_of : Registers → Command → List ℕ → List ℕ → List ℕ → List ℕ → List ℕ → Commanded
run_of u Nothing ps ls cs ram rom = commanded (ran_of u 0) ps ls ram
run_of u (Flush k r) ps ls cs ram rom = with_entries (flush_of u k r ls cs ram) ps
run_of u (Probe s) ps ls cs ram rom = commanded (probe_of u s ps ram rom) ps ls ram
run_of u (Clear s r) ps ls cs ram rom = commanded (ran_of u 0) (cleared_of r s u.sar ps) ls ram
