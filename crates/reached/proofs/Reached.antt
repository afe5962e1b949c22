-- Each unit that can be reached is well formed, and comes back from its image.
use Rattle.std.specs.Prelude.{ℕ, ◌^◌, ◌<◌, ◌≡◌, Bool, List}
use Rattle.state.specs.declared.Access.{Access}
use Rattle.fields.specs.Fields.{Words}
use Rattle.saved.specs.Chip.{Chip}
use Rattle.saved.specs.Image.{image_of, read_of}
use Rattle.saved.specs.Verdict.{verdict_of, restore_of, loaded_with}
use Rattle.saved.specs.Laws.{restore_done}
use Rattle.saved.specs.WellFormed.{WellFormed}
use Rattle.saved.specs.Trips.{read_well, written_reads, written_taken, saved_restores}
use Rattle.reached.specs.Good.{Good, good_well, well_good}
use Rattle.reached.specs.Fresh.{fresh_good}
use Rattle.reached.specs.Calls.{write_good, snoop_good}
use Rattle.reached.proofs.Access.{access_good}
use Rattle.reached.specs.Reached.{Reached, reset, restored, accessed, wrote, snooped, after_access, after_write, after_snoop}

-- ---- each is well formed

module _ (c : Chip) (g : Good c) where
  access_stays : (ram rom : List ℕ) → Words ram → Words rom → (a : Access) → a.address < 2 ^ 32 → a.word < 2 ^ 32 → Good (after_access c ram rom a)
  access_stays ram rom hr ho a low small =
      let x = access_good c.registers g.registers c.pair g.pair c.patc c.lines c.cells ram rom g.patc g.lines g.cells a low small hr ho in
      record { registers = x.registers; pair = x.pair; patc = x.patc; lines = x.lines; cells = x.cells }

  write_stays : (ram rom : List ℕ) (offset value : ℕ) → value < 2 ^ 32 → Good (after_write c ram rom offset value)
  write_stays ram rom offset value h =
      let x = write_good c.registers g.registers c.pair g.pair c.patc c.lines c.cells ram rom g.patc g.lines offset value h in
      record { registers = x.registers; pair = x.pair; patc = x.patc; lines = x.lines; cells = g.cells }

  snoop_stays : (ram : List ℕ) (address : ℕ) (gl im : Bool) → Good (after_snoop c ram address gl im)
  snoop_stays ram address gl im =
      let x = snoop_good c.registers c.lines c.cells ram g.registers g.lines address gl im in
      record { registers = x.0; pair = g.pair; patc = g.patc; lines = x.1; cells = g.cells }

reached_good : {c : Chip} → Reached c → Good c
reached_good (reset number h ps ls cs hp hl hc) = fresh_good number h ps ls cs hp hl hc
reached_good (restored b c bytes taken) = rw (← restore_done b c taken) (well_good (read_of b) (read_well b bytes taken))
reached_good (accessed c r ram rom hr ho a low small) = access_stays c (reached_good r) ram rom hr ho a low small
reached_good (wrote c r ram rom offset value h) = write_stays c (reached_good r) ram rom offset value h
reached_good (snooped c r ram address g im) = snoop_stays c (reached_good r) ram address g im

pub reached_well : (c : Chip) → Reached c → WellFormed c
reached_well c r = good_well c (reached_good r)

-- ---- the round trip

-- the image of a reached unit is taken, and reads as that unit
pub reached_taken : (c : Chip) → Reached c → verdict_of (image_of c) ≡ 0
reached_taken c r = written_taken c (reached_well c r)

pub reached_reads : (c : Chip) → Reached c → read_of (image_of c) ≡ c
reached_reads c r = written_reads c (reached_well c r)

-- saving a reached unit and restoring over any unit gives that unit
pub reached_restores : (c d : Chip) → Reached c → restore_of (image_of c) d ≡ loaded_with 0 c
reached_restores c d r = saved_restores c d (reached_well c r)
