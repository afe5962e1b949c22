-- A register write and a snoop keep a unit well formed, on any memory; for an access see proofs/Access.
use Prim.Native.Nat.{ℕ, zero, suc, ◌^◌, ◌<◌, ◌≤◌}
use Rattle.std.specs.Prelude.{◌≡◌, Bool, ◌&&◌, List, eqb, ltb}
use Rattle.std.proofs.Common.{sym, ◌∙◌, true≢false, ltb-true}
use Rattle.std.proofs.Math.Bool.{true}
use native.Mathlib.Omega.{arith}
use Rattle.sweep.specs.Laws.{after_small}
use Rattle.words.specs.Words.{bit_of}
use Rattle.words.specs.Laws.{either, and_left, and_right}
use Rattle.memory.specs.Memory.{Wrote, write_line_of}
use Rattle.lines.specs.Lines.{valid, modified, tag_word, line_address, hit_of, marked}
use Rattle.cells.specs.Cells.{line_words}
use Rattle.lines.specs.Laws.{Looked, hit_is}
use Rattle.state.specs.declared.Registers.{Registers}
use Rattle.state.specs.declared.FaultPair.{FaultPair}
use Rattle.state.specs.Own.{own_scr, own_scr_lem}
use Rattle.sweep.specs.Sweep.{Flushed}
use Rattle.sweep.specs.declared.Kind.{Kind}
use Rattle.sweep.specs.declared.Range.{Range}
use Rattle.snoop.specs.declared.Snooped.{Snooped}
use Rattle.snoop.specs.declared.Snooped.TheVariants.{Clear, Retry, Failed}
use Rattle.sweep.specs.Sweep.{Sweep, swept, covers_of, copies_of, drops_of, after_of, copied_of, line_of, sweep_of}
use Rattle.snoop.specs.Snoop.{Snoop, yield_of, retried_of, hit_by, snoop_of as line_snoop}
use Rattle.commands.specs.declared.Command.{Command}
use Rattle.commands.specs.declared.Command.TheVariants.{Nothing, Flush, Probe, Clear as ClearEntries}
use Rattle.registers.specs.Registers.{with_scr}
use Rattle.commands.specs.Commands.{Commanded, command_of, flush_of, run_of}
use Rattle.control.specs.Control.{Kept, write_of}
use Rattle.unit.specs.Unit.{after_snoop, snoop_of}
use Rattle.reached.specs.Good.{GoodRegisters, GoodPair, GoodEntries, GoodLines}
use Rattle.reached.specs.Directory.{marked_good, dropped_good, hit_of_lem}
use Rattle.reached.specs.Entries.{cleared_good}
use Rattle.reached.specs.Stores.{line_fails}
use Rattle.reached.specs.Registers.{scr_good, ssr_good, set_good, fault_good, snoop_own, flushed_good, probe_good}

-- ---- a flush

record Sweeps (x : Sweep) : Type 0 where
  lines : GoodLines x.lines
  failing : x.flushed.failing < 2 ^ 32

module _ (k : Kind) (r : Range) (sar : ℕ) (cs : List ℕ) where
  line_good : (p : ℕ) → p < 1024 → (ls ram : List ℕ) → GoodLines ls → Sweeps (line_of k r sar cs p ls ram)
  unfolding line_of copied_of
  line_good p h ls ram g =
      let w : ℕ = tag_word ls p in
      let at : ℕ = line_address p w in
      let low : at < 2 ^ 32 = omega arith in
      let x : Wrote = write_line_of ram at (line_words cs p) in
      either Sweeps (valid w && covers_of r sar at)
      (λ e. let v : valid w ≡ true = and_left (valid w) _ e in
      either Sweeps (copies_of k && modified w)
      (λ _. either Sweeps x.moved.ok
      (λ _. record { lines = marked_good ls g p h (after_of k) (after_small k) (λ f. absurd (true≢false (sym v ∙ f))); failing = omega arith })
      (λ _. record { lines = g; failing = line_fails ram at (line_words cs p) low }))
      (λ _. either Sweeps (drops_of k)
      (λ _. record { lines = dropped_good ls g p h; failing = omega arith })
      (λ _. record { lines = g; failing = omega arith })))
      (λ _. record { lines = g; failing = omega arith })

  added_good : (x : Sweep) → Sweeps x → (f : Flushed) → f.failing < 2 ^ 32 → Sweeps (swept f x.lines x.ram)
  added_good x g f h = record { lines = g.lines; failing = h }

  sweep_good : (ls ram : List ℕ) → GoodLines ls → (n : ℕ) → n ≤ 1024 → Sweeps (sweep_of k r sar cs ls ram n)
  unfolding sweep_of
  sweep_good ls ram g zero h = record { lines = g; failing = omega arith }
  sweep_good ls ram g (suc n) h =
      let s : Sweep = sweep_of k r sar cs ls ram n in
      let before : Sweeps s = sweep_good ls ram g n (omega arith) in
      let x : Sweep = line_of k r sar cs n s.lines s.ram in
      let here : Sweeps x = line_good n (omega arith) s.lines s.ram before.lines in
      either Sweeps s.flushed.ok
      (λ _. added_good x here _ (either (λ (f : Flushed). f.failing < 2 ^ 32) x.flushed.ok (λ _. omega arith) (λ _. here.failing)))
      (λ _. before)

-- ---- a register write

pub record Writes (x : Kept) : Type 0 where
  pub registers : GoodRegisters x.stored.registers
  pub pair : GoodPair x.stored.pair
  pub patc : GoodEntries x.patc
  pub lines : GoodLines x.lines

record Runs (x : Commanded) : Type 0 where
  registers : GoodRegisters x.ran.registers
  patc : GoodEntries x.patc
  lines : GoodLines x.lines

module _ (u : Registers) (g : GoodRegisters u) (ps ls cs ram rom : List ℕ) (e : GoodEntries ps) (d : GoodLines ls) where
  run_good : (c : Command) → Runs (run_of u c ps ls cs ram rom)
  unfolding run_of flush_of
  run_good Nothing = record { registers = g; patc = e; lines = d }
  run_good (Flush k r) =
      let s = sweep_good k r u.sar cs ls ram d 1024 (omega arith) in
      record { registers = flushed_good u g _ _ s.failing; patc = e; lines = s.lines }
  run_good (Probe s) = record { registers = probe_good u g s ps ram rom; patc = e; lines = d }
  run_good (ClearEntries s r) = record { registers = g; patc = cleared_good r s u.sar ps e; lines = d }

module _ (u : Registers) (g : GoodRegisters u) (p : FaultPair) (f : GoodPair p) (ps ls cs ram rom : List ℕ) (e : GoodEntries ps) (d : GoodLines ls) where
  pub write_good : (offset value : ℕ) → value < 2 ^ 32 → Writes (write_of u p ps ls cs ram rom offset value)
  unfolding write_of
  write_good offset value h =
      let v : Registers = with_scr u (own_scr value) in
      let x = run_good v (scr_good u g (own_scr value) (own_scr_lem value)) ps ls cs ram rom e d (command_of v.scr) in
      either Writes (eqb offset 4)
      (λ _. record { registers = x.registers; pair = f; patc = x.patc; lines = x.lines })
      (λ _. record { registers = set_good u g offset value h; pair = fault_good p f offset value h; patc = e; lines = d })

-- ---- a snoop

after_good : (u : Registers) → GoodRegisters u → (x : Snooped) → GoodRegisters (after_snoop u x)
unfolding after_snoop
after_good u g Clear = g
after_good u g Retry = g
after_good u g Failed = ssr_good u g _ (snoop_own u.ssr)

yield_small : (im : Bool) → yield_of im < 4
yield_small im = either (λ (n : ℕ). n < 4) im (λ _. omega arith) (λ _. omega arith)

hit_good : (im : Bool) (p : ℕ) (ls cs ram : List ℕ) → GoodLines ls → p < 1024 → valid (tag_word ls p) ≡ true → GoodLines (hit_by im p ls cs ram).lines
unfolding hit_by retried_of
hit_good im p ls cs ram g h v =
    let x : Wrote = write_line_of ram (line_address p (tag_word ls p)) (line_words cs p) in
    let m : GoodLines (marked ls p (yield_of im)) = marked_good ls g p h (yield_of im) (yield_small im) (λ f. absurd (true≢false (sym v ∙ f))) in
    let P : Snoop → Type 0 = λ s. GoodLines s.lines in
    either P (modified (tag_word ls p)) (λ _. either P x.moved.ok (λ _. m) (λ _. g)) (λ _. m)

pub snoop_good : (u : Registers) (ls cs ram : List ℕ) → GoodRegisters u → GoodLines ls → (address : ℕ) (g im : Bool)
    → GoodRegisters (snoop_of u ls cs ram address g im).watched.registers × GoodLines (snoop_of u ls cs ram address g im).lines
unfolding snoop_of line_snoop
snoop_good u ls cs ram gu gl address g im =
    let p : ℕ = hit_of ls address in
    let on : Bool = bit_of u.sctr 14 && g in
    let look : Looked ls address p = hit_is ls address in (
      after_good u gu _,
      either (λ (s : Snoop). GoodLines s.lines) (on && ltb p 1024)
          (λ e. hit_good im p ls cs ram gl (ltb-true p 1024 (and_right on (ltb p 1024) e)) (hit_of_lem look (and_right on (ltb p 1024) e)).is_valid)
          (λ _. gl),
    )
