-- A host's calls at the doors lead from reached units to reached units: a refusal changes nothing, and any other call is the unit's.
use Prim.Native.Nat.{ℕ, ◌^◌, ◌<◌}
use Rattle.std.specs.Prelude.{◌≡◌, Bool, true, false, not, List, eqb}
use Rattle.std.proofs.Common.{sym, ap, subst}
use Rattle.std.proofs.Math.ListN.{length}
use borrow.Author.Tests.{eq-eqb, eqb-true}
use Rattle.words.specs.Words.{pick}
use Rattle.state.specs.declared.Access.{Access}
use Rattle.snoop.specs.declared.Snooped.TheVariants.{Clear}
use Rattle.control.specs.Control.{write_of}
use Rattle.unit.specs.Unit.{access_of, snoop_of}
use Rattle.fields.specs.Fields.{Bytes, Words}
use Rattle.saved.specs.Chip.{Chip, chip}
use Rattle.saved.specs.Verdict.{Loaded, verdict_of}
use Rattle.saved.specs.Laws.{restore_done}
use Rattle.refusals.specs.Refusals.{access_refusal, snoop_refusal, write_refusal, reset_refusal, restore_refusal, held, past}
use Rattle.calls.specs.Calls.{AccessDone, access_done, access_taken, access_refused, access_by, access_call, SnoopDone, snoop_done, snoop_reply, snoop_taken, snoop_by, snoop_call, WriteDone, write_done, write_reply, write_taken, write_by, write_call}
use Rattle.starts.specs.Starts.{unit_by, fresh_of, reset_call, restore_call}
use Rattle.reached.specs.Reached.{Reached, reset, restored, accessed, wrote, snooped}

-- the unit that a call leaves
abbrev pub after_access : AccessDone → Chip
after_access d = chip d.reply.registers d.pair d.patc d.lines d.cells

abbrev pub after_write : WriteDone → List ℕ → Chip
after_write d cs = chip d.reply.registers d.pair d.patc d.lines cs

abbrev pub after_snoop : Chip → SnoopDone → Chip
after_snoop c d = chip d.reply.registers c.pair c.patc d.lines c.cells

module _ (c : Chip) (r : Reached c) where
  pub access_reaches : (ram rom : List ℕ) → Words ram → Words rom → (a : Access) → a.address < 2 ^ 32 → a.word < 2 ^ 32
      → Reached (after_access (access_call c.registers c.pair c.patc c.lines c.cells ram rom a))
  unfolding access_by
  access_reaches ram rom hr ho a low small = by (eqb n 0)
    where
      n : ℕ
      n = access_refusal (length ram) (length rom) (length c.cells) a.address a.enables

      by : (b : Bool)
          → Reached (after_access (pick b (access_taken (access_of c.registers c.pair c.patc c.lines c.cells ram rom a)) (access_done (access_refused n c.registers c.pair) c.pair c.patc c.lines c.cells ram)))
      by true = accessed c r ram rom hr ho a low small
      by false = r

  pub write_reaches : (ram rom : List ℕ) (offset value : ℕ) → value < 2 ^ 32
      → Reached (after_write (write_call c.registers c.pair c.patc c.lines c.cells ram rom offset value) c.cells)
  unfolding write_by
  write_reaches ram rom offset value h = by (eqb n 0)
    where
      n : ℕ
      n = write_refusal (length ram) (length rom) (length c.cells) offset

      by : (b : Bool)
          → Reached (after_write (pick b (write_taken (write_of c.registers c.pair c.patc c.lines c.cells ram rom offset value)) (write_done (write_reply n c.registers 0) c.pair c.patc c.lines ram)) c.cells)
      by true = wrote c r ram rom offset value h
      by false = r

  pub snoop_reaches : (ram : List ℕ) (address : ℕ) (g im : Bool)
      → Reached (after_snoop c (snoop_call c.registers c.lines c.cells ram address g im))
  unfolding snoop_by
  snoop_reaches ram address g im = by (eqb n 0)
    where
      n : ℕ
      n = snoop_refusal (length ram) (length c.cells) address

      by : (b : Bool)
          → Reached (after_snoop c (pick b (snoop_taken (snoop_of c.registers c.lines c.cells ram address g im)) (snoop_done (snoop_reply n c.registers Clear) c.lines ram)))
      by true = snooped c r ram address g im
      by false = r

-- a reset and a restored image, from any unit at all
module _ (c : Chip) where
  pub reset_reaches : (number : ℕ) → number < 256 → length c.patc ≡ 112 → length c.lines ≡ 1280
      → (reset_call c number).number ≡ 0 → Reached (reset_call c number).unit
  unfolding unit_by fresh_of reset_refusal
  reset_reaches number h hp hl e =
      let cells : length c.cells ≡ 4096 = eqb-true _ _ (held (eqb (length c.cells) 4096) 2 0 e) in
      rw (eq-eqb _ _ e) (reset number h c.patc c.lines c.cells hp hl cells)

  pub restore_reaches : (image : List ℕ) → Bytes image → (restore_call c image).number ≡ 0 → Reached (restore_call c image).unit
  unfolding unit_by restore_refusal
  restore_reaches image bytes e =
      let taken : verdict_of image ≡ 0 = past (not (eqb (length c.cells) 4096)) 2 (verdict_of image) e in
      rw (eq-eqb _ _ e) (subst Reached (ap (λ (l : Loaded). l.unit) (sym (restore_done image c taken))) (restored image c bytes taken))
