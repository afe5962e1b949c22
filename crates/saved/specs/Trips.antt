-- The round trips: what is written reads as what was written, and what reads is what would be written.
use Rattle.std.specs.Prelude.{ℕ, ◌+◌, ◌*◌, ◌<◌, ◌≤◌, ◌≡◌, true}
use Rattle.std.proofs.Math.Path.{refl, ap}
use Rattle.std.proofs.Common.{sym, ◌∙◌, arith, le-ltb}
use mathlib.Core.List.{List, [], ◌++◌}
use Rattle.std.proofs.Math.Decide.{ℕ_discrete}
use Rattle.std.proofs.Math.ListN.{length, drop, drop_of_length-le}
use Rattle.fields.specs.Fields.{word_at, words_at, row_of, head_at, Bytes, Words}
use Rattle.fields.specs.Laws.{both, length_words, words_at_lem, row_head, row_words, row_next, field_back, word_small, words_small}
use Rattle.saved.specs.declared.Layout.TheVariants.{Entries, Sets}
use Rattle.saved.specs.Chip.{Chip, chip, Sized, Fit, own_registers, own_of}
use Rattle.saved.specs.Image.{register_words, fields_of, image_of, registers_at, pair_at, read_of, saved, save_of}
use Rattle.saved.specs.Tests.{nth}
use Rattle.saved.specs.Verdict.{heads_of, verdict_of, restore_of, loaded_with}
use Rattle.saved.specs.Laws.{length_row, taken_passes, passes_taken, restore_refused, restore_done}
use Rattle.saved.specs.Own.{own_sized, own_own, entry_small, set_small, own_small, registers_small}
use Rattle.saved.specs.WellFormed.{WellFormed}
use Rattle.saved.specs.Sound.{checked_well, well_checked}

-- ---- any unit's words in a row

module _ (c : Chip) (size : Sized c) where
  row : List ℕ
  row = row_of (fields_of c)

  f1 : drop 0 row ≡ row_of (fields_of c)
  unfolding row
  f1 = refl

  f2 : drop 43 row ≡ row_of (drop 1 (fields_of c))
  f2 = row_next row 0 1 _ _ 10 refl f1

  f3 : drop 78 row ≡ row_of (drop 2 (fields_of c))
  f3 = row_next row 43 2 _ _ 8 size.ports f2

  f4 : drop 529 row ≡ row_of (drop 3 (fields_of c))
  f4 = row_next row 78 3 _ _ 112 size.patc f3

  f5 : drop 5652 row ≡ row_of (drop 4 (fields_of c))
  f5 = row_next row 529 4 _ _ 1280 size.lines f4

  -- each head stands at its place
  row_heads : heads_of row ≡ true
  unfolding heads_of
  row_heads =
      rw (
        row_head row 0 1 _ _ 10 refl f1,
        row_head row 43 2 _ _ 8 size.ports f2,
        row_head row 78 3 _ _ 112 size.patc f3,
        row_head row 529 4 _ _ 1280 size.lines f4,
        row_head row 5652 5 _ _ 4096 size.cells f5,
      )

  -- each word stands at its place
  row_read : Words (register_words c.registers c.pair) → Words c.registers.ports → Words c.patc → Words c.lines → Words c.cells → read_of row ≡ c
  row_read wr wp we wl wc =
      λ k. chip
      (record {
        idr = reg 0 (omega arith) k;
        scr = reg 1 (omega arith) k;
        ssr = reg 2 (omega arith) k;
        sar = reg 3 (omega arith) k;
        sctr = reg 4 (omega arith) k;
        sapr = reg 7 (omega arith) k;
        uapr = reg 8 (omega arith) k;
        pointer = reg 9 (omega arith) k;
        ports = row_words row 43 2 _ _ 8 size.ports f2 wp k;
      })
      (record { status = reg 5 (omega arith) k; address = reg 6 (omega arith) k })
      (row_words row 78 3 _ _ 112 size.patc f3 we k)
      (row_words row 529 4 _ _ 1280 size.lines f4 wl k)
      (row_words row 5652 5 _ _ 4096 size.cells f5 wc k)
    where
      reg : (i : ℕ) → i < 10 → word_at row (3 + i * 4) ≡ nth (register_words c.registers c.pair) i
      reg i h = sym (words_at_lem row 3 10 i h) ∙ ap (λ (l : List ℕ). nth l i) (row_words row 0 1 _ _ 10 refl f1 wr)

-- ---- images

-- an image is 22,039 bytes, with each head at its place, whatever the unit
pub image_length : (c : Chip) → Sized c → length (image_of c) ≡ 22039
unfolding image_of
image_length c size = length_row (own_of c) (own_sized c size)

pub image_heads : (c : Chip) → Sized c → heads_of (image_of c) ≡ true
unfolding image_of row
image_heads c size = row_heads (own_of c) (own_sized c size)

-- .. and holds the unit's own bits
pub image_read : (c : Chip) → Sized c → Fit c → read_of (image_of c) ≡ own_of c
unfolding image_of row own_registers
image_read c size fit =
    row_read (own_of c) (own_sized c size) (registers_small c.registers c.pair fit.sar fit.address) fit.ports (own_small Entries entry_small 0 c.patc) (own_small Sets set_small 0 c.lines) fit.cells

-- foreign bits change no image
pub image_own : (c : Chip) → image_of (own_of c) ≡ image_of c
unfolding image_of
image_own c = ap (λ (d : Chip). row_of (fields_of d)) (own_own c)

-- the image of a well-formed unit is taken, and reads as that unit
pub written_reads : (c : Chip) → WellFormed c → read_of (image_of c) ≡ c
written_reads c w = image_read c w.sized w.fit ∙ w.own

pub written_taken : (c : Chip) → WellFormed c → verdict_of (image_of c) ≡ 0
written_taken c w =
    let t = well_checked c w in
    passes_taken (image_of c)
    (record { long = image_length c w.sized; heads = image_heads c w.sized; right = rw (written_reads c w) t.0; single = rw (written_reads c w) t.1 })

-- the words of field 1, one by one
regs_back : (b : List ℕ) → register_words (registers_at b) (pair_at b) ≡ words_at b 3 10
unfolding words_at
regs_back b = refl

-- what an image that is taken holds is well formed, and would be written as that image
module _ (b : List ℕ) (bytes : Bytes b) (taken : verdict_of b ≡ 0) where
  read_sized : Sized (read_of b)
  read_sized = record { ports = length_words b 46 8; patc = length_words b 81 112; lines = length_words b 532 1280; cells = length_words b 5655 4096 }

  read_fit : Fit (read_of b)
  read_fit = record { sar = word_small b bytes 15; address = word_small b bytes 27; ports = words_small b bytes 8 46; cells = words_small b bytes 4096 5655 }

  pub read_well : WellFormed (read_of b)
  read_well = let p = taken_passes b taken in checked_well (read_of b) read_sized read_fit p.right p.single

  row_back : row_of (fields_of (read_of b)) ≡ b
  unfolding row_of heads_of
  row_back =
      let p = taken_passes b taken in
      let n : length b ≡ 22039 = p.long in
      let h5 = both _ (head_at b 5652 5 16384) p.heads in
      let h4 = both _ (head_at b 529 4 5120) h5.0 in
      let h3 = both _ (head_at b 78 3 448) h4.0 in
      let h2 = both (head_at b 0 1 40) (head_at b 43 2 32) h3.0 in
      let none : drop 22039 b ≡ [] = drop_of_length-le b {i = 22039} (omega arith) in
      rw (
        regs_back b,
        ← none,
        field_back b bytes 5652 5 4096 (omega arith) h5.1,
        field_back b bytes 529 4 1280 (omega arith) h4.1,
        field_back b bytes 78 3 112 (omega arith) h3.1,
        field_back b bytes 43 2 8 (omega arith) h2.1,
      ) (field_back b bytes 0 1 10 (omega arith) h2.0)

  pub read_writes : image_of (read_of b) ≡ b
  unfolding image_of
  read_writes = ap (λ (c : Chip). row_of (fields_of c)) read_well.own ∙ row_back

-- ---- the same of saving and restoring

-- a well-formed unit that is saved is restored, over any other
pub saved_restores : (c d : Chip) → WellFormed c → restore_of (image_of c) d ≡ loaded_with 0 c
saved_restores c d w = sym (restore_done (image_of c) d (written_taken c w)) ∙ ap (loaded_with 0) (written_reads c w)

-- an image that was restored, over any unit, is saved as the same bytes
pub restored_saves : (b : List ℕ) (d : Chip) (out : List ℕ) → Bytes b → verdict_of b ≡ 0 → 22039 ≤ length out → save_of (restore_of b d).unit out ≡ saved 0 (b ++ drop 22039 out)
unfolding save_of
restored_saves b d out bytes taken room =
    rw (← restore_done b d taken, le-ltb (length out) 22039 room) (ap (λ (l : List ℕ). saved 0 (l ++ drop 22039 out)) (read_writes b bytes taken))

-- what restoring leaves is well formed where what it found was
pub restored_well : (b : List ℕ) (d : Chip) → Bytes b → WellFormed d → WellFormed (restore_of b d).unit
restored_well b d bytes w = elim (ℕ_discrete (verdict_of b) 0) [
  | yes e ↦ rw (← restore_done b d e) (read_well b bytes e)
  | no e ↦ rw (← restore_refused b d (verdict_of b) refl e) w
]
