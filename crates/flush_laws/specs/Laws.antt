-- The laws of the flush commands, demand 3. `flush_of` is the command as `flush` promises it: `sweep_of` over all 1,024 places.
-- The demand asks for them of units reached from reset or a read image, whose covered modified lines lie in RAM. Here the directory is any
-- 1,280 words (the type [u32; 1280]), cache data, RAM and ROM are any words, and a comment says what more a law needs: reached is never needed.
use Rattle.std.specs.Prelude.{ℕ, ◌*◌, ◌/◌, ◌<◌, ◌≡◌, Bool, true, false, length}
use Rattle.std.proofs.Math.Path.{sym, fun_ext}
use Rattle.std.proofs.Common.{ap, ◌∙◌, subst}
use Rattle.std.proofs.Math.Option.{some}
use mathlib.Core.List.{List, Perm}
use Rattle.lines.specs.Lines.{modified, tag_word}
use Rattle.cells.specs.Cells.{word_at}
use Rattle.lines.specs.Laws.{Hit, NoDoubles}
use Rattle.sweep.specs.declared.Kind.{Kind}
use Rattle.sweep.specs.declared.Kind.TheVariants.{Invalidate, CopyBack, Both}
use Rattle.sweep.specs.declared.Range.{Range}
use Rattle.sweep.specs.declared.Range.TheVariants.{Line, Page, Segment, All}
use Rattle.sweep.specs.Sweep.{covers_of, Sweep}
use Rattle.flush_laws.specs.Sweep.{◌∪◌, flush_by, flush_of, sweep_by_lem, Fits, and_then, flush_each, named}
use Rattle.flush_laws.specs.Union.{reach_of, union, each_named}
use Rattle.flush_laws.specs.Twice.{joint, joint_only}
use Rattle.flush_laws.specs.Ranges.{Names, lines_of, segments_of, covers_line, lines_named, segments_named}
use Rattle.flush_laws.specs.Held.{memory_of, held_of, copied_held, joint_held}

-- ---- ranges. Needed: each covered modified line lies in RAM (`Fits`); for invalidate nothing (`invalidate_fits`)

module _ (k : Kind) (cs ls ram : List ℕ) (size : length ls ≡ 1280) where
  -- two flushes of one kind, the second on the lines and RAM that the first left, are one flush of all that either covers
  pub flush_union : (r₁ r₂ : Range) (sar₁ sar₂ : ℕ) → Fits k (covers_of r₁ sar₁ ∪ covers_of r₂ sar₂) ls ram
      → and_then (flush_of k r₁ sar₁ cs ls ram) (flush_of k r₂ sar₂ cs) ≡ flush_by k (covers_of r₁ sar₁ ∪ covers_of r₂ sar₂) cs ls ram
  flush_union r₁ r₂ sar₁ sar₂ f = rw (sweep_by_lem k r₁ sar₁, sweep_by_lem k r₂ sar₂) (union k (covers_of r₁ sar₁) (covers_of r₂ sar₂) cs ls ram size f)

  -- a range as a list of parts, each named at least once: the same lines and RAM, the words add up, and none stops (`fits_well`)
  pub flush_parts : (part whole : Range) (sar : ℕ) (sars : List ℕ) → Names part whole sar sars → Fits k (covers_of whole sar) ls ram
      → flush_each k part cs sars ls ram ≡ flush_of k whole sar cs ls ram
  flush_parts part whole sar sars names f =
      let same : named part sars ≡ covers_of whole sar = fun_ext names in
      each_named k part cs sars ls ram size (subst (λ (c : ℕ → Bool). Fits k c ls ram) (sym same) f)
      ∙ ap (λ (c : ℕ → Bool). flush_by k c cs ls ram) same
      ∙ sym (sweep_by_lem k whole sar cs ls ram 1024)

  -- "page = its lines in any order": its 256 lines
  pub page_lines : (sar : ℕ) (sars : List ℕ) → Perm sars (lines_of sar) → Fits k (covers_of Page sar) ls ram
      → flush_each k Line cs sars ls ram ≡ flush_of k Page sar cs ls ram
  page_lines sar sars perm = flush_parts Line Page sar sars (lines_named sar sars perm)

  -- "everything = all segments in any order": the 1,024 segments
  pub all_segments : (sar : ℕ) (sars : List ℕ) → Perm sars segments_of → Fits k (covers_of All sar) ls ram
      → flush_each k Segment cs sars ls ram ≡ flush_of k All sar cs ls ram
  all_segments sar sars perm = flush_parts Segment All sar sars (segments_named sar sars perm)

-- ---- "copy back then invalidate = the joint command". Needed: each covered modified line lies in RAM

module _ (r : Range) (sar : ℕ) (cs ls ram : List ℕ) (size : length ls ≡ 1280) where
  pub copy_then_invalidate : Fits CopyBack (covers_of r sar) ls ram → and_then (flush_of CopyBack r sar cs ls ram) (flush_of Invalidate r sar cs) ≡ flush_of Both r sar cs ls ram
  copy_then_invalidate f = rw (sweep_by_lem CopyBack r sar cs ls ram, sweep_by_lem Invalidate r sar, sweep_by_lem Both r sar) (joint (covers_of r sar) cs ls ram size f)

  -- no less will do: a line outside stays under the joint command, and is dropped by the two
  pub only_where_fits : (and_then (flush_of CopyBack r sar cs ls ram) (flush_of Invalidate r sar cs)).lines ≡ (flush_of Both r sar cs ls ram).lines → Fits CopyBack (covers_of r sar) ls ram
  only_where_fits e = joint_only (covers_of r sar) cs ls ram size (rw (sweep_by_lem CopyBack r sar cs ls ram, sweep_by_lem Invalidate r sar, sweep_by_lem Both r sar) at e)

-- ---- the word held

module _ (r : Range) (sar : ℕ) (cs ls ram rom : List ℕ) (size : length ls ≡ 1280) where
  abbrev back : Sweep
  back = flush_of CopyBack r sar cs ls ram

  abbrev both : Sweep
  both = flush_of Both r sar cs ls ram

  -- "copy back alone never alters the held word of any physical address". Needed: nothing, also where it stops, and with two lines of one tag
  pub copy_back_holds : (address : ℕ) → held_of back.lines cs back.ram rom address ≡ held_of ls cs ram rom address
  copy_back_holds address =
      let x = reach_of CopyBack r sar cs ls ram in
      rw (x.has_lines, x.has_ram) (copied_held (covers_of r sar) cs ls ram rom size x.small x.fits address)

  -- "the joint command does not where every valid unmodified line lies in RAM or ROM and agrees with it". Needed at the one address, of 32 bits,
  -- and only if it is covered: no two valid lines hold it, and an unmodified one has the word of RAM or ROM there. It may stop: no line need lie in RAM
  pub joint_holds : (address : ℕ) → address < 4294967296
      → (covers_of r sar address ≡ true → (p q : ℕ) → Hit ls address p → Hit ls address q → p ≡ q)
      → (covers_of r sar address ≡ true → (p : ℕ) → Hit ls address p → modified (tag_word ls p) ≡ false → memory_of ram rom address ≡ some (word_at cs p address))
      → held_of both.lines cs both.ram rom address ≡ held_of ls cs ram rom address
  joint_holds address physical alone agrees =
      let x = reach_of Both r sar cs ls ram in
      let c : covers_of r sar (address / 16 * 16) ≡ covers_of r sar address = covers_line r sar address in
      rw (x.has_lines, x.has_ram) (joint_held (covers_of r sar) cs ls ram rom size x.small x.fits address physical (λ e. alone (sym c ∙ e)) (λ e. agrees (sym c ∙ e)))

  -- the same for all addresses where no two valid lines of a set have one tag, as in every reached unit
  pub joint_holds_all : NoDoubles ls
      → ((address p : ℕ) → address < 4294967296 → covers_of r sar address ≡ true → Hit ls address p → modified (tag_word ls p) ≡ false → memory_of ram rom address ≡ some (word_at cs p address))
      → (address : ℕ) → address < 4294967296 → held_of both.lines cs both.ram rom address ≡ held_of ls cs ram rom address
  unfolding NoDoubles
  joint_holds_all one agrees address physical =
      joint_holds address physical
      (λ c p q h g. one p q h.small g.small (h.in_set ∙ sym g.in_set) h.is_valid g.is_valid (h.has_tag ∙ sym g.has_tag))
      (λ c p. agrees address p physical c)
