-- Demand 3, clause by clause, for the commands as a program runs them.
use Rattle.std.specs.Prelude.{ℕ, ◌<◌, ◌≡◌, true, false, length}
use Rattle.std.proofs.Common.{sym, ap, ◌∙◌}
use Rattle.std.proofs.Math.Option.{some}
use mathlib.Core.List.{List, Perm}
use Rattle.lines.specs.Lines.{modified, tag_word}
use Rattle.cells.specs.Cells.{word_at}
use Rattle.lines.specs.Laws.{Hit, NoDoubles}
use Rattle.sweep.specs.declared.Kind.{Kind}
use Rattle.sweep.specs.declared.Kind.TheVariants.{Invalidate, CopyBack, Both}
use Rattle.sweep.specs.declared.Range.{Range}
use Rattle.sweep.specs.declared.Range.TheVariants.{Line, Page, Segment, All}
use Rattle.sweep.specs.Sweep.{covers_of, Sweep}
use Rattle.control.specs.Control.{Kept}
use Rattle.flush_laws.specs.Sweep.{Fits, flush_each, flush_of}
use Rattle.flush_laws.specs.Ranges.{lines_of, pages_of, segments_of}
use Rattle.flush_laws.specs.Held.{memory_of, held_of}
use Rattle.flush_laws.specs.Laws.{page_lines, all_segments, copy_then_invalidate, copy_back_holds, joint_holds_all}
use Rattle.flush_laws.proofs.Laws.{segment_pages, flush_again}
use Rattle.command_laws.specs.Command.{command, commands, Asks, flush_lines, flush_ram, each_lines, each_ram}

-- the same lines and RAM
abbrev pub Same : Kept → Kept → Type 0
Same s t = (s.lines ≡ t.lines) × (s.ram ≡ t.ram)

module _ (cs rom : List ℕ) (s : Kept) (size : length s.lines ≡ 1280) where
  -- a code for the parts and one for the whole, where the sweeps agree
  parts : (k : Kind) (part whole : Range) (few all sar : ℕ) (sars : List ℕ) → Asks few k part → Asks all k whole
      → flush_each k part cs sars s.lines s.ram ≡ flush_of k whole sar cs s.lines s.ram
      → Same (commands cs rom few sars s) (command cs rom s all sar)
  parts k part whole few all sar sars pa wa e = (
    each_lines cs rom few k part pa sars s ∙ ap (λ (x : Sweep). x.lines) e ∙ sym (flush_lines cs rom s all sar k whole wa),
    each_ram cs rom few k part pa sars s ∙ ap (λ (x : Sweep). x.ram) e ∙ sym (flush_ram cs rom s all sar k whole wa),
  )

  module _ (k : Kind) (few all sar : ℕ) (sars : List ℕ) where
    -- "segment = its pages in any order". Needed: each covered modified line lies in RAM; for invalidate nothing
    pub segment_is_pages : Asks few k Page → Asks all k Segment → Perm sars (pages_of sar) → Fits k (covers_of Segment sar) s.lines s.ram
        → Same (commands cs rom few sars s) (command cs rom s all sar)
    segment_is_pages pa wa p f = parts k Page Segment few all sar sars pa wa (segment_pages k cs s.lines s.ram size sar sars p f)

    -- "page = its lines in any order"
    pub page_is_lines : Asks few k Line → Asks all k Page → Perm sars (lines_of sar) → Fits k (covers_of Page sar) s.lines s.ram
        → Same (commands cs rom few sars s) (command cs rom s all sar)
    page_is_lines pa wa p f = parts k Line Page few all sar sars pa wa (page_lines k cs s.lines s.ram size sar sars p f)

    -- "everything = all segments in any order"
    pub all_is_segments : Asks few k Segment → Asks all k All → Perm sars segments_of → Fits k (covers_of All sar) s.lines s.ram
        → Same (commands cs rom few sars s) (command cs rom s all sar)
    all_is_segments pa wa p f = parts k Segment All few all sar sars pa wa (all_segments k cs s.lines s.ram size sar sars p f)

  -- "a second like flush changes neither lines nor memory". Needed: nothing more
  pub second_changes_nothing : (k : Kind) (r : Range) (code sar : ℕ) → Asks code k r
      → Same (command cs rom (command cs rom s code sar) code sar) (command cs rom s code sar)
  second_changes_nothing k r code sar a =
      let l = flush_lines cs rom s code sar k r a in
      let m = flush_ram cs rom s code sar k r a in
      let e = flush_again k r sar cs s.lines s.ram size in (
        flush_lines cs rom (command cs rom s code sar) code sar k r a ∙ rw (l, m) (ap (λ (x : Sweep). x.lines) e),
        flush_ram cs rom (command cs rom s code sar) code sar k r a ∙ rw (l, m) (ap (λ (x : Sweep). x.ram) e),
      )

  -- "copy back then invalidate = the joint command". Needed: each covered modified line lies in RAM
  pub copy_back_then_invalidate : (r : Range) (copy drop both sar : ℕ) → Asks copy CopyBack r → Asks drop Invalidate r → Asks both Both r
      → Fits CopyBack (covers_of r sar) s.lines s.ram
      → Same (command cs rom (command cs rom s copy sar) drop sar) (command cs rom s both sar)
  copy_back_then_invalidate r copy drop both sar ca da ba f =
      let l = flush_lines cs rom s copy sar CopyBack r ca in
      let m = flush_ram cs rom s copy sar CopyBack r ca in
      let e = copy_then_invalidate r sar cs s.lines s.ram size f in (
        flush_lines cs rom (command cs rom s copy sar) drop sar Invalidate r da ∙ rw (l, m) (ap (λ (x : Sweep). x.lines) e) ∙ sym (flush_lines cs rom s both sar Both r ba),
        flush_ram cs rom (command cs rom s copy sar) drop sar Invalidate r da ∙ rw (l, m) (ap (λ (x : Sweep). x.ram) e) ∙ sym (flush_ram cs rom s both sar Both r ba),
      )

  -- the word held for a physical address
  abbrev pub held : Kept → ℕ → Type 0
  held t address = held_of t.lines cs t.ram rom address ≡ held_of s.lines cs s.ram rom address

  -- "copy back alone never alters the held word of any physical address". Needed: nothing more
  pub copy_back_keeps : (r : Range) (code sar : ℕ) → Asks code CopyBack r → (address : ℕ) → held (command cs rom s code sar) address
  copy_back_keeps r code sar a address =
      rw (flush_lines cs rom s code sar CopyBack r a, flush_ram cs rom s code sar CopyBack r a) (copy_back_holds r sar cs s.lines s.ram rom size address)

  -- "the joint command does not where every valid unmodified line lies in RAM or ROM and agrees with it". Needed of covered lines alone, and
  -- that no two valid lines of a set have one tag
  pub joint_keeps : (r : Range) (code sar : ℕ) → Asks code Both r → NoDoubles s.lines
      → ((address p : ℕ) → address < 4294967296 → covers_of r sar address ≡ true → Hit s.lines address p → modified (tag_word s.lines p) ≡ false → memory_of s.ram rom address ≡ some (word_at cs p address))
      → (address : ℕ) → address < 4294967296 → held (command cs rom s code sar) address
  joint_keeps r code sar a one agrees address physical =
      rw (flush_lines cs rom s code sar Both r a, flush_ram cs rom s code sar Both r a) (joint_holds_all r sar cs s.lines s.ram rom size one agrees address physical)
