-- A load, a renewal and the clearing commands keep the PATC well formed.
use Prim.Native.Nat.{ℕ, zero, suc, ◌+◌, ◌*◌, ◌/◌, ◌%◌, ◌<◌, ◌≤◌}
use Rattle.std.specs.Prelude.{◌≡◌, Bool, false, ◌&&◌, ◌⊎◌, eqb, ltb, get_or, set}
use Rattle.std.proofs.Math.Path.{refl, subst}
use Rattle.std.proofs.Common.{sym, ap, ◌∙◌, arith, get_or-set_same, get_or-set_other, ne_eqb}
use mathlib.Core.List.{List}
use Rattle.std.proofs.Math.Logic.{inl, inr}
use Rattle.std.proofs.Math.Decide.{ℕ_discrete}
use Rattle.std.proofs.Math.ListN.{length, length-set}
use Rattle.std.proofs.lemmas.Bool.{eqb-false}
use Rattle.words.specs.Words.{bits_of, bit_of, flag_of}
use Rattle.words.specs.Laws.{either}
use Rattle.state.specs.Own.{own_tag, tag_fields}
use Rattle.pages.specs.declared.Translation.{Translation}
use Rattle.patc.specs.declared.Range.{Range}
use Rattle.pages.specs.Pages.{same, page_word_of, frame_word_of}
use Rattle.patc.specs.Patc.{page_word, entry_of, free_of, put_of, stepped_of, Loaded, load_of, named, cleared_word, cleared_to, cleared_of}
use Rattle.pages.specs.Laws.{word_own, frame_own}
use Rattle.patc.specs.Laws.{length_put, load_alone, renew_alone, kept_alone}
use Rattle.saved.specs.declared.Layout.TheVariants.{Entries}
use Rattle.saved.specs.Chip.{own_words}
use Rattle.saved.specs.Own.{own_at, page_own, frame_own as frame-place}
use Rattle.reached.specs.Good.{GoodEntries, own_put}

put_own : (ps : List ℕ) (n : ℕ) (address : ℕ) (s : Bool) (t : Translation) → own_words Entries ps ≡ ps
    → own_words Entries (put_of ps n (page_word_of address s) (frame_word_of t)) ≡ put_of ps n (page_word_of address s) (frame_word_of t)
unfolding put_of
put_own ps n address s t e =
    own_put Entries (set ps (n * 2) (page_word_of address s)) (n * 2 + 1) (frame_word_of t)
    (own_put Entries ps (n * 2) (page_word_of address s) e (page_own (n * 2) _ (omega arith) ∙ word_own address s))
    (frame-place (n * 2 + 1) _ (omega arith) ∙ frame_own t)

-- ---- an entry loaded, after a miss

module _ (ps : List ℕ) (g : GoodEntries ps) (address : ℕ) (s : Bool) (t : Translation) where
  load_size : (pointer : ℕ) → length (load_of ps pointer (page_word_of address s) (frame_word_of t)).patc ≡ 112
  unfolding load_of
  load_size pointer =
      either (λ (l : Loaded). length l.patc ≡ 112) (ltb (free_of ps) 56) (λ _. length_put ps _ _ _ ∙ g.size) (λ _. length_put ps _ _ _ ∙ g.size)

  load_own : (pointer : ℕ) → own_words Entries (load_of ps pointer (page_word_of address s) (frame_word_of t)).patc ≡ (load_of ps pointer (page_word_of address s) (frame_word_of t)).patc
  unfolding load_of
  load_own pointer =
      either (λ (l : Loaded). own_words Entries l.patc ≡ l.patc) (ltb (free_of ps) 56) (λ _. put_own ps _ address s t g.own) (λ _. put_own ps _ address s t g.own)

  pub load_good : (pointer : ℕ) → entry_of ps address s ≡ 56 → GoodEntries (load_of ps pointer (page_word_of address s) (frame_word_of t)).patc
  load_good pointer miss =
      record { size = load_size pointer; own = load_own pointer; alone = load_alone ps g.size pointer address s (frame_word_of t) miss g.alone }

  -- .. or renewed, after a hit
  pub renew_good : entry_of ps address s < 56 → GoodEntries (put_of ps (entry_of ps address s) (page_word_of address s) (frame_word_of t))
  renew_good h =
      record { size = length_put ps _ _ _ ∙ g.size; own = put_own ps _ address s t g.own; alone = renew_alone ps g.size address s (frame_word_of t) h g.alone }

-- the pointer stays at most 55
pub stepped_small : (at : ℕ) → at ≤ 55 → stepped_of at ≤ 55
stepped_small at h = either (λ (n : ℕ). n ≤ 55) (eqb at 55) (λ _. omega arith) (λ e. let ne : at ≡ 55 → ⊥ = eqb-false at 55 e in omega arith)

-- ---- V cleared

module _ (range : Range) (s : Bool) (address : ℕ) where
  clear_bit : (w : ℕ) → bit_of (bits_of w 31 12 * 4096 + flag_of s 2) 0 ≡ false
  clear_bit w =
      either (λ (f : ℕ). bit_of (bits_of w 31 12 * 4096 + f) 0 ≡ false) s
      (λ _. ne_eqb ((bits_of w 31 12 * 4096 + 2) / 1 % 2) 1 (λ e. omega arith))
      (λ _. ne_eqb ((bits_of w 31 12 * 4096 + 0) / 1 % 2) 1 (λ e. omega arith))

  clear_own : (w : ℕ) → own_tag w ≡ w → own_tag (cleared_word range s address w) ≡ cleared_word range s address w
  unfolding cleared_word
  clear_own w e =
      either (λ (x : ℕ). own_tag x ≡ x) (bit_of w 0 && same (bit_of w 1) s && named range w address)
      (λ _. either (λ (f : ℕ). own_tag (bits_of w 31 12 * 4096 + f) ≡ bits_of w 31 12 * 4096 + f) s
      (λ _. tag_fields (bits_of w 31 12) 2 (omega arith) (omega arith))
      (λ _. tag_fields (bits_of w 31 12) 0 (omega arith) (omega arith)))
      (λ _. e)

  module _ (ps : List ℕ) (g : GoodEntries ps) where
    cleared_size : (n : ℕ) → length (cleared_to range s address ps n) ≡ 112
    unfolding cleared_to
    cleared_size zero = g.size
    cleared_size (suc n) = length-set (cleared_to range s address ps n) (n * 2) _ ∙ cleared_size n

    page_at_lem : (qs : List ℕ) → length qs ≡ 112 → own_words Entries qs ≡ qs → (n : ℕ) → n < 56 → own_tag (page_word qs n) ≡ page_word qs n
    page_at_lem qs size e n h =
        let i : n * 2 < length qs = omega arith in
        sym (page_own (0 + n * 2) (page_word qs n) (omega arith)) ∙ sym (own_at Entries 0 qs (n * 2) i) ∙ ap (λ (l : List ℕ). get_or l (n * 2) 0) e

    cleared_own : (n : ℕ) → n ≤ 56 → own_words Entries (cleared_to range s address ps n) ≡ cleared_to range s address ps n
    unfolding cleared_to
    cleared_own zero h = g.own
    cleared_own (suc n) h =
        let e = cleared_own n (omega arith) in
        own_put Entries (cleared_to range s address ps n) (n * 2) _ e
        (page_own (n * 2) _ (omega arith) ∙ clear_own _ (page_at_lem (cleared_to range s address ps n) (cleared_size n) e n (omega arith)))

    Kept : ℕ → ℕ → Type 0
    Kept w m = (w ≡ page_word ps m) ⊎ (bit_of w 0 ≡ false)

    kept_word : (w m : ℕ) → Kept w m → Kept (cleared_word range s address w) m
    unfolding Kept cleared_word
    kept_word w m k = either (λ (x : ℕ). Kept x m) (bit_of w 0 && same (bit_of w 1) s && named range w address) (λ _. inr (clear_bit w)) (λ _. k)

    cleared_kept : (n : ℕ) → n ≤ 56 → (m : ℕ) → m < 56 → Kept (page_word (cleared_to range s address ps n) m) m
    unfolding Kept cleared_to
    cleared_kept zero h m hm = inl refl
    cleared_kept (suc n) h m hm =
        let qs : List ℕ = cleared_to range s address ps n in
        elim (ℕ_discrete m n) [
          | yes e ↦
              let i : n * 2 < length qs = omega (arith, cleared_size n) in
              subst (λ (k : ℕ). Kept (page_word (set qs (n * 2) (cleared_word range s address (page_word qs n))) k) k) (sym e)
              (rw (get_or-set_same qs (n * 2) (cleared_word range s address (page_word qs n)) 0 i)
              (kept_word (page_word qs n) n (cleared_kept n (omega arith) n (omega arith))))
          | no e ↦
              rw (get_or-set_other qs (n * 2) (m * 2) (cleared_word range s address (page_word qs n)) 0 (λ q. e (omega arith))) (cleared_kept n (omega arith) m hm)
        ]

    pub cleared_good : GoodEntries (cleared_of range s address ps)
    unfolding Kept
    cleared_good =
        record { size = cleared_size 56; own = cleared_own 56 (omega arith); alone = kept_alone ps (cleared_of range s address ps) (cleared_kept 56 (omega arith)) g.alone }
