-- A second like flush; and copying back and then invalidating, which is the joint command.
use Prim.Native.Nat.{ℕ, zero, suc, ◌+◌, ◌≤◌, ◌<◌}
use Rattle.std.specs.Prelude.{◌≡◌, Bool, true, List, length}
use Rattle.std.proofs.Math.Path.{refl, subst, fun_ext}
use Rattle.std.proofs.Common.{sym, ap, ◌∙◌, true≢false}
use Rattle.std.proofs.Math.Bool.{and-false, or_self}
use native.Mathlib.Omega.{arith}
use Rattle.words.specs.Laws.{and_left, and_right}
use Rattle.lines.specs.Lines.{modified, tag_word, line_address}
use Rattle.sweep.specs.declared.Kind.{Kind}
use Rattle.sweep.specs.declared.Kind.TheVariants.{Invalidate, CopyBack, Both}
use Rattle.sweep.specs.Sweep.{Sweep, swept}
use Rattle.flush_laws.specs.Sweep.{◌∪◌, ends_alike, flush_by, after, is_copied, lines_to, ram_to, count_to, FitsTo, Fits, and_then}
use Rattle.flush_laws.specs.Point.{after_modified, after_both, length_lines_to, lines_to_code, lines_to_later, lines_to_done, lines_ext, length_ram_to, StopsAt, First, fit, stops, first, sweep_stops}
use Rattle.flush_laws.specs.Union.{both_lines, both_ram, both_count, fits₂, lines₁, ram₁, whole, runs, then_well, same_sweep}

-- ---- a second like flush, also where the first has stopped

∪_self : (c : ℕ → Bool) → (c ∪ c) ≡ c
∪_self c = fun_ext (λ a. or_self (c a))

module _ (n : ℕ) (small : n ≤ 1024) (k : Kind) (c : ℕ → Bool) (cs ls ram : List ℕ) (size : length ls ≡ 1280) (f : FitsTo n k c ls ram) where
  f∪ : FitsTo n k (c ∪ c) ls ram
  f∪ = rw (∪_self c) f

  again_lines : lines_to k c (lines_to k c ls n) n ≡ lines_to k c ls n
  unfolding lines₁
  again_lines = both_lines n small k c c cs ls ram size ∙ rw (∪_self c)

  again_ram : ram_to k c cs (lines_to k c ls n) (ram_to k c cs ls ram n) n ≡ ram_to k c cs ls ram n
  unfolding lines₁ ram₁
  again_ram = both_ram n small k c c cs ls ram size f∪ ∙ rw (∪_self c)

  again_count : count_to k c (lines_to k c ls n) n ≡ 0
  unfolding lines₁
  again_count = left _ _ (both_count n small k c c cs ls ram size n (omega arith) ∙ rw (∪_self c))
    where
      left : (a b : ℕ) → a + b ≡ a → b ≡ 0
      left a b e = omega arith

  again_fits : FitsTo n k c (lines_to k c ls n) (ram_to k c cs ls ram n)
  unfolding lines₁ ram₁
  again_fits = fits₂ n small k c c cs ls ram size f∪

  again_stops : StopsAt k c ls ram n → StopsAt k c (lines_to k c ls n) (ram_to k c cs ls ram n) n
  again_stops s = record {
    before = again_fits;
    to_copy = rw (lines_to_later k c ls n n (omega arith)) s.to_copy;
    outside = rw (lines_to_later k c ls n n (omega arith), length_ram_to) s.outside;
  }

module _ (k : Kind) (c : ℕ → Bool) (cs ls ram : List ℕ) (size : length ls ≡ 1280) where
  Again : Sweep → Type 0
  Again x = flush_by k c cs x.lines x.ram ≡ swept (ends_alike x.flushed) x.lines x.ram

  pub again : flush_by k c cs (flush_by k c cs ls ram).lines (flush_by k c cs ls ram).ram ≡ swept (ends_alike (flush_by k c cs ls ram).flushed) (flush_by k c cs ls ram).lines (flush_by k c cs ls ram).ram
  unfolding Again
  again = go (first k c ls ram 1024)
    where
      go : First k c ls ram 1024 → Again (flush_by k c cs ls ram)
      go (fit f) = subst Again (sym (runs k c cs ls ram f)) (
          runs k c cs _ _ (again_fits 1024 whole k c cs ls ram size f)
          ∙ same_sweep _ _ _ _ _ _ (omega (arith, again_count 1024 whole k c cs ls ram size f)) (again_lines 1024 whole k c cs ls ram size f) (again_ram 1024 whole k c cs ls ram size f))
      go (stops n h s) = subst Again (sym (sweep_stops k c cs ls ram n s 1024 h)) (
          sweep_stops k c cs _ _ n (again_stops n (omega arith) k c cs ls ram size s.before s) 1024 h
          ∙ rw (again_count n (omega arith) k c cs ls ram size s.before, lines_to_later k c ls n n (omega arith), again_lines n (omega arith) k c cs ls ram size s.before, again_ram n (omega arith) k c cs ls ram size s.before))

-- ---- copying back and then invalidating is the joint command

module _ (c : ℕ → Bool) (cs ls ram : List ℕ) where
  pub invalidate_ram : (n : ℕ) → ram_to Invalidate c cs ls ram n ≡ ram
  unfolding ram_to is_copied
  invalidate_ram zero = refl
  invalidate_ram (suc n) = invalidate_ram n

  joint_ram : (n : ℕ) → ram_to CopyBack c cs ls ram n ≡ ram_to Both c cs ls ram n
  unfolding ram_to is_copied
  joint_ram zero = refl
  joint_ram (suc n) = rw (joint_ram n)

  invalidate_count : (n : ℕ) → count_to Invalidate c ls n ≡ 0
  unfolding count_to is_copied
  invalidate_count zero = refl
  invalidate_count (suc n) = rw (invalidate_count n)

  joint_count : (n : ℕ) → count_to CopyBack c ls n ≡ count_to Both c ls n
  unfolding count_to is_copied
  joint_count zero = refl
  joint_count (suc n) = rw (joint_count n)

  joint_lines : length ls ≡ 1280 → lines_to Invalidate c (lines_to CopyBack c ls 1024) 1024 ≡ lines_to Both c ls 1024
  joint_lines size = lines_ext _ _ (simp length_lines_to size) (simp length_lines_to size) words (λ i h. simp lines_to_code)
    where
      words : (p : ℕ) → p < 1024 → tag_word (lines_to Invalidate c (lines_to CopyBack c ls 1024) 1024) p ≡ tag_word (lines_to Both c ls 1024) p
      words p h =
          lines_to_done Invalidate c _ (simp length_lines_to size) 1024 p whole h
          ∙ rw (lines_to_done CopyBack c ls size 1024 p whole h) (after_both c p _)
          ∙ sym (lines_to_done Both c ls size 1024 p whole h)

-- an invalidating flush never stops
pub invalidate_fits : (c : ℕ → Bool) (ls ram : List ℕ) → Fits Invalidate c ls ram
unfolding is_copied
invalidate_fits c ls ram p h e = absurd (true≢false (sym e))

pub joint : (c : ℕ → Bool) (cs ls ram : List ℕ) → length ls ≡ 1280 → Fits CopyBack c ls ram
    → and_then (flush_by CopyBack c cs ls ram) (flush_by Invalidate c cs) ≡ flush_by Both c cs ls ram
unfolding is_copied
joint c cs ls ram size f =
    then_well _ (flush_by Invalidate c cs) _ _ _ _ _ _ (runs CopyBack c cs ls ram f) (runs Invalidate c cs _ _ (invalidate_fits c (lines_to CopyBack c ls 1024) (ram_to CopyBack c cs ls ram 1024)))
    ∙ same_sweep _ _ _ _ _ _ (omega (arith, invalidate_count c cs (lines_to CopyBack c ls 1024) ram 1024, joint_count c cs ls ram 1024)) (joint_lines c cs ls ram size) (invalidate_ram c cs _ _ 1024 ∙ joint_ram c cs ls ram 1024)
    ∙ sym (runs Both c cs ls ram f)

-- .. and only where each covered modified line lies in RAM: the joint command leaves one that does not, the two drop it
pub joint_only : (c : ℕ → Bool) (cs ls ram : List ℕ) → length ls ≡ 1280
    → (and_then (flush_by CopyBack c cs ls ram) (flush_by Invalidate c cs)).lines ≡ (flush_by Both c cs ls ram).lines → Fits CopyBack c ls ram
unfolding is_copied
joint_only c cs ls ram size same = go (first CopyBack c ls ram 1024)
  where
    two : (n : ℕ) → n < 1024 → StopsAt CopyBack c ls ram n → (and_then (flush_by CopyBack c cs ls ram) (flush_by Invalidate c cs)).lines ≡ lines_to Invalidate c (lines_to CopyBack c ls n) 1024
    two n h s = rw (sweep_stops CopyBack c cs ls ram n s 1024 h, runs Invalidate c cs (lines_to CopyBack c ls n) (ram_to CopyBack c cs ls ram n) (invalidate_fits c (lines_to CopyBack c ls n) (ram_to CopyBack c cs ls ram n)))

    one : (n : ℕ) → n < 1024 → StopsAt CopyBack c ls ram n → (flush_by Both c cs ls ram).lines ≡ lines_to Both c ls n
    one n h s = rw (sweep_stops Both c cs ls ram n (record { before = s.before; to_copy = s.to_copy; outside = s.outside }) 1024 h)

    stopped : (n : ℕ) → n < 1024 → StopsAt CopyBack c ls ram n → ⊥
    stopped n h s =
        let word : tag_word (lines_to Invalidate c (lines_to CopyBack c ls n) 1024) n ≡ tag_word (lines_to Both c ls n) n = ap (λ (l : List ℕ). tag_word l n) (sym (two n h s) ∙ same ∙ one n h s) in
        let gone : after Invalidate c n (tag_word ls n) ≡ tag_word ls n = rw (lines_to_done Invalidate c (lines_to CopyBack c ls n) (length_lines_to CopyBack c ls n ∙ size) 1024 n whole h, lines_to_later CopyBack c ls n n (omega arith), lines_to_later Both c ls n n (omega arith)) at word in
        let m : modified (tag_word ls n) ≡ true = and_right (c (line_address n (tag_word ls n))) _ s.to_copy in
        true≢false (sym m ∙ ap modified (sym gone) ∙ rw (after_modified, and_left (c (line_address n (tag_word ls n))) _ s.to_copy) (and-false (modified (tag_word ls n))))

    go : First CopyBack c ls ram 1024 → Fits CopyBack c ls ram
    go (fit f) = f
    go (stops n h s) = absurd (stopped n h s)
