-- How a flush goes on from place to place, and that one that has stopped stays as it is.
use Prim.Native.Nat.{ℕ, zero, suc, ◌+◌, ◌-◌, ◌<◌}
use Rattle.std.specs.Prelude.{◌≡◌, true, false, List}
use Rattle.std.proofs.Math.Path.{sym, ap}
use Rattle.std.proofs.Common.{◌∙◌, add-suc}
use native.Mathlib.Omega.{arith}
use Rattle.std.proofs.Math.Nat.{add-zero}
use Rattle.sweep.specs.declared.Kind.{Kind}
use Rattle.sweep.specs.declared.Range.{Range}
use Rattle.sweep.specs.Sweep.{Flushed}
use Rattle.sweep.specs.declared.Kind.TheVariants.{Invalidate, CopyBack, Both}
use Rattle.sweep.specs.Sweep.{after_of, Sweep, swept, well_of, stopped_of, line_of, sweep_of}

-- the state that a copied line takes is one of the four
pub after_small : (k : Kind) → after_of k < 4
after_small Invalidate = omega arith
after_small CopyBack = omega arith
after_small Both = omega arith

module _ (k : Kind) (r : Range) (sar : ℕ) (cs ls ram : List ℕ) where
  pub stopped_stays : (n m : ℕ) → (sweep_of k r sar cs ls ram n).flushed.ok ≡ false → sweep_of k r sar cs ls ram (n + m) ≡ sweep_of k r sar cs ls ram n
  unfolding sweep_of
  stopped_stays n zero e = rw add-zero
  stopped_stays n (suc m) e = rw (add-suc, stopped_stays n m e, e)

  -- from the first p places to the next
  module _ (p words : ℕ) (x : Flushed) (ls₁ ram₁ ls₂ ram₂ : List ℕ)
      (so : swept (well_of words) ls₁ ram₁ ≡ sweep_of k r sar cs ls ram p) (here : swept x ls₂ ram₂ ≡ line_of k r sar cs p ls₁ ram₁) where
    pub goes_on : x.ok ≡ true → swept (well_of (words + x.words)) ls₂ ram₂ ≡ sweep_of k r sar cs ls ram (suc p)
    unfolding sweep_of
    goes_on e = rw (← so, ← here, e)

    pub stops : x.ok ≡ false → p < 1024 → swept (stopped_of (words + x.words) x.failing) ls₂ ram₂ ≡ sweep_of k r sar cs ls ram 1024
    unfolding sweep_of
    stops e h =
        let now : swept (stopped_of (words + x.words) x.failing) ls₂ ram₂ ≡ sweep_of k r sar cs ls ram (suc p) = rw (← so, ← here, e) in
        let e₁ : suc p + (1024 - suc p) ≡ 1024 = omega arith in
        now ∙ sym (stopped_stays (suc p) (1024 - suc p) (ap (λ (s : Sweep). s.flushed.ok) (sym now))) ∙ ap (sweep_of k r sar cs ls ram) e₁
