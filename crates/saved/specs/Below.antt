-- Laws of `below n f`, a test that each number below n passes: a loop that counts down, and what the test says, both ways.
use Rattle.std.specs.Prelude.{ℕ, zero, suc, ◌+◌, ◌-◌, ◌*◌, ◌<◌, ◌≤◌, ◌≡◌, refl, Bool, true, false, ◌&&◌}
use Rattle.std.proofs.Math.Path.{sym}
use Rattle.std.proofs.Common.{◌∙◌, true≢false, arith, mul-le-mul_right, suc-mul}
use Rattle.order.specs.Laws.{below, below_at}

module _ (f : ℕ → Bool) where
  first : (m n : ℕ) → n ≡ suc m → below n f ≡ (f m && below m f)
  unfolding below
  first m n s = rw s

  -- a loop that counts down: n - 1 passes, and the numbers below it are left; or it fails; at last none is left
  pub below_pass : (n : ℕ) → 0 < n → f (n - 1) ≡ true → below (n - 1) f ≡ below n f
  below_pass n h e = sym (first (n - 1) n (omega arith) ∙ rw e)

  pub below_fail : (n : ℕ) → 0 < n → f (n - 1) ≡ false → false ≡ below n f
  below_fail n h e = sym (first (n - 1) n (omega arith) ∙ rw e)

  pub below_none : (n : ℕ) → n ≡ 0 → true ≡ below n f
  unfolding below
  below_none n e = sym (rw e)

-- a test of numbers below n looks at no other
pub below_same : (n : ℕ) (f g : ℕ → Bool) → ((k : ℕ) → k < n → f k ≡ g k) → below n f ≡ below n g
unfolding below
below_same zero f g e = refl
below_same (suc n) f g e = rw (e n (omega arith), below_same n f g (λ k h. e k (omega arith)))

-- what holds of each number below n
pub below_of : (n : ℕ) (f : ℕ → Bool) → ((k : ℕ) → k < n → f k ≡ true) → below n f ≡ true
unfolding below
below_of zero f h = refl
below_of (suc n) f h = rw (h n (omega arith), below_of n f (λ k l. h k (omega arith)))

-- where it fails
pub record Fails (n : ℕ) (f : ℕ → Bool) : Type 0 where
  pub at : ℕ
  pub small : at < n
  pub fails : f at ≡ false

pub below_where : (n : ℕ) (f : ℕ → Bool) → below n f ≡ false → Fails n f
unfolding below
below_where zero f e = absurd (true≢false e)
below_where (suc n) f e = go (f n) refl (λ t. below_where n f (rw t at e))
  where
    go : (b : Bool) → f n ≡ b → (f n ≡ true → Fails n f) → Fails (suc n) f
    go false t rest = record { at = n; small = omega arith; fails = t }
    go true t rest = let w = rest t in record { at = w.at; small = omega (arith, w.small); fails = w.fails }

pub below_not : (n : ℕ) (f : ℕ → Bool) (k : ℕ) → k < n → f k ≡ false → below n f ≡ false
below_not n f k h e = go (below n f) refl
  where
    go : (b : Bool) → below n f ≡ b → b ≡ false
    go false t = refl
    go true t = absurd (true≢false (sym (below_at n f t k h) ∙ e))

-- what stands every `step` from `at` on: place i of n has room
pub room : (at step n i : ℕ) → i < n → at + i * step + step ≤ at + n * step
room at step n i h = omega (arith, mul-le-mul_right step h, suc-mul i step)
