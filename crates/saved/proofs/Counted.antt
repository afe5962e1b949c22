-- A test of all numbers in a range is a test that each number below its end passes.
use Rattle.std.proofs.Common.{◌≡◌, ℕ, zero, suc, ◌+◌, Bool, true, false, ◌&&◌, refl, sym, ap, ◌∙◌, arith}
use Rattle.std.specs.List.{list_all, range_with_len}
use Rattle.order.specs.Laws.{below}
use Rattle.saved.specs.Below.{below_same}

turned : (a b c : Bool) → (a && (b && c)) ≡ (b && (a && c))
turned true b c = refl
turned false true c = refl
turned false false c = refl

front : (n : ℕ) (f : ℕ → Bool) → below (suc n) f ≡ (f 0 && below n (λ k. f (suc k)))
unfolding below
front zero f = refl
front (suc n) f = ap (λ (b : Bool). f (suc n) && b) (front n f) ∙ turned (f (suc n)) (f 0) (below n (λ k. f (suc k)))

from : (f : ℕ → Bool) (n a : ℕ) → list_all f (range_with_len a n) ≡ below n (λ k. f (a + k))
unfolding below
from f zero a = refl
from f (suc n) a =
    let here : a + 0 ≡ a = omega arith in
    let rest = below_same n (λ k. f (a + 1 + k)) (λ k. f (a + suc k)) (λ k h. ap f (omega arith)) in
    ap (λ (b : Bool). f a && b) (from f n (a + 1) ∙ rest) ∙ ap (λ (b : Bool). b && below n (λ k. f (a + suc k))) (ap f (sym here)) ∙ sym (front n (λ k. f (a + k)))

pub counted : (f : ℕ → Bool) (n : ℕ) → list_all f (range_with_len 0 n) ≡ below n f
counted f n = from f n 0 ∙ below_same n (λ k. f (0 + k)) f (λ k h. ap f (omega arith))
