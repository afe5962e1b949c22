-- Laws of the use code, each computed over all codes once.
use Rattle.std.specs.Prelude.{ℕ, zero, suc, ◌+◌, ◌*◌, ◌/◌, ◌%◌, ◌<◌, ◌≡◌, refl, Bool, true, false, not, ◌&&◌, ◌||◌, eqb, ltb, List, [], ◌∷◌, ◌++◌, length, get_or, set, drop}
use Rattle.std.proofs.Common.{sym, ap, ◌∙◌, subst, arith, le_of_suc-le-suc, not-suc-le-zero, ltb-true, add-one}
use Rattle.std.proofs.Math.Decide.{ℕ_discrete}
use Rattle.words.specs.Words.{pick, bits_of}
use Rattle.words.specs.Laws.{and_left, and_right}
use Rattle.order.specs.Order.{used_of, earliest_of, is_order, later, each}

-- a test that each number below n passes
unfoldable pub below : ℕ → (ℕ → Bool) → Bool
below zero f = true
below (suc n) f = f n && below n f

-- .. holds of each of them
pub below_at : (n : ℕ) (f : ℕ → Bool) → below n f ≡ true → (k : ℕ) → k < n → f k ≡ true
unfolding below
below_at zero f e k h = absurd (not-suc-le-zero h)
below_at (suc n) f e k h = elim (ℕ_discrete k n) [
  | yes q ↦ subst (λ (m : ℕ). f m ≡ true) (sym q) (and_left (f n) (below n f) e)
  | no q ↦ below_at n f (and_right (f n) (below n f) e) k (omega arith)
]

-- the table of a rule's n values from i on
unfoldable pub table : (ℕ → ℕ) → ℕ → ℕ → List ℕ
table rule i zero = []
table rule i (suc n) = rule i ∷ table rule (suc i) n

from : (rule : ℕ → ℕ) (n i k : ℕ) → k < n → get_or (table rule i n) k 0 ≡ rule (i + k)
unfolding table
from rule zero i k h = absurd (not-suc-le-zero h)
from rule (suc n) i zero h = ap rule (omega arith)
from rule (suc n) i (suc k) h = from rule n (suc i) k (le_of_suc-le-suc h) ∙ ap rule (omega arith)

-- .. has at each place what the rule says. A const table is one by computation
pub tabled : (rule : ℕ → ℕ) (n k : ℕ) → k < n → get_or (table rule 0 n) k 0 ≡ rule k
tabled rule n k h = from rule n 0 k h ∙ ap rule (omega arith)

-- a property of a code and a line, at 4 x code + line
module _ (f : ℕ → ℕ → Bool) (holds : below 256 (λ k. f (k / 4) (k % 4)) ≡ true) where
  pub of_code : (code n : ℕ) → code < 64 → n < 4 → f code n ≡ true
  of_code code n hc hn =
      let q : (code * 4 + n) / 4 ≡ code = omega arith in
      let r : (code * 4 + n) % 4 ≡ n = omega arith in
      subst (λ (m : ℕ). f m n ≡ true) q (subst (λ (m : ℕ). f ((code * 4 + n) / 4) m ≡ true) r (below_at 256 (λ k. f (k / 4) (k % 4)) holds (code * 4 + n) (omega arith)))

-- a used line's code is a code
pub used_small : (code n : ℕ) → code < 64 → n < 4 → used_of code n < 64
unfolding used_of below
used_small code n hc hn = ltb-true _ _ (of_code (λ c m. ltb (used_of c m) 64) refl code n hc hn)

implied : (a b : Bool) → (not a || b) ≡ true → a ≡ true → b ≡ true
implied true b e h = e
implied false true e h = refl
implied false false e h = h

-- use keeps an order an order
pub used_order : (code n : ℕ) → code < 64 → n < 4 → is_order code ≡ true → is_order (used_of code n) ≡ true
unfolding used_of is_order below
used_order code n hc hn = implied (is_order code) (is_order (used_of code n)) (of_code (λ c m. not (is_order c) || is_order (used_of c m)) refl code n hc hn)

-- a line just used is later than each other line
pub used_latest : (code n : ℕ) → code < 64 → n < 4 → each (λ m. eqb m n || later (used_of code n) m n) ≡ true
unfolding used_of below
used_latest code n hc hn = of_code (λ c l. each (λ m. eqb m l || later (used_of c l) m l)) refl code n hc hn

-- the fresh code is an order
pub fresh_order : is_order 63 ≡ true
unfolding is_order
fresh_order = refl

-- a victim is a line
pub earliest_small : (code : ℕ) → code < 64 → earliest_of code < 4
unfolding earliest_of below
earliest_small code h = ltb-true _ _ (below_at 64 (λ c. ltb (earliest_of c) 4) refl code h)

-- a test is a mark's being 1
pub marked : (b : Bool) → eqb (pick b 1 0) 1 ≡ b
marked true = refl
marked false = refl

-- a code's own bits are its own
pub code_again : (w : ℕ) → bits_of (bits_of w 5 0) 5 0 ≡ bits_of w 5 0
code_again w = omega arith

-- a loop that fills a list from the front by a rule: one more store
fill_from : (rule : ℕ → ℕ) (n i : ℕ) (d : List ℕ) → n < length d → set (table rule i n ++ drop n d) n (rule (i + n)) ≡ table rule i (suc n) ++ drop (suc n) d
unfolding table
fill_from rule n i [] h = absurd (not-suc-le-zero h)
fill_from rule zero i (x ∷ d) h = let e : i + 0 ≡ i = omega arith in rw e
fill_from rule (suc n) i (x ∷ d) h =
    let e : i + suc n ≡ suc i + n = omega arith in
    ap (λ (l : List ℕ). rule i ∷ l) (rw e (fill_from rule n (suc i) d (le_of_suc-le-suc h)))

pub fill_next : (rule : ℕ → ℕ) (n : ℕ) (d : List ℕ) → n < length d → set (table rule 0 n ++ drop n d) n (rule n) ≡ table rule 0 (n + 1) ++ drop (n + 1) d
fill_next rule n d h = let e : 0 + n ≡ n = omega arith in rw add-one (rw e at (fill_from rule n 0 d h))

pub length_table : (rule : ℕ → ℕ) (i n : ℕ) → length (table rule i n) ≡ n
unfolding table
length_table rule i zero = refl
length_table rule i (suc n) = ap suc (length_table rule (suc i) n)
