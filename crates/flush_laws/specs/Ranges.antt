-- Lists of SARs that name, between them, a whole range: the pages of a segment, the lines of a page, all segments.
use Prim.Native.Nat.{ℕ, zero, suc, ◌+◌, ◌*◌, ◌/◌, ◌≤◌, ◌<◌}
use Rattle.std.specs.Prelude.{◌≡◌, refl, Bool, true, false, ◌&&◌, ◌||◌, eqb, leb, ltb}
use Rattle.std.proofs.Common.{sym, ap, ◌∙◌, true≢false, arith, div-mul-le_self, eqb-true, eq-eqb, ne_eqb, leb-true, ltb-true, le-leb, lt-ltb}
use Rattle.std.proofs.Math.Bool.{Bool-set}
use Rattle.std.proofs.Math.Logic.{∥∥₁_elim}
use mathlib.Core.List.{List, [], ◌∷◌, Perm, Permᴰ}
use Rattle.std.proofs.Math.Nat.{lt-div-mul-add, div-eq_of_lt-le}
use Rattle.std.proofs.Math.Decide.{ℕ_discrete}
use Rattle.words.specs.Words.{bits_of}
use Rattle.words.specs.Laws.{and_left, and_right, both_ways}
use Rattle.sweep.specs.declared.Range.{Range}
use Rattle.sweep.specs.declared.Range.TheVariants.{Line, Page, Segment, All}
use Rattle.sweep.specs.Sweep.{covers_of}
use Rattle.flush_laws.specs.Sweep.{named}

-- an address is in one of the parts that the SARs name just where it is in the whole: each part at least once, in any order, nothing else
abbrev pub Names : Range → Range → ℕ → List ℕ → Type 0
Names part whole sar sars = (address : ℕ) → named part sars address ≡ covers_of whole sar address

-- the first addresses of n parts of a size, from number v on
unfoldable pub starts_of : ℕ → ℕ → ℕ → List ℕ
starts_of size v zero = []
starts_of size v (suc n) = v * size ∷ starts_of size (suc v) n

-- in rising order: the 256 lines of SAR's page, the 1,024 pages of its segment, the 1,024 segments
abbrev pub lines_of : ℕ → List ℕ
lines_of sar = starts_of 16 (bits_of sar 31 12 * 256) 256

abbrev pub pages_of : ℕ → List ℕ
pages_of sar = starts_of 4096 (bits_of sar 31 22 * 1024) 1024

abbrev pub segments_of : List ℕ
segments_of = starts_of 4194304 0 1024

-- ---- a range has an address just where it has that address's line

pub covers_line : (r : Range) (sar address : ℕ) → covers_of r sar (address / 16 * 16) ≡ covers_of r sar address
covers_line Line sar a = ap (λ (x : ℕ). eqb x (bits_of sar 31 4)) (omega arith)
covers_line Page sar a = ap (λ (x : ℕ). eqb x (bits_of sar 31 12)) (omega arith)
covers_line Segment sar a = ap (λ (x : ℕ). eqb x (bits_of sar 31 22)) (omega arith)
covers_line All sar a = refl

-- ---- the order does not matter

perm_named : (r : Range) (address : ℕ) {ss ts : List ℕ} → Permᴰ ss ts → named r ss address ≡ named r ts address
unfolding named
perm_named r address Permᴰ.nil = refl
perm_named r address (Permᴰ.cons e d) = rw (e, perm_named r address d)
perm_named r address (Permᴰ.swap {a = a} {b = b} {l = l} e f) = rw (← e, ← f) (swapped (covers_of r a address) (covers_of r b address) (named r l address))
  where
    swapped : (x y z : Bool) → (x || (y || z)) ≡ (y || (x || z))
    swapped true true z = refl
    swapped true false z = refl
    swapped false y z = refl
perm_named r address (Permᴰ.trans d e) = perm_named r address d ∙ perm_named r address e

any_order : (part whole : Range) (sar : ℕ) (ss ts : List ℕ) → Names part whole sar ts → Perm ss ts → Names part whole sar ss
any_order part whole sar ss ts names perm address = ∥∥₁_elim perm (Bool-set _ _) (λ d. perm_named part address d ∙ names address)

-- ---- a run of parts

-- two tests that pass together are one
-- is x one of the n numbers from v on?
abbrev within : ℕ → ℕ → ℕ → Bool
within v n x = leb v x && ltb x (v + n)

within_true : (v n x : ℕ) → within v n x ≡ true → (v ≤ x) × (x < v + n)
within_true v n x e = (leb-true v x (and_left _ _ e), ltb-true x (v + n) (and_right (leb v x) _ e))

true_within : (v n x : ℕ) → v ≤ x → x < v + n → within v n x ≡ true
true_within v n x h l = rw (le-leb v x h, lt-ltb x (v + n) l)

within_suc : (v n x : ℕ) → (eqb x v || within (suc v) n x) ≡ within v (suc n) x
within_suc v n x = elim (ℕ_discrete x v) [
  | yes e ↦ rw (eq-eqb x v e) (sym (true_within v (suc n) x (omega arith) (omega arith)))
  | no e ↦
      rw (ne_eqb x v e)
      (both_ways _ _ (λ t. true_within v (suc n) x (omega (arith, within_true (suc v) n x t)) (omega (arith, within_true (suc v) n x t)))
      (λ t. true_within (suc v) n x (omega (arith, within_true v (suc n) x t)) (omega (arith, within_true v (suc n) x t))))
]

-- `number`: of the part in which an address lies
module _ (r : Range) (size m : ℕ) (number : ℕ → ℕ) (by_number : (s a : ℕ) → covers_of r s a ≡ eqb (number a) (number s)) (of-start : (v : ℕ) → v < m → number (v * size) ≡ v) where
  run_named : (v n a : ℕ) → v + n ≤ m → named r (starts_of size v n) a ≡ within v n (number a)
  unfolding named starts_of
  run_named v zero a h = both_ways _ _ (λ e. absurd (true≢false (sym e))) (λ e. absurd (omega (arith, within_true v 0 (number a) e)))
  run_named v (suc n) a h = rw (by_number, of-start v (omega arith), run_named (suc v) n a (omega arith)) (within_suc v n (number a))

-- the m parts of the whole whose number is w
whole_parts : (m w x y : ℕ) → 0 < m → x / m ≡ y → within (w * m) m x ≡ eqb y w
whole_parts m w x y pos e = both_ways _ _
    (λ t. eq-eqb y w (sym e ∙ div-eq_of_lt-le m (within_true (w * m) m x t).0 (omega (arith, (within_true (w * m) m x t).1))))
    (λ t. let q : x / m ≡ w = e ∙ eqb-true y w t in true_within (w * m) m x (rw q at (div-mul-le_self x m)) (rw q at (lt-div-mul-add {a = x} pos)))

-- ---- the parts of each range, in any order

pub pages_named : (sar : ℕ) (sars : List ℕ) → Perm sars (pages_of sar) → Names Page Segment sar sars
pages_named sar sars = any_order Page Segment sar sars (pages_of sar) λ a.
    run_named Page 4096 1048576 (λ x. bits_of x 31 12) (λ s x. refl) (λ v h. omega arith) (bits_of sar 31 22 * 1024) 1024 a (omega arith)
    ∙ whole_parts 1024 (bits_of sar 31 22) (bits_of a 31 12) (bits_of a 31 22) (omega arith) (omega arith)

pub lines_named : (sar : ℕ) (sars : List ℕ) → Perm sars (lines_of sar) → Names Line Page sar sars
lines_named sar sars = any_order Line Page sar sars (lines_of sar) λ a.
    run_named Line 16 268435456 (λ x. bits_of x 31 4) (λ s x. refl) (λ v h. omega arith) (bits_of sar 31 12 * 256) 256 a (omega arith)
    ∙ whole_parts 256 (bits_of sar 31 12) (bits_of a 31 4) (bits_of a 31 12) (omega arith) (omega arith)

pub segments_named : (sar : ℕ) (sars : List ℕ) → Perm sars segments_of → Names Segment All sar sars
segments_named sar sars = any_order Segment All sar sars segments_of λ a.
    run_named Segment 4194304 1024 (λ x. bits_of x 31 22) (λ s x. refl) (λ v h. omega arith) 0 1024 a (omega arith)
    ∙ true_within 0 1024 (bits_of a 31 22) (omega arith) (omega arith)
