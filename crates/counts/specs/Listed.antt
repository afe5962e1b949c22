-- The transactions of an access on its way and at its end, and how one more is listed.
use Rattle.std.specs.Prelude.{ℕ, zero, suc, ◌+◌, ◌<◌, ◌≤◌, ◌≡◌, refl, true, false, List, [], ◌∷◌, length, get_or, set}
use Rattle.std.proofs.Common.{sym, ap, ◌∙◌, subst, arith, lt-ltb, length-set, get_or-set_same, get_or-set_other}
use Rattle.std.proofs.Math.Decide.{ℕ_discrete}
use Rattle.memory.specs.Memory.{Moved}
use Rattle.state.specs.declared.Transaction.{Transaction}
use Rattle.state.specs.declared.Outcome.{Outcome}
use Rattle.state.specs.Outcome.{case_of}
use Rattle.course.specs.Course.{no_transaction, slot_of, moved_by}
use Rattle.flight.specs.Ops.{Ops}
use Rattle.flight.specs.Steps.{Scene, Ended, ended, faulted, noted}
use Rattle.answers.specs.Answers.{words_at, total_of}

-- ---- the sum of the words

unfoldable pub sum_of : List Transaction → ℕ
sum_of [] = 0
sum_of (t ∷ ts) = t.words + sum_of ts

-- the answer's word count is the sum of its listed transactions
pub total_sum : (l : List Transaction) → length l ≡ 6 → total_of l ≡ sum_of l
unfolding total_of sum_of
total_sum [] size = refl
total_sum (a ∷ []) size = omega arith
total_sum (a ∷ b ∷ []) size = omega arith
total_sum (a ∷ b ∷ c ∷ []) size = omega arith
total_sum (a ∷ b ∷ c ∷ d ∷ []) size = omega arith
total_sum (a ∷ b ∷ c ∷ d ∷ e ∷ []) size = omega arith
total_sum (a ∷ b ∷ c ∷ d ∷ e ∷ f ∷ []) size = omega arith
total_sum (a ∷ b ∷ c ∷ d ∷ e ∷ f ∷ g ∷ l) size = absurd (omega arith)

-- a transaction stored where none stood adds its words
pub sum_set : (l : List Transaction) (n : ℕ) (x : Transaction) → n < length l → words_at l n ≡ 0 → sum_of (set l n x) ≡ sum_of l + x.words
unfolding sum_of
sum_set [] n x h z = absurd (omega arith)
sum_set (t ∷ l) zero x h z = omega arith
sum_set (t ∷ l) (suc n) x h z = omega (arith, sum_set l n x (omega arith) z)

-- ---- an access on its way: at most k transactions and w words so far, all of which moved; the other places hold none

pub record Going (l : List Transaction) (count k w : ℕ) : Type 0 where
  pub size : length l ≡ 6
  pub few : count ≤ k
  pub words : sum_of l ≤ w
  pub rest : (i : ℕ) → count ≤ i → get_or l i no_transaction ≡ no_transaction
  pub moved : (i : ℕ) → i < count → 0 < words_at l i

pub more : {l : List Transaction} {count k w k₁ w₁ : ℕ} → k ≤ k₁ → w ≤ w₁ → Going l count k w → Going l count k₁ w₁
more h j g = record { size = g.size; few = omega (arith, g.few); words = omega (arith, g.words); rest = g.rest; moved = g.moved }

-- .. and at its end: at most six transactions and twelve words; a failed one, which moved no word, is last, and the outcome is a fault
pub record Counted {W : Type 0} (e : Ended W) : Type 0 where
  pub size : length e.scene.list ≡ 6
  pub few : e.scene.count ≤ 6
  pub words : sum_of e.scene.list ≤ 12
  pub rest : (i : ℕ) → e.scene.count ≤ i → get_or e.scene.list i no_transaction ≡ no_transaction
  pub last : (i : ℕ) → i < e.scene.count → words_at e.scene.list i ≡ 0 → (suc i ≡ e.scene.count) × (case_of e.outcome ≡ 3)

-- any outcome of an access whose transactions all moved
pub ends : {W : Type 0} (s : Scene W) (o : Outcome) → Going s.list s.count 6 12 → Counted (ended s o)
ends s o g = record { size = g.size; few = g.few; words = g.words; rest = g.rest; last = λ i h z. absurd (omega (arith, g.moved i h)) }

-- ---- one more transaction

module _ (l : List Transaction) (count k w : ℕ) (room : k < 6) (g : Going l count k w) (x : Transaction) (m : Moved) where
  slot : slot_of count ≡ count
  slot = rw (lt-ltb count 6 (omega (arith, g.few)))

  one_size : length (set l (slot_of count) (moved_by x m)) ≡ 6
  one_size = length-set l (slot_of count) _ ∙ g.size

  one_words : sum_of (set l (slot_of count) (moved_by x m)) ≡ sum_of l + m.words
  one_words = rw slot (sum_set l count (moved_by x m) (omega (arith, g.few, g.size)) (ap (λ (t : Transaction). t.words) (g.rest count (omega arith))))

  one_rest : (i : ℕ) → slot_of count + 1 ≤ i → get_or (set l (slot_of count) (moved_by x m)) i no_transaction ≡ no_transaction
  one_rest i h =
      let ne : i ≡ slot_of count → ⊥ = λ e. omega arith in
      get_or-set_other l (slot_of count) i (moved_by x m) no_transaction ne ∙ g.rest i (omega (arith, slot))

  one_same : words_at (set l (slot_of count) (moved_by x m)) count ≡ m.words
  one_same = rw slot (ap (λ (t : Transaction). t.words) (get_or-set_same l count (moved_by x m) no_transaction (omega (arith, g.few, g.size))))

  one_other : (i : ℕ) → (i ≡ count → ⊥) → words_at (set l (slot_of count) (moved_by x m)) i ≡ words_at l i
  one_other i ne = ap (λ (t : Transaction). t.words) (get_or-set_other l (slot_of count) i (moved_by x m) no_transaction (λ e. ne (e ∙ slot)))

  -- that moved n words
  pub went : (n : ℕ) → 0 < n → m.words ≡ n → Going (set l (slot_of count) (moved_by x m)) (slot_of count + 1) (k + 1) (w + n)
  went n some e =
      record {
        size = one_size;
        few = omega (arith, slot, g.few);
        words = omega (arith, one_words, g.words);
        rest = one_rest;
        moved = λ i h. elim (ℕ_discrete i count) [
          | yes q ↦ subst (λ (j : ℕ). 0 < words_at (set l (slot_of count) (moved_by x m)) j) (sym q) (omega (arith, one_same))
          | no q ↦ omega (arith, one_other i q, g.moved i (omega (arith, slot)))
        ];
      }

-- .. or failed, with no word: a fault
pub failed : {W : Type 0} (s : Scene W) (k w : ℕ) → k < 6 → w ≤ 12 → Going s.list s.count k w → (x : Transaction) (m : Moved) (after : W) (code address : ℕ)
    → m.words ≡ 0 → Counted (faulted (noted s x m after) code address)
failed s k w room bound g x m after code address e =
    record {
      size = one_size s.list s.count k w room g x m;
      few = omega (arith, slot s.list s.count k w room g x m, g.few);
      words = omega (arith, one_words s.list s.count k w room g x m, g.words);
      rest = one_rest s.list s.count k w room g x m;
      last = λ i h z. elim (ℕ_discrete i s.count) [
        | yes q ↦ (omega (arith, slot s.list s.count k w room g x m), refl)
        | no q ↦ absurd (omega (arith, slot s.list s.count k w room g x m, one_other s.list s.count k w room g x m i q, g.moved i (omega (arith, slot s.list s.count k w room g x m))))
      ];
    }

-- ---- the world: a transaction moves all its words, or fails and moves none

pub record Moves (n : ℕ) (m : Moved) : Type 0 where
  pub well : m.ok ≡ true → m.words ≡ n
  pub ill : m.ok ≡ false → m.words ≡ 0

pub record Fair {W : Type 0} (ops : Ops W) : Type 0 where
  pub read_word : (w : W) (t : Transaction) → Moves 1 (ops.read_word w t).read.moved
  pub read_line : (w : W) (t : Transaction) → Moves 4 (ops.read_line w t).moved
  pub write_word : (w : W) (t : Transaction) (enables word : ℕ) → Moves 1 (ops.write_word w t enables word).moved
  pub write_line : (w : W) (t : Transaction) (part : List ℕ) → Moves 4 (ops.write_line w t part).moved
