-- Laws of the directory: what a store leaves alone, what a hit says, and that no two valid lines of a set come to have one tag.
use Rattle.std.specs.Prelude.{ℕ, ◌+◌, ◌*◌, ◌/◌, ◌%◌, ◌<◌, ◌≡◌, Bool, not, List, get_or, set}
use Rattle.std.proofs.Math.Path.{refl, sym, ap}
use Rattle.std.proofs.Common.{◌∙◌, subst, get_or-set_other}
use Rattle.std.proofs.Math.Bool.{true, false, true≢false}
use native.Mathlib.Omega.{arith}
use Rattle.std.proofs.Math.Nat.{add-zero}
use Rattle.std.proofs.Math.Decide.{ℕ_discrete}
use Rattle.std.proofs.Math.ListN.{length, length-set}
use Rattle.std.proofs.Math.Seq.{get_or-set_same}
use borrow.Author.Tests.{eq-eqb, eqb-true}
use Rattle.words.specs.Words.{pick, bits_of}
use Rattle.words.specs.Laws.{and_left, and_right}
use Rattle.order.specs.Order.{earliest_of}
use Rattle.order.specs.Laws.{earliest_small}
use Rattle.state.specs.Own.{own_tag, tag_fields}
use Rattle.lines.specs.Lines.{set_of, tag_of, tag_at, code_at, state_of, valid, matches, tag_word, lowest, hit_of, victim_of, with_state, marked, tagged, filled_of, used_at}

-- ---- a store at one place leaves every other place

pub tag_apart : (p q : ℕ) → (p ≡ q → ⊥) → tag_at p ≡ tag_at q → ⊥
tag_apart p q ne e = ne (omega arith)

pub code_apart : (p q : ℕ) → code_at p ≡ tag_at q → ⊥
code_apart p q e = omega arith

pub length_marked : (ls : List ℕ) (p s : ℕ) → length (marked ls p s) ≡ length ls
unfolding marked
length_marked ls p s = length-set ls (tag_at p) _

pub length_filled : (ls : List ℕ) (p a : ℕ) → length (filled_of ls p a) ≡ length ls
unfolding filled_of tagged
length_filled ls p a = length_marked _ p 2 ∙ length-set ls (tag_at p) _

pub length_used : (ls : List ℕ) (p : ℕ) → length (used_at ls p) ≡ length ls
unfolding used_at
length_used ls p = length-set ls (code_at p) _

pub marked_other : (ls : List ℕ) (p q s : ℕ) → (p ≡ q → ⊥) → tag_word (marked ls p s) q ≡ tag_word ls q
unfolding marked
marked_other ls p q s ne = get_or-set_other ls (tag_at p) (tag_at q) _ 0 (λ e. tag_apart p q ne (sym e))

pub filled_other : (ls : List ℕ) (p q a : ℕ) → (p ≡ q → ⊥) → tag_word (filled_of ls p a) q ≡ tag_word ls q
unfolding filled_of tagged
filled_other ls p q a ne = marked_other _ p q 2 ne ∙ get_or-set_other ls (tag_at p) (tag_at q) _ 0 (λ e. tag_apart p q ne (sym e))

-- the use of a line changes no tag word
pub used_word : (ls : List ℕ) (p q : ℕ) → tag_word (used_at ls p) q ≡ tag_word ls q
unfolding used_at
used_word ls p q = get_or-set_other ls (code_at p) (tag_at q) _ 0 (λ e. code_apart p q (sym e))

-- a state or a tag changes no use code
pub marked_code : (ls : List ℕ) (p q s : ℕ) → get_or (marked ls p s) (code_at q) 0 ≡ get_or ls (code_at q) 0
unfolding marked
marked_code ls p q s = get_or-set_other ls (tag_at p) (code_at q) _ 0 (code_apart q p)

pub filled_code : (ls : List ℕ) (p q a : ℕ) → get_or (filled_of ls p a) (code_at q) 0 ≡ get_or ls (code_at q) 0
unfolding filled_of tagged
filled_code ls p q a = marked_code _ p q 2 ∙ get_or-set_other ls (tag_at p) (code_at q) _ 0 (code_apart q p)

-- ---- what stands at the place itself

module _ (ls : List ℕ) (size : length ls ≡ 1280) (p : ℕ) (small : p < 1024) where
  pub marked_same : (s : ℕ) → tag_word (marked ls p s) p ≡ with_state (tag_word ls p) s
  unfolding marked
  marked_same s = get_or-set_same ls (tag_at p) _ 0 (omega arith)

  pub filled_same : (a : ℕ) → tag_word (filled_of ls p a) p ≡ tag_of a * 4096 + 2
  unfolding filled_of tagged marked
  filled_same a =
      let n : tag_at p < length ls = omega arith in
      let m : tag_at p < length (set ls (tag_at p) (tag_of a * 4096 + state_of (tag_word ls p))) = rw length-set n in
      rw (get_or-set_same (set ls (tag_at p) (tag_of a * 4096 + state_of (tag_word ls p))) (tag_at p) _ 0 m, get_or-set_same ls (tag_at p) (tag_of a * 4096 + state_of (tag_word ls p)) 0 n)
      (omega arith)

-- setting a state keeps the tag
pub state_keeps_tag : (w s : ℕ) → s < 4 → tag_of (with_state w s) ≡ tag_of w
state_keeps_tag w s h = omega arith

pub state_set : (w s : ℕ) → s < 4 → state_of (with_state w s) ≡ s
state_set w s h = omega arith

-- ---- the lowest place that passes a test

pub data Lowest (ls : List ℕ) (f : ℕ → Bool) (p other r : ℕ) : Type 0 where
  at : (k : ℕ) → k < 4 → r ≡ p + k → f (tag_word ls (p + k)) ≡ true → ((j : ℕ) → j < k → f (tag_word ls (p + j)) ≡ false) → Lowest ls f p other r
  none : r ≡ other → ((j : ℕ) → j < 4 → f (tag_word ls (p + j)) ≡ false) → Lowest ls f p other r

module _ (P : ℕ → Type 0) where
  below1 : P 0 → (j : ℕ) → j < 1 → P j
  below1 a j h = let e : j ≡ 0 = omega arith in subst P (sym e) a

  below2 : P 0 → P 1 → (j : ℕ) → j < 2 → P j
  below2 a b j h = elim (ℕ_discrete j 1) [ yes e ↦ subst P (sym e) b | no e ↦ below1 a j (omega arith) ]

  below3 : P 0 → P 1 → P 2 → (j : ℕ) → j < 3 → P j
  below3 a b c j h = elim (ℕ_discrete j 2) [ yes e ↦ subst P (sym e) c | no e ↦ below2 a b j (omega arith) ]

  pub below4 : P 0 → P 1 → P 2 → P 3 → (j : ℕ) → j < 4 → P j
  below4 a b c d j h = elim (ℕ_discrete j 3) [ yes e ↦ subst P (sym e) d | no e ↦ below3 a b c j (omega arith) ]

module _ (ls : List ℕ) (f : ℕ → Bool) (p other : ℕ) where
  fails : ℕ → Type 0
  fails j = f (tag_word ls (p + j)) ≡ false

  from_zero : f (tag_word ls p) ≡ false → fails 0
  unfolding fails
  from_zero e = rw add-zero e

  choose : (a b c d : Bool) → f (tag_word ls p) ≡ a → f (tag_word ls (p + 1)) ≡ b → f (tag_word ls (p + 2)) ≡ c → f (tag_word ls (p + 3)) ≡ d
      → Lowest ls f p other (pick a p (pick b (p + 1) (pick c (p + 2) (pick d (p + 3) other))))
  unfolding fails
  choose true b c d ea eb ec ed = at 0 (omega arith) (omega arith) (rw add-zero ea) (λ j h. absurd (omega arith))
  choose false true c d ea eb ec ed = at 1 (omega arith) refl eb (below1 fails (from_zero ea))
  choose false false true d ea eb ec ed = at 2 (omega arith) refl ec (below2 fails (from_zero ea) eb)
  choose false false false true ea eb ec ed = at 3 (omega arith) refl ed (below3 fails (from_zero ea) eb ec)
  choose false false false false ea eb ec ed = none refl (below4 fails (from_zero ea) eb ec ed)

  pub lowest_is : Lowest ls f p other (lowest ls f p other)
  lowest_is = choose (f (tag_word ls p)) (f (tag_word ls (p + 1))) (f (tag_word ls (p + 2))) (f (tag_word ls (p + 3))) refl refl refl refl

-- ---- hits

-- each place of an address's set is one of the four
pub of_set : (p a : ℕ) → p / 4 ≡ set_of a → (set_of a * 4 + p % 4 ≡ p)
of_set p a e = omega arith

pub set_small : (a : ℕ) → set_of a < 256
set_small a = omega arith

-- what a hit is: a valid line of the address's set with its tag
pub record Hit (ls : List ℕ) (address p : ℕ) : Type 0 where
  pub small : p < 1024
  pub in_set : p / 4 ≡ set_of address
  pub is_valid : valid (tag_word ls p) ≡ true
  pub has_tag : tag_of (tag_word ls p) ≡ tag_of address

-- .. and a miss: no place of its set is one
abbrev pub Miss : List ℕ → ℕ → Type 0
Miss ls address = (p : ℕ) → p < 1024 → p / 4 ≡ set_of address → matches (tag_word ls p) (tag_of address) ≡ false

pub data Looked (ls : List ℕ) (address r : ℕ) : Type 0 where
  found : Hit ls address r → ((q : ℕ) → q < r → q / 4 ≡ set_of address → matches (tag_word ls q) (tag_of address) ≡ false) → Looked ls address r
  missing : r ≡ 1024 → Miss ls address → Looked ls address r

pub hit_is : (ls : List ℕ) (address : ℕ) → Looked ls address (hit_of ls address)
unfolding hit_of matches
hit_is ls address = go (lowest_is ls (λ w. matches w (tag_of address)) (set_of address * 4) 1024)
  where
    go : {r : ℕ} → Lowest ls (λ w. matches w (tag_of address)) (set_of address * 4) 1024 r → Looked ls address r
    go (at k h e t f) =
        found
        (record { small = omega arith; in_set = omega arith; is_valid = rw e (and_left _ _ t); has_tag = rw e (eqb-true _ _ (and_right (valid (tag_word ls (set_of address * 4 + k))) _ t)) })
        (λ q l s. subst (λ (n : ℕ). matches (tag_word ls n) (tag_of address) ≡ false) (of_set q address s) (f (q % 4) (omega arith)))
    go (none e f) = missing e (λ q l s. subst (λ (n : ℕ). matches (tag_word ls n) (tag_of address) ≡ false) (of_set q address s) (f (q % 4) (omega arith)))

-- a victim is a place of the address's set
pub victim_is : (ls : List ℕ) (address : ℕ) → (victim_of ls address < 1024) × (victim_of ls address / 4 ≡ set_of address)
unfolding victim_of
victim_is ls address = go (lowest_is ls (λ w. not (valid w)) (set_of address * 4) _)
  where
    go : {r : ℕ} → Lowest ls (λ w. not (valid w)) (set_of address * 4) (set_of address * 4 + earliest_of (bits_of (get_or ls (code_at (set_of address * 4)) 0) 5 0)) r → (r < 1024) × (r / 4 ≡ set_of address)
    go (at k h e t f) = (omega arith, omega arith)
    go (none e f) = let h : earliest_of (bits_of (get_or ls (code_at (set_of address * 4)) 0) 5 0) < 4 = earliest_small _ (omega arith) in (omega arith, omega arith)

-- ---- no two valid lines of a set with one tag

unfoldable pub NoDoubles : List ℕ → Type 0
NoDoubles ls =
    (p q : ℕ) → p < 1024 → q < 1024 → p / 4 ≡ q / 4 → valid (tag_word ls p) ≡ true → valid (tag_word ls q) ≡ true
    → tag_of (tag_word ls p) ≡ tag_of (tag_word ls q) → p ≡ q

-- what depends on the tag words alone stays
pub same_words : (ls ms : List ℕ) → ((p : ℕ) → p < 1024 → tag_word ms p ≡ tag_word ls p) → NoDoubles ls → NoDoubles ms
unfolding NoDoubles
same_words ls ms e n p q hp hq s = rw (e p hp, e q hq) (n p q hp hq s)

pub used_alone : (ls : List ℕ) (p : ℕ) → NoDoubles ls → NoDoubles (used_at ls p)
used_alone ls p n = same_words ls (used_at ls p) (λ q h. used_word ls p q) n

-- a line set to a state keeps it, where the line was valid or becomes invalid
pub marked_alone : (ls : List ℕ) → length ls ≡ 1280 → (p s : ℕ) → p < 1024 → s < 4 → (valid (tag_word ls p) ≡ false → s ≡ 3) → NoDoubles ls → NoDoubles (marked ls p s)
unfolding NoDoubles
marked_alone ls size p s small hs v n a b ha hb e va vb t = n a b ha hb e (was a ha va) (was b hb vb) (sym (tag a ha) ∙ t ∙ tag b hb)
  where
    tag : (q : ℕ) → q < 1024 → tag_of (tag_word (marked ls p s) q) ≡ tag_of (tag_word ls q)
    tag q hq = elim (ℕ_discrete p q) [
      | yes e ↦ subst (λ (m : ℕ). tag_of (tag_word (marked ls p s) m) ≡ tag_of (tag_word ls m)) e (rw (marked_same ls size p small s) (state_keeps_tag _ s hs))
      | no e ↦ rw (marked_other ls p q s e)
    ]

    held : (b : Bool) → valid (tag_word ls p) ≡ b → valid (tag_word (marked ls p s) p) ≡ true → valid (tag_word ls p) ≡ true
    held true e w = e
    held false e w = absurd (true≢false (sym (rw (marked_same ls size p small s, state_set (tag_word ls p) s hs, v e) at w)))

    was : (q : ℕ) → q < 1024 → valid (tag_word (marked ls p s) q) ≡ true → valid (tag_word ls q) ≡ true
    was q hq w = elim (ℕ_discrete p q) [
      | yes e ↦ subst (λ (m : ℕ). valid (tag_word ls m) ≡ true) e (held (valid (tag_word ls p)) refl (subst (λ (m : ℕ). valid (tag_word (marked ls p s) m) ≡ true) (sym e) w))
      | no e ↦ rw (marked_other ls p q s e) at w
    ]

-- a fill on a miss, of a place of the address's set, keeps it too
module _ (ls : List ℕ) (size : length ls ≡ 1280) (p address : ℕ) (small : p < 1024) (place : p / 4 ≡ set_of address) (miss : Miss ls address) where
  filled_tag : tag_of (tag_word (filled_of ls p address) p) ≡ tag_of address
  filled_tag = rw (filled_same ls size p small address) (omega arith)

  -- no other line of the set had the tag
  no_other : (q : ℕ) → q < 1024 → q / 4 ≡ set_of address → valid (tag_word ls q) ≡ true → tag_of (tag_word ls q) ≡ tag_of address → ⊥
  unfolding matches
  no_other q hq s v t = true≢false (sym (rw (v, eq-eqb _ _ t)) ∙ miss q hq s)

  -- .. so one with the filled line's tag is that line
  filled_only : (q : ℕ) → q < 1024 → q / 4 ≡ p / 4 → valid (tag_word (filled_of ls p address) q) ≡ true → tag_of (tag_word (filled_of ls p address) q) ≡ tag_of address → p ≡ q
  filled_only q hq s v t = elim (ℕ_discrete p q) [
    | yes e ↦ e
    | no e ↦ absurd (no_other q hq (s ∙ place) (rw (filled_other ls p q address e) at v) (rw (filled_other ls p q address e) at t))
  ]

  pub filled_alone : NoDoubles ls → NoDoubles (filled_of ls p address)
  unfolding NoDoubles
  filled_alone n a b ha hb s va vb t = elim (ℕ_discrete p a) [
    | yes e ↦ sym e ∙ filled_only b hb (sym s ∙ ap (λ (m : ℕ). m / 4) (sym e)) vb (sym t ∙ ap (λ (m : ℕ). tag_of (tag_word (filled_of ls p address) m)) (sym e) ∙ filled_tag)
    | no e ↦ elim (ℕ_discrete p b) [
      | yes f ↦ sym (filled_only a ha (s ∙ ap (λ (m : ℕ). m / 4) (sym f)) va (t ∙ ap (λ (m : ℕ). tag_of (tag_word (filled_of ls p address) m)) (sym f) ∙ filled_tag)) ∙ f
      | no f ↦ n a b ha hb s (rw (filled_other ls p a address e) at va) (rw (filled_other ls p b address f) at vb) (rw (filled_other ls p a address e, filled_other ls p b address f) at t)
    ]
  ]

-- a tag word in a state has only own bits
pub state_own : (w s : ℕ) → s < 4 → own_tag (with_state w s) ≡ with_state w s
state_own w s h = tag_fields (tag_of w) s (omega arith) h
