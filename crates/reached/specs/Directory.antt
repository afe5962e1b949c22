-- A line's state, a fill and a use keep the directory well formed.
use Rattle.std.specs.Prelude.{ℕ, ◌+◌, ◌*◌, ◌/◌, ◌%◌, ◌<◌, ◌≡◌, refl, true, false, List, ltb, length, get_or}
use Rattle.std.proofs.Common.{sym, ap, ◌∙◌, subst, arith, get_or-set_same, get_or-set_other, ltb-true, ltb-false}
use Rattle.std.proofs.Math.Decide.{ℕ_discrete}
use Rattle.words.specs.Words.{bits_of}
use Rattle.order.specs.Order.{is_order, used_of}
use Rattle.order.specs.Laws.{used_small, used_order}
use Rattle.state.specs.Own.{own_code, tag_fields}
use Rattle.lines.specs.Lines.{set_of, tag_of, tag_at, code_at, state_of, valid, tag_word, marked, tagged, filled_of, used_at}
use Rattle.lines.specs.Laws.{length_marked, length_filled, length_used, marked_code, filled_code, filled_same, Hit, Miss, Looked, used_alone, marked_alone, filled_alone, state_own}
use Rattle.lines.specs.Laws.Looked.{found, missing}
use Rattle.saved.specs.declared.Layout.TheVariants.{Sets}
use Rattle.saved.specs.Chip.{own_words}
use Rattle.saved.specs.Own.{own_at, tag_own, code_own}
use Rattle.reached.specs.Good.{GoodLines, own_put}

-- ---- only own bits

marked_own : (ls : List ℕ) (p s : ℕ) → s < 4 → own_words Sets ls ≡ ls → own_words Sets (marked ls p s) ≡ marked ls p s
unfolding marked
marked_own ls p s h e = own_put Sets ls (tag_at p) _ e (tag_own (tag_at p) _ (omega arith) ∙ state_own (tag_word ls p) s h)

filled_own : (ls : List ℕ) (p a : ℕ) → own_words Sets ls ≡ ls → own_words Sets (filled_of ls p a) ≡ filled_of ls p a
unfolding filled_of tagged
filled_own ls p a e =
    marked_own _ p 2 (omega arith) (own_put Sets ls (tag_at p) _ e (tag_own (tag_at p) _ (omega arith) ∙ tag_fields (tag_of a) (state_of (tag_word ls p)) (omega arith) (omega arith)))

code_small : (w : ℕ) → w < 64 → own_code w ≡ w
unfolding own_code
code_small w h = omega arith

used_own : (ls : List ℕ) (p : ℕ) → own_words Sets ls ≡ ls → own_words Sets (used_at ls p) ≡ used_at ls p
unfolding used_at
used_own ls p e = own_put Sets ls (code_at p) _ e (code_own (code_at p) _ (omega arith) ∙ code_small _ (used_small (bits_of (get_or ls (code_at p) 0) 5 0) (p % 4) (omega arith) (omega arith)))

-- ---- each use code an order

code_bits : (ls : List ℕ) → GoodLines ls → (p : ℕ) → p < 1024 → bits_of (get_or ls (code_at p) 0) 5 0 ≡ get_or ls (code_at p) 0
unfolding own_code
code_bits ls g p h =
    let i : code_at p < length ls = omega (arith, g.size) in
    sym (code_own (0 + code_at p) (get_or ls (code_at p) 0) (omega arith)) ∙ sym (own_at Sets 0 ls (code_at p) i) ∙ ap (λ (l : List ℕ). get_or l (code_at p) 0) g.own

used_code : (ls : List ℕ) (p : ℕ) → length ls ≡ 1280 → p < 1024 → get_or (used_at ls p) (code_at p) 0 ≡ used_of (bits_of (get_or ls (code_at p) 0) 5 0) (p % 4)
unfolding used_at
used_code ls p size h = get_or-set_same ls (code_at p) _ 0 (omega arith)

used_elsewhere : (ls : List ℕ) (p q : ℕ) → (p / 4 ≡ q / 4 → ⊥) → get_or (used_at ls p) (code_at q) 0 ≡ get_or ls (code_at q) 0
unfolding used_at
used_elsewhere ls p q ne = get_or-set_other ls (code_at p) (code_at q) _ 0 (λ e. ne (omega arith))

used_orders : (ls : List ℕ) → GoodLines ls → (p : ℕ) → p < 1024 → (q : ℕ) → q < 1024 → is_order (get_or (used_at ls p) (code_at q) 0) ≡ true
used_orders ls g p h q hq = elim (ℕ_discrete (p / 4) (q / 4)) [
  | yes e ↦
      let c : code_at p ≡ code_at q = omega arith in
      let o : is_order (bits_of (get_or ls (code_at p) 0) 5 0) ≡ true = rw (code_bits ls g p h) (g.orders p h) in
      subst (λ (n : ℕ). is_order (get_or (used_at ls p) n 0) ≡ true) c
      (rw (used_code ls p g.size h) (used_order (bits_of (get_or ls (code_at p) 0) 5 0) (p % 4) (omega arith) (omega arith) o))
  | no e ↦ rw (used_elsewhere ls p q e) (g.orders q hq)
]

-- ---- the three ways to write the directory

module _ (ls : List ℕ) (g : GoodLines ls) (p : ℕ) (h : p < 1024) where
  -- a state, where the line was valid or becomes invalid
  pub marked_good : (s : ℕ) → s < 4 → (valid (tag_word ls p) ≡ false → s ≡ 3) → GoodLines (marked ls p s)
  marked_good s small v =
      record {
        size = length_marked ls p s ∙ g.size;
        own = marked_own ls p s small g.own;
        orders = λ q hq. rw (marked_code ls p q s) (g.orders q hq);
        alone = marked_alone ls g.size p s h small v g.alone;
      }

  pub dropped_good : GoodLines (marked ls p 3)
  dropped_good = marked_good 3 (omega arith) (λ _. refl)

  -- a fill on a miss
  pub filled_good : (a : ℕ) → p / 4 ≡ set_of a → Miss ls a → GoodLines (filled_of ls p a)
  filled_good a place miss =
      record {
        size = length_filled ls p a ∙ g.size;
        own = filled_own ls p a g.own;
        orders = λ q hq. rw (filled_code ls p q a) (g.orders q hq);
        alone = filled_alone ls g.size p a h place miss g.alone;
      }

  pub filled_valid : (a : ℕ) → valid (tag_word (filled_of ls p a) p) ≡ true
  filled_valid a = let e : state_of (tag_of a * 4096 + 2) ≡ 2 = omega arith in rw (filled_same ls g.size p h a, e)

  -- a use
  pub used_good : GoodLines (used_at ls p)
  used_good =
      record {
        size = length_used ls p ∙ g.size;
        own = used_own ls p g.own;
        orders = used_orders ls g p h;
        alone = used_alone ls p g.alone;
      }

-- ---- a hit and a miss by their number

pub hit_of_lem : {ls : List ℕ} {a r : ℕ} → Looked ls a r → ltb r 1024 ≡ true → Hit ls a r
hit_of_lem (found hit _) e = hit
hit_of_lem {r = r} (missing q _) e = absurd (omega (arith, ltb-true r 1024 e))

pub miss_of_lem : {ls : List ℕ} {a r : ℕ} → Looked ls a r → ltb r 1024 ≡ false → Miss ls a
miss_of_lem {r = r} (found hit _) e = absurd (omega (arith, ltb-false r 1024 e, hit.small))
miss_of_lem (missing q miss) e = miss
