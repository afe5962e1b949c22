-- Two flushes of one kind are the flush of the union, and so are a list of them: the lemma from which the laws of ranges follow.
use Prim.Native.Nat.{ℕ, zero, suc, ◌+◌, ◌*◌, ◌/◌, ◌%◌, ◌≤◌, ◌<◌}
use Rattle.std.specs.Prelude.{◌≡◌, ◌≢◌, Bool, false, not, ◌&&◌, ◌||◌, List, [], ◌∷◌}
use Rattle.std.proofs.Math.Path.{refl, sym, ap}
use Rattle.std.proofs.Common.{◌∙◌, true≢false}
use Rattle.std.proofs.Math.Bool.{true, and-false, and-true}
use native.Mathlib.Omega.{arith}
use Rattle.std.proofs.Math.Decide.{dec_lt, ℕ_discrete}
use Rattle.std.proofs.Math.ListN.{length, get_or}
use Rattle.std.proofs.Math.Seq.{ext_get_or}
use Rattle.std.proofs.lemmas.List.{set-get_or}
use borrow.Author.Tests.{eqb-true, eq-eqb}
use Rattle.words.specs.Words.{pick}
use Rattle.words.specs.Laws.{and_left, and_right, ruled_out}
use Rattle.lines.specs.Lines.{modified, tag_at, tag_word, line_address}
use Rattle.sweep.specs.declared.Range.{Range}
use Rattle.sweep.specs.declared.Kind.{Kind}
use Rattle.sweep.specs.Sweep.{covers_of, copies_of, well_of, Sweep, swept}
use Rattle.flush_laws.specs.Sweep.{◌∪◌, flush_by, flush_of, after, is_copied, lines_to, ram_to, count_to, FitsTo, Fits, and_then, flush_each, named, sweep_by_lem}
use Rattle.flush_laws.specs.Point.{after_address, after_modified, after_union, length_lines_to, lines_to_code, lines_to_later, lines_to_done, lines_ext, hits, newest, length_ram_to, ram_to_at, sweep_runs, First, fit, stops, first, sweep_stops}

-- ---- the newest word

module _ (d e cs : List ℕ) (a v : ℕ) where
  newest_same : (n : ℕ) → ((p : ℕ) → p < n → hits d a p ≡ hits e a p) → newest d cs a v n ≡ newest e cs a v n
  unfolding newest
  newest_same zero f = refl
  newest_same (suc n) f = rw (f n (omega arith), newest_same n (λ p h. f p (omega arith)))

module _ (d cs : List ℕ) (a v : ℕ) where
  pub newest_none : (n : ℕ) → ((p : ℕ) → p < n → hits d a p ≡ false) → newest d cs a v n ≡ v
  unfolding newest
  newest_none zero f = refl
  newest_none (suc n) f = rw (f n (omega arith)) (newest_none n (λ p h. f p (omega arith)))

  newest_hit : (p : ℕ) → hits d a p ≡ true → (n : ℕ) → p < n → ((q : ℕ) → q < n → hits d a q ≡ true → q ≡ p) → newest d cs a v n ≡ get_or cs (p * 4 + a % 4) 0
  unfolding newest
  newest_hit p e zero h f = absurd (omega arith)
  newest_hit p e (suc n) h f = elim (ℕ_discrete n p) [
    | yes q ↦ rw (q, e)
    | no q ↦ rw (ruled_out (hits d a n) (λ t. q (f n (omega arith) t))) (newest_hit p e n (omega arith) (λ r l. f r (omega arith)))
  ]

-- ---- a word that is copied, where no later line is copied onto it

module _ (k : Kind) (c : ℕ → Bool) (cs ls ram : List ℕ) {n : ℕ} (f : FitsTo n k c ls ram) (p a : ℕ) (h : p < n) (same : a / 4 * 16 ≡ line_address p (tag_word ls p)) where
  pub copied_word : is_copied k c p (tag_word ls p) ≡ true → ((q : ℕ) → q < n → hits ls a q ≡ true → q ≡ p) → get_or (ram_to k c cs ls ram n) a 0 ≡ get_or cs (p * 4 + a % 4) 0
  unfolding is_copied
  copied_word e alone =
      let covered : c (a / 4 * 16) ≡ true = ap c same ∙ and_left _ _ (and_right (copies_of k) _ e) in
      let hit : hits ls a p ≡ true = rw (and_right (c (line_address p (tag_word ls p))) _ (and_right (copies_of k) _ e), eq-eqb _ _ same) in
      ram_to_at k c cs ls ram f n a (omega arith) ∙ rw (and_left (copies_of k) _ e, covered) (newest_hit ls cs a _ p hit n h alone)

-- .. and one of no copied line
pub kept_word : (k : Kind) (c : ℕ → Bool) (cs ls ram : List ℕ) {n : ℕ} → FitsTo n k c ls ram → (a : ℕ)
    → ((p : ℕ) → p < n → is_copied k c p (tag_word ls p) ≡ true → a / 4 * 16 ≢ line_address p (tag_word ls p)) → get_or (ram_to k c cs ls ram n) a 0 ≡ get_or ram a 0
unfolding is_copied
kept_word k c cs ls ram {n} f a g = ram_to_at k c cs ls ram f n a (omega arith) ∙ go (copies_of k) (c (a / 4 * 16)) refl refl
  where
    go : (K C : Bool) → copies_of k ≡ K → c (a / 4 * 16) ≡ C → pick (K && C) (newest ls cs a (get_or ram a 0) n) (get_or ram a 0) ≡ get_or ram a 0
    go false C x y = refl
    go true false x y = refl
    go true true x y = newest_none ls cs a (get_or ram a 0) n λ p h. ruled_out _ λ e.
        let same : a / 4 * 16 ≡ line_address p (tag_word ls p) = eqb-true _ _ (and_right (modified (tag_word ls p)) _ e) in
        g p h (rw (x, ap c (sym same) ∙ y) (and_left (modified (tag_word ls p)) _ e)) same

-- ---- tests: K the command copies; A, B the line is in the first set, in the second; M it is modified

copied_first : (K A B M : Bool) → (K && (A && M)) ≡ true → (K && ((A || B) && M)) ≡ true
copied_first true true B M e = e
copied_first true false B M e = absurd (true≢false (sym e))
copied_first false A B M e = e

copied_second : (K A B M : Bool) → (K && (B && (M && not A))) ≡ true → (K && ((A || B) && M)) ≡ true
copied_second true true true true e = refl
copied_second true true true false e = e
copied_second true true false M e = absurd (true≢false (sym e))
copied_second true false true M e = rw and-true at e
copied_second true false false M e = e
copied_second false A B M e = e

copied_once : (K A B M : Bool) → pick (K && (A && M)) 1 0 + pick (K && (B && (M && not A))) 1 0 ≡ pick (K && ((A || B) && M)) 1 0
copied_once false A B M = refl
copied_once true true true true = refl
copied_once true true true false = refl
copied_once true true false true = refl
copied_once true true false false = refl
copied_once true false true true = refl
copied_once true false true false = refl
copied_once true false false M = refl

-- M the line is modified; E it is the line sought; A, P that line, this one is in the first set
hits_after : (M E A P : Bool) → (E ≡ true → P ≡ A) → (M && not P && E) ≡ (not A && (M && E))
hits_after true true A P q = rw (q refl)
hits_after true false A P q = simp and-false
hits_after false E A P q = simp and-false

-- a word of RAM after two flushes: N₁ v, N v the newest word by the second directory, by the first
union_word : (N N₁ : ℕ → ℕ) (K A B : Bool) (v : ℕ) → (A ≡ true → (u : ℕ) → N₁ u ≡ u) → (A ≡ false → (u : ℕ) → N₁ u ≡ N u)
    → pick (K && B) (N₁ (pick (K && A) (N v) v)) (pick (K && A) (N v) v) ≡ pick (K && (A || B)) (N v) v
union_word N N₁ false A B v f g = refl
union_word N N₁ true true true v f g = f refl (N v)
union_word N N₁ true true false v f g = refl
union_word N N₁ true false true v f g = g refl v
union_word N N₁ true false false v f g = refl

sums : (a b s x y z : ℕ) → a + b ≡ s → x + y ≡ z → a + x + (b + y) ≡ s + z
sums a b s x y z e f = omega arith

-- ---- the first n places flushed twice

module _ (n : ℕ) (small : n ≤ 1024) (k : Kind) (c₁ c₂ : ℕ → Bool) (cs ls ram : List ℕ) (size : length ls ≡ 1280) where
  unfoldable pub lines₁ : List ℕ
  lines₁ = lines_to k c₁ ls n

  unfoldable pub ram₁ : List ℕ
  ram₁ = ram_to k c₁ cs ls ram n

  size₁ : length lines₁ ≡ 1280
  unfolding lines₁
  size₁ = length_lines_to k c₁ ls n ∙ size

  word₁ : (p : ℕ) → p < n → tag_word lines₁ p ≡ after k c₁ p (tag_word ls p)
  unfolding lines₁
  word₁ p h = lines_to_done k c₁ ls size n p small h

  -- after the first flush its covered lines are not modified, and the others are as they were
  hits₁ : (a p : ℕ) → p < n → hits lines₁ a p ≡ (not (c₁ (a / 4 * 16)) && hits ls a p)
  hits₁ a p h = rw (word₁ p h, after_modified, after_address) (hits_after (modified (tag_word ls p)) _ (c₁ (a / 4 * 16)) _ (λ e. ap c₁ (sym (eqb-true _ _ e))))

  pub both_lines : lines_to k c₂ lines₁ n ≡ lines_to k (c₁ ∪ c₂) ls n
  unfolding lines₁
  both_lines = lines_ext _ _ (length_lines_to k c₂ lines₁ n ∙ size₁) (length_lines_to k (c₁ ∪ c₂) ls n ∙ size) words (λ i h. simp lines_to_code)
    where
      words : (p : ℕ) → p < 1024 → tag_word (lines_to k c₂ lines₁ n) p ≡ tag_word (lines_to k (c₁ ∪ c₂) ls n) p
      words p h = elim (dec_lt p n) [
        | yes l ↦ lines_to_done k c₂ lines₁ size₁ n p small l ∙ rw (word₁ p l) (after_union k c₁ c₂ p _) ∙ sym (lines_to_done k (c₁ ∪ c₂) ls size n p small l)
        | no l ↦ let g : n ≤ p = omega arith in simp lines_to_later
      ]

  pub both_count : (m : ℕ) → m ≤ n → count_to k c₁ ls m + count_to k c₂ lines₁ m ≡ count_to k (c₁ ∪ c₂) ls m
  unfolding count_to is_copied
  both_count zero h = refl
  both_count (suc m) h =
      rw (word₁ m h, after_modified, after_address)
      (sums _ _ _ _ _ _ (both_count m (omega arith)) (copied_once (copies_of k) (c₁ (line_address m (tag_word ls m))) (c₂ (line_address m (tag_word ls m))) (modified (tag_word ls m))))

  module _ (f : FitsTo n k (c₁ ∪ c₂) ls ram) where
    fits₁ : FitsTo n k c₁ ls ram
    unfolding is_copied
    fits₁ p h e = f p h (copied_first (copies_of k) (c₁ _) (c₂ _) (modified (tag_word ls p)) e)

    pub fits₂ : FitsTo n k c₂ lines₁ ram₁
    unfolding ram₁ is_copied
    fits₂ p h = rw (word₁ p h, after_modified, after_address, length_ram_to) (λ e. f p h (copied_second (copies_of k) (c₁ _) (c₂ _) (modified (tag_word ls p)) e))

    pub both_ram : ram_to k c₂ cs lines₁ ram₁ n ≡ ram_to k (c₁ ∪ c₂) cs ls ram n
    unfolding ram₁
    both_ram = ext_get_or 0 _ _ (simp length_ram_to) at
      where
        at : (a : ℕ) → a < length (ram_to k c₂ cs lines₁ ram₁ n) → get_or (ram_to k c₂ cs lines₁ ram₁ n) a 0 ≡ get_or (ram_to k (c₁ ∪ c₂) cs ls ram n) a 0
        at a h =
            ram_to_at k c₂ cs lines₁ ram₁ fits₂ n a (omega arith)
            ∙ rw (ram_to_at k c₁ cs ls ram fits₁ n a (omega arith))
            (union_word (λ (v : ℕ). newest ls cs a v n) (λ (v : ℕ). newest lines₁ cs a v n) (copies_of k) (c₁ (a / 4 * 16)) (c₂ (a / 4 * 16)) (get_or ram a 0)
            (λ e v. newest_none lines₁ cs a v n (λ p l. hits₁ a p l ∙ rw e))
            (λ e v. newest_same lines₁ ls cs a v n (λ p l. hits₁ a p l ∙ rw e)))
            ∙ sym (ram_to_at k (c₁ ∪ c₂) cs ls ram f n a (omega arith))

-- ---- the whole command

pub whole : 1024 ≤ 1024
whole = omega arith

module _ (k : Kind) (c : ℕ → Bool) (cs ls ram : List ℕ) (f : Fits k c ls ram) where
  pub runs : flush_by k c cs ls ram ≡ swept (well_of (4 * count_to k c ls 1024)) (lines_to k c ls 1024) (ram_to k c cs ls ram 1024)
  runs = sweep_runs k c cs ls ram f 1024 whole

-- how far a command comes, whether or not it stops: its lines and RAM are those after n places
pub record Reach (k : Kind) (c : ℕ → Bool) (cs ls ram : List ℕ) (x : Sweep) : Type 0 where
  pub n : ℕ
  pub small : n ≤ 1024
  pub fits : FitsTo n k c ls ram
  pub has_lines : x.lines ≡ lines_to k c ls n
  pub has_ram : x.ram ≡ ram_to k c cs ls ram n

reach : (k : Kind) (c : ℕ → Bool) (cs ls ram : List ℕ) → Reach k c cs ls ram (flush_by k c cs ls ram)
reach k c cs ls ram = go (first k c ls ram 1024)
  where
    go : First k c ls ram 1024 → Reach k c cs ls ram (flush_by k c cs ls ram)
    go (fit f) = record { n = 1024; small = whole; fits = f; has_lines = rw (runs k c cs ls ram f); has_ram = rw (runs k c cs ls ram f) }
    go (stops n h s) = record {
      n = n;
      small = omega arith;
      fits = s.before;
      has_lines = rw (sweep_stops k c cs ls ram n s 1024 h);
      has_ram = rw (sweep_stops k c cs ls ram n s 1024 h);
    }

pub reach_of : (k : Kind) (r : Range) (sar : ℕ) (cs ls ram : List ℕ) → Reach k (covers_of r sar) cs ls ram (flush_of k r sar cs ls ram)
reach_of k r sar cs ls ram = rw (sweep_by_lem k r sar cs ls ram 1024) (reach k (covers_of r sar) cs ls ram)

pub then_well : (x : Sweep) (next : List ℕ → List ℕ → Sweep) (a b : ℕ) (l r m s : List ℕ)
    → x ≡ swept (well_of a) l r → next l r ≡ swept (well_of b) m s → and_then x next ≡ swept (well_of (a + b)) m s
then_well x next a b l r m s e f = rw (e, f)

pub same_sweep : (a b : ℕ) (l m r s : List ℕ) → a ≡ b → l ≡ m → r ≡ s → swept (well_of a) l r ≡ swept (well_of b) m s
same_sweep a b l m r s e f g = rw (e, f, g)

module _ (k : Kind) (c₁ c₂ : ℕ → Bool) (cs ls ram : List ℕ) (size : length ls ≡ 1280) (f : Fits k (c₁ ∪ c₂) ls ram) where
  pub union : and_then (flush_by k c₁ cs ls ram) (flush_by k c₂ cs) ≡ flush_by k (c₁ ∪ c₂) cs ls ram
  unfolding lines₁ ram₁
  union =
      then_well _ (flush_by k c₂ cs) _ _ _ _ _ _ (runs k c₁ cs ls ram (fits₁ 1024 whole k c₁ c₂ cs ls ram size f)) (runs k c₂ cs _ _ (fits₂ 1024 whole k c₁ c₂ cs ls ram size f))
      ∙ same_sweep _ _ _ _ _ _ (omega (arith, both_count 1024 whole k c₁ c₂ cs ls ram size 1024 whole)) (both_lines 1024 whole k c₁ c₂ cs ls ram size) (both_ram 1024 whole k c₁ c₂ cs ls ram size f)
      ∙ sym (runs k (c₁ ∪ c₂) cs ls ram f)

-- ---- flushes of a list of ranges are the flush of the addresses that one of them has

module _ (k : Kind) (r : Range) (cs ls ram : List ℕ) where
  none_lines : (n : ℕ) → lines_to k (named r []) ls n ≡ ls
  unfolding lines_to after named
  none_lines zero = refl
  none_lines (suc n) = rw (none_lines n) (set-get_or ls (tag_at n) 0)

  none_ram : (n : ℕ) → ram_to k (named r []) cs ls ram n ≡ ram
  unfolding ram_to is_copied named
  none_ram zero = refl
  none_ram (suc n) = rw (and-false, none_ram n)

  none_count : (n : ℕ) → count_to k (named r []) ls n ≡ 0
  unfolding count_to is_copied named
  none_count zero = refl
  none_count (suc n) = rw (and-false, none_count n)

  none_flushed : flush_by k (named r []) cs ls ram ≡ swept (well_of 0) ls ram
  unfolding is_copied named
  none_flushed = runs k (named r []) cs ls ram (λ p h e. absurd (true≢false (sym e ∙ and-false (copies_of k)))) ∙ same_sweep _ _ _ _ _ _ (omega (arith, none_count 1024)) (none_lines 1024) (none_ram 1024)

then_same : (x y : Sweep) (next other : List ℕ → List ℕ → Sweep) (a : ℕ) (l r : List ℕ)
    → x ≡ swept (well_of a) l r → y ≡ swept (well_of a) l r → next l r ≡ other l r → and_then x next ≡ and_then y other
then_same x y next other a l r e f g = rw (e, f, g)

pub each_named : (k : Kind) (r : Range) (cs sars ls ram : List ℕ) → length ls ≡ 1280 → Fits k (named r sars) ls ram
    → flush_each k r cs sars ls ram ≡ flush_by k (named r sars) cs ls ram
unfolding flush_each named lines₁ ram₁
each_named k r cs [] ls ram size f = sym (none_flushed k r cs ls ram)
each_named k r cs (sar ∷ sars) ls ram size f =
    then_same _ _ (flush_each k r cs sars) (flush_by k (named r sars) cs) _ _ _ (sweep_by_lem k r sar cs ls ram 1024 ∙ now) now
    (each_named k r cs sars (lines_to k (covers_of r sar) ls 1024) (ram_to k (covers_of r sar) cs ls ram 1024) (length_lines_to k (covers_of r sar) ls 1024 ∙ size)
    (fits₂ 1024 whole k (covers_of r sar) (named r sars) cs ls ram size f))
    ∙ union k (covers_of r sar) (named r sars) cs ls ram size f
  where
    now : flush_by k (covers_of r sar) cs ls ram ≡ swept (well_of (4 * count_to k (covers_of r sar) ls 1024)) (lines_to k (covers_of r sar) ls 1024) (ram_to k (covers_of r sar) cs ls ram 1024)
    now = runs k (covers_of r sar) cs ls ram (fits₁ 1024 whole k (covers_of r sar) (named r sars) cs ls ram size f)
