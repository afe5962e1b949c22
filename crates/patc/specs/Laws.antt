-- Laws of the page translations: the key of an entry, the free entry by trailing zeros, the bounds, and that no entry comes to stand twice.
use Prim.Native.Nat.{ℕ, zero, suc, ◌+◌, ◌-◌, ◌*◌, ◌/◌, ◌%◌, ◌^◌, ◌<◌, ◌≤◌}
use Rattle.std.specs.Prelude.{◌≡◌, Bool, ◌&&◌, List, Some, None, ◌⊎◌, length, set, eqb, ltb}
use Rattle.std.proofs.Math.Path.{refl, subst}
use Rattle.std.proofs.Common.{sym, ap, ◌∙◌, true≢false, inl, inr, add-one, suc-add, length-set, get_or-set_same, get_or-set_other, pow_mono}
use Rattle.std.proofs.Math.Bool.{true, false}
use native.Mathlib.Omega.{arith}
use Rattle.std.proofs.Math.Nat.{pow-suc, lt_of_lt_of_le}
use Rattle.std.proofs.Math.Decide.{ℕ_discrete}
use Rattle.std.specs.Int.Count.{count_trailing_zeros, under}
use Rattle.std.proofs.lemmas.Nat.{mod-pow-add}
use borrow.Author.Tests.{eq-eqb, ne_eqb, eqb-true, eqb-false, ltb-true}
use Rattle.words.specs.Words.{pick, bits_of, bit_of}
use Rattle.words.specs.Laws.{either, both_ways, and_left, and_right}
use Rattle.state.specs.Own.{own_tag, own_pointer, pointer_small}
use Rattle.pages.specs.Pages.{same, page_word_of}
use Rattle.patc.specs.Patc.{some_slot, page_word, entry_hits, entry_from, entry_of, valid_of, map_of, free_from, free_of, put_of, Loaded, load_of}

-- ---- the key: one comparison tells valid, space and page together

same_true : (a b : Bool) → same a b ≡ true → a ≡ b
same_true true true e = refl
same_true true false e = sym e
same_true false true e = e
same_true false false e = refl

same_self : (a b : Bool) → a ≡ b → same a b ≡ true
same_self true true e = refl
same_self true false e = sym e
same_self false true e = e
same_self false false e = refl

-- a page word's three tests, and the key they make
module _ (w address : ℕ) where
  tests : Bool → Bool
  tests s = bit_of w 0 && same (bit_of w 1) s && eqb (bits_of w 31 12) (bits_of address 31 12)

  first : (s : Bool) → tests s ≡ true → w / 1 % 2 ≡ 1
  unfolding tests
  first s e = eqb-true _ _ (and_left (bit_of w 0) (same (bit_of w 1) s) (and_left (bit_of w 0 && same (bit_of w 1) s) _ e))

  second : (s : Bool) → tests s ≡ true → bit_of w 1 ≡ s
  unfolding tests
  second s e = same_true _ _ (and_right (bit_of w 0) (same (bit_of w 1) s) (and_left (bit_of w 0 && same (bit_of w 1) s) _ e))

  third : (s : Bool) → tests s ≡ true → bits_of w 31 12 ≡ bits_of address 31 12
  unfolding tests
  third s e = eqb-true _ _ (and_right (bit_of w 0 && same (bit_of w 1) s) _ e)

  passed : (s : Bool) → w / 1 % 2 ≡ 1 → bit_of w 1 ≡ s → bits_of w 31 12 ≡ bits_of address 31 12 → tests s ≡ true
  unfolding tests
  passed s a b c = rw (eq-eqb _ _ a, same_self _ _ b, eq-eqb _ _ c)

  keyed : ℕ → Bool
  keyed flags = eqb (bits_of w 31 12 * 4096 + bits_of w 1 0) (bits_of address 31 12 * 4096 + flags + 1)

  pub key : (s : Bool) → eqb (own_tag w) (page_word_of address s) ≡ entry_hits w address s
  unfolding own_tag page_word_of entry_hits tests keyed
  key true = both_ways (keyed 2) (tests true) there back
    where
      there : keyed 2 ≡ true → tests true ≡ true
      there e =
          let h : bits_of w 31 12 * 4096 + bits_of w 1 0 ≡ bits_of address 31 12 * 4096 + 2 + 1 = eqb-true _ _ e in
          passed true (omega arith) (eq-eqb (w / 2 % 2) 1 (omega arith)) (omega arith)

      back : tests true ≡ true → keyed 2 ≡ true
      back e =
          let p : w / 1 % 2 ≡ 1 = first true e in
          let q : w / 2 % 2 ≡ 1 = eqb-true _ _ (second true e) in
          let t : bits_of w 1 0 ≡ 3 = omega (arith, mod-pow-add w 1 1) in
          let r : bits_of w 31 12 ≡ bits_of address 31 12 = third true e in
          rw (t, r) (eq-eqb (bits_of address 31 12 * 4096 + 3) (bits_of address 31 12 * 4096 + 2 + 1) (omega arith))
  key false = both_ways (keyed 0) (tests false) there back
    where
      there : keyed 0 ≡ true → tests false ≡ true
      there e =
          let h : bits_of w 31 12 * 4096 + bits_of w 1 0 ≡ bits_of address 31 12 * 4096 + 0 + 1 = eqb-true _ _ e in
          passed false (omega arith) (ne_eqb (w / 2 % 2) 1 (omega arith)) (omega arith)

      back : tests false ≡ true → keyed 0 ≡ true
      back e =
          let p : w / 1 % 2 ≡ 1 = first false e in
          let q : w / 2 % 2 ≡ 1 → ⊥ = eqb-false _ _ (second false e) in
          let t : bits_of w 1 0 ≡ 1 = omega (arith, mod-pow-add w 1 1) in
          let r : bits_of w 31 12 ≡ bits_of address 31 12 = third false e in
          rw (t, r) (eq-eqb (bits_of address 31 12 * 4096 + 1) (bits_of address 31 12 * 4096 + 0 + 1) (omega arith))

-- ---- lookup

module _ (ps : List ℕ) (address : ℕ) (s : Bool) where
  pub entry_step : (n k : ℕ) → n < k → entry_from ps address s n (k - n) ≡ pick (entry_hits (page_word ps n) address s) n (entry_from ps address s (n + 1) (k - (n + 1)))
  unfolding entry_from
  entry_step n k h = let e : k - n ≡ suc (k - (n + 1)) = omega arith in rw (e, add-one)

  pub entry_end : (n k : ℕ) → k ≤ n → entry_from ps address s n (k - n) ≡ n
  unfolding entry_from
  entry_end n k h = let e : k - n ≡ 0 = omega arith in rw e

-- ---- a slot or none, by the number that a definition has

pub slot_some : (n m : ℕ) → some_slot n ≡ Some m → (ltb n 56 ≡ true) × (n ≡ m)
slot_some n m e = go (ltb n 56) e
  where
    go : (b : Bool) → pick b (Some n) None ≡ Some m → (b ≡ true) × (n ≡ m)
    go true f = (refl, cc)
    go false f = absurd cc

pub slot_none : (n : ℕ) → some_slot n ≡ None → ltb n 56 ≡ false
slot_none n e = go (ltb n 56) e
  where
    go : (b : Bool) → pick b (Some n) None ≡ None → b ≡ false
    go true f = absurd cc
    go false f = refl

-- ---- the free entry: trailing zeros of the complemented map

module _ (ps : List ℕ) where
  pub map_small : (n k : ℕ) → map_of ps n k < 2 ^ k
  unfolding map_of
  map_small n zero = omega arith
  map_small n (suc k) = let h : map_of ps (suc n) k < 2 ^ k = map_small (suc n) k in rw (pow-suc 2 k) (omega arith)

  pub map_step : (n k : ℕ) → 0 < n → n ≤ k → map_of ps (n - 1) (k - (n - 1)) ≡ map_of ps n (k - n) * 2 + valid_of (page_word ps (n - 1))
  unfolding map_of
  map_step n k h l = let e : k - (n - 1) ≡ suc (k - n) = omega arith in let f : suc (n - 1) ≡ n = omega arith in rw (e, f)

  digit : (x y v : ℕ) → y < x → v < 2 → ((x * 2 - 1) - (y * 2 + v)) % 2 ≡ 1 - v
  digit x y v h l = omega arith

  rest : (x y v : ℕ) → y < x → v < 2 → ((x * 2 - 1) - (y * 2 + v)) / 2 ≡ (x - 1) - y
  rest x y v h l = omega arith

  under_free : (v t : ℕ) → v < 2 → under (1 - v) t ≡ pick (eqb v 1) (suc t) 0
  under_free v t h = elim (ℕ_discrete v 1) [ yes e ↦ rw e | no e ↦ let z : v ≡ 0 = omega arith in rw z ]

  -- the complement has a one for each entry that is not valid, and ones above them all
  pub free_zeros : (n k : ℕ) → free_from ps n k ≡ count_trailing_zeros (k + 8) ((2 ^ (k + 8) - 1) - map_of ps n k)
  unfolding free_from count_trailing_zeros map_of
  free_zeros n zero = refl
  free_zeros n (suc k) =
      let v : ℕ = valid_of (page_word ps n) in
      let small : map_of ps (suc n) k < 2 ^ (k + 8) = lt_of_lt_of_le (map_small (suc n) k) (pow_mono (omega arith)) in
      let one : v < 2 = omega arith in
      rw (suc-add k 8, pow-suc 2 (k + 8), digit (2 ^ (k + 8)) (map_of ps (suc n) k) v small one, rest (2 ^ (k + 8)) (map_of ps (suc n) k) v small one, ← free_zeros (suc n) k)
      (sym (under_free v (free_from ps (suc n) k) one))

  pub free_small : (n k : ℕ) → free_from ps n k ≤ k
  unfolding free_from
  free_small n zero = omega arith
  free_small n (suc k) = let h : free_from ps (suc n) k ≤ k = free_small (suc n) k in either (λ f. f ≤ suc k) (bit_of (page_word ps n) 0) (λ _. omega arith) (λ _. omega arith)

-- ---- what a lookup says

module _ (ps : List ℕ) (address : ℕ) (s : Bool) where
  pub entry_le : (n k : ℕ) → (n ≤ entry_from ps address s n k) × (entry_from ps address s n k ≤ n + k)
  unfolding entry_from
  entry_le n zero = (omega arith, omega arith)
  entry_le n (suc k) =
      let h : (suc n ≤ entry_from ps address s (suc n) k) × (entry_from ps address s (suc n) k ≤ suc n + k) = entry_le (suc n) k in
      either (λ r. (n ≤ r) × (r ≤ n + suc k)) (entry_hits (page_word ps n) address s) (λ _. (omega arith, omega arith)) (λ _. (omega arith, omega arith))

  -- the entry found is hit
  pub entry_hit : (n k : ℕ) → entry_from ps address s n k < n + k → entry_hits (page_word ps (entry_from ps address s n k)) address s ≡ true
  unfolding entry_from
  entry_hit n zero h = absurd (omega arith)
  entry_hit n (suc k) h = go (λ l. entry_hit (suc n) k l) (entry_hits (page_word ps n) address s) refl h
    where
      go : (entry_from ps address s (suc n) k < suc n + k → entry_hits (page_word ps (entry_from ps address s (suc n) k)) address s ≡ true)
          → (b : Bool) → entry_hits (page_word ps n) address s ≡ b → pick b n (entry_from ps address s (suc n) k) < n + suc k → entry_hits (page_word ps (pick b n (entry_from ps address s (suc n) k))) address s ≡ true
      go rest true e l = e
      go rest false e l = rest (omega arith)

  -- where none is found, none is hit
  pub entry_miss : (n k : ℕ) → entry_from ps address s n k ≡ n + k → (j : ℕ) → n ≤ j → j < n + k → entry_hits (page_word ps j) address s ≡ false
  unfolding entry_from
  entry_miss n zero e j l h = absurd (omega arith)
  entry_miss n (suc k) e j l h = go (λ q g. entry_miss (suc n) k q j g (omega arith)) (entry_hits (page_word ps n) address s) refl e
    where
      go : (entry_from ps address s (suc n) k ≡ suc n + k → suc n ≤ j → entry_hits (page_word ps j) address s ≡ false)
          → (b : Bool) → entry_hits (page_word ps n) address s ≡ b → pick b n (entry_from ps address s (suc n) k) ≡ n + suc k → entry_hits (page_word ps j) address s ≡ false
      go rest true f q = absurd (omega arith)
      go rest false f q = elim (ℕ_discrete j n) [
        | yes z ↦ subst (λ (m : ℕ). entry_hits (page_word ps m) address s ≡ false) (sym z) f
        | no z ↦ rest (q ∙ omega arith) (omega arith)
      ]

-- ---- a store at one entry leaves every other

pub length_put : (ps : List ℕ) (n page frame : ℕ) → length (put_of ps n page frame) ≡ length ps
unfolding put_of
length_put ps n page frame = length-set (set ps (n * 2) page) _ _ ∙ length-set ps _ _

pub put_other : (ps : List ℕ) (n m page frame : ℕ) → (n ≡ m → ⊥) → page_word (put_of ps n page frame) m ≡ page_word ps m
unfolding put_of
put_other ps n m page frame ne = get_or-set_other (set ps (n * 2) page) (n * 2 + 1) (m * 2) frame 0 (λ e. omega arith) ∙ get_or-set_other ps (n * 2) (m * 2) page 0 (λ e. ne (omega arith))

pub put_same : (ps : List ℕ) (n page frame : ℕ) → length ps ≡ 112 → n < 56 → page_word (put_of ps n page frame) n ≡ page
unfolding put_of
put_same ps n page frame size h = get_or-set_other (set ps (n * 2) page) (n * 2 + 1) (n * 2) frame 0 (λ e. omega arith) ∙ get_or-set_same ps (n * 2) page 0 (omega arith)

-- ---- no two valid entries with one page and space

unfoldable pub NoTwins : List ℕ → Type 0
NoTwins ps =
    (n m : ℕ) → n < 56 → m < 56 → bit_of (page_word ps n) 0 ≡ true → bit_of (page_word ps m) 0 ≡ true
    → bits_of (page_word ps n) 31 12 ≡ bits_of (page_word ps m) 31 12 → bit_of (page_word ps n) 1 ≡ bit_of (page_word ps m) 1 → n ≡ m

-- a page word that is valid, and of the same page and space as an access, is hit by it
module _ (address : ℕ) (s : Bool) where
  pub word_page : bits_of (page_word_of address s) 31 12 ≡ bits_of address 31 12
  unfolding page_word_of
  word_page = either (λ f. bits_of (bits_of address 31 12 * 4096 + f + 1) 31 12 ≡ bits_of address 31 12) s (λ _. omega arith) (λ _. omega arith)

  pub word_valid : bit_of (page_word_of address s) 0 ≡ true
  unfolding page_word_of
  word_valid = either (λ f. bit_of (bits_of address 31 12 * 4096 + f + 1) 0 ≡ true) s (λ _. eq-eqb ((bits_of address 31 12 * 4096 + 2 + 1) / 1 % 2) 1 (omega arith)) (λ _. eq-eqb ((bits_of address 31 12 * 4096 + 0 + 1) / 1 % 2) 1 (omega arith))

pub word_space : (address : ℕ) (s : Bool) → bit_of (page_word_of address s) 1 ≡ s
unfolding page_word_of
word_space address true = eq-eqb ((bits_of address 31 12 * 4096 + 2 + 1) / 2 % 2) 1 (omega arith)
word_space address false = ne_eqb ((bits_of address 31 12 * 4096 + 0 + 1) / 2 % 2) 1 (omega arith)

pub hit_word : (w address : ℕ) (s : Bool) → bit_of w 0 ≡ true → bits_of w 31 12 ≡ bits_of address 31 12 → bit_of w 1 ≡ s → entry_hits w address s ≡ true
unfolding entry_hits
hit_word w address s v p e = rw (v, same_self _ _ e, eq-eqb _ _ p)

-- an entry put where no other is hit by its address stays alone
pub put_alone : (ps : List ℕ) → length ps ≡ 112 → (n : ℕ) → n < 56 → (address : ℕ) (s : Bool) (frame : ℕ)
    → ((m : ℕ) → m < 56 → (n ≡ m → ⊥) → entry_hits (page_word ps m) address s ≡ false)
    → NoTwins ps → NoTwins (put_of ps n (page_word_of address s) frame)
unfolding NoTwins
put_alone ps size n small address s frame miss alone = twins
  where
    new : List ℕ
    new = put_of ps n (page_word_of address s) frame

    same_n : page_word new n ≡ page_word_of address s
    same_n = put_same ps n _ frame size small

    only : (m : ℕ) → m < 56 → bit_of (page_word new m) 0 ≡ true → bits_of (page_word new m) 31 12 ≡ bits_of address 31 12 → bit_of (page_word new m) 1 ≡ s → n ≡ m
    only m hm v p t = elim (ℕ_discrete n m) [
      | yes e ↦ e
      | no e ↦ absurd (true≢false (sym (hit_word _ address s (rw (put_other ps n m (page_word_of address s) frame e) at v) (rw (put_other ps n m (page_word_of address s) frame e) at p) (rw (put_other ps n m (page_word_of address s) frame e) at t)) ∙ miss m hm e))
    ]

    twins : (a b : ℕ) → a < 56 → b < 56 → bit_of (page_word new a) 0 ≡ true → bit_of (page_word new b) 0 ≡ true
        → bits_of (page_word new a) 31 12 ≡ bits_of (page_word new b) 31 12 → bit_of (page_word new a) 1 ≡ bit_of (page_word new b) 1 → a ≡ b
    twins a b ha hb va vb p t = elim (ℕ_discrete n a) [
      | yes e ↦ sym e ∙ only b hb vb (sym p ∙ ap (λ (m : ℕ). bits_of (page_word new m) 31 12) (sym e) ∙ rw same_n (word_page address s)) (sym t ∙ ap (λ (m : ℕ). bit_of (page_word new m) 1) (sym e) ∙ rw same_n (word_space address s))
      | no e ↦ elim (ℕ_discrete n b) [
        | yes f ↦ sym (only a ha va (p ∙ ap (λ (m : ℕ). bits_of (page_word new m) 31 12) (sym f) ∙ rw same_n (word_page address s)) (t ∙ ap (λ (m : ℕ). bit_of (page_word new m) 1) (sym f) ∙ rw same_n (word_space address s))) ∙ f
        | no f ↦ alone a b ha hb (rw (put_other ps n a (page_word_of address s) frame e) at va) (rw (put_other ps n b (page_word_of address s) frame f) at vb) (rw (put_other ps n a (page_word_of address s) frame e, put_other ps n b (page_word_of address s) frame f) at p) (rw (put_other ps n a (page_word_of address s) frame e, put_other ps n b (page_word_of address s) frame f) at t)
      ]
    ]

-- a load after a miss keeps it
pub load_alone : (ps : List ℕ) → length ps ≡ 112 → (pointer address : ℕ) (s : Bool) (frame : ℕ) → entry_of ps address s ≡ 56 → NoTwins ps → NoTwins (load_of ps pointer (page_word_of address s) frame).patc
unfolding load_of
load_alone ps size pointer address s frame miss alone =
    either (λ (l : Loaded). NoTwins l.patc) (ltb (free_of ps) 56)
    (λ e. put_alone ps size (free_of ps) (ltb-true _ _ e) address s frame (λ m h _. entry_miss ps address s 0 56 miss m (omega arith) h) alone)
    (λ e. put_alone ps size (own_pointer pointer) (omega (arith, pointer_small pointer)) address s frame (λ m h _. entry_miss ps address s 0 56 miss m (omega arith) h) alone)

pub hit_fields : (w address : ℕ) (s : Bool) → entry_hits w address s ≡ true → (bit_of w 0 ≡ true) × (bits_of w 31 12 ≡ bits_of address 31 12) × (bit_of w 1 ≡ s)
unfolding entry_hits tests
hit_fields w address s e = (eq-eqb _ 1 (first w address s e), third w address s e, second w address s e)

-- .. and so does an entry's renewal
pub renew_alone : (ps : List ℕ) → length ps ≡ 112 → (address : ℕ) (s : Bool) (frame : ℕ) → entry_of ps address s < 56 → NoTwins ps → NoTwins (put_of ps (entry_of ps address s) (page_word_of address s) frame)
unfolding NoTwins
renew_alone ps size address s frame h alone = put_alone ps size (entry_of ps address s) h address s frame other alone
  where
    other : (m : ℕ) → m < 56 → (entry_of ps address s ≡ m → ⊥) → entry_hits (page_word ps m) address s ≡ false
    other m hm ne = go (entry_hits (page_word ps m) address s) refl
      where
        go : (b : Bool) → entry_hits (page_word ps m) address s ≡ b → entry_hits (page_word ps m) address s ≡ false
        go false e = e
        go true e =
            let f = hit_fields (page_word ps (entry_of ps address s)) address s (entry_hit ps address s 0 56 h) in
            let g = hit_fields (page_word ps m) address s e in
            absurd (ne (alone (entry_of ps address s) m h hm f.0 g.0 (f.1 ∙ sym g.1) (f.2 ∙ sym g.2)))

-- so does whatever leaves each page word as it was or not valid
pub kept_alone : (ps qs : List ℕ) → ((n : ℕ) → n < 56 → (page_word qs n ≡ page_word ps n) ⊎ (bit_of (page_word qs n) 0 ≡ false)) → NoTwins ps → NoTwins qs
unfolding NoTwins
kept_alone ps qs kept alone n m hn hm vn vm p t = go (kept n hn) (kept m hm)
  where
    go : (page_word qs n ≡ page_word ps n) ⊎ (bit_of (page_word qs n) 0 ≡ false) → (page_word qs m ≡ page_word ps m) ⊎ (bit_of (page_word qs m) 0 ≡ false) → n ≡ m
    go (inr e) f = absurd (true≢false (sym vn ∙ e))
    go (inl e) (inr f) = absurd (true≢false (sym vm ∙ f))
    go (inl e) (inl f) = alone n m hn hm (rw e at vn) (rw f at vm) (rw (e, f) at p) (rw (e, f) at t)
