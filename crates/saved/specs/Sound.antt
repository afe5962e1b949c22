-- The tests say what they are to say: a unit passes 9 and 10 just where it is well formed, and fails 10 just where something is doubled.
use Rattle.std.specs.Prelude.{ℕ, ◌+◌, ◌*◌, ◌/◌, ◌%◌, ◌<◌, ◌≡◌, refl, Bool, true, false, not, ◌&&◌, List, ◌⊎◌, eqb, ltb, length}
use Rattle.std.proofs.Common.{sym, subst, ◌∙◌, true≢false, inl, inr, ⊎_elim, arith, eq-eqb, eqb-true, ltb-true, ltb-false}
use Rattle.std.proofs.Math.Path.{ap}
use Rattle.std.proofs.Math.Bool.{and-false}
use Rattle.std.proofs.Math.Decide.{ℕ_discrete}
use Rattle.std.proofs.lemmas.Bool.{not-true, not-false}
use Rattle.words.specs.Laws.{ruled_out}
use Rattle.words.specs.Words.{bits_of, pick}
use Rattle.order.specs.Order.{is_order}
use Rattle.order.specs.Laws.{below, below_at}
use Rattle.fields.specs.Laws.{both}
use Rattle.state.specs.Own.{own_idr, own_scr, own_ssr, own_sctr, own_status, own_area, own_pointer, own_code}
use Rattle.state.specs.declared.Registers.{Registers}
use Rattle.state.specs.declared.FaultPair.{FaultPair}
use Rattle.saved.specs.declared.Layout.{Layout}
use Rattle.saved.specs.declared.Layout.TheVariants.{Entries, Sets}
use Rattle.saved.specs.declared.Kind.{Kind}
use Rattle.saved.specs.declared.Kind.TheVariants.{Line, Entry}
use Rattle.saved.specs.Chip.{Chip, Sized, Fit, own_word, own_words, own_registers, own_pair, own_of}
use Rattle.saved.specs.Tests.{nth, is_own, registers_own, all_own, all_orders, valid, alike, apart, sets_apart, bits_right, no_doubles}
use Rattle.saved.specs.Verdict.{heads_of, verdict_of}
use Rattle.saved.specs.WellFormed.Doubles.{lines, entries}
use Rattle.saved.specs.WellFormed.{line_of, code_of, page_of, OneTag, OnePage, WellFormed, Doubles}
use Rattle.saved.specs.Image.{read_of}
use Rattle.saved.specs.Laws.{passed}
use Rattle.saved.specs.Own.{own_at, own_fixed, code_own}
use Rattle.saved.specs.Below.{below_of, below_where, below_not}

-- ---- alike

pub one_tag : (a b : ℕ) → alike Line a b ≡ true → OneTag a b
unfolding alike
one_tag a b e =
    let t = both (valid Line a && valid Line b) _ e in
    let v = both (valid Line a) (valid Line b) t.0 in
    record { first = v.0; second = v.1; tag = eqb-true _ _ t.1 }

pub tag_alike : (a b : ℕ) → OneTag a b → alike Line a b ≡ true
unfolding alike
tag_alike a b o = rw (o.first, o.second) (eq-eqb _ _ o.tag)

pub one_page : (a b : ℕ) → alike Entry a b ≡ true → OnePage a b
unfolding alike
one_page a b e =
    let s = both (valid Entry a && valid Entry b && eqb (bits_of a 31 12) (bits_of b 31 12)) _ e in
    let t = both (valid Entry a && valid Entry b) _ s.0 in
    let v = both (valid Entry a) (valid Entry b) t.0 in
    record { first = v.0; second = v.1; page = eqb-true _ _ t.1; space = eqb-true _ _ s.1 }

pub page_alike : (a b : ℕ) → OnePage a b → alike Entry a b ≡ true
unfolding alike
page_alike a b o = rw (o.first, o.second, eq-eqb _ _ o.page) (eq-eqb _ _ o.space)

alike_swap : (kind : Kind) (a b : ℕ) → alike kind a b ≡ true → alike kind b a ≡ true
alike_swap Line a b e = let o = one_tag a b e in tag_alike b a (record { first = o.second; second = o.first; tag = sym o.tag })
alike_swap Entry a b e =
    let o = one_page a b e in page_alike b a (record { first = o.second; second = o.first; page = sym o.page; space = sym o.space })

-- ---- no two alike

module _ (kind : Kind) (n : ℕ) (f : ℕ → ℕ) where
  pub apart_at : apart kind n f ≡ true → (i j : ℕ) → i < j → j < n → alike kind (f i) (f j) ≡ false
  apart_at e i j h l = not-true _ (below_at j (λ i. not (alike kind (f i) (f j))) (below_at n (λ j. below j (λ i. not (alike kind (f i) (f j)))) e j l) i h)

  pub apart_of : ((i j : ℕ) → i < j → j < n → alike kind (f i) (f j) ≡ false) → apart kind n f ≡ true
  apart_of h = below_of n _ (λ j l. below_of j _ (λ i k. rw (h i j k l)))

  -- two that are alike are one
  pub apart_one : apart kind n f ≡ true → (i j : ℕ) → i < n → j < n → alike kind (f i) (f j) ≡ true → i ≡ j
  apart_one e i j hi hj a = elim (ℕ_discrete i j) [
    | yes q ↦ q
    | no q ↦ absurd (go (ltb i j) refl q)
  ]
    where
      go : (b : Bool) → ltb i j ≡ b → (i ≡ j → ⊥) → ⊥
      go true t q = true≢false (sym a ∙ apart_at e i j (ltb-true _ _ t) hj)
      go false t q = true≢false (sym (alike_swap kind (f i) (f j) a) ∙ apart_at e j i (omega (arith, ltb-false i j t)) hi)

  -- two that are alike, where the test fails
  pub record Pair : Type 0 where
    pub low : ℕ
    pub high : ℕ
    pub ordered : low < high
    pub small : high < n
    pub same : alike kind (f low) (f high) ≡ true

  pub apart_where : apart kind n f ≡ false → Pair
  apart_where e =
      let w = below_where n _ e in
      let v = below_where w.at _ w.fails in
      record { low = v.at; high = w.at; ordered = v.small; small = w.small; same = not-false _ v.fails }

  pub apart_not : (i j : ℕ) → i < j → j < n → alike kind (f i) (f j) ≡ true → apart kind n f ≡ false
  apart_not i j h l a = go (apart kind n f) refl
    where
      go : (b : Bool) → apart kind n f ≡ b → b ≡ false
      go false e = refl
      go true e = absurd (true≢false (sym a ∙ apart_at e i j h l))

-- ---- number 10: something is doubled

either_false : (x y : Bool) → (x && y) ≡ false → (x ≡ false) ⊎ (y ≡ false)
either_false false y e = inl refl
either_false true y e = inr e

pub doubled : (c : Chip) → no_doubles c ≡ false → Doubles c
unfolding no_doubles
doubled c e = ⊎_elim in_lines in_entries (either_false (sets_apart 256 (nth c.lines)) _ e)
  where
    in_lines : sets_apart 256 (nth c.lines) ≡ false → Doubles c
    in_lines e =
        let w = below_where 256 _ e in
        let v = apart_where Line 4 (line_of c w.at) w.fails in
        lines w.at v.low v.high w.small v.ordered v.small (one_tag _ _ v.same)

    in_entries : apart Entry 56 (page_of c) ≡ false → Doubles c
    in_entries e = let v = apart_where Entry 56 (page_of c) e in entries v.low v.high v.ordered v.small (one_page _ _ v.same)

pub undoubled : (c : Chip) → Doubles c → no_doubles c ≡ false
unfolding no_doubles
undoubled c (lines s i j hs h l o) = rw (below_not 256 (λ s. apart Line 4 (line_of c s)) s hs (apart_not Line 4 (line_of c s) i j h l (tag_alike _ _ o)))
undoubled c (entries i j h l o) = rw (apart_not Entry 56 (page_of c) i j h l (page_alike _ _ o)) (and-false (sets_apart 256 (nth c.lines)))

-- an image that passes 7, 8 and 9 gets 10 just where something in it is doubled
pub ten_doubles : (b : List ℕ) → verdict_of b ≡ 10 → Doubles (read_of b)
unfolding verdict_of
ten_doubles b v =
    let v7 = passed (eqb (length b) 22039) 7 _ 10 (λ e. omega arith) v in
    let v8 = passed (heads_of b) 8 _ 10 (λ e. omega arith) v7.1 in
    let v9 = passed (bits_right (read_of b)) 9 _ 10 (λ e. omega arith) v8.1 in
    doubled (read_of b) (failed (no_doubles (read_of b)) v9.1)
  where
    failed : (x : Bool) → ◌≡◌ {A = ℕ} (pick (not x) 10 0) 10 → x ≡ false
    failed true e = absurd (omega arith)
    failed false e = refl

pub doubles_ten : (b : List ℕ) → length b ≡ 22039 → heads_of b ≡ true → bits_right (read_of b) ≡ true → Doubles (read_of b) → verdict_of b ≡ 10
unfolding verdict_of
doubles_ten b long heads right d = rw (eq-eqb _ _ long, heads, right, undoubled (read_of b) d)

-- ---- number 9: the own bits are the whole word

module _ (layout : Layout) (ws : List ℕ) (n : ℕ) (size : length ws ≡ n) where
  pub words_own : all_own layout n (nth ws) ≡ true → own_words layout ws ≡ ws
  words_own e = own_fixed layout 0 ws (λ i h. ap (λ (m : ℕ). own_word layout m (nth ws i)) (omega arith) ∙ eqb-true _ _ (below_at n (λ i. is_own (own_word layout i) (nth ws i)) e i (omega arith)))

  pub own_words_lem : own_words layout ws ≡ ws → all_own layout n (nth ws) ≡ true
  own_words_lem e =
      below_of n _ (λ i h. eq-eqb _ _ (ap (λ (m : ℕ). own_word layout m (nth ws i)) (omega arith) ∙ sym (own_at layout 0 ws i (omega arith)) ∙ rw e))

is_own_lem : (own : ℕ → ℕ) (w : ℕ) → is_own own w ≡ true → own w ≡ w
is_own_lem own w e = eqb-true _ _ e

pub registers_own_lem : (u : Registers) (pair : FaultPair) → registers_own u pair ≡ true → (own_registers u ≡ u) × (own_pair pair ≡ pair)
unfolding registers_own own_registers own_pair
registers_own_lem u pair e =
    let t7 = both _ (is_own own_pointer u.pointer) e in
    let t6 = both _ (is_own own_area u.uapr) t7.0 in
    let t5 = both _ (is_own own_area u.sapr) t6.0 in
    let t4 = both _ (is_own own_status pair.status) t5.0 in
    let t3 = both _ (is_own own_sctr u.sctr) t4.0 in
    let t2 = both _ (is_own own_ssr u.ssr) t3.0 in
    let t1 = both (is_own own_idr u.idr) (is_own own_scr u.scr) t2.0 in (
      rw (is_own_lem own_idr u.idr t1.0, is_own_lem own_scr u.scr t1.1, is_own_lem own_ssr u.ssr t2.1, is_own_lem own_sctr u.sctr t3.1, is_own_lem own_area u.sapr t5.1, is_own_lem own_area u.uapr t6.1, is_own_lem own_pointer u.pointer t7.1),
      rw (is_own_lem own_status pair.status t4.1),
    )

pub own_registers_lem : (u : Registers) (pair : FaultPair) → own_registers u ≡ u → own_pair pair ≡ pair → registers_own u pair ≡ true
unfolding registers_own own_registers own_pair
own_registers_lem u pair e p =
    rw (
      eq-eqb _ _ (ap (λ (v : Registers). v.idr) e),
      eq-eqb _ _ (ap (λ (v : Registers). v.scr) e),
      eq-eqb _ _ (ap (λ (v : Registers). v.ssr) e),
      eq-eqb _ _ (ap (λ (v : Registers). v.sctr) e),
      eq-eqb _ _ (ap (λ (q : FaultPair). q.status) p),
      eq-eqb _ _ (ap (λ (v : Registers). v.sapr) e),
      eq-eqb _ _ (ap (λ (v : Registers). v.uapr) e),
      eq-eqb _ _ (ap (λ (v : Registers). v.pointer) e),
    )

-- ---- well formed

module _ (c : Chip) (size : Sized c) where
  codes : own_words Sets c.lines ≡ c.lines → (s : ℕ) → s < 256 → own_code (code_of c s) ≡ code_of c s
  codes e s h =
      let i : s * 5 + 4 < length c.lines = omega (arith, size.lines) in
      sym (code_own (0 + (s * 5 + 4)) (code_of c s) (omega arith)) ∙ sym (own_at Sets 0 c.lines (s * 5 + 4) i) ∙ rw e

  pub right_own : bits_right c ≡ true → (own_of c ≡ c) × ((s : ℕ) → s < 256 → is_order (code_of c s) ≡ true)
  unfolding bits_right
  right_own e =
      let t3 = both _ (all_orders 256 (nth c.lines)) e in
      let t2 = both _ (all_own Sets 1280 (nth c.lines)) t3.0 in
      let t1 = both (registers_own c.registers c.pair) (all_own Entries 112 (nth c.patc)) t2.0 in
      let r = registers_own_lem c.registers c.pair t1.0 in
      let l = words_own Sets c.lines 1280 size.lines t2.1 in (
        rw (r.0, r.1, words_own Entries c.patc 112 size.patc t1.1, l),
        λ s h. rw (codes l s h) at (below_at 256 (λ s. is_order (own_code (code_of c s))) t3.1 s h),
      )

  pub own_right : own_of c ≡ c → ((s : ℕ) → s < 256 → is_order (code_of c s) ≡ true) → bits_right c ≡ true
  unfolding bits_right
  own_right e orders =
      let l : own_words Sets c.lines ≡ c.lines = ap (λ (d : Chip). d.lines) e in
      rw (
        own_registers_lem c.registers c.pair (ap (λ (d : Chip). d.registers) e) (ap (λ (d : Chip). d.pair) e),
        own_words_lem Entries c.patc 112 size.patc (ap (λ (d : Chip). d.patc) e),
        own_words_lem Sets c.lines 1280 size.lines l,
      ) (below_of 256 _ (λ s h. rw (codes l s h) (orders s h)))

-- a unit that passes 9 and 10
pub checked_well : (c : Chip) → Sized c → Fit c → bits_right c ≡ true → no_doubles c ≡ true → WellFormed c
unfolding no_doubles
checked_well c size fit right single =
    let r = right_own c size right in
    let d = both (sets_apart 256 (nth c.lines)) (apart Entry 56 (page_of c)) single in
    record {
      sized = size;
      fit = fit;
      own = r.0;
      orders = r.1;
      lines = λ s i j h hi hj o. apart_one Line 4 (line_of c s) (below_at 256 (λ s. apart Line 4 (line_of c s)) d.0 s h) i j hi hj (tag_alike _ _ o);
      entries = λ i j hi hj o. apart_one Entry 56 (page_of c) d.1 i j hi hj (page_alike _ _ o);
    }

-- .. is just a well-formed one
pub well_checked : (c : Chip) → WellFormed c → (bits_right c ≡ true) × (no_doubles c ≡ true)
unfolding no_doubles
well_checked c w = (own_right c w.sized w.own w.orders, rw (below_of 256 _ sets, pages))
  where
    sets : (s : ℕ) → s < 256 → apart Line 4 (line_of c s) ≡ true
    sets s h = apart_of Line 4 (line_of c s) (λ i j k l. ruled_out _ (λ e. let q = w.lines s i j h (omega arith) l (one_tag _ _ e) in omega arith))

    pages : apart Entry 56 (page_of c) ≡ true
    pages = apart_of Entry 56 (page_of c) (λ i j k l. ruled_out _ (λ e. let q = w.entries i j (omega arith) l (one_page _ _ e) in omega arith))

-- the same of lines by their place, 4 x set + number
abbrev pub OnePlace : Chip → Type 0
OnePlace c =
    (p q : ℕ) → p < 1024 → q < 1024 → p / 4 ≡ q / 4 → OneTag (line_of c (p / 4) (p % 4)) (line_of c (q / 4) (q % 4)) → p ≡ q

pub well_places : (c : Chip) → WellFormed c → OnePlace c
well_places c w p q hp hq e o =
    let same : p % 4 ≡ q % 4 = w.lines (p / 4) (p % 4) (q % 4) (omega arith) (omega arith) (omega arith) (subst (λ (s : ℕ). OneTag (line_of c (p / 4) (p % 4)) (line_of c s (q % 4))) (sym e) o) in
    omega arith

pub places_well : (c : Chip) → OnePlace c → (s i j : ℕ) → s < 256 → i < 4 → j < 4 → OneTag (line_of c s i) (line_of c s j) → i ≡ j
places_well c one s i j hs hi hj o =
    let q : (n : ℕ) → n < 4 → (s * 4 + n) / 4 ≡ s = λ n h. omega arith in
    let r : (n : ℕ) → n < 4 → (s * 4 + n) % 4 ≡ n = λ n h. omega arith in
    let same : s * 4 + i ≡ s * 4 + j = one (s * 4 + i) (s * 4 + j) (omega arith) (omega arith) (q i hi ∙ sym (q j hj)) (rw (q i hi, q j hj, r i hi, r j hj) o) in
    omega arith
