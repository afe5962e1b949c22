-- What a flush comes to place by place, and where it stops.
use Prim.Native.Nat.{ℕ, zero, suc, ◌+◌, ◌*◌, ◌/◌, ◌%◌, ◌≤◌, ◌<◌}
use Rattle.std.specs.Prelude.{◌≡◌, ◌≢◌, Bool, ◌&&◌, ◌||◌, set, drop, eqb}
use Rattle.std.proofs.Math.Path.{refl, sym, ap}
use Rattle.std.proofs.Common.{◌∙◌, true≢false, arith, ext_get_or, get_or-take, get_or-drop, eqb-true, leb-true, ne_eqb}
use Rattle.std.proofs.Math.Bool.{true, false, not, and-false, and-true}
use mathlib.Core.List.{List}
use Rattle.std.proofs.Math.Nat.{add-zero}
use Rattle.std.proofs.Math.Decide.{ℕ_discrete}
use Rattle.std.proofs.Math.ListN.{length, get_or, length-set}
use Rattle.std.proofs.Math.Seq.{get_or-set_same, get_or-set_other}
use Rattle.std.proofs.lemmas.List.{set-get_or}
use Rattle.std.proofs.lemmas.Bool.{eqb-false, not-false}
use Rattle.memory.specs.Laws.{length_put}
use Rattle.sweep.specs.Laws.{after_small}
use Rattle.words.specs.Words.{pick}
use Rattle.words.specs.Laws.{either, and_left, and_right}
use Rattle.memory.specs.Memory.{ram_line, put_of, line_fits, write_line_of}
use Rattle.lines.specs.Lines.{tag_of, tag_at, state_of, valid, modified, tag_word, line_address, with_state, marked}
use Rattle.cells.specs.Cells.{line_words}
use Rattle.lines.specs.Laws.{state_keeps_tag, state_set, below4}
use Rattle.sweep.specs.declared.Kind.{Kind}
use Rattle.sweep.specs.declared.Kind.TheVariants.{Invalidate, CopyBack, Both}
use Rattle.sweep.specs.Sweep.{copies_of, drops_of, after_of, well_of, stopped_of, Sweep, swept, copied_of, line_of}
use Rattle.flush_laws.specs.Sweep.{◌∪◌, line_by, sweep_by, treated, after, is_copied, lines_to, ram_to, count_to, FitsTo}

-- ---- four words put into RAM

module _ (ram : List ℕ) (at : ℕ) (part : List ℕ) where
  abbrev one : List ℕ
  one = set ram at (get_or part 0 0)

  abbrev two : List ℕ
  two = set one (at + 1) (get_or part 1 0)

  abbrev three : List ℕ
  three = set two (at + 2) (get_or part 2 0)

  put_in : at + 4 ≤ length ram → (i : ℕ) → i < 4 → get_or (put_of ram at part) (at + i) 0 ≡ get_or part i 0
  unfolding put_of
  put_in l = below4 (λ i. get_or (put_of ram at part) (at + i) 0 ≡ get_or part i 0)
      (other three 3 0 (omega arith) ∙ other two 2 0 (omega arith) ∙ other one 1 0 (omega arith) ∙ rw add-zero (get_or-set_same ram at _ 0 (omega arith)))
      (other three 3 1 (omega arith) ∙ other two 2 1 (omega arith) ∙ get_or-set_same one (at + 1) _ 0 (simp length-set (omega arith)))
      (other three 3 2 (omega arith) ∙ get_or-set_same two (at + 2) _ 0 (simp length-set (omega arith)))
      (get_or-set_same three (at + 3) _ 0 (simp length-set (omega arith)))
    where
      other : (l : List ℕ) (m i : ℕ) → i ≢ m → get_or (set l (at + m) (get_or part m 0)) (at + i) 0 ≡ get_or l (at + i) 0
      other l m i ne = get_or-set_other l (at + m) (at + i) _ 0 (omega arith)

  put_out : (a : ℕ) → ((i : ℕ) → i < 4 → a ≢ at + i) → get_or (put_of ram at part) a 0 ≡ get_or ram a 0
  unfolding put_of
  put_out a f =
      get_or-set_other three (at + 3) a _ 0 (f 3 (omega arith))
      ∙ get_or-set_other two (at + 2) a _ 0 (f 2 (omega arith))
      ∙ get_or-set_other one (at + 1) a _ 0 (f 1 (omega arith))
      ∙ get_or-set_other ram at a _ 0 (λ e. f 0 (omega arith) (omega arith))

line_word : (cs : List ℕ) (p i : ℕ) → i < 4 → get_or (line_words cs p) i 0 ≡ get_or cs (p * 4 + i) 0
line_word cs p i h = get_or-take 4 (drop (p * 4) cs) i 0 h ∙ get_or-drop (p * 4) cs i 0

-- the word at place a of RAM after a line is copied there
copied_at : (ram cs : List ℕ) (p w a : ℕ) → line_fits ram (line_address p w) ≡ true
    → get_or (put_of ram (ram_line (line_address p w)) (line_words cs p)) a 0 ≡ pick (eqb (a / 4 * 16) (line_address p w)) (get_or cs (p * 4 + a % 4) 0) (get_or ram a 0)
copied_at ram cs p w a h = go (eqb (a / 4 * 16) (line_address p w)) refl
  where
    at : ℕ
    at = ram_line (line_address p w)

    go : (b : Bool) → eqb (a / 4 * 16) (line_address p w) ≡ b → get_or (put_of ram at (line_words cs p)) a 0 ≡ pick b (get_or cs (p * 4 + a % 4) 0) (get_or ram a 0)
    go true e =
        let q : a ≡ at + a % 4 = omega (arith, eqb-true) in
        ap (λ (j : ℕ). get_or (put_of ram at (line_words cs p)) j 0) q ∙ put_in ram at (line_words cs p) (leb-true _ _ h) (a % 4) (omega arith) ∙ line_word cs p (a % 4) (omega arith)
    go false e = put_out ram at (line_words cs p) a (λ i l q. eqb-false (a / 4 * 16) (line_address p w) e (omega arith))

-- ---- one line

pub pick_same {ℓ} : {A : Type ℓ} (b : Bool) (x : A) → pick b x x ≡ x
pick_same true x = refl
pick_same false x = refl

unmodified : (w : ℕ) → valid w ≡ false → modified w ≡ false
unmodified w e = let s : state_of w ≡ 3 = eqb-true _ _ (not-false _ e) in ne_eqb (state_of w) 1 (omega arith)

-- C the line is covered, L valid, K the command copies, M the line is modified, D the command drops
line_cases : (C L K M D : Bool) (ls : List ℕ) (p w : ℕ) (ram put : List ℕ) (x : Sweep) → set ls (tag_at p) w ≡ ls → (L ≡ false → M ≡ false)
    → ((K && (C && M)) ≡ true → x ≡ swept (well_of 4) (set ls (tag_at p) (with_state w (pick D 3 0))) put)
    → pick C (pick (L && true) (pick (K && M) x (pick D (swept (well_of 0) (set ls (tag_at p) (with_state w 3)) ram) (swept (well_of 0) ls ram))) (swept (well_of 0) ls ram)) (swept (well_of 0) ls ram)
    ≡ swept (well_of (pick (K && (C && M)) 4 0)) (set ls (tag_at p) (pick C (pick L (pick (K && M) (with_state w (pick D 3 0)) (pick D (with_state w 3) w)) w) w)) (pick (K && (C && M)) put ram)
line_cases false L K M D ls p w ram put x own q h = rw (and-false K, own)
line_cases true false K M D ls p w ram put x own q h = rw (q refl, and-false K, own)
line_cases true true true true D ls p w ram put x own q h = h refl
line_cases true true true false true ls p w ram put x own q h = refl
line_cases true true true false false ls p w ram put x own q h = rw own
line_cases true true false M true ls p w ram put x own q h = refl
line_cases true true false M false ls p w ram put x own q h = rw own

stop_cases : (C L K M : Bool) (x y z : Sweep) → (L ≡ false → M ≡ false) → (K && (C && M)) ≡ true → pick C (pick (L && true) (pick (K && M) x y) z) z ≡ x
stop_cases true true true true x y z q e = refl
stop_cases true true true false x y z q e = absurd (true≢false (sym e))
stop_cases true true false M x y z q e = absurd (true≢false (sym e))
stop_cases true false true M x y z q e = absurd (true≢false (sym e ∙ q refl))
stop_cases true false false M x y z q e = absurd (true≢false (sym e))
stop_cases false L true M x y z q e = absurd (true≢false (sym e))
stop_cases false L false M x y z q e = absurd (true≢false (sym e))

module _ (k : Kind) (c : ℕ → Bool) (cs : List ℕ) (p : ℕ) (ls ram : List ℕ) where
  line_runs : (is_copied k c p (tag_word ls p) ≡ true → line_fits ram (line_address p (tag_word ls p)) ≡ true)
      → line_by k c cs p ls ram
      ≡ swept (well_of (pick (is_copied k c p (tag_word ls p)) 4 0)) (set ls (tag_at p) (after k c p (tag_word ls p)))
      (pick (is_copied k c p (tag_word ls p)) (put_of ram (ram_line (line_address p (tag_word ls p))) (line_words cs p)) ram)
  unfolding line_by line_of is_copied after marked copied_of write_line_of
  line_runs f =
      line_cases (c (line_address p (tag_word ls p))) (valid (tag_word ls p)) (copies_of k) (modified (tag_word ls p)) (drops_of k) ls p (tag_word ls p) ram _ _
      (set-get_or ls (tag_at p) 0) (unmodified (tag_word ls p)) (λ e. rw (f e))

  line_stops : is_copied k c p (tag_word ls p) ≡ true → line_fits ram (line_address p (tag_word ls p)) ≡ false
      → line_by k c cs p ls ram ≡ swept (stopped_of 0 (line_address p (tag_word ls p))) ls ram
  unfolding line_by line_of is_copied marked copied_of write_line_of
  line_stops e f = stop_cases (c (line_address p (tag_word ls p))) (valid (tag_word ls p)) (copies_of k) (modified (tag_word ls p)) _ _ _ (unmodified (tag_word ls p)) e ∙ rw f (ap (λ (a : ℕ). swept (stopped_of 0 a) ls ram) (omega arith))

-- ---- a tag word afterwards

-- what holds of a covered word as it was and in any state holds of the word afterwards
treated_either : (P : ℕ → Type 0) (k : Kind) (w : ℕ) → P w → ((s : ℕ) → s < 4 → P (with_state w s)) → P (treated k w)
treated_either P k w same set = either P (valid w) (λ _. either P (copies_of k && modified w) (λ _. set _ (after_small k)) (λ _. either P (drops_of k) (λ _. set 3 (omega arith)) (λ _. same))) (λ _. same)

-- the tag stays
treated_tag : (k : Kind) (w : ℕ) → tag_of (treated k w) ≡ tag_of w
treated_tag k w = treated_either (λ v. tag_of v ≡ tag_of w) k w refl (λ s h. state_keeps_tag w s h)

state_modified : (w s : ℕ) → s < 4 → s ≢ 1 → modified (with_state w s) ≡ false
state_modified w s h ne = rw (state_set w s h) (ne_eqb s 1 ne)

-- no covered line is modified afterwards
treated_modified : (k : Kind) (w : ℕ) → modified (treated k w) ≡ false
treated_modified k w = go (valid w) refl (copies_of k && modified w) refl (drops_of k) refl
  where
    kept : (k : Kind) → (copies_of k && modified w) ≡ false → drops_of k ≡ false → modified w ≡ false
    kept Invalidate e d = absurd (true≢false d)
    kept CopyBack e d = e
    kept Both e d = absurd (true≢false d)

    next : (d : Bool) → modified (with_state w (pick d 3 0)) ≡ false
    next true = state_modified w 3 (omega arith) (omega arith)
    next false = state_modified w 0 (omega arith) (omega arith)

    go : (L : Bool) → valid w ≡ L → (b : Bool) → (copies_of k && modified w) ≡ b → (d : Bool) → drops_of k ≡ d
        → modified (pick L (pick b (with_state w (pick d 3 0)) (pick d (with_state w 3) w)) w) ≡ false
    go false l b e d q = unmodified w l
    go true l true e d q = next d
    go true l false e true q = next true
    go true l false e false q = kept k e q

invalid_treated : (k : Kind) (w : ℕ) → valid w ≡ false → treated k w ≡ w
invalid_treated k w e = rw e

-- a command that drops leaves every covered line invalid
pub dropped_invalid : (k : Kind) (w : ℕ) → drops_of k ≡ true → valid (treated k w) ≡ false
dropped_invalid k w d = go (valid w) refl (copies_of k && modified w)
  where
    three : valid (with_state w 3) ≡ false
    three = rw (state_set w 3 (omega arith))

    go : (L : Bool) → valid w ≡ L → (b : Bool) → valid (pick L (pick b (with_state w (pick (drops_of k) 3 0)) (pick (drops_of k) (with_state w 3) w)) w) ≡ false
    go false l b = l
    go true l true = rw d three
    go true l false = rw d three

-- copying back keeps a line valid or not
copied_valid : (w : ℕ) → valid (treated CopyBack w) ≡ valid w
copied_valid w = go (valid w) refl (modified w)
  where
    go : (L : Bool) → valid w ≡ L → (b : Bool) → valid (pick L (pick b (with_state w 0) w) w) ≡ L
    go false l b = l
    go true l true = rw (state_set w 0 (omega arith))
    go true l false = l

clean_treated : (w : ℕ) → modified w ≡ false → treated CopyBack w ≡ w
clean_treated w e = rw e (pick_same (valid w) w)

treated_twice : (k : Kind) (w : ℕ) → treated k (treated k w) ≡ treated k w
treated_twice Invalidate w = invalid_treated Invalidate _ (dropped_invalid Invalidate w refl)
treated_twice CopyBack w = clean_treated _ (treated_modified CopyBack w)
treated_twice Both w = invalid_treated Both _ (dropped_invalid Both w refl)

treated_both : (w : ℕ) → treated Invalidate (treated CopyBack w) ≡ treated Both w
treated_both w = rw (copied_valid w, treated_tag CopyBack w) (go (valid w) refl)
  where
    go : (L : Bool) → valid w ≡ L → pick L (with_state w 3) (treated CopyBack w) ≡ pick L (pick (modified w) (with_state w 3) (with_state w 3)) w
    go false l = invalid_treated CopyBack w l
    go true l = sym (pick_same (modified w) (with_state w 3))

module _ (k : Kind) (c : ℕ → Bool) (p w : ℕ) where
  pub after_tag : tag_of (after k c p w) ≡ tag_of w
  unfolding after
  after_tag = either (λ v. tag_of v ≡ tag_of w) (c (line_address p w)) (λ _. treated_tag k w) (λ _. refl)

  pub after_address : line_address p (after k c p w) ≡ line_address p w
  after_address = rw after_tag

  pub after_modified : modified (after k c p w) ≡ (modified w && not (c (line_address p w)))
  unfolding after
  after_modified = go (c (line_address p w))
    where
      go : (b : Bool) → modified (pick b (treated k w) w) ≡ (modified w && not b)
      go true = treated_modified k w ∙ sym (and-false (modified w))
      go false = sym (and-true (modified w))

pub after_union : (k : Kind) (c₁ c₂ : ℕ → Bool) (p w : ℕ) → after k c₂ p (after k c₁ p w) ≡ after k (c₁ ∪ c₂) p w
unfolding after
after_union k c₁ c₂ p w = ap (λ (a : ℕ). pick (c₂ a) (treated k (after k c₁ p w)) (after k c₁ p w)) (after_address k c₁ p w) ∙ go (c₁ (line_address p w)) (c₂ (line_address p w))
  where
    go : (b₁ b₂ : Bool) → pick b₂ (treated k (pick b₁ (treated k w) w)) (pick b₁ (treated k w) w) ≡ pick (b₁ || b₂) (treated k w) w
    go true true = treated_twice k w
    go true false = refl
    go false b = refl

pub after_both : (c : ℕ → Bool) (p w : ℕ) → after Invalidate c p (after CopyBack c p w) ≡ after Both c p w
unfolding after
after_both c p w = ap (λ (a : ℕ). pick (c a) (treated Invalidate (after CopyBack c p w)) (after CopyBack c p w)) (after_address CopyBack c p w) ∙ go (c (line_address p w))
  where
    go : (b : Bool) → pick b (treated Invalidate (pick b (treated CopyBack w) w)) (pick b (treated CopyBack w) w) ≡ pick b (treated Both w) w
    go true = treated_both w
    go false = refl

pub after_valid : (c : ℕ → Bool) (p w : ℕ) → valid (after CopyBack c p w) ≡ valid w
unfolding after
after_valid c p w = either (λ v. valid v ≡ valid w) (c (line_address p w)) (λ _. copied_valid w) (λ _. refl)

pub after_uncovered : (k : Kind) (c : ℕ → Bool) (p w : ℕ) → c (line_address p w) ≡ false → after k c p w ≡ w
unfolding after
after_uncovered k c p w e = rw e

pub after_covered : (k : Kind) (c : ℕ → Bool) (p w : ℕ) → c (line_address p w) ≡ true → after k c p w ≡ treated k w
unfolding after
after_covered k c p w e = rw e

-- a copied line's state
pub after_copied : (k : Kind) (c : ℕ → Bool) (p w : ℕ) → is_copied k c p w ≡ true → state_of (after k c p w) ≡ after_of k
unfolding after is_copied
after_copied k c p w e =
    let m : modified w ≡ true = and_right (c (line_address p w)) _ (and_right (copies_of k) _ e) in
    let s : state_of w ≡ 1 = eqb-true _ _ m in
    rw (and_left (c (line_address p w)) _ (and_right (copies_of k) _ e), ne_eqb (state_of w) 3 (omega arith), and_left (copies_of k) _ e, m) (state_set w (after_of k) (after_small k))

-- a covered line is not valid after a command that drops
pub after_dropped : (k : Kind) (c : ℕ → Bool) (p w : ℕ) → drops_of k ≡ true → (valid (after k c p w) && c (line_address p w)) ≡ false
unfolding after
after_dropped k c p w d = go (c (line_address p w))
  where
    go : (b : Bool) → (valid (pick b (treated k w) w) && b) ≡ false
    go true = rw (dropped_invalid k w d)
    go false = and-false (valid w)

-- an invalid or uncovered line stays
pub after_other : (k : Kind) (c : ℕ → Bool) (p w : ℕ) → (valid w && c (line_address p w)) ≡ false → after k c p w ≡ w
unfolding after
after_other k c p w e = go (valid w) refl (c (line_address p w)) e
  where
    go : (L : Bool) → valid w ≡ L → (C : Bool) → (valid w && C) ≡ false → pick C (treated k w) w ≡ w
    go L l false q = refl
    go false l true q = invalid_treated k w l
    go true l true q = absurd (true≢false (sym (rw l) ∙ q))

-- no line becomes valid
pub valid_before : (k : Kind) (c : ℕ → Bool) (p w : ℕ) → valid (after k c p w) ≡ true → valid w ≡ true
valid_before k c p w e = go (valid w) refl
  where
    go : (b : Bool) → valid w ≡ b → valid w ≡ true
    go true v = v
    go false v = absurd (true≢false (sym e ∙ ap valid (after_other k c p w (rw v)) ∙ v))

-- ---- the directory after the first n places

module _ (k : Kind) (c : ℕ → Bool) (ls : List ℕ) where
  pub length_lines_to : (n : ℕ) → length (lines_to k c ls n) ≡ length ls
  unfolding lines_to
  length_lines_to zero = refl
  length_lines_to (suc n) = length-set (lines_to k c ls n) _ _ ∙ length_lines_to n

  lines_to_other : (n i : ℕ) → ((p : ℕ) → p < n → i ≢ tag_at p) → get_or (lines_to k c ls n) i 0 ≡ get_or ls i 0
  unfolding lines_to
  lines_to_other zero i f = refl
  lines_to_other (suc n) i f = get_or-set_other (lines_to k c ls n) (tag_at n) i _ 0 (f n (omega arith)) ∙ lines_to_other n i (λ p h. f p (omega arith))

  -- the use codes stay
  pub lines_to_code : (n i : ℕ) → i % 5 ≡ 4 → get_or (lines_to k c ls n) i 0 ≡ get_or ls i 0
  lines_to_code n i h = lines_to_other n i (λ p l e. omega arith)

  -- the later lines stay
  pub lines_to_later : (n p : ℕ) → n ≤ p → tag_word (lines_to k c ls n) p ≡ tag_word ls p
  lines_to_later n p h = lines_to_other n (tag_at p) (λ q l. omega arith)

  pub lines_to_done : length ls ≡ 1280 → (n p : ℕ) → n ≤ 1024 → p < n → tag_word (lines_to k c ls n) p ≡ after k c p (tag_word ls p)
  unfolding lines_to
  lines_to_done l zero p b h = absurd (omega arith)
  lines_to_done l (suc n) p b h = elim (ℕ_discrete p n) [
    | yes e ↦ rw e (get_or-set_same (lines_to k c ls n) (tag_at n) _ 0 (rw length_lines_to (omega arith)))
    | no e ↦ get_or-set_other (lines_to k c ls n) (tag_at n) (tag_at p) _ 0 (omega arith) ∙ lines_to_done l n p (omega arith) (omega arith)
  ]

-- two directories that have the same tag words and the same use codes are one
pub lines_ext : (d e : List ℕ) → length d ≡ 1280 → length e ≡ 1280 → ((p : ℕ) → p < 1024 → tag_word d p ≡ tag_word e p)
    → ((i : ℕ) → i % 5 ≡ 4 → get_or d i 0 ≡ get_or e i 0) → d ≡ e
lines_ext d e ld le words codes = ext_get_or 0 d e (ld ∙ sym le) (λ i h. at i (rw ld at h))
  where
    at : (i : ℕ) → i < 1280 → get_or d i 0 ≡ get_or e i 0
    at i h = elim (ℕ_discrete (i % 5) 4) [
      | yes u ↦ codes i u
      | no u ↦
          let q : i ≡ tag_at (i / 5 * 4 + i % 5) = omega arith in
          ap (λ (j : ℕ). get_or d j 0) q ∙ words (i / 5 * 4 + i % 5) (omega arith) ∙ sym (ap (λ (j : ℕ). get_or e j 0) q)
    ]

-- ---- RAM after the first n places

-- is the line at place p modified, and does it hold the word at place a of RAM?
abbrev pub hits : List ℕ → ℕ → ℕ → Bool
hits ls a p = modified (tag_word ls p) && eqb (a / 4 * 16) (line_address p (tag_word ls p))

-- the word at a of the last of the first n lines that is modified and holds it, or else v
unfoldable pub newest : List ℕ → List ℕ → ℕ → ℕ → ℕ → ℕ
newest ls cs a v zero = v
newest ls cs a v (suc p) = pick (hits ls a p) (get_or cs (p * 4 + a % 4) 0) (newest ls cs a v p)

module _ (k : Kind) (c : ℕ → Bool) (cs ls ram : List ℕ) where
  pub length_ram_to : (n : ℕ) → length (ram_to k c cs ls ram n) ≡ length ram
  unfolding ram_to
  length_ram_to zero = refl
  length_ram_to (suc n) = either (λ (l : List ℕ). length l ≡ length ram) (is_copied k c n (tag_word ls n)) (λ _. length_put (ram_to k c cs ls ram n) _ _ ∙ length_ram_to n) (λ _. length_ram_to n)

-- one step of the next lemma: K the command copies, C and P whether a's line and the place's are covered, M modified, E the two lines are the same
ram_step : (K C P M E : Bool) (x y z v : ℕ) → (E ≡ true → C ≡ P) → y ≡ pick (K && C) z v
    → pick (K && (P && M)) (pick E x y) y ≡ pick (K && C) (pick (M && E) x z) v
ram_step false C P M E x y z v q h = h
ram_step true C P M false x y z v q h = rw (and-false M, pick_same) h
ram_step true C true true true x y z v q h = rw (q refl)
ram_step true C true false true x y z v q h = h
ram_step true C false M true x y z v q h = h ∙ rw (q refl)

module _ (k : Kind) (c : ℕ → Bool) (cs ls ram : List ℕ) {m : ℕ} (f : FitsTo m k c ls ram) where
  pub ram_to_at : (n a : ℕ) → n ≤ m
      → get_or (ram_to k c cs ls ram n) a 0 ≡ pick (copies_of k && c (a / 4 * 16)) (newest ls cs a (get_or ram a 0) n) (get_or ram a 0)
  unfolding ram_to newest is_copied
  ram_to_at zero a h = sym (pick_same (copies_of k && c (a / 4 * 16)) (get_or ram a 0))
  ram_to_at (suc n) a h =
      one (is_copied k c n w) refl
      ∙ ram_step (copies_of k) (c (a / 4 * 16)) (c (line_address n w)) (modified w) (eqb (a / 4 * 16) (line_address n w)) _ _ _ _ (λ e. ap c (eqb-true _ _ e)) (ram_to_at n a (omega arith))
    where
      w : ℕ
      w = tag_word ls n

      before : List ℕ
      before = ram_to k c cs ls ram n

      one : (b : Bool) → is_copied k c n w ≡ b
          → get_or (pick b (put_of before (ram_line (line_address n w)) (line_words cs n)) before) a 0 ≡ pick b (pick (eqb (a / 4 * 16) (line_address n w)) (get_or cs (n * 4 + a % 4) 0) (get_or before a 0)) (get_or before a 0)
      one true e = copied_at before cs n w a (rw length_ram_to (f n h e))
      one false e = refl

-- ---- the sweep of the first n places, where each line to copy lies in RAM

counted : (b : Bool) (n : ℕ) → 4 * n + pick b 4 0 ≡ 4 * (n + pick b 1 0)
counted true n = omega arith
counted false n = omega arith

module _ (k : Kind) (c : ℕ → Bool) (cs ls ram : List ℕ) {m : ℕ} (f : FitsTo m k c ls ram) where
  pub sweep_runs : (n : ℕ) → n ≤ m → sweep_by k c cs ls ram n ≡ swept (well_of (4 * count_to k c ls n)) (lines_to k c ls n) (ram_to k c cs ls ram n)
  unfolding sweep_by lines_to ram_to count_to
  sweep_runs zero h = refl
  sweep_runs (suc n) h =
      rw (sweep_runs n (omega arith), line_runs k c cs n (lines_to k c ls n) (ram_to k c cs ls ram n) (rw (lines_to_later k c ls n n (omega arith), length_ram_to) (f n h)), lines_to_later k c ls n n (omega arith), counted)

-- ---- .. and where one does not: the sweep stops at the first of these; the earlier lines stay done

module _ (k : Kind) (c : ℕ → Bool) (ls ram : List ℕ) where
  -- n is the first line to copy that does not lie in RAM
  pub record StopsAt (n : ℕ) : Type 0 where
    pub before : FitsTo n k c ls ram
    pub to_copy : is_copied k c n (tag_word ls n) ≡ true
    pub outside : line_fits ram (line_address n (tag_word ls n)) ≡ false

  -- of the first m lines, all that are to be copied lie in RAM, or one is the first that does not
  pub data First (m : ℕ) : Type 0 where
    fit : FitsTo m k c ls ram → First m
    stops : (n : ℕ) → n < m → StopsAt n → First m

  fits_suc : (m : ℕ) → FitsTo m k c ls ram → (is_copied k c m (tag_word ls m) ≡ true → line_fits ram (line_address m (tag_word ls m)) ≡ true) → FitsTo (suc m) k c ls ram
  fits_suc m f g p h = elim (ℕ_discrete p m) [ yes e ↦ rw e g | no e ↦ f p (omega arith) ]

  first_suc : (m : ℕ) → First m → (C I : Bool) → is_copied k c m (tag_word ls m) ≡ C → line_fits ram (line_address m (tag_word ls m)) ≡ I → First (suc m)
  first_suc m (stops n h s) C I p q = stops n (omega arith) s
  first_suc m (fit f) false I p q = fit (fits_suc m f (λ e. absurd (true≢false (sym e ∙ p))))
  first_suc m (fit f) true true p q = fit (fits_suc m f (λ e. q))
  first_suc m (fit f) true false p q = stops m (omega arith) (record { before = f; to_copy = p; outside = q })

  pub first : (m : ℕ) → First m
  first zero = fit (λ p h e. absurd (omega arith))
  first (suc m) = first_suc m (first m) _ _ refl refl

module _ (k : Kind) (c : ℕ → Bool) (cs ls ram : List ℕ) (n : ℕ) (s : StopsAt k c ls ram n) where
  pub sweep_stops : (m : ℕ) → n < m
      → sweep_by k c cs ls ram m ≡ swept (stopped_of (4 * count_to k c ls n) (line_address n (tag_word ls n))) (lines_to k c ls n) (ram_to k c cs ls ram n)
  unfolding sweep_by
  sweep_stops zero h = absurd (omega arith)
  sweep_stops (suc m) h = elim (ℕ_discrete m n) [
    | yes q ↦
        rw (
          q,
          sweep_runs k c cs ls ram s.before n (omega arith),
          line_stops k c cs n (lines_to k c ls n) (ram_to k c cs ls ram n) (rw (lines_to_later k c ls n n (omega arith)) s.to_copy) (rw (lines_to_later k c ls n n (omega arith), length_ram_to) s.outside),
          lines_to_later k c ls n n (omega arith),
          add-zero,
        )
    | no q ↦ rw (sweep_stops m (omega arith))
  ]
