-- A reply while its rows are put: the head, the rows so far, and zeros.
use Rattle.std.proofs.Common.{◌≡◌, ℕ, zero, suc, ◌+◌, ◌-◌, ◌*◌, ◌<◌, ◌≤◌, List, [], ◌∷◌, ◌++◌, length, get_or, take, refl, sym, ap, ◌∙◌, append_assoc, drop_at, take_all, arith, not-suc-le-zero}
use Rattle.std.specs.Prelude.{replicate}
use Rattle.std.proofs.lemmas.List.{take_at}
use borrow.Rule.Slice.PartMut.{put_mid}
use Rattle.state.specs.declared.Answer.{Answer}
use Rattle.state.specs.declared.Transaction.{Transaction}
use Rattle.state.specs.Outcome.{case_of, value_of, place_of}
use Rattle.course.specs.Course.{no_transaction}
use Rattle.layout.specs.Layout.{count_of, row_of, words_of, reply_of}

unfoldable pub rows : List Transaction → List ℕ
rows [] = []
rows (t ∷ ts) = words_of (row_of t) (rows ts)

abbrev pub stage : Answer → ℕ → List ℕ
stage a i =
    case_of a.outcome ∷ value_of a.outcome ∷ place_of a.outcome ∷ a.words ∷ count_of a.count ∷ (rows (take i a.list) ++ replicate (19 - i * 3) 0)

length_rows : (ts : List Transaction) (i : ℕ) → i ≤ length ts → length (rows (take i ts)) ≡ i * 3
unfolding rows
length_rows ts zero h = refl
length_rows [] (suc i) h = absurd (not-suc-le-zero h)
length_rows (t ∷ ts) (suc i) h = omega (arith, length_rows ts i (omega arith))

one_more : (ts : List Transaction) (i : ℕ) (t : Transaction) → i < length ts → get_or ts i no_transaction ≡ t → rows (take (suc i) ts) ≡ rows (take i ts) ++ words_of (row_of t) []
unfolding rows
one_more [] i t h e = absurd (not-suc-le-zero h)
one_more (x ∷ ts) zero t h e = rw e
one_more (x ∷ ts) (suc i) t h e = ap (words_of (row_of x)) (one_more ts i t (omega arith) e)

filled : (xs r : List ℕ) (k n : ℕ) → length xs ≡ n → put_mid n 3 (xs ++ replicate (suc (suc (suc k))) 0) r ≡ (xs ++ r) ++ replicate k 0
filled xs r k n e = rw (take_at xs (replicate (suc (suc (suc k))) 0) n e, drop_at xs (replicate (suc (suc (suc k))) 0) n e) (sym (append_assoc xs r (replicate k 0)))

module _ (a : Answer) where
  abbrev headed : List ℕ → List ℕ
  headed rest = case_of a.outcome ∷ value_of a.outcome ∷ place_of a.outcome ∷ a.words ∷ count_of a.count ∷ rest

  pub row_put : (i : ℕ) (t : Transaction) (r : List ℕ) → length a.list ≡ 6 → i < 6 → get_or a.list i no_transaction ≡ t → r ≡ words_of (row_of t) []
      → put_mid (5 + i * 3) 3 (stage a i) r ≡ stage a (i + 1)
  row_put i t r six h e w =
      let five : 5 + i * 3 ≡ suc (suc (suc (suc (suc (i * 3))))) = omega arith in
      let left : 19 - i * 3 ≡ suc (suc (suc (16 - i * 3))) = omega arith in
      let next : 19 - (i + 1) * 3 ≡ 16 - i * 3 = omega arith in
      let on : i + 1 ≡ suc i = omega arith in
      let within : i ≤ length a.list = omega arith in
      let there : i < length a.list = omega arith in
      let done : List ℕ = rows (take i a.list) in
      let zeros : List ℕ = replicate (16 - i * 3) 0 in
      rw (five, left, next, on)
      (ap headed (filled done r (16 - i * 3) (i * 3) (length_rows a.list i within) ∙ ap (λ (l : List ℕ). (done ++ l) ++ zeros) w
      ∙ ap (λ (l : List ℕ). l ++ zeros) (sym (one_more a.list i t there e))))

  six_rows : (ts : List Transaction) → length ts ≡ 6
      → rows ts ++ (0 ∷ []) ≡ words_of (row_of (get_or ts 0 no_transaction)) (words_of (row_of (get_or ts 1 no_transaction)) (words_of (row_of (get_or ts 2 no_transaction)) (words_of (row_of (get_or ts 3 no_transaction)) (words_of (row_of (get_or ts 4 no_transaction)) (words_of (row_of (get_or ts 5 no_transaction)) (0 ∷ []))))))
  unfolding rows
  six_rows [] e = absurd (omega (arith, e))
  six_rows (t ∷ []) e = absurd (omega (arith, e))
  six_rows (t ∷ u ∷ []) e = absurd (omega (arith, e))
  six_rows (t ∷ u ∷ v ∷ []) e = absurd (omega (arith, e))
  six_rows (t ∷ u ∷ v ∷ w ∷ []) e = absurd (omega (arith, e))
  six_rows (t ∷ u ∷ v ∷ w ∷ x ∷ []) e = absurd (omega (arith, e))
  six_rows (t ∷ u ∷ v ∷ w ∷ x ∷ y ∷ []) e = refl
  six_rows (t ∷ u ∷ v ∷ w ∷ x ∷ y ∷ z ∷ ts) e = absurd (omega (arith, e))

  pub rows_put : length a.list ≡ 6 → stage a 6 ≡ reply_of a
  unfolding reply_of
  rows_put six = rw (take_all 6 a.list (omega arith)) (ap headed (six_rows a.list six))
