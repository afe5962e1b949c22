-- Laws of fields: what stands where, and that words come back from their bytes and bytes from their words.
use Rattle.std.specs.Prelude.{ℕ, zero, suc, ◌+◌, ◌-◌, ◌*◌, ◌/◌, ◌%◌, ◌^◌, ◌<◌, ◌≤◌, ◌≡◌, Bool, true, false, ◌&&◌, List, [], ◌∷◌, ◌++◌, eqb, length, take, drop, get_or, set}
use Rattle.std.proofs.Math.Path.{refl}
use Rattle.std.proofs.Common.{sym, ap, ◌∙◌, append-nil, take-append-drop, drop-cons, take_all, take-suc-set, drop-drop, drop_at, get_or-drop}
use Rattle.std.proofs.lemmas.Bool.{false≢true}
use native.Mathlib.Omega.{arith}
use borrow.Author.Tests.{eq-eqb, eqb-true}
use Rattle.std.proofs.lemmas.List.Edits.{sets, sets-eq}
use Rattle.std.proofs.Math.Seq.{append_snoc}
use Rattle.words.specs.Laws.{join_bytes, byte_joins, join_small}
use Rattle.fields.specs.Fields.{word_bytes, bytes_of, word_at, words_at, head_of, field_of, row_of, count_at, head_at, Bytes, Words}

-- where two tests hold, each does
pub both : (x y : Bool) → (x && y) ≡ true → (x ≡ true) × (y ≡ true)
both true y e = (refl, e)
both false y e = absurd (false≢true e)

-- ---- lengths

pub length_bytes : (ws : List ℕ) → length (bytes_of ws) ≡ length ws * 4
unfolding bytes_of
length_bytes [] = refl
length_bytes (w ∷ ws) = omega (arith, length_bytes ws)

pub length_field : (tag : ℕ) (content : List ℕ) → length (field_of tag content) ≡ 3 + length content
unfolding field_of
length_field tag content = omega arith

-- a field of n words
pub length_words_field : (tag : ℕ) (ws : List ℕ) (n : ℕ) → length ws ≡ n → length (field_of tag (bytes_of ws)) ≡ 3 + n * 4
length_words_field tag ws n e = length_field tag (bytes_of ws) ∙ ap (λ (k : ℕ). 3 + k) (length_bytes ws ∙ rw e)

pub length_words : (b : List ℕ) (p n : ℕ) → length (words_at b p n) ≡ n
unfolding words_at
length_words b p zero = refl
length_words b p (suc n) = ap suc (length_words b (p + 4) n)

-- ---- stores

-- bytes stored one after the other are a run
pub run3 : (l : List ℕ) (p x y z : ℕ) → set (set (set l p x) (p + 1) y) (p + 2) z ≡ sets l p (x ∷ y ∷ z ∷ [])
run3 l p x y z =
    let e1 : p + 1 ≡ suc p = omega arith in
    let e2 : p + 2 ≡ suc (suc p) = omega arith in
    rw (e1, e2)

pub run4 : (l : List ℕ) (p w x y z : ℕ) → set (set (set (set l p w) (p + 1) x) (p + 2) y) (p + 3) z ≡ sets l p (w ∷ x ∷ y ∷ z ∷ [])
run4 l p w x y z =
    let e1 : p + 1 ≡ suc p = omega arith in
    let e2 : p + 2 ≡ suc (suc p) = omega arith in
    let e3 : p + 3 ≡ suc (suc (suc p)) = omega arith in
    rw (e1, e2, e3)

-- two runs that meet are one
pub sets_append : (xs ys l : List ℕ) (i k : ℕ) → k ≡ i + length xs → sets (sets l i xs) k ys ≡ sets l i (xs ++ ys)
sets_append [] ys l i k e =
    let e' : k ≡ i = omega (arith, e) in
    rw e'
sets_append (x ∷ xs) ys l i k e = sets_append xs ys (set l i x) (suc i) k (omega (arith, e))

-- a head, and the content after it
pub field_run : (l : List ℕ) (p tag n : ℕ) (content : List ℕ) → length content ≡ n → sets (sets l p (head_of tag n)) (p + 3) content ≡ sets l p (field_of tag content)
unfolding field_of
field_run l p tag n content e = rw (← e) (sets_append (head_of tag (length content)) content l p (p + 3) refl)

-- a run from the start on, and what stands past it
pub sets_front : (xs l : List ℕ) → length xs ≤ length l → sets l 0 xs ≡ xs ++ drop (length xs) l
sets_front xs l h = let e : 0 + length xs ≡ length xs = omega arith in sets-eq xs l 0 (omega arith) ∙ rw e

-- ---- the words at a place

pub words_at_lem : (b : List ℕ) (p n i : ℕ) → i < n → get_or (words_at b p n) i 0 ≡ word_at b (p + i * 4)
unfolding words_at
words_at_lem b p zero i h = absurd (omega arith)
words_at_lem b p (suc n) zero h = ap (word_at b) (omega arith)
words_at_lem b p (suc n) (suc i) h = words_at_lem b (p + 4) n i (omega arith) ∙ ap (word_at b) (omega arith)

-- the first word of those that are left
pub words_first : (b : List ℕ) (p n i : ℕ) → i < n → words_at b (p + i * 4) (n - i) ≡ word_at b (p + i * 4) ∷ words_at b (p + (i + 1) * 4) (n - (i + 1))
unfolding words_at
words_first b p n i h =
    let e : n - i ≡ suc (n - (i + 1)) = omega arith in
    let s : p + i * 4 + 4 ≡ p + (i + 1) * 4 = omega arith in
    rw (e, s)

-- words read one by one into a list: at first none, then one more, at last all
pub read_none : (b : List ℕ) (p n : ℕ) → words_at b (p + 0 * 4) (n - 0) ≡ words_at b p n
read_none b p n =
    let e : p + 0 * 4 ≡ p = omega arith in
    let s : n - 0 ≡ n = omega arith in
    rw (e, s)

module _ (b : List ℕ) (p : ℕ) (out : List ℕ) (n i : ℕ) (size : length out ≡ n) where
  pub read_one : i < n
      → take (i + 1) (set out i (word_at b (p + i * 4))) ++ words_at b (p + (i + 1) * 4) (n - (i + 1)) ≡ take i out ++ words_at b (p + i * 4) (n - i)
  read_one h =
      let s : i + 1 ≡ suc i = omega arith in
      let t : take (i + 1) (set out i (word_at b (p + i * 4))) ≡ take i out ++ (word_at b (p + i * 4) ∷ []) = rw s (take-suc-set out i _ (omega arith)) in
      rw (t, words_first b p n i h) (append_snoc (take i out) (word_at b (p + i * 4)) (words_at b (p + (i + 1) * 4) (n - (i + 1))))

  pub read_all : n ≤ i → take i out ++ words_at b (p + i * 4) (n - i) ≡ out
  unfolding words_at
  read_all h =
      let z : n - i ≡ 0 = omega arith in
      rw (z, append-nil) (take_all i out (omega arith))

-- ---- what stands at p: some bytes, and then the rest

-- what follows them
pub next : (b : List ℕ) (p : ℕ) (xs rest : List ℕ) (n : ℕ) → drop p b ≡ xs ++ rest → length xs ≡ n → drop (p + n) b ≡ rest
next b p xs rest n e h = sym (drop-drop n p b) ∙ rw e (drop_at xs rest n h)

-- the byte at p + k
pub byte_at : (b : List ℕ) (p : ℕ) (xs : List ℕ) (k q : ℕ) → drop p b ≡ xs → q ≡ p + k → get_or b q 0 ≡ get_or xs k 0
byte_at b p xs k q e h = rw h (sym (get_or-drop p b k 0) ∙ rw e)

-- the bytes of words: reading gives the words
pub words_back : (ws : List ℕ) (b : List ℕ) (p : ℕ) (rest : List ℕ) → Words ws → drop p b ≡ bytes_of ws ++ rest → words_at b p (length ws) ≡ ws
unfolding bytes_of words_at
words_back [] b p rest small e = refl
words_back (w ∷ ws) b p rest small e =
    let first : word_at b p ≡ w = rw (byte_at b p _ 0 p e (omega arith), byte_at b p _ 1 (p + 1) e refl, byte_at b p _ 2 (p + 2) e refl, byte_at b p _ 3 (p + 3) e refl) (join_bytes w (small 0)) in
    rw (first, words_back ws b (p + 4) rest (λ i. small (suc i)) (next b p (word_bytes w) (bytes_of ws ++ rest) 4 e refl))

-- a row of fields, the first of them of n words: its head stands there, its words after that, and then the rest of the row
module _ (b : List ℕ) (p tag : ℕ) (ws : List ℕ) (rest : List (List ℕ)) (n : ℕ) (size : length ws ≡ n) (stands : drop p b ≡ row_of (field_of tag (bytes_of ws) ∷ rest)) where
  pub row_head : head_at b p tag (n * 4) ≡ true
  unfolding field_of row_of
  row_head =
      rw (byte_at b p _ 0 p stands (omega arith), byte_at b p _ 1 (p + 1) stands refl, byte_at b p _ 2 (p + 2) stands refl, eq-eqb tag tag refl, length_bytes ws, size)
      (eq-eqb (n * 4 / 256 * 256 + n * 4 % 256) (n * 4) (omega arith))

  pub row_words : Words ws → words_at b (p + 3) n ≡ ws
  unfolding field_of row_of
  row_words small = rw (← size) (words_back ws b (p + 3) (row_of rest) small (next b p (head_of tag (length (bytes_of ws))) (bytes_of ws ++ row_of rest) 3 stands refl))

  pub row_next : drop (p + (3 + n * 4)) b ≡ row_of rest
  unfolding row_of
  row_next = next b p (field_of tag (bytes_of ws)) (row_of rest) (3 + n * 4) stands (length_words_field tag ws n size)

-- ---- bytes that are read and written back

-- four bytes, and what follows
pub four : (b : List ℕ) (p : ℕ) → p + 4 ≤ length b → drop p b ≡ get_or b p 0 ∷ get_or b (p + 1) 0 ∷ get_or b (p + 2) 0 ∷ get_or b (p + 3) 0 ∷ drop (p + 4) b
four b p h =
    let e1 : p + 1 ≡ suc p = omega arith in
    let e2 : p + 2 ≡ suc (suc p) = omega arith in
    let e3 : p + 3 ≡ suc (suc (suc p)) = omega arith in
    let e4 : p + 4 ≡ suc (suc (suc (suc p))) = omega arith in
    rw (e1, e2, e3, e4, drop-cons b p 0 (omega arith), drop-cons b (suc p) 0 (omega arith), drop-cons b (suc (suc p)) 0 (omega arith), drop-cons b (suc (suc (suc p))) 0 (omega arith))

pub bytes_back : (b : List ℕ) → Bytes b → (n p : ℕ) → p + n * 4 ≤ length b → bytes_of (words_at b p n) ≡ take (n * 4) (drop p b)
unfolding bytes_of words_at
bytes_back b small zero p h = refl
bytes_back b small (suc n) p h =
    let s : suc n * 4 ≡ suc (suc (suc (suc (n * 4)))) = omega arith in
    let j = byte_joins (get_or b p 0) (get_or b (p + 1) 0) (get_or b (p + 2) 0) (get_or b (p + 3) 0) (small p) (small (p + 1)) (small (p + 2)) (small (p + 3)) in
    rw (s, four b p (omega arith), j.0, j.1, j.2, j.3, bytes_back b small n (p + 4) (omega arith))

-- a field of words whose head stands at p, and what follows it
pub field_back : (b : List ℕ) → Bytes b → (p tag n : ℕ) → p + (3 + n * 4) ≤ length b → head_at b p tag (n * 4) ≡ true
    → field_of tag (bytes_of (words_at b (p + 3) n)) ++ drop (p + (3 + n * 4)) b ≡ drop p b
unfolding field_of
field_back b small p tag n room head =
    let t = both (eqb (get_or b p 0) tag) (eqb (count_at b p) (n * 4)) head in
    let name : get_or b p 0 ≡ tag = eqb-true _ _ t.0 in
    let count : count_at b p ≡ n * 4 = eqb-true _ _ t.1 in
    let upper : n * 4 / 256 ≡ get_or b (p + 1) 0 = omega (arith, small (p + 2)) in
    let lower : n * 4 % 256 ≡ get_or b (p + 2) 0 = omega (arith, small (p + 2)) in
    let size : length (bytes_of (words_at b (p + 3) n)) ≡ n * 4 = length_bytes (words_at b (p + 3) n) ∙ rw (length_words b (p + 3) n) in
    rw (size, upper, lower, ← name, bytes_back b small n (p + 3) (omega arith)) (ap (λ (l : List ℕ). get_or b p 0 ∷ get_or b (p + 1) 0 ∷ get_or b (p + 2) 0 ∷ l) content ∙ sym three)
  where
    content : take (n * 4) (drop (p + 3) b) ++ drop (p + (3 + n * 4)) b ≡ drop (p + 3) b
    content = let e : p + (3 + n * 4) ≡ (p + 3) + n * 4 = omega arith in rw (e, ← drop-drop (n * 4) (p + 3) b) (take-append-drop (n * 4) (drop (p + 3) b))

    three : drop p b ≡ get_or b p 0 ∷ get_or b (p + 1) 0 ∷ get_or b (p + 2) 0 ∷ drop (p + 3) b
    three =
        let e1 : p + 1 ≡ suc p = omega arith in
        let e2 : p + 2 ≡ suc (suc p) = omega arith in
        let e3 : p + 3 ≡ suc (suc (suc p)) = omega arith in
        rw (e1, e2, e3, drop-cons b p 0 (omega arith), drop-cons b (suc p) 0 (omega arith), drop-cons b (suc (suc p)) 0 (omega arith))

-- words that are read are words
pub word_small : (b : List ℕ) → Bytes b → (p : ℕ) → word_at b p < 2 ^ 32
word_small b small p = join_small _ _ _ _ (small p) (small (p + 1)) (small (p + 2)) (small (p + 3))

pub words_small : (b : List ℕ) → Bytes b → (n p : ℕ) → Words (words_at b p n)
unfolding words_at
words_small b small zero p i = omega arith
words_small b small (suc n) p zero = word_small b small p
words_small b small (suc n) p (suc i) = words_small b small n (p + 4) i
