-- What the functions' proofs cite: stores of own words, the row of fields, tests on bytes, what saving and restoring answer.
use Rattle.std.specs.Prelude.{ℕ, suc, ◌+◌, ◌*◌, ◌<◌, ◌≤◌, ◌≡◌, refl, Bool, true, false, not, List, [], ◌++◌, eqb, length, get_or}
use Rattle.std.proofs.Common.{sym, ap, ◌∙◌, append-nil, arith, lt-ltb, le-ltb, eq-eqb, ne_eqb, eqb-true, drop_of_length-le, drop-cons}
use Rattle.std.proofs.Math.ListN.{length-append, drop}
use Rattle.std.proofs.Math.Seq.{sets}
use Rattle.words.specs.Words.{pick}
use Rattle.fields.specs.Fields.{word_bytes, bytes_of, word_at, word_from, words_at, field_of, row_of}
use Rattle.fields.specs.Laws.{length_words_field, sets_append, sets_front, words_at_lem}
use Rattle.saved.specs.declared.Layout.{Layout}
use Rattle.saved.specs.declared.Layout.TheVariants.{Whole, Entries, Sets}
use Rattle.saved.specs.declared.Kind.{Kind}
use Rattle.saved.specs.declared.Kind.TheVariants.{Line, Entry}
use Rattle.saved.specs.Below.{below_same}
use Rattle.saved.specs.Tests.{nth, all_own, all_orders, apart, sets_apart, bits_right, no_doubles}
use Rattle.saved.specs.Verdict.{heads_of, verdict_of, loaded_with, restore_of}
use Rattle.saved.specs.Chip.{Chip, Sized, own_word, own_from, own_words, own_registers, own_pair, own_of}
use Rattle.saved.specs.Image.{register_words, fields_of, image_of, read_of, saved, save_of}
use Rattle.saved.specs.Own.{own_whole, own_sized}

-- ---- words stored one by one: at first none, then one more, at last all

pub put_none : (layout : Layout) (src out : List ℕ) (at : ℕ) → sets out (at + 0 * 4) (bytes_of (own_from layout 0 (drop 0 src))) ≡ sets out at (bytes_of (own_from layout 0 src))
put_none layout src out at = let e : at + 0 * 4 ≡ at = omega arith in rw e

pub put_one : (layout : Layout) (src out : List ℕ) (at i : ℕ) → i < length src
    → sets (sets out (at + i * 4) (word_bytes (own_word layout i (get_or src i 0)))) (at + (i + 1) * 4) (bytes_of (own_from layout (i + 1) (drop (i + 1) src)))
    ≡ sets out (at + i * 4) (bytes_of (own_from layout i (drop i src)))
unfolding bytes_of own_from
put_one layout src out at i h =
    let e : at + (i + 1) * 4 ≡ suc (suc (suc (suc (at + i * 4)))) = omega arith in
    let s : i + 1 ≡ suc i = omega arith in
    rw (e, s, drop-cons src i 0 h)

pub put_all : (layout : Layout) (src out : List ℕ) (at i : ℕ) → length src ≤ i → sets out (at + i * 4) (bytes_of (own_from layout i (drop i src))) ≡ out
unfolding bytes_of own_from
put_all layout src out at i h = rw (drop_of_length-le src {i = i} h)

-- ---- the row of fields

-- how long each field is
module _ (c : Chip) (size : Sized c) where
  size1 : length (field_of 1 (bytes_of (register_words c.registers c.pair))) ≡ 43
  size1 = length_words_field 1 _ 10 refl

  size2 : length (field_of 2 (bytes_of c.registers.ports)) ≡ 35
  size2 = length_words_field 2 _ 8 size.ports

  size3 : length (field_of 3 (bytes_of c.patc)) ≡ 451
  size3 = length_words_field 3 _ 112 size.patc

  size4 : length (field_of 4 (bytes_of c.lines)) ≡ 5123
  size4 = length_words_field 4 _ 1280 size.lines

  size5 : length (field_of 5 (bytes_of c.cells)) ≡ 16387
  size5 = length_words_field 5 _ 4096 size.cells

  pub length_row : length (row_of (fields_of c)) ≡ 22039
  unfolding row_of
  length_row = simp length-append (omega (arith, size1, size2, size3, size4, size5))

  -- the five fields stored one after the other
  pub row_run : (o o1 o2 o3 o4 o5 : List ℕ) → 22039 ≤ length o
      → o1 ≡ sets o 0 (field_of 1 (bytes_of (register_words c.registers c.pair)))
      → o2 ≡ sets o1 43 (field_of 2 (bytes_of c.registers.ports))
      → o3 ≡ sets o2 78 (field_of 3 (bytes_of c.patc))
      → o4 ≡ sets o3 529 (field_of 4 (bytes_of c.lines))
      → o5 ≡ sets o4 5652 (field_of 5 (bytes_of c.cells))
      → o5 ≡ row_of (fields_of c) ++ drop 22039 o
  unfolding row_of
  row_run o o1 o2 o3 o4 o5 room e1 e2 e3 e4 e5 =
      let f1 = field_of 1 (bytes_of (register_words c.registers c.pair)) in
      let f2 = field_of 2 (bytes_of c.registers.ports) in
      let f3 = field_of 3 (bytes_of c.patc) in
      let f4 = field_of 4 (bytes_of c.lines) in
      let f5 = field_of 5 (bytes_of c.cells) in
      let whole : sets o 0 (row_of (fields_of c)) ≡ row_of (fields_of c) ++ drop 22039 o = sets_front (row_of (fields_of c)) o (omega (arith, length_row)) ∙ rw length_row in
      rw (e5, e4, e3, e2, e1)
      (ap (sets _ 5652) (sym (append-nil f5))
      ∙ sets_append f4 (f5 ++ []) _ 529 5652 (omega (arith, size4))
      ∙ sets_append f3 (f4 ++ (f5 ++ [])) _ 78 529 (omega (arith, size3))
      ∙ sets_append f2 (f3 ++ (f4 ++ (f5 ++ []))) _ 43 78 (omega (arith, size2))
      ∙ sets_append f1 (f2 ++ (f3 ++ (f4 ++ (f5 ++ [])))) o 0 43 (omega (arith, size1))
      ∙ whole)

-- what saving answers: no room, or the image before what stood past it
module _ (c : Chip) where
  pub save_refused : (o : List ℕ) → length o < 22039 → saved 11 o ≡ save_of c o
  unfolding save_of
  save_refused o h = rw (lt-ltb (length o) 22039 h)

  pub save_done : Sized c → (o o1 o2 o3 o4 o5 regs : List ℕ) → 22039 ≤ length o
      → regs ≡ register_words (own_registers c.registers) (own_pair c.pair)
      → o1 ≡ sets o 0 (field_of 1 (bytes_of (own_words Whole regs)))
      → o2 ≡ sets o1 43 (field_of 2 (bytes_of (own_words Whole c.registers.ports)))
      → o3 ≡ sets o2 78 (field_of 3 (bytes_of (own_words Entries c.patc)))
      → o4 ≡ sets o3 529 (field_of 4 (bytes_of (own_words Sets c.lines)))
      → o5 ≡ sets o4 5652 (field_of 5 (bytes_of (own_words Whole c.cells)))
      → saved 0 o5 ≡ save_of c o
  unfolding save_of image_of own_registers
  save_done size o o1 o2 o3 o4 o5 regs room e e1 e2 e3 e4 e5 =
      rw (le-ltb (length o) 22039 room)
      (ap (saved 0) (row_run (own_of c) (own_sized c size) o o1 o2 o3 o4 o5 room (rw (own_whole 0 regs, e) at e1) (rw own_whole at e2) e3 e4 (rw own_whole at e5)))

-- ---- tests of the words of an image, and of the bytes where they stand

pub apart_same : (kind : Kind) (n : ℕ) (f g : ℕ → ℕ) → ((k : ℕ) → k < n → f k ≡ g k) → apart kind n f ≡ apart kind n g
apart_same kind n f g e =
    below_same n _ _ (λ j h. below_same j _ _ (λ i l. rw (e i (omega arith), e j h)))

-- the lines of set s, every four bytes from where the set stands
pub set_bytes : (b : List ℕ) (p s : ℕ) → apart Line 4 (λ i. word_from b p 4 (s * 5 + i)) ≡ apart Line 4 (word_from b (p + s * 20) 4)
set_bytes b p s = apart_same Line 4 _ _ (λ i h. ap (word_at b) (omega arith))

module _ (b : List ℕ) (p : ℕ) where
  pub own_bytes : (layout : Layout) (n : ℕ) → all_own layout n (nth (words_at b p n)) ≡ all_own layout n (word_from b p 4)
  own_bytes layout n = below_same n _ _ (λ i h. rw (words_at_lem b p n i h))

  pub order_bytes : (n : ℕ) → all_orders n (nth (words_at b p (n * 5))) ≡ all_orders n (word_from b p 4)
  order_bytes n = below_same n _ _ (λ s h. rw (words_at_lem b p (n * 5) (s * 5 + 4) (omega arith)))

  pub sets_bytes : (n : ℕ) → sets_apart n (nth (words_at b p (n * 5))) ≡ sets_apart n (word_from b p 4)
  sets_bytes n = below_same n _ _ (λ s h. apart_same Line 4 _ _ (λ i l. words_at_lem b p (n * 5) (s * 5 + i) (omega arith)))

  pub entry_bytes : (n : ℕ) → apart Entry n (λ i. nth (words_at b p (n * 2)) (i * 2)) ≡ apart Entry n (word_from b p 8)
  entry_bytes n = apart_same Entry n _ _ (λ i h. words_at_lem b p (n * 2) (i * 2) (omega arith) ∙ ap (word_at b) (omega arith))

-- ---- the verdict

-- a test that did not give its number passed, and the others gave the answer
pub passed : (x : Bool) (n a m : ℕ) → (n ≡ m → ⊥) → pick (not x) n a ≡ m → (x ≡ true) × (a ≡ m)
passed true n a m h e = (refl, e)
passed false n a m h e = absurd (h e)

-- an image that is taken passes each test
pub record Passes (b : List ℕ) : Type 0 where
  pub long : length b ≡ 22039
  pub heads : heads_of b ≡ true
  pub right : bits_right (read_of b) ≡ true
  pub single : no_doubles (read_of b) ≡ true

pub taken_passes : (b : List ℕ) → verdict_of b ≡ 0 → Passes b
unfolding verdict_of
taken_passes b v =
    let v7 = passed (eqb (length b) 22039) 7 _ 0 (λ e. omega arith) v in
    let v8 = passed (heads_of b) 8 _ 0 (λ e. omega arith) v7.1 in
    let v9 = passed (bits_right (read_of b)) 9 _ 0 (λ e. omega arith) v8.1 in
    let v10 = passed (no_doubles (read_of b)) 10 _ 0 (λ e. omega arith) v9.1 in
    record { long = eqb-true _ _ v7.0; heads = v8.0; right = v9.0; single = v10.0 }

pub passes_taken : (b : List ℕ) → Passes b → verdict_of b ≡ 0
unfolding verdict_of
passes_taken b p = rw (eq-eqb _ _ p.long, p.heads, p.right, p.single)

-- what restoring answers: the number, and all as it was; or the unit that the image holds
pub restore_refused : (b : List ℕ) (c : Chip) (n : ℕ) → n ≡ verdict_of b → (n ≡ 0 → ⊥) → loaded_with n c ≡ restore_of b c
unfolding restore_of
restore_refused b c n e h = rw (← e, ne_eqb n 0 h)

pub restore_done : (b : List ℕ) (c : Chip) → verdict_of b ≡ 0 → loaded_with 0 (read_of b) ≡ restore_of b c
unfolding restore_of
restore_done b c e = rw e
