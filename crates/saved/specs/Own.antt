-- Laws of own words: their lengths, word by word, which is which, after a store, taken twice, and that they are words of 32 bits.
use Rattle.std.specs.Prelude.{ℕ, zero, suc, ◌+◌, ◌*◌, ◌%◌, ◌^◌, ◌<◌, ◌≤◌, ◌≡◌, refl, Bool, true, false, List, [], ◌∷◌, eqb, ltb, length, set}
use Rattle.std.proofs.Common.{ap, ◌∙◌, arith, lt-ltb}
use Rattle.words.specs.Words.{pick}
use Rattle.words.specs.Laws.{either}
use Rattle.fields.specs.Fields.{bytes_of, Words}
use Rattle.fields.specs.Laws.{length_bytes}
use Rattle.state.specs.Own.{own_idr, own_scr, own_ssr, own_sctr, own_status, own_area, own_tag, own_frame, own_code, own_pointer, pointer_small, own_idr_lem, own_scr_lem, own_ssr_lem, own_sctr_lem, own_status_lem, own_area_lem, own_tag_lem, own_frame_lem, own_code_lem, own_pointer_lem}
use Rattle.state.specs.declared.Registers.{Registers}
use Rattle.state.specs.declared.FaultPair.{FaultPair}
use Rattle.saved.specs.declared.Layout.{Layout}
use Rattle.saved.specs.declared.Layout.TheVariants.{Whole, Entries, Sets}
use Rattle.saved.specs.Chip.{Chip, Sized, own_word, own_from, own_words, own_registers, own_pair, own_of}
use Rattle.saved.specs.Image.{register_words}
use Rattle.saved.specs.Tests.{nth}

-- ---- lengths

pub length_own : (layout : Layout) (i : ℕ) (ws : List ℕ) → length (own_from layout i ws) ≡ length ws
unfolding own_from
length_own layout i [] = refl
length_own layout i (w ∷ ws) = ap suc (length_own layout (suc i) ws)

-- .. as bytes
pub length_own_bytes : (layout : Layout) (ws : List ℕ) → length (bytes_of (own_words layout ws)) ≡ length ws * 4
length_own_bytes layout ws = length_bytes (own_words layout ws) ∙ rw (length_own layout 0 ws)

pub own_sized : (c : Chip) → Sized c → Sized (own_of c)
unfolding own_registers
own_sized c size = record {
  ports = size.ports;
  patc = length_own Entries 0 c.patc ∙ size.patc;
  lines = length_own Sets 0 c.lines ∙ size.lines;
  cells = size.cells;
}

-- ---- word by word

-- word i of the own words
pub own_at : (layout : Layout) (k : ℕ) (ws : List ℕ) (i : ℕ) → i < length ws → nth (own_from layout k ws) i ≡ own_word layout (k + i) (nth ws i)
unfolding own_from
own_at layout k [] i h = absurd (omega arith)
own_at layout k (w ∷ ws) zero h = ap (λ (m : ℕ). own_word layout m w) (omega arith)
own_at layout k (w ∷ ws) (suc i) h = own_at layout (suc k) ws i (omega arith) ∙ ap (λ (m : ℕ). own_word layout m (nth ws i)) (omega arith)

pub own_fixed : (layout : Layout) (k : ℕ) (ws : List ℕ) → ((i : ℕ) → i < length ws → own_word layout (k + i) (nth ws i) ≡ nth ws i) → own_from layout k ws ≡ ws
unfolding own_from
own_fixed layout k [] h = refl
own_fixed layout k (w ∷ ws) h =
    let first : own_word layout k w ≡ w = ap (λ (m : ℕ). own_word layout m w) (omega arith) ∙ h 0 (omega arith) in
    rw (first, own_fixed layout (suc k) ws (λ i l. ap (λ (m : ℕ). own_word layout m (nth ws i)) (omega arith) ∙ h (suc i) (omega arith)))

-- a stored word
pub own_set : (layout : Layout) (k : ℕ) (ws : List ℕ) (i v : ℕ) → own_from layout k (set ws i v) ≡ set (own_from layout k ws) i (own_word layout (k + i) v)
unfolding own_from
own_set layout k [] i v = refl
own_set layout k (w ∷ ws) zero v = ap (λ (m : ℕ). own_word layout m v ∷ own_from layout (suc k) ws) (omega arith)
own_set layout k (w ∷ ws) (suc i) v =
    ap (λ (l : List ℕ). own_word layout k w ∷ l) (own_set layout (suc k) ws i v ∙ ap (λ (m : ℕ). set (own_from layout (suc k) ws) i (own_word layout m v)) (omega arith))

-- of whole words every bit is own
pub own_whole : (i : ℕ) (ws : List ℕ) → own_from Whole i ws ≡ ws
unfolding own_from own_word
own_whole i [] = refl
own_whole i (w ∷ ws) = ap (λ (l : List ℕ). w ∷ l) (own_whole (suc i) ws)

-- ---- which word is which

pub page_own : (i w : ℕ) → i % 2 ≡ 0 → own_word Entries i w ≡ own_tag w
unfolding own_word
page_own i w e = rw e

pub frame_own : (i w : ℕ) → i % 2 ≡ 1 → own_word Entries i w ≡ own_frame w
unfolding own_word
frame_own i w e = rw e

pub tag_own : (i w : ℕ) → i % 5 < 4 → own_word Sets i w ≡ own_tag w
unfolding own_word
tag_own i w h = rw (lt-ltb _ _ h)

pub code_own : (i w : ℕ) → i % 5 ≡ 4 → own_word Sets i w ≡ own_code w
unfolding own_word
code_own i w e = rw e

-- ---- twice

-- taking own bits twice is taking them once
own_twice : (layout : Layout) (i w : ℕ) → own_word layout i (own_word layout i w) ≡ own_word layout i w
unfolding own_word
own_twice Whole i w = refl
own_twice Entries i w = twice (eqb (i % 2) 0)
  where
    twice : (b : Bool) → pick b (own_tag (pick b (own_tag w) (own_frame w))) (own_frame (pick b (own_tag w) (own_frame w))) ≡ pick b (own_tag w) (own_frame w)
    twice true = own_tag_lem w
    twice false = own_frame_lem w
own_twice Sets i w = twice (ltb (i % 5) 4)
  where
    twice : (b : Bool) → pick b (own_tag (pick b (own_tag w) (own_code w))) (own_code (pick b (own_tag w) (own_code w))) ≡ pick b (own_tag w) (own_code w)
    twice true = own_tag_lem w
    twice false = own_code_lem w

own_words_twice : (layout : Layout) (k : ℕ) (ws : List ℕ) → own_from layout k (own_from layout k ws) ≡ own_from layout k ws
unfolding own_from
own_words_twice layout k [] = refl
own_words_twice layout k (w ∷ ws) = rw (own_twice layout k w, own_words_twice layout (suc k) ws)

pub own_own : (c : Chip) → own_of (own_of c) ≡ own_of c
unfolding own_registers own_pair
own_own c =
    let u = c.registers in
    rw (
      own_idr_lem u.idr,
      own_scr_lem u.scr,
      own_ssr_lem u.ssr,
      own_sctr_lem u.sctr,
      own_area_lem u.sapr,
      own_area_lem u.uapr,
      own_pointer_lem u.pointer,
      own_status_lem c.pair.status,
      own_words_twice Entries 0 c.patc,
      own_words_twice Sets 0 c.lines,
    )

-- ---- own words are words of 32 bits

pub entry_small : (i w : ℕ) → own_word Entries i w < 2 ^ 32
unfolding own_word own_tag own_frame
entry_small i w = either (λ (v : ℕ). v < 2 ^ 32) (eqb (i % 2) 0) (λ _. omega arith) (λ _. omega arith)

pub set_small : (i w : ℕ) → own_word Sets i w < 2 ^ 32
unfolding own_word own_tag own_code
set_small i w = either (λ (v : ℕ). v < 2 ^ 32) (ltb (i % 5) 4) (λ _. omega arith) (λ _. omega arith)

pub own_small : (layout : Layout) → ((i w : ℕ) → own_word layout i w < 2 ^ 32) → (k : ℕ) (ws : List ℕ) → Words (own_from layout k ws)
unfolding own_from
own_small layout h k [] i = omega arith
own_small layout h k (w ∷ ws) zero = h k w
own_small layout h k (w ∷ ws) (suc i) = own_small layout h (suc k) ws i

-- .. of a list that is written out
abbrev Each : List ℕ → Type 0
Each [] = Unit
Each (w ∷ ws) = (w < 2 ^ 32) × Each ws

each_word : (ws : List ℕ) → Each ws → Words ws
each_word [] h i = omega arith
each_word (w ∷ ws) h zero = h.0
each_word (w ∷ ws) h (suc i) = each_word ws h.1 i

pub registers_small : (u : Registers) (pair : FaultPair) → u.sar < 2 ^ 32 → pair.address < 2 ^ 32 → Words (register_words (own_registers u) (own_pair pair))
unfolding own_registers own_pair own_idr own_scr own_ssr own_sctr own_status own_area
registers_small u pair hs ha =
    let hp : own_pointer u.pointer ≤ 55 = pointer_small u.pointer in
    each_word (register_words (own_registers u) (own_pair pair))
    (omega arith, (omega arith, (omega arith, (hs, (omega arith, (omega arith, (ha, (omega arith, (omega arith, (omega arith, tt))))))))))
