-- A unit that was just reset is well formed.
use Rattle.std.specs.Prelude.{ℕ, zero, suc, ◌+◌, ◌*◌, ◌%◌, ◌^◌, ◌<◌, ◌≡◌, refl, List, eqb, length, get_or, replicate}
use Rattle.std.proofs.Common.{sym, ap, ◌∙◌, true≢false, arith, ne_eqb}
use Rattle.std.proofs.Math.Decide.{ℕ_discrete}
use Rattle.words.specs.Laws.{either}
use Rattle.order.specs.Laws.{table, tabled, length_table, fresh_order}
use Rattle.state.specs.Own.{own_idr, own_scr, own_ssr, own_sctr, own_status, own_area, own_tag, own_frame, own_code}
use Rattle.state.specs.Reset.{reset_of, no_fault}
use Rattle.lines.specs.Lines.{tag_at, code_at}
use Rattle.lines.specs.Laws.{NoDoubles}
use Rattle.patc.specs.Laws.{NoTwins}
use Rattle.fresh.specs.Fresh.{cleared_of, fresh_word, fresh_lines}
use Rattle.fields.specs.Fields.{Words}
use Rattle.saved.specs.declared.Layout.TheVariants.{Entries, Sets}
use Rattle.saved.specs.Chip.{chip, own_word}
use Rattle.saved.specs.Own.{own_fixed, tag_own, code_own}
use Rattle.reached.specs.Good.{GoodRegisters, GoodPair, GoodEntries, GoodLines, GoodCells, Good}

zeros : (n i : ℕ) → get_or (replicate n 0) i 0 < 2 ^ 32
zeros zero i = omega arith
zeros (suc n) zero = omega arith
zeros (suc n) (suc i) = zeros n i

fresh_registers : (number : ℕ) → number < 256 → GoodRegisters (reset_of number)
unfolding reset_of own_idr own_scr own_ssr own_sctr own_area
fresh_registers number h =
    record {
      idr = omega arith;
      scr = refl;
      ssr = refl;
      sar = omega arith;
      sctr = refl;
      sapr = refl;
      uapr = refl;
      pointer = omega arith;
      eight = refl;
      ports = zeros 8;
    }

fresh_pair : GoodPair no_fault
unfolding own_status
fresh_pair = record { status = refl; address = omega arith }

-- ---- lists of zeros

module _ (xs : List ℕ) where
  cleared_length : length (cleared_of xs) ≡ length xs
  unfolding cleared_of
  cleared_length = length_table _ 0 (length xs)

  cleared_at : (i : ℕ) → i < length xs → get_or (cleared_of xs) i 0 ≡ 0
  unfolding cleared_of
  cleared_at i h = tabled (λ _. 0) (length xs) i h

zero_own : (i : ℕ) → own_word Entries i 0 ≡ 0
unfolding own_word own_tag own_frame
zero_own i = either (λ (w : ℕ). w ≡ 0) (eqb (i % 2) 0) (λ _. refl) (λ _. refl)

fresh_twins : (ps : List ℕ) → length ps ≡ 112 → NoTwins (cleared_of ps)
unfolding NoTwins
fresh_twins ps size n m hn hm vn vm p t = absurd (true≢false (sym vn ∙ rw (cleared_at ps (n * 2) (omega arith))))

fresh_entries : (ps : List ℕ) → length ps ≡ 112 → GoodEntries (cleared_of ps)
fresh_entries ps size =
    record {
      size = cleared_length ps ∙ size;
      own = own_fixed Entries 0 (cleared_of ps) (λ i h. let j : i < length ps = omega (arith, cleared_length ps) in rw (cleared_at ps i j) (zero_own (0 + i)));
      alone = fresh_twins ps size;
    }

zero_words : (rule : ℕ → ℕ) → ((i : ℕ) → rule i < 2 ^ 32) → (n k : ℕ) → Words (table rule k n)
unfolding table
zero_words rule h zero k i = omega arith
zero_words rule h (suc n) k zero = h k
zero_words rule h (suc n) k (suc i) = zero_words rule h n (suc k) i

fresh_cells : (cs : List ℕ) → length cs ≡ 4096 → GoodCells (cleared_of cs)
unfolding cleared_of
fresh_cells cs size = record { size = length_table _ 0 (length cs) ∙ size; words = zero_words (λ _. 0) (λ _. omega arith) (length cs) 0 }

-- ---- the directory

module _ (ls : List ℕ) (size : length ls ≡ 1280) where
  fresh_length : length (fresh_lines ls) ≡ 1280
  unfolding fresh_lines
  fresh_length = length_table _ 0 (length ls) ∙ size

  fresh_at : (i : ℕ) → i < 1280 → get_or (fresh_lines ls) i 0 ≡ fresh_word i
  unfolding fresh_lines
  fresh_at i h = tabled fresh_word (length ls) i (omega arith)

  -- a tag word and a use code
  fresh_tag : (i : ℕ) → i < 1280 → (i % 5 ≡ 4 → ⊥) → get_or (fresh_lines ls) i 0 ≡ 3
  fresh_tag i h ne = fresh_at i h ∙ rw (ne_eqb (i % 5) 4 ne)

  fresh_code : (i : ℕ) → i < 1280 → i % 5 ≡ 4 → get_or (fresh_lines ls) i 0 ≡ 63
  fresh_code i h e = fresh_at i h ∙ rw e

  fresh_own : (i : ℕ) → i < 1280 → own_word Sets i (get_or (fresh_lines ls) i 0) ≡ get_or (fresh_lines ls) i 0
  unfolding own_tag own_code
  fresh_own i h = elim (ℕ_discrete (i % 5) 4) [
    | yes e ↦ rw (fresh_code i h e) (code_own i 63 e)
    | no e ↦ rw (fresh_tag i h e) (tag_own i 3 (omega arith))
  ]

  fresh_doubles : NoDoubles (fresh_lines ls)
  unfolding NoDoubles
  fresh_doubles p q hp hq s vp vq t = absurd (true≢false (sym vp ∙ rw (fresh_tag (tag_at p) (omega arith) (λ e. omega arith))))

  fresh_lines_lem : GoodLines (fresh_lines ls)
  fresh_lines_lem =
      record {
        size = fresh_length;
        own = own_fixed Sets 0 (fresh_lines ls) (λ i h. ap (λ (m : ℕ). own_word Sets m (get_or (fresh_lines ls) i 0)) (omega arith) ∙ fresh_own i (omega (arith, fresh_length)));
        orders = λ p h. rw (fresh_code (code_at p) (omega arith) (omega arith)) fresh_order;
        alone = fresh_doubles;
      }

pub fresh_good : (number : ℕ) → number < 256 → (ps ls cs : List ℕ) → length ps ≡ 112 → length ls ≡ 1280 → length cs ≡ 4096
    → Good (chip (reset_of number) no_fault (cleared_of ps) (fresh_lines ls) (cleared_of cs))
fresh_good number h ps ls cs hp hl hc =
    record { registers = fresh_registers number h; pair = fresh_pair; patc = fresh_entries ps hp; lines = fresh_lines_lem ls hl; cells = fresh_cells cs hc }
