-- The word held for a physical address, and that a flush of the first n places leaves it.
use Rattle.std.specs.Prelude.{ℕ, ◌+◌, ◌*◌, ◌/◌, ◌%◌, ◌≤◌, ◌<◌, ◌≡◌, Bool, not, ◌&&◌, List, ltb}
use Rattle.std.proofs.Math.Path.{refl, sym, ap}
use Rattle.std.proofs.Common.{◌∙◌}
use Rattle.std.proofs.Math.Bool.{true, false, true≢false}
use Rattle.std.proofs.Math.Option.{Option, none, some}
use native.Mathlib.Omega.{arith}
use Rattle.std.proofs.Math.Decide.{dec_lt}
use Rattle.std.proofs.Math.ListN.{length, get_or}
use borrow.Author.Tests.{eqb-true, eq-eqb, ne_eqb, lt-ltb, le-ltb, leb-true}
use Rattle.words.specs.Words.{pick}
use Rattle.words.specs.Laws.{and_left, and_right, ruled_out}
use Rattle.memory.specs.Memory.{ram_place, ram_line, read_of}
use Rattle.lines.specs.Lines.{set_of, tag_of, state_of, valid, modified, matches, tag_word, line_address, hit_of}
use Rattle.cells.specs.Cells.{word_at}
use Rattle.lines.specs.Laws.{Hit, Miss, Looked, found, missing, hit_is}
use Rattle.sweep.specs.declared.Kind.{Kind}
use Rattle.sweep.specs.declared.Kind.TheVariants.{CopyBack, Both}
use Rattle.sweep.specs.Sweep.{copies_of}
use Rattle.flush_laws.specs.Sweep.{is_copied, lines_to, ram_to, FitsTo}
use Rattle.flush_laws.specs.Point.{dropped_invalid, after_tag, after_valid, after_uncovered, after_covered, pick_same, lines_to_later, lines_to_done, hits, length_ram_to, ram_to_at}
use Rattle.flush_laws.specs.Union.{newest_none, copied_word}

-- memory's word: RAM's or ROM's, or else none
abbrev pub memory_of : List ℕ → List ℕ → ℕ → Option ℕ
memory_of ram rom address = pick (read_of ram rom address).moved.ok (some (read_of ram rom address).word) none

-- the word held: the valid line's, or else memory's, or else none
unfoldable pub held_of : List ℕ → List ℕ → List ℕ → List ℕ → ℕ → Option ℕ
held_of ls cs ram rom address = pick (ltb (hit_of ls address) 1024) (some (word_at cs (hit_of ls address) address)) (memory_of ram rom address)

-- ---- hits of two directories

module _ (ls ms : List ℕ) (address : ℕ) where
  same_hit : ((q : ℕ) → q < 1024 → q / 4 ≡ set_of address → matches (tag_word ms q) (tag_of address) ≡ matches (tag_word ls q) (tag_of address)) → hit_of ms address ≡ hit_of ls address
  unfolding hit_of
  same_hit f = rw (f (set_of address * 4) (omega arith) (omega arith), f (set_of address * 4 + 1) (omega arith) (omega arith), f (set_of address * 4 + 2) (omega arith) (omega arith), f (set_of address * 4 + 3) (omega arith) (omega arith))

-- the set and the tag of an address whose line's address is known
line_parts : (a t s : ℕ) → t < 1048576 → s < 256 → a / 4 / 4 * 16 ≡ t * 4096 + s * 16 → (s ≡ set_of a) × (t ≡ tag_of a)
line_parts a t s ht hs e =
    let l : a / 16 ≡ t * 256 + s = omega arith in
    let m : a / 4096 ≡ t = omega arith in
    (omega arith, rw m (small t ht))
  where
    small : (t : ℕ) → t < 1048576 → t ≡ t % 1048576
    small t h = omega arith

-- the address of the line that an address hits
hit_address : (ls : List ℕ) (address q : ℕ) → address < 4294967296 → Hit ls address q → address / 16 * 16 ≡ line_address q (tag_word ls q)
hit_address ls address q physical h = rw (h.has_tag, h.in_set) (omega arith)

pub hit_place : (ls : List ℕ) (address q : ℕ) → address < 4294967296 → Hit ls address q → ram_place address / 4 * 16 ≡ line_address q (tag_word ls q)
hit_place ls address q physical h = rw (h.has_tag, h.in_set) (omega arith)

matches_hit : (ls : List ℕ) (address q : ℕ) → q < 1024 → q / 4 ≡ set_of address → matches (tag_word ls q) (tag_of address) ≡ true → Hit ls address q
unfolding matches
matches_hit ls address q h s m = record { small = h; in_set = s; is_valid = and_left _ _ m; has_tag = eqb-true _ _ (and_right (valid (tag_word ls q)) _ m) }

matches_invalid : (w tag : ℕ) → valid w ≡ false → matches w tag ≡ false
unfolding matches
matches_invalid w tag e = rw e

-- a modified line that has the word at a's place of RAM is a hit
pub hits_hit : (ls : List ℕ) (address p : ℕ) → p < 1024 → hits ls (address / 4) p ≡ true → Hit ls address p
hits_hit ls address p h e =
    let m : state_of (tag_word ls p) ≡ 1 = eqb-true _ 1 (and_left (modified (tag_word ls p)) _ e) in
    let q : address / 4 / 4 * 16 ≡ line_address p (tag_word ls p) = eqb-true _ _ (and_right (modified (tag_word ls p)) _ e) in
    let parts = line_parts address (tag_of (tag_word ls p)) (p / 4) (omega arith) (omega arith) q in
    record { small = h; in_set = parts.0; is_valid = ap not (ne_eqb (state_of (tag_word ls p)) 3 (omega arith)); has_tag = parts.1 }

missed : (ls : List ℕ) (address : ℕ) → Miss ls address → (p : ℕ) → Hit ls address p → ⊥
unfolding matches
missed ls address miss p h = true≢false (sym (rw (h.is_valid, eq-eqb _ _ h.has_tag)) ∙ miss p h.small h.in_set)

-- ---- memory

same_memory : (ram ram₂ rom : List ℕ) (address : ℕ) → length ram₂ ≡ length ram → get_or ram₂ (ram_place address) 0 ≡ get_or ram (ram_place address) 0 → memory_of ram₂ rom address ≡ memory_of ram rom address
unfolding read_of
same_memory ram ram₂ rom address e f = rw (e, f)

ram_memory : (ram rom : List ℕ) (address : ℕ) → ram_place address < length ram → memory_of ram rom address ≡ some (get_or ram (ram_place address) 0)
unfolding read_of
ram_memory ram rom address h = rw (lt-ltb _ _ h)

-- the word of RAM that no modified line has stays
module _ (k : Kind) (c : ℕ → Bool) (cs ls ram rom : List ℕ) {n : ℕ} (small : n ≤ 1024) (f : FitsTo n k c ls ram) (address : ℕ) where
  kept_memory : ((p : ℕ) → p < n → hits ls (ram_place address) p ≡ false) → memory_of (ram_to k c cs ls ram n) rom address ≡ memory_of ram rom address
  kept_memory other =
      same_memory ram _ rom address (length_ram_to k c cs ls ram n)
      (ram_to_at k c cs ls ram f n (ram_place address) (omega arith)
      ∙ rw (newest_none ls cs (ram_place address) (get_or ram (ram_place address) 0) n other) (pick_same (copies_of k && c (ram_place address / 4 * 16)) _))

  missed_memory : Miss ls address → memory_of (ram_to k c cs ls ram n) rom address ≡ memory_of ram rom address
  missed_memory miss = kept_memory (λ p h. ruled_out _ (λ e. missed ls address miss p (hits_hit ls address p (omega arith) e)))

-- ---- copying back

module _ (c : ℕ → Bool) (cs ls ram rom : List ℕ) (size : length ls ≡ 1280) {n : ℕ} (small : n ≤ 1024) (f : FitsTo n CopyBack c ls ram) (address : ℕ) where
  -- every line is as valid as it was, and has its tag
  same_matches : (p : ℕ) → matches (tag_word (lines_to CopyBack c ls n) p) (tag_of address) ≡ matches (tag_word ls p) (tag_of address)
  unfolding matches
  same_matches p = elim (dec_lt p n) [
    | yes l ↦ rw (lines_to_done CopyBack c ls size n p small l, after_valid, after_tag)
    | no l ↦ rw (lines_to_later CopyBack c ls n p (omega arith))
  ]

  pub copied_held : held_of (lines_to CopyBack c ls n) cs (ram_to CopyBack c cs ls ram n) rom address ≡ held_of ls cs ram rom address
  unfolding held_of
  copied_held = rw (same_hit ls (lines_to CopyBack c ls n) address (λ q h s. same_matches q)) (go (hit_is ls address))
    where
      go : {r : ℕ} → Looked ls address r
          → pick (ltb r 1024) (some (word_at cs r address)) (memory_of (ram_to CopyBack c cs ls ram n) rom address) ≡ pick (ltb r 1024) (some (word_at cs r address)) (memory_of ram rom address)
      go (found h lower) = rw (lt-ltb _ 1024 h.small)
      go (missing e miss) = rw (missed_memory CopyBack c cs ls ram rom small f address miss)

-- ---- the joint command

-- the one line that hits
held_hit : (ls cs ram rom : List ℕ) (address p : ℕ) → Hit ls address p → ((q : ℕ) → Hit ls address q → q ≡ p) → held_of ls cs ram rom address ≡ some (word_at cs p address)
unfolding held_of
held_hit ls cs ram rom address p h alone = go (hit_is ls address)
  where
    go : {r : ℕ} → Looked ls address r → pick (ltb r 1024) (some (word_at cs r address)) (memory_of ram rom address) ≡ some (word_at cs p address)
    go (found g lower) = rw (lt-ltb _ 1024 g.small, alone _ g)
    go (missing e miss) = absurd (missed ls address miss p h)

held_missed : (ls cs ram rom : List ℕ) (address : ℕ) → ((q : ℕ) → Hit ls address q → ⊥) → held_of ls cs ram rom address ≡ memory_of ram rom address
unfolding held_of
held_missed ls cs ram rom address no_hit = go (hit_is ls address)
  where
    go : {r : ℕ} → Looked ls address r → pick (ltb r 1024) (some (word_at cs r address)) (memory_of ram rom address) ≡ memory_of ram rom address
    go (found g lower) = absurd (no_hit _ g)
    go {r} (missing e miss) = rw (le-ltb r 1024 (omega arith))

module _ (c : ℕ → Bool) (cs ls ram rom : List ℕ) (size : length ls ≡ 1280) {n : ℕ} (small : n ≤ 1024) (f : FitsTo n Both c ls ram) (address : ℕ) (physical : address < 4294967296) where
  lines₂ : List ℕ
  lines₂ = lines_to Both c ls n

  ram₂ : List ℕ
  ram₂ = ram_to Both c cs ls ram n

  -- a line is as it was, or was covered and is invalid
  data Now (q : ℕ) : Type 0 where
    as_before : tag_word lines₂ q ≡ tag_word ls q → Now q
    dropped : q < n → c (line_address q (tag_word ls q)) ≡ true → valid (tag_word lines₂ q) ≡ false → Now q

  now : (q : ℕ) → Now q
  unfolding lines₂
  now q = elim (dec_lt q n) [
    | yes l ↦ go l (c (line_address q (tag_word ls q))) refl
    | no l ↦ as_before (lines_to_later Both c ls n q (omega arith))
  ]
    where
      go : q < n → (b : Bool) → c (line_address q (tag_word ls q)) ≡ b → Now q
      go l true e = dropped l e (rw (lines_to_done Both c ls size n q small l, after_covered Both c q (tag_word ls q) e) (dropped_invalid Both (tag_word ls q) refl))
      go l false e = as_before (lines_to_done Both c ls size n q small l ∙ after_uncovered Both c q (tag_word ls q) e)

  hit_with : (ms os : List ℕ) (q : ℕ) → tag_word ms q ≡ tag_word os q → Hit ms address q → Hit os address q
  hit_with ms os q e h = record { small = h.small; in_set = h.in_set; is_valid = rw e at h.is_valid; has_tag = rw e at h.has_tag }

  -- a line that hits afterwards hit before
  hit_before : (q : ℕ) → Hit lines₂ address q → Hit ls address q
  hit_before q h = go (now q)
    where
      go : Now q → Hit ls address q
      go (as_before e) = hit_with lines₂ ls q e h
      go (dropped l e v) = absurd (true≢false (sym h.is_valid ∙ v))

  -- uncovered: every line that hits is as it was, and the word of RAM too
  uncovered : c (address / 16 * 16) ≡ false → held_of lines₂ cs ram₂ rom address ≡ held_of ls cs ram rom address
  unfolding held_of ram₂
  uncovered e =
      let place : ram_place address / 4 * 16 ≡ address / 16 * 16 = omega arith in
      let word : get_or ram₂ (ram_place address) 0 ≡ get_or ram (ram_place address) 0 = ram_to_at Both c cs ls ram f n (ram_place address) (omega arith) ∙ rw (place, e) in
      rw (same_hit ls lines₂ address matching, same_memory ram ram₂ rom address (length_ram_to Both c cs ls ram n) word)
    where
      matching : (q : ℕ) → q < 1024 → q / 4 ≡ set_of address → matches (tag_word lines₂ q) (tag_of address) ≡ matches (tag_word ls q) (tag_of address)
      matching q h s = go (now q)
        where
          go : Now q → matches (tag_word lines₂ q) (tag_of address) ≡ matches (tag_word ls q) (tag_of address)
          go (as_before w) = rw w
          go (dropped l d v) =
              matches_invalid _ _ v
              ∙ sym (ruled_out _ (λ m. true≢false (sym d ∙ ap c (sym (hit_address ls address q physical (matches_hit ls address q h s m))) ∙ e)))

  -- covered: the line that hits, if there is one, is the only one; unmodified it agrees with memory
  module _ (alone : (p q : ℕ) → Hit ls address p → Hit ls address q → p ≡ q) (agrees : (p : ℕ) → Hit ls address p → modified (tag_word ls p) ≡ false → memory_of ram rom address ≡ some (word_at cs p address)) where
    dropped_hit : (p : ℕ) → Hit ls address p → p < n → c (line_address p (tag_word ls p)) ≡ true → (m : Bool) → modified (tag_word ls p) ≡ m → memory_of ram₂ rom address ≡ some (word_at cs p address)
    unfolding ram₂ is_copied
    dropped_hit p h l d true m =
        let place : ram_place address / 4 * 16 ≡ line_address p (tag_word ls p) = hit_place ls address p physical h in
        let copied : is_copied Both c p (tag_word ls p) ≡ true = rw (d, m) in
        let fits : ram_place address < length ram₂ = rw length_ram_to (omega (arith, leb-true (ram_line (line_address p (tag_word ls p)) + 4) (length ram) (f p l copied))) in
        ram_memory ram₂ rom address fits ∙ ap some (copied_word Both c cs ls ram f p (ram_place address) l place copied (λ q b e. alone q p (hits_hit ls address q (omega arith) e) h))
    dropped_hit p h l d false m = kept_memory Both c cs ls ram rom small f address (λ q b. ruled_out _ (λ e. clean q e (alone q p (hits_hit ls address q (omega arith) e) h))) ∙ agrees p h m
      where
        clean : (q : ℕ) → hits ls (ram_place address) q ≡ true → q ≡ p → ⊥
        clean q e same = true≢false (sym (and_left (modified (tag_word ls q)) _ e) ∙ rw same m)

    covered : held_of lines₂ cs ram₂ rom address ≡ held_of ls cs ram rom address
    unfolding ram₂
    covered = go (hit_is ls address)
      where
        gone : (p : ℕ) → Hit ls address p → valid (tag_word lines₂ p) ≡ false → (q : ℕ) → Hit lines₂ address q → ⊥
        gone p h v q g = true≢false (sym g.is_valid ∙ rw (alone q p (hit_before q g) h) v)

        after_hit : (p : ℕ) → Hit ls address p → Now p → held_of lines₂ cs ram₂ rom address ≡ some (word_at cs p address)
        after_hit p h (as_before e) = held_hit lines₂ cs ram₂ rom address p (hit_with ls lines₂ p (sym e) h) (λ q g. alone q p (hit_before q g) h)
        after_hit p h (dropped l d v) = held_missed lines₂ cs ram₂ rom address (gone p h v) ∙ dropped_hit p h l d (modified (tag_word ls p)) refl

        go : {r : ℕ} → Looked ls address r → held_of lines₂ cs ram₂ rom address ≡ held_of ls cs ram rom address
        go (missing e miss) =
            held_missed lines₂ cs ram₂ rom address (λ q g. missed ls address miss q (hit_before q g))
            ∙ missed_memory Both c cs ls ram rom small f address miss
            ∙ sym (held_missed ls cs ram rom address (missed ls address miss))
        go {r} (found h lower) = after_hit r h (now r) ∙ sym (held_hit ls cs ram rom address r h (λ q g. alone q r g h))

  pub joint_held : (c (address / 16 * 16) ≡ true → (p q : ℕ) → Hit ls address p → Hit ls address q → p ≡ q)
      → (c (address / 16 * 16) ≡ true → (p : ℕ) → Hit ls address p → modified (tag_word ls p) ≡ false → memory_of ram rom address ≡ some (word_at cs p address))
      → held_of (lines_to Both c ls n) cs (ram_to Both c cs ls ram n) rom address ≡ held_of ls cs ram rom address
  unfolding lines₂ ram₂
  joint_held alone agrees = go (c (address / 16 * 16)) refl
    where
      go : (b : Bool) → c (address / 16 * 16) ≡ b → held_of (lines_to Both c ls n) cs (ram_to Both c cs ls ram n) rom address ≡ held_of ls cs ram rom address
      go true e = covered (alone e) (agrees e)
      go false e = uncovered e
