-- What a flush does and what it leaves: laws that a command that does nothing would break.
use Rattle.std.specs.Prelude.{ℕ, ◌+◌, ◌*◌, ◌/◌, ◌≤◌, ◌<◌, ◌≡◌, refl, ◌≢◌, Bool, false, not, ◌&&◌, List, length, get_or}
use Rattle.std.proofs.Common.{sym, ◌∙◌, true≢false, arith, leb-true}
use Rattle.std.proofs.Math.Bool.{true}
use Rattle.std.proofs.Math.Decide.{dec_lt}
use Rattle.words.specs.Words.{pick}
use Rattle.words.specs.Laws.{and_left}
use Rattle.memory.specs.Memory.{ram_place, ram_line}
use Rattle.lines.specs.Lines.{tag_of, code_at, state_of, valid, modified, tag_word, line_address}
use Rattle.cells.specs.Cells.{word_at}
use Rattle.lines.specs.Laws.{Hit, NoDoubles}
use Rattle.sweep.specs.declared.Kind.{Kind}
use Rattle.sweep.specs.declared.Kind.TheVariants.{Invalidate}
use Rattle.sweep.specs.declared.Range.{Range}
use Rattle.sweep.specs.Sweep.{covers_of, drops_of, well_of, stopped_of, Sweep, swept}
use Rattle.flush_laws.specs.Sweep.{flush_of, sweep_by_lem, after, is_copied, lines_to, ram_to, count_to, Fits}
use Rattle.flush_laws.specs.Point.{after_tag, after_address, after_modified, after_copied, after_dropped, after_other, valid_before, lines_to_done, lines_to_later, lines_to_code, length_lines_to, length_ram_to, First, fit, stops, first, StopsAt, sweep_stops}
use Rattle.flush_laws.specs.Union.{copied_word, kept_word, runs, reach_of}
use Rattle.flush_laws.specs.Twice.{invalidate_ram}
use Rattle.flush_laws.specs.Held.{hit_place, hits_hit}

module _ (k : Kind) (r : Range) (sar : ℕ) (cs ls ram : List ℕ) where
  abbrev c : ℕ → Bool
  c = covers_of r sar

  abbrev out : Sweep
  out = flush_of k r sar cs ls ram

  -- ---- how it ends

  -- it ends well just where each covered modified line lies in RAM
  pub fits_well : Fits k c ls ram → out.flushed.ok ≡ true
  fits_well f = rw (sweep_by_lem k r sar, runs k c cs ls ram f)

  pub well_fits : out.flushed.ok ≡ true → Fits k c ls ram
  well_fits e = go (first k c ls ram 1024)
    where
      go : First k c ls ram 1024 → Fits k c ls ram
      go (fit f) = f
      go (stops n h s) = absurd (true≢false (sym e ∙ rw (sweep_by_lem k r sar, sweep_stops k c cs ls ram n s 1024 h)))

  -- "the first bus error .. stops": at the first covered modified line outside RAM, with its address; the places before it are done, it and the later ones are as they were
  abbrev Stopped : ℕ → Type 0
  Stopped n = (n < 1024) × StopsAt k c ls ram n × (out ≡ swept (stopped_of (4 * count_to k c ls n) (line_address n (tag_word ls n))) (lines_to k c ls n) (ram_to k c cs ls ram n))

  pub flush_stops : out.flushed.ok ≡ false → (n : ℕ) × Stopped n
  flush_stops e = go (first k c ls ram 1024)
    where
      go : First k c ls ram 1024 → (n : ℕ) × Stopped n
      go (fit f) = absurd (true≢false (sym (fits_well f) ∙ e))
      go (stops n h s) = (n, (h, s, sweep_by_lem k r sar cs ls ram 1024 ∙ sweep_stops k c cs ls ram n s 1024 h))

  -- ---- what stays, also where it stops

  pub lines_length : length out.lines ≡ length ls
  lines_length = let x = reach_of k r sar cs ls ram in rw x.has_lines (length_lines_to k c ls x.n)

  pub ram_length : length out.ram ≡ length ram
  ram_length = let x = reach_of k r sar cs ls ram in rw x.has_ram (length_ram_to k c cs ls ram x.n)

  -- a flush does not use its line
  pub codes_stay : (p : ℕ) → get_or out.lines (code_at p) 0 ≡ get_or ls (code_at p) 0
  codes_stay p = let x = reach_of k r sar cs ls ram in rw x.has_lines (lines_to_code k c ls x.n (code_at p) (omega arith))

  -- a word of RAM that is of no copied line
  pub ram_stays : (a : ℕ) → ((p : ℕ) → p < 1024 → is_copied k c p (tag_word ls p) ≡ true → a / 4 * 16 ≢ line_address p (tag_word ls p)) → get_or out.ram a 0 ≡ get_or ram a 0
  ram_stays a f = let x = reach_of k r sar cs ls ram in rw x.has_ram (kept_word k c cs ls ram x.fits a (λ p l. f p (omega arith)))

  module _ (size : length ls ≡ 1280) where
    -- what holds of a tag word as it was and as it is afterwards
    either_way : (p : ℕ) (P : ℕ → Type 0) → P (tag_word ls p) → P (after k c p (tag_word ls p)) → P (tag_word out.lines p)
    either_way p P before then =
        let x = reach_of k r sar cs ls ram in
        rw x.has_lines (elim (dec_lt p x.n) [
          | yes l ↦ rw (lines_to_done k c ls size x.n p x.small l) then
          | no l ↦ rw (lines_to_later k c ls x.n p (omega arith)) before
        ])

    -- each line's tag
    pub tags_stay : (p : ℕ) → tag_of (tag_word out.lines p) ≡ tag_of (tag_word ls p)
    tags_stay p = either_way p (λ w. tag_of w ≡ tag_of (tag_word ls p)) refl (after_tag k c p (tag_word ls p))

    -- the whole tag word of an invalid line or one outside the range
    pub others_stay : (p : ℕ) → (valid (tag_word ls p) && c (line_address p (tag_word ls p))) ≡ false → tag_word out.lines p ≡ tag_word ls p
    others_stay p e = either_way p (λ w. w ≡ tag_word ls p) refl (after_other k c p (tag_word ls p) e)

    -- no line becomes valid, so no two valid lines of a set come to have one tag
    pub no_doubles_stay : NoDoubles ls → NoDoubles out.lines
    unfolding NoDoubles
    no_doubles_stay one p q hp hq s vp vq t = one p q hp hq s (was p vp) (was q vq) (sym (tags_stay p) ∙ t ∙ tags_stay q)
      where
        was : (p : ℕ) → valid (tag_word out.lines p) ≡ true → valid (tag_word ls p) ≡ true
        was p = either_way p (λ w. valid w ≡ true → valid (tag_word ls p) ≡ true) (λ v. v) (valid_before k c p (tag_word ls p))

  -- ---- what is done, where it ends well

  module _ (well : out.flushed.ok ≡ true) where
    ended : out ≡ swept (well_of (4 * count_to k c ls 1024)) (lines_to k c ls 1024) (ram_to k c cs ls ram 1024)
    ended = sweep_by_lem k r sar cs ls ram 1024 ∙ runs k c cs ls ram (well_fits well)

    -- "the word count is 4 a copied line"
    pub words_counted : out.flushed.words ≡ 4 * count_to k c ls 1024
    words_counted = rw ended

    -- RAM has the copied line's word at each of the line's addresses. Needed: no other modified line holds the address
    pub copied_ram : (address p : ℕ) → address < 4294967296 → Hit ls address p → is_copied k c p (tag_word ls p) ≡ true
        → ((q : ℕ) → Hit ls address q → modified (tag_word ls q) ≡ true → q ≡ p)
        → (ram_place address < length out.ram) × (get_or out.ram (ram_place address) 0 ≡ word_at cs p address)
    copied_ram address p physical h e alone =
        let place : ram_place address / 4 * 16 ≡ line_address p (tag_word ls p) = hit_place ls address p physical h in
        let fits : ram_line (line_address p (tag_word ls p)) + 4 ≤ length ram = leb-true _ _ (well_fits well p h.small e) in
        let word : get_or out.ram (ram_place address) 0 ≡ word_at cs p address =
        rw ended
        (copied_word k c cs ls ram (well_fits well) p (ram_place address) h.small place e (λ q l t. alone q (hits_hit ls address q l t) (and_left (modified (tag_word ls q)) _ t))) in
        (rw ram_length (omega arith), word)

    module _ (size : length ls ≡ 1280) (p : ℕ) (h : p < 1024) where
      done : tag_word out.lines p ≡ after k c p (tag_word ls p)
      done = rw ended (lines_to_done k c ls size 1024 p (omega arith) h)

      -- "a copied line becomes state 0; under 1C-1F each line is made invalid"
      pub copied_state : is_copied k c p (tag_word ls p) ≡ true → state_of (tag_word out.lines p) ≡ pick (drops_of k) 3 0
      copied_state e = rw done (after_copied k c p (tag_word ls p) e)

      -- no valid line of the range is left by a command that invalidates ..
      pub none_valid : drops_of k ≡ true → (valid (tag_word out.lines p) && c (line_address p (tag_word out.lines p))) ≡ false
      none_valid d = rw (done, after_address) (after_dropped k c p (tag_word ls p) d)

      -- .. and no modified one by any
      pub none_modified : (modified (tag_word out.lines p) && c (line_address p (tag_word out.lines p))) ≡ false
      none_modified = rw (done, after_address, after_modified) (cleaned (modified (tag_word ls p)) (c (line_address p (tag_word ls p))))
        where
          cleaned : (M C : Bool) → (M && not C && C) ≡ false
          cleaned true true = refl
          cleaned true false = refl
          cleaned false C = refl

-- invalidating writes no memory
pub invalidate_ram_stays : (r : Range) (sar : ℕ) (cs ls ram : List ℕ) → (flush_of Invalidate r sar cs ls ram).ram ≡ ram
invalidate_ram_stays r sar cs ls ram = let x = reach_of Invalidate r sar cs ls ram in x.has_ram ∙ invalidate_ram (covers_of r sar) cs ls ram x.n
