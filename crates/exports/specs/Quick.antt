-- An access that only touches a line of the cache is answered as a call answers it.
use Rattle.std.specs.Prelude.{ℕ, ◌<◌, Bool, not, ◌&&◌, List, ◌≡◌, eqb, length}
use Rattle.std.proofs.Math.Bool.{true, false}
use Rattle.std.proofs.lemmas.Bool.{false≢true}
use Rattle.std.proofs.Math.Path.{refl, sym, ap}
use Rattle.std.proofs.Common.{◌∙◌, arith}
use Rattle.words.specs.Words.{pick, bit_of, keep_of}
use Rattle.state.specs.declared.Access.{Access}
use Rattle.state.specs.declared.FaultPair.{FaultPair}
use Rattle.state.specs.declared.Registers.{Registers}
use Rattle.lines.specs.Lines.{marked, used_at}
use Rattle.cells.specs.Cells.{word_at, merged_at}
use Rattle.answers.specs.Answers.{plain_of}
use Rattle.unit.specs.Unit.{access_of}
use Rattle.hits.specs.declared.Hit.{Hit}
use Rattle.hit_laws.specs.Laws.{read_at, written_at, touched_at}
use Rattle.hit_laws.proofs.Laws.{look_right}
use Rattle.refusals.specs.Refusals.{access_refusal}
use Rattle.calls.specs.Calls.{access_taken, access_by as done_by}
use Rattle.layout.specs.Layout.{registers_of, unit_of, access_as, bits_of, reply_of, unit_kept}
use Rattle.quick.specs.Quick.{plain_access, quick_of, plain_reply, word_reply, written_reply, lines_after, cells_after, reply_after}
use Rattle.exports.specs.Exports.{AccessOut, access_out, access_by, access_to, access_export}

module _ (u : Registers) (p : FaultPair) (ps ls cs ram rom : List ℕ) (a : Access) where
  pub answered : (unit reply : List ℕ) (h : Hit)
      → access_by unit reply (access_taken (read_at u p ps ls cs ram rom a h)) ≡ access_out 0 (unit_of u) p ps (used_at ls h.place) cs ram (word_reply (keep_of a.enables (word_at cs h.place h.address)))
  unfolding access_by plain_of reply_of bits_of plain_reply
  answered unit reply h = refl

  pub stored : (unit reply : List ℕ) (h : Hit)
      → access_by unit reply (access_taken (written_at u p ps ls cs ram rom a h)) ≡ access_out 0 (unit_of u) p ps (used_at (marked ls h.place 1) h.place) (merged_at cs h.place h.address a.enables a.word) ram written_reply
  unfolding access_by plain_of reply_of bits_of plain_reply
  stored unit reply h = refl

-- what is not refused is taken
pub call_taken : (unit : List ℕ) (p : FaultPair) (ps ls cs ram rom : List ℕ) (address kind enables word : ℕ) (reply : List ℕ)
    → access_refusal (length ram) (length rom) (length cs) address enables ≡ 0
    → access_to unit p ps ls cs ram rom address kind enables word reply ≡ access_export unit p ps ls cs ram rom address kind enables word reply
unfolding done_by access_as
call_taken unit p ps ls cs ram rom address kind enables word reply taken = rw taken

three : (w x y : Bool) → (not w && not x && not y) ≡ true → (w ≡ false) × (x ≡ false) × (y ≡ false)
three true x y e = absurd (false≢true e)
three false true y e = absurd (false≢true e)
three false false true e = absurd (false≢true e)
three false false false e = (refl, refl, refl)

module _ (unit : List ℕ) (p : FaultPair) (ps ls cs ram rom : List ℕ) (address kind enables word : ℕ) (reply : List ℕ) (long : length unit ≡ 16)
    (taken : access_refusal (length ram) (length rom) (length cs) address enables ≡ 0) where
  abbrev asked : Access
  asked = access_as address kind enables word

  abbrev quick : Hit
  quick = quick_of unit ps ls address kind enables

  quick_by : (b : Bool) → plain_access address kind enables ≡ b → quick.place < 1024
      → access_taken (access_of (registers_of unit) p ps ls cs ram rom asked) ≡ access_taken (touched_at (registers_of unit) p ps ls cs ram rom asked quick)
  unfolding quick_of access_as registers_of
  quick_by false e l = absurd (omega (arith, rw (e) at l))
  quick_by true e l =
      let f = three _ _ _ e in
      rw (e) (ap access_taken (look_right (registers_of unit) p ps ls cs ram rom asked f.1 f.0 f.2 (rw (e) at l)))

  call_quick : quick.place < 1024
      → access_export unit p ps ls cs ram rom address kind enables word reply ≡ access_by unit reply (access_taken (touched_at (registers_of unit) p ps ls cs ram rom asked quick))
  call_quick l = sym (call_taken unit p ps ls cs ram rom address kind enables word reply taken) ∙ ap (access_by unit reply) (quick_by (plain_access address kind enables) refl l)

  abbrev answer_by : Bool → AccessOut
  answer_by b =
      access_by unit reply (access_taken (pick b (written_at (registers_of unit) p ps ls cs ram rom asked quick) (read_at (registers_of unit) p ps ls cs ram rom asked quick)))

  -- a read that hits: the word, the line used, and nothing else
  quick_read : bit_of kind 6 ≡ false → quick.place < 1024
      → access_out 0 unit p ps (used_at ls quick.place) cs ram (word_reply (keep_of enables (word_at cs quick.place quick.address))) ≡ access_export unit p ps ls cs ram rom address kind enables word reply
  unfolding access_as
  quick_read reads l =
      sym (call_quick l ∙ ap answer_by reads ∙ answered (registers_of unit) p ps ls cs ram rom asked unit reply quick ∙ rw (unit_kept unit long))

  -- a write that hits: the line written, modified and used
  quick_write : bit_of kind 6 ≡ true → quick.place < 1024
      → access_out 0 unit p ps (used_at (marked ls quick.place 1) quick.place) (merged_at cs quick.place quick.address enables word) ram written_reply ≡ access_export unit p ps ls cs ram rom address kind enables word reply
  unfolding access_as
  quick_write writes l =
      sym (call_quick l ∙ ap answer_by writes ∙ stored (registers_of unit) p ps ls cs ram rom asked unit reply quick ∙ rw (unit_kept unit long))

  pub quick_right : quick.place < 1024
      → access_out 0 unit p ps (lines_after (bit_of kind 6) ls quick) (cells_after (bit_of kind 6) cs quick enables word) ram (reply_after (bit_of kind 6) cs quick enables) ≡ access_export unit p ps ls cs ram rom address kind enables word reply
  quick_right l = by (bit_of kind 6) refl
    where
      by : (b : Bool) → bit_of kind 6 ≡ b
          → access_out 0 unit p ps (lines_after b ls quick) (cells_after b cs quick enables word) ram (reply_after b cs quick enables) ≡ access_export unit p ps ls cs ram rom address kind enables word reply
      by true e = quick_write e l
      by false e = quick_read e l

-- a refusal changes nothing
pub refused_right : (unit : List ℕ) (p : FaultPair) (ps ls cs ram rom : List ℕ) (address kind enables word : ℕ) (reply : List ℕ) (n : ℕ) → n ≡ access_refusal (length ram) (length rom) (length cs) address enables → eqb n 0 ≡ false
    → access_out n unit p ps ls cs ram reply ≡ access_export unit p ps ls cs ram rom address kind enables word reply
unfolding done_by access_by access_as
refused_right unit p ps ls cs ram rom address kind enables word reply n e none = rw (← e, none, none)
