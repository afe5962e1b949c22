-- Which number a malformed call gets: the first that applies, 0 if none does. A call tests only what it takes.
use Rattle.std.specs.Prelude.{ℕ, zero, suc, ◌%◌, Bool, true, false, not, List, ◌≡◌, refl, eqb, ltb}
use Rattle.std.proofs.Common.{ap, arith, eqb-true}
use Rattle.words.specs.Words.{pick}
use Rattle.memory.specs.Memory.{ram_rule, rom_rule}
use Rattle.state.specs.declared.Refusal.{Refusal}
use Rattle.state.specs.Refusal.{number_of, some_number}
use Rattle.saved.specs.Verdict.{verdict_of}

-- the tests, each with what is tested after it
-- 1: RAM length breaks its rule
abbrev pub ram_test : ℕ → ℕ → ℕ
ram_test ram rest = pick (not (ram_rule ram)) 1 rest

-- 2: ROM length breaks its rule
abbrev pub rom_test : ℕ → ℕ → ℕ
rom_test rom rest = pick (not (rom_rule rom)) 2 rest

-- 3: cache data is not 4,096 words
abbrev pub cells_test : ℕ → ℕ → ℕ
cells_test cells rest = pick (not (eqb cells 4096)) 3 rest

-- 4: an access or snoop address is not a multiple of 4
abbrev pub address_test : ℕ → ℕ → ℕ
address_test address rest = pick (not (eqb (address % 4) 0)) 4 rest

-- 5: byte enables over 15
abbrev pub enables_test : ℕ → ℕ → ℕ
enables_test enables rest = pick (ltb 15 enables) 5 rest

-- 6: register offset over 4,092 or not a multiple of 4
abbrev pub offset_test : ℕ → ℕ → ℕ
offset_test offset rest = pick (ltb 4092 offset) 6 (pick (not (eqb (offset % 4) 0)) 6 rest)

-- 11: output shorter than what is to be written, here 22,039 bytes
abbrev pub out_test : ℕ → ℕ → ℕ
out_test out rest = pick (ltb out 22039) 11 rest

-- the calls
unfoldable pub access_refusal : ℕ → ℕ → ℕ → ℕ → ℕ → ℕ
access_refusal ram rom cells address enables =
    ram_test ram (rom_test rom (cells_test cells (address_test address (enables_test enables 0))))

unfoldable pub snoop_refusal : ℕ → ℕ → ℕ → ℕ
snoop_refusal ram cells address = ram_test ram (cells_test cells (address_test address 0))

unfoldable pub read_refusal : ℕ → ℕ
read_refusal offset = offset_test offset 0

unfoldable pub write_refusal : ℕ → ℕ → ℕ → ℕ → ℕ
write_refusal ram rom cells offset = ram_test ram (rom_test rom (cells_test cells (offset_test offset 0)))

unfoldable pub reset_refusal : ℕ → ℕ
reset_refusal cells = cells_test cells 0

unfoldable pub save_refusal : ℕ → ℕ → ℕ
save_refusal cells out = cells_test cells (out_test out 0)

-- 7 to 10: the image's own
unfoldable pub restore_refusal : ℕ → List ℕ → ℕ
restore_refusal cells image = cells_test cells (verdict_of image)

-- ---- a call without a number has its 4,096 words

abbrev is_zero : ℕ → Bool
is_zero zero = true
is_zero (suc n) = false

pub past : (b : Bool) (n rest : ℕ) → pick b (suc n) rest ≡ 0 → rest ≡ 0
past true n rest e = omega (arith, e)
past false n rest e = e

pub held : (b : Bool) (n rest : ℕ) → pick (not b) (suc n) rest ≡ 0 → b ≡ true
held true n rest e = refl
held false n rest e = ap is_zero e

pub access_cells : (ram rom cells address enables : ℕ) → access_refusal ram rom cells address enables ≡ 0 → cells ≡ 4096
unfolding access_refusal
access_cells ram rom cells address enables e = eqb-true _ _ (held _ 2 _ (past (not (rom_rule rom)) 1 _ (past (not (ram_rule ram)) 0 _ e)))

pub snoop_cells : (ram cells address : ℕ) → snoop_refusal ram cells address ≡ 0 → cells ≡ 4096
unfolding snoop_refusal
snoop_cells ram cells address e = eqb-true _ _ (held _ 2 _ (past (not (ram_rule ram)) 0 _ e))

pub write_cells : (ram rom cells offset : ℕ) → write_refusal ram rom cells offset ≡ 0 → cells ≡ 4096
unfolding write_refusal
write_cells ram rom cells offset e = eqb-true _ _ (held _ 2 _ (past (not (rom_rule rom)) 1 _ (past (not (ram_rule ram)) 0 _ e)))

pub save_cells : (cells out : ℕ) → save_refusal cells out ≡ 0 → cells ≡ 4096
unfolding save_refusal
save_cells cells out e = eqb-true _ _ (held _ 2 _ e)

-- ---- tests one after the other

-- a test that fails gives its number, whatever is tested after it
pub stops : (b : Bool) (n rest : ℕ) (r : Refusal) → number_of r ≡ pick b n 0 → number_of r ≡ pick b n rest
stops true n rest r e = e
stops false n rest r e = absurd (some_number r e)

-- one that holds leaves the tests after it
pub goes_on : (b : Bool) (n rest : ℕ) → 0 ≡ pick b (suc n) 0 → rest ≡ pick b (suc n) rest
goes_on true n rest e = absurd (omega (arith, e))
goes_on false n rest e = refl
