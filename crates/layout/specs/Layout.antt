-- How a unit, an access and its answer are laid out in plain arrays.
use Rattle.std.specs.Prelude.{ℕ, zero, suc, ◌+◌, ◌%◌, List, [], ◌∷◌, ◌≡◌, refl, length, get_or, take, drop}
use Rattle.std.proofs.Common.{sym, ap, ◌∙◌, suc-ne-zero}
use Rattle.std.proofs.Math.Nat.{suc_inj}
use Rattle.words.specs.Words.{bit_of, flag_of}
use Rattle.state.specs.declared.Access.{Access}
use Rattle.state.specs.declared.Answer.{Answer}
use Rattle.state.specs.declared.Registers.{Registers}
use Rattle.state.specs.declared.Transaction.{Transaction}
use Rattle.state.specs.Outcome.{case_of, value_of, place_of}
use Rattle.snoop.specs.declared.Snooped.{Snooped}
use Rattle.snoop.specs.declared.Snooped.TheVariants.{Clear, Retry, Failed}
use Rattle.course.specs.Course.{no_transaction}

-- word n of an array
abbrev pub at : List ℕ → ℕ → ℕ
at xs n = get_or xs n 0

-- IDR, SCR, SSR, SAR, SCTR, SAPR, UAPR, pointer, then the eight ports
unfoldable pub registers_of : List ℕ → Registers
registers_of unit = record {
  idr = at unit 0;
  scr = at unit 1;
  ssr = at unit 2;
  sar = at unit 3;
  sctr = at unit 4;
  sapr = at unit 5;
  uapr = at unit 6;
  pointer = at unit 7;
  ports = at unit 8 ∷ at unit 9 ∷ at unit 10 ∷ at unit 11 ∷ at unit 12 ∷ at unit 13 ∷ at unit 14 ∷ at unit 15 ∷ [];
}

unfoldable pub unit_of : Registers → List ℕ
unit_of u =
    u.idr ∷ u.scr ∷ u.ssr ∷ u.sar ∷ u.sctr ∷ u.sapr ∷ u.uapr ∷ u.pointer
    ∷ at u.ports 0 ∷ at u.ports 1 ∷ at u.ports 2 ∷ at u.ports 3 ∷ at u.ports 4 ∷ at u.ports 5 ∷ at u.ports 6 ∷ at u.ports 7 ∷ []

-- an access's kind: bit 7 supervisor, bit 6 write, bit 5 lock
unfoldable pub access_as : ℕ → ℕ → ℕ → ℕ → Access
access_as address kind enables word =
    record { address = address; supervisor = bit_of kind 7; write = bit_of kind 6; lock = bit_of kind 5; enables = enables; word = word }

-- a transaction's bits: 0 write, 1 G, 2 IM, 3 LK, 4 CI
unfoldable pub bits_of : Transaction → ℕ
bits_of t = flag_of t.write 1 + flag_of t.g 2 + flag_of t.im 4 + flag_of t.lk 8 + flag_of t.ci 16

-- a count as a word of 32 bits
abbrev pub count_of : ℕ → ℕ
count_of n = n % 4294967296

-- a transaction in a reply: its bits, address and words
pub record Row : Type 0 where
  pub bits : ℕ
  pub address : ℕ
  pub words : ℕ

abbrev pub row_of : Transaction → Row
row_of t = record { bits = bits_of t; address = t.address; words = t.words }

abbrev pub listed : Answer → ℕ → Row
listed a n = row_of (get_or a.list n no_transaction)

abbrev pub words_of : Row → List ℕ → List ℕ
words_of r rest = r.bits ∷ r.address ∷ r.words ∷ rest

-- the outcome's number, its value and address; words moved, transactions listed; then three words for each: bits, address, words
unfoldable pub reply_of : Answer → List ℕ
reply_of a =
    case_of a.outcome ∷ value_of a.outcome ∷ place_of a.outcome ∷ a.words ∷ count_of a.count
    ∷ words_of (listed a 0) (words_of (listed a 1) (words_of (listed a 2) (words_of (listed a 3) (words_of (listed a 4) (words_of (listed a 5) (0 ∷ []))))))

-- a snoop's reply: 0 clear, 1 retry, 2 failed
unfoldable pub snooped_of : Snooped → ℕ
snooped_of Clear = 0
snooped_of Retry = 1
snooped_of Failed = 2

-- ---- registers and array are one and the same

abbrev words_from : ℕ → ℕ → List ℕ → List ℕ
words_from i zero xs = []
words_from i (suc n) xs = at xs i ∷ words_from (suc i) n xs

from_next : (i n x : ℕ) (xs : List ℕ) → words_from (suc i) n (x ∷ xs) ≡ words_from i n xs
from_next i zero x xs = refl
from_next i (suc n) x xs = ap (λ (ys : List ℕ). at xs i ∷ ys) (from_next (suc i) n x xs)

-- a list is its words in a row
pub in_a_row : (n : ℕ) (xs : List ℕ) → length xs ≡ n → words_from 0 n xs ≡ xs
in_a_row zero [] e = refl
in_a_row zero (x ∷ xs) e = absurd (suc-ne-zero _ e)
in_a_row (suc n) [] e = absurd (suc-ne-zero _ (sym e))
in_a_row (suc n) (x ∷ xs) e = ap (λ (ys : List ℕ). x ∷ ys) (from_next 0 n x xs ∙ in_a_row n xs (suc_inj e))

pub unit_kept : (unit : List ℕ) → length unit ≡ 16 → unit_of (registers_of unit) ≡ unit
unfolding unit_of registers_of
unit_kept unit e = in_a_row 16 unit e

abbrev with_ports : Registers → List ℕ → Registers
with_ports u ports = record { idr = u.idr; scr = u.scr; ssr = u.ssr; sar = u.sar; sctr = u.sctr; sapr = u.sapr; uapr = u.uapr; pointer = u.pointer; ports = ports }

pub registers_kept : (u : Registers) → length u.ports ≡ 8 → registers_of (unit_of u) ≡ u
unfolding unit_of registers_of
registers_kept u e = ap (with_ports u) (in_a_row 8 u.ports e)

-- the ports are the last eight words
pub ports_kept : (unit : List ℕ) → length unit ≡ 16 → take 8 (drop 8 unit) ≡ (registers_of unit).ports
unfolding registers_of
ports_kept unit e = sym (ap (λ (xs : List ℕ). take 8 (drop 8 xs)) (in_a_row 16 unit e))
