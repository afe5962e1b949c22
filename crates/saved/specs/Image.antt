-- The saved image, edition 1: five tagged fields in a row, 22,039 bytes.
use Rattle.std.specs.Prelude.{ℕ, List, [], ◌∷◌, ◌++◌, ltb, length, drop}
use Rattle.words.specs.Words.{pick}
use Rattle.fields.specs.Fields.{bytes_of, word_at, words_at, field_of, row_of}
use Rattle.state.specs.declared.Registers.{Registers}
use Rattle.state.specs.declared.FaultPair.{FaultPair}
use Rattle.saved.specs.Chip.{Chip, chip, own_of}

-- ---- writing

-- IDR, SCR, SSR, SAR, SCTR, PFSR, PFAR, SAPR, UAPR, PATC pointer
abbrev pub register_words : Registers → FaultPair → List ℕ
register_words u pair =
    u.idr ∷ u.scr ∷ u.ssr ∷ u.sar ∷ u.sctr ∷ pair.status ∷ pair.address ∷ u.sapr ∷ u.uapr ∷ u.pointer ∷ []

-- 1 the registers, 2 the ports, 3 the PATC, 4 the directory, 5 cache data
abbrev pub fields_of : Chip → List (List ℕ)
fields_of c =
    field_of 1 (bytes_of (register_words c.registers c.pair))
    ∷ field_of 2 (bytes_of c.registers.ports)
    ∷ field_of 3 (bytes_of c.patc)
    ∷ field_of 4 (bytes_of c.lines)
    ∷ field_of 5 (bytes_of c.cells)
    ∷ []

-- what is written: the own bits of each word
unfoldable pub image_of : Chip → List ℕ
image_of c = row_of (fields_of (own_of c))

-- 11 where the output is shorter than what is to be written, and nothing changes; bytes past the image stay
pub record Saved : Type 0 where
  pub number : ℕ
  pub out : List ℕ

abbrev pub saved : ℕ → List ℕ → Saved
saved number out = record { number = number; out = out }

unfoldable pub save_of : Chip → List ℕ → Saved
save_of c out = pick (ltb (length out) 22039) (saved 11 out) (saved 0 (image_of c ++ drop 22039 out))

-- ---- reading

abbrev pub registers_at : List ℕ → Registers
registers_at b = record {
  idr = word_at b 3;
  scr = word_at b 7;
  ssr = word_at b 11;
  sar = word_at b 15;
  sctr = word_at b 19;
  sapr = word_at b 31;
  uapr = word_at b 35;
  pointer = word_at b 39;
  ports = words_at b 46 8;
}

abbrev pub pair_at : List ℕ → FaultPair
pair_at b = record { status = word_at b 23; address = word_at b 27 }

-- what an image holds
abbrev pub read_of : List ℕ → Chip
read_of b = chip (registers_at b) (pair_at b) (words_at b 81 112) (words_at b 532 1280) (words_at b 5655 4096)
