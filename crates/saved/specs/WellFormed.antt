-- A well-formed unit: only own bits set, the pointer at most 55, each use code an order, and nothing valid twice.
use Rattle.std.specs.Prelude.{ℕ, ◌+◌, ◌*◌, ◌<◌, ◌≡◌, true}
use Rattle.words.specs.Words.{bits_of}
use Rattle.order.specs.Order.{is_order}
use Rattle.saved.specs.declared.Kind.TheVariants.{Line, Entry}
use Rattle.saved.specs.Chip.{Chip, Sized, Fit, own_of}
use Rattle.saved.specs.Tests.{nth, valid}

-- the tag word of line n of set s, the use code of set s, the page word of entry i
abbrev pub line_of : Chip → ℕ → ℕ → ℕ
line_of c s n = nth c.lines (s * 5 + n)

abbrev pub code_of : Chip → ℕ → ℕ
code_of c s = nth c.lines (s * 5 + 4)

abbrev pub page_of : Chip → ℕ → ℕ
page_of c i = nth c.patc (i * 2)

-- both valid, with one tag
pub record OneTag (a b : ℕ) : Type 0 where
  pub first : valid Line a ≡ true
  pub second : valid Line b ≡ true
  pub tag : bits_of a 31 12 ≡ bits_of b 31 12

-- both valid, with one page and space
pub record OnePage (a b : ℕ) : Type 0 where
  pub first : valid Entry a ≡ true
  pub second : valid Entry b ≡ true
  pub page : bits_of a 31 12 ≡ bits_of b 31 12
  pub space : bits_of a 1 1 ≡ bits_of b 1 1

pub record WellFormed (c : Chip) : Type 0 where
  pub sized : Sized c
  pub fit : Fit c
  -- only own bits are set, and the pointer is at most 55
  pub own : own_of c ≡ c
  pub orders : (s : ℕ) → s < 256 → is_order (code_of c s) ≡ true
  -- no two valid lines of a set with one tag, no two valid PATC entries with one page and space
  pub lines : (s i j : ℕ) → s < 256 → i < 4 → j < 4 → OneTag (line_of c s i) (line_of c s j) → i ≡ j
  pub entries : (i j : ℕ) → i < 56 → j < 56 → OnePage (page_of c i) (page_of c j) → i ≡ j

-- what number 10 is for
pub data Doubles (c : Chip) : Type 0 where
  lines : (s i j : ℕ) → s < 256 → i < j → j < 4 → OneTag (line_of c s i) (line_of c s j) → Doubles c
  entries : (i j : ℕ) → i < j → j < 56 → OnePage (page_of c i) (page_of c j) → Doubles c
