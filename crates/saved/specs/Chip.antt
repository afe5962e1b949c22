-- The whole of one unit, and what of it counts: the own bits of each word.
use Rattle.std.specs.Prelude.{ℕ, suc, ◌%◌, ◌^◌, ◌<◌, List, [], ◌∷◌, ◌≡◌, eqb, ltb, length}
use Rattle.words.specs.Words.{pick}
use Rattle.fields.specs.Fields.{Words}
use Rattle.state.specs.Own.{own_idr, own_scr, own_ssr, own_sctr, own_status, own_area, own_tag, own_frame, own_code, own_pointer}
use Rattle.state.specs.declared.Registers.{Registers}
use Rattle.state.specs.declared.FaultPair.{FaultPair}
use Rattle.saved.specs.declared.Layout.{Layout}
use Rattle.saved.specs.declared.Layout.TheVariants.{Whole, Entries, Sets}

-- registers, the fault pair, 56 pairs of the PATC, 256 sets of the cache's directory, its 4,096 words
pub record Chip : Type 0 where
  pub registers : Registers
  pub pair : FaultPair
  pub patc : List ℕ
  pub lines : List ℕ
  pub cells : List ℕ

abbrev pub chip : Registers → FaultPair → List ℕ → List ℕ → List ℕ → Chip
chip u pair patc lines cells = record { registers = u; pair = pair; patc = patc; lines = lines; cells = cells }

-- eight ports, 56 pairs, 256 sets of five words, 4,096 words of cache data
pub record Sized (c : Chip) : Type 0 where
  pub ports : length c.registers.ports ≡ 8
  pub patc : length c.patc ≡ 112
  pub lines : length c.lines ≡ 1280
  pub cells : length c.cells ≡ 4096

-- SAR, PFAR, the ports and cache data have no unused bits: they are words of 32 bits
pub record Fit (c : Chip) : Type 0 where
  pub sar : c.registers.sar < 2 ^ 32
  pub address : c.pair.address < 2 ^ 32
  pub ports : Words c.registers.ports
  pub cells : Words c.cells

-- the own bits of word i of a list laid out so: whole words; a page word, then its frame word; four tag words, then the use code
unfoldable pub own_word : Layout → ℕ → ℕ → ℕ
own_word Whole i w = w
own_word Entries i w = pick (eqb (i % 2) 0) (own_tag w) (own_frame w)
own_word Sets i w = pick (ltb (i % 5) 4) (own_tag w) (own_code w)

-- .. of the words from number i on
unfoldable pub own_from : Layout → ℕ → List ℕ → List ℕ
own_from layout i [] = []
own_from layout i (w ∷ ws) = own_word layout i w ∷ own_from layout (suc i) ws

abbrev pub own_words : Layout → List ℕ → List ℕ
own_words layout ws = own_from layout 0 ws

unfoldable pub own_registers : Registers → Registers
own_registers u = record {
  idr = own_idr u.idr;
  scr = own_scr u.scr;
  ssr = own_ssr u.ssr;
  sar = u.sar;
  sctr = own_sctr u.sctr;
  sapr = own_area u.sapr;
  uapr = own_area u.uapr;
  pointer = own_pointer u.pointer;
  ports = u.ports;
}

unfoldable pub own_pair : FaultPair → FaultPair
own_pair pair = record { status = own_status pair.status; address = pair.address }

-- only own bits count, and a pointer over 55 counts as 0
abbrev pub own_of : Chip → Chip
own_of c = chip (own_registers c.registers) (own_pair c.pair) (own_words Entries c.patc) (own_words Sets c.lines) c.cells
