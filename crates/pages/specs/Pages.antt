-- From logical to physical, points 3 to 6: translations by the area pointer, by a port, by an entry, and by a segment and a page descriptor.
use Rattle.std.specs.Prelude.{ℕ, ◌+◌, ◌*◌, ◌/◌, ◌%◌, Bool, true, false, not, ◌&&◌, ◌||◌, List, [], ◌∷◌, Option, Some, None, Result, Ok, Err, eqb}
use Rattle.std.specs.Bool.{beq}
use Rattle.words.specs.Words.{pick, bits_of, bit_of, flag_of}
use Rattle.pages.specs.declared.Translation.{Translation}
use Rattle.pages.specs.declared.Violation.{Violation}
use Rattle.pages.specs.declared.Violation.TheVariants.{Supervisor, Write}

-- are two tests alike?
abbrev pub same : Bool → Bool → Bool
same a b = beq a b

-- TE clear: the address stays as it is, with the area pointer's WT, G, CI
unfoldable pub unmapped_of : ℕ → ℕ → Translation
unmapped_of area address = record { address = address; wt = bit_of area 9; sp = false; g = bit_of area 7; ci = bit_of area 6; m = false; u = false; wp = false }

-- BATC: valid, S equal to the access, bits 31-19 equal
unfoldable pub port_hits : ℕ → ℕ → Bool → Bool
port_hits port address s = bit_of port 0 && same (bit_of port 5) s && eqb (bits_of port 31 19) (bits_of address 31 19)

-- the three tests at once: a port's block, S and V, and those that an address asks for
unfoldable pub port_key : ℕ → ℕ
port_key port = bits_of port 31 19 * 524288 + bits_of port 5 5 * 32 + bits_of port 0 0

unfoldable pub block_key : ℕ → Bool → ℕ
block_key address s = bits_of address 31 19 * 524288 + flag_of s 32 + 1

-- lowest port first; 0, which is not valid, stands for none
unfoldable pub port_of : List ℕ → ℕ → Bool → ℕ
port_of [] address s = 0
port_of (port ∷ ports) address s = pick (port_hits port address s) port (port_of ports address s)

-- a port that is valid, and none otherwise
abbrev pub valid_port : ℕ → Option ℕ
valid_port port = pick (bit_of port 0) (Some port) None

-- BATC word: bits 18-6 physical block, WT 4, G 3, CI 2, WP 1
unfoldable pub block_of : ℕ → ℕ → Translation
block_of port address =
    record {
      address = bits_of port 18 6 * 524288 + bits_of address 18 0;
      wt = bit_of port 4;
      sp = false;
      g = bit_of port 3;
      ci = bit_of port 2;
      m = false;
      u = false;
      wp = bit_of port 1;
    }

-- PATC: the frame with WT, SP, G, CI, M, WP as in a page descriptor; a hit has U set
unfoldable pub paged_of : ℕ → ℕ → Translation
paged_of frame address =
    record {
      address = bits_of frame 31 12 * 4096 + bits_of address 11 0;
      wt = bit_of frame 9;
      sp = bit_of frame 8;
      g = bit_of frame 7;
      ci = bit_of frame 6;
      m = bit_of frame 4;
      u = true;
      wp = bit_of frame 2;
    }

-- user with SP is fault 6, then a write with WP is fault 7; 0 for none
unfoldable pub protection_of : Translation → Bool → Bool → ℕ
protection_of t s write = pick (t.sp && not s) 6 (pick (t.wp && write) 7 0)

-- the same number, for a violation by its name
abbrev pub violation_code : Violation → ℕ
violation_code Supervisor = 6
violation_code Write = 7

-- .. and for what a test of the protection answers
abbrev pub protection_code : Result (Unit {0}) Violation → ℕ
protection_code (Ok x) = 0
protection_code (Err v) = violation_code v

-- the segment descriptor at base + 4 x bits 31-22, then the page descriptor at base + 4 x bits 21-12
unfoldable pub segment_at : ℕ → ℕ → ℕ
segment_at area address = bits_of area 31 12 * 4096 + bits_of address 31 22 * 4

unfoldable pub page_at : ℕ → ℕ → ℕ
page_at segment address = bits_of segment 31 12 * 4096 + bits_of address 21 12 * 4

-- SP and WP are ORed over both, WT, G and CI over area, segment and page
unfoldable pub combined_of : ℕ → ℕ → ℕ → ℕ → Translation
combined_of area segment page address =
    record {
      address = bits_of page 31 12 * 4096 + bits_of address 11 0;
      wt = bit_of area 9 || bit_of segment 9 || bit_of page 9;
      sp = bit_of segment 8 || bit_of page 8;
      g = bit_of area 7 || bit_of segment 7 || bit_of page 7;
      ci = bit_of area 6 || bit_of segment 6 || bit_of page 6;
      m = bit_of page 4;
      u = bit_of page 3;
      wp = bit_of segment 2 || bit_of page 2;
    }

-- U is clear, or a write finds M clear
unfoldable pub stale_of : Translation → Bool → Bool
stale_of t write = not t.u || (write && not t.m)

-- the page descriptor is written back with U set, and M set for a write
unfoldable pub described_of : ℕ → Bool → ℕ
described_of page write = pick write (with_m (with_u page)) (with_u page)
  where
    with_u : ℕ → ℕ
    with_u w = w / 16 * 16 + 8 + w % 8

    with_m : ℕ → ℕ
    with_m w = w / 32 * 32 + 16 + w % 16

-- .. and the translation as it now stands
unfoldable pub renewed_of : Translation → Bool → Translation
renewed_of t write = record { address = t.address; wt = t.wt; sp = t.sp; g = t.g; ci = t.ci; m = t.m || write; u = true; wp = t.wp }

-- an entry's words: page with S at bit 1 and V at bit 0, then frame with WT, SP, G, CI, M, WP
unfoldable pub page_word_of : ℕ → Bool → ℕ
page_word_of address s = bits_of address 31 12 * 4096 + flag_of s 2 + 1

unfoldable pub frame_word_of : Translation → ℕ
frame_word_of t =
    bits_of t.address 31 12 * 4096 + flag_of t.wt 512 + flag_of t.sp 256 + flag_of t.g 128 + flag_of t.ci 64 + flag_of t.m 16 + flag_of t.wp 4
