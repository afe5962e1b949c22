-- From logical to physical, points 3 to 6, and the end of a search.
use Rattle.std.specs.Prelude.{ℕ, Bool, not, ◌&&◌, List, Option, Some, None, Result, Ok, Err, eqb, ltb}
use Rattle.words.specs.Words.{pick, bit_of}
use Rattle.state.specs.declared.Fault.{Fault}
use Rattle.pages.specs.declared.Translation.{Translation}
use Rattle.lookup.specs.declared.Place.{Place as ThePlace}
use Rattle.lookup.specs.declared.Place.TheVariants.{Unmapped as AnUnmapped, Block as ABlock, Page as APage}
use Rattle.lookup.specs.declared.Lookup.{Lookup as TheLookup}
use Rattle.lookup.specs.declared.Lookup.TheVariants.{Found as AFound, Search as ASearch}
use Rattle.lookup.specs.declared.Walked.{Walked as TheWalked}
use Rattle.lookup.specs.declared.Walked.TheVariants.{Update as AnUpdate, Complete as AComplete}
use Rattle.pages.specs.Pages.{unmapped_of, port_of, block_of, paged_of, protection_of, combined_of, stale_of, described_of, renewed_of}
use Rattle.patc.specs.Patc.{frame_word, entry_of}

-- where a translation was found; a page's has the number of its entry
pub data Place : Type 0 where
  Unmapped : Translation → Place
  Block : Translation → Place
  Page : ℕ → Translation → Place
  Nowhere : Place

-- what an access does next: go on, end in a fault, or search and renew an entry
pub data Lookup : Type 0 where
  Found : Translation → Lookup
  Violation : Fault → Lookup
  Search : ℕ → Lookup

-- what a search does once both descriptors are read
pub data Walked : Type 0 where
  Barred : Fault → Walked
  Update : Translation → ℕ → Walked
  Complete : Translation → Walked

-- the same, of a place or none, of a lookup or a fault, and of the end of a search or a fault
abbrev pub placed : Option ThePlace → Place
placed (Some (AnUnmapped t)) = Unmapped t
placed (Some (ABlock t)) = Block t
placed (Some (APage n t)) = Page n t
placed None = Nowhere

abbrev pub judged : Result TheLookup Fault → Lookup
judged (Ok (AFound t)) = Found t
judged (Ok (ASearch n)) = Search n
judged (Err fault) = Violation fault

abbrev pub finished : Result TheWalked Fault → Walked
finished (Ok (AnUpdate t descriptor)) = Update t descriptor
finished (Ok (AComplete t)) = Complete t
finished (Err fault) = Barred fault

-- TE clear for the access's space: unmapped; then BATC; then PATC
unfoldable pub place_of : ℕ → List ℕ → List ℕ → ℕ → Bool → Place
place_of area ports ps address s =
    pick (not (bit_of area 0))
    (Unmapped (unmapped_of area address))
    (pick (bit_of (port_of ports address s) 0)
    (Block (block_of (port_of ports address s) address))
    (pick (ltb (entry_of ps address s) 56) (Page (entry_of ps address s) (paged_of (frame_word ps (entry_of ps address s)) address)) Nowhere))

-- a violation's address is the translated one
abbrev pub violation_of : ℕ → Translation → Fault
violation_of code t = record { code = code; address = t.address }

-- may an access use a translation? if not, in which fault does it end?
unfoldable pub permit_of : Translation → Bool → Bool → Result (Unit {0}) Fault
permit_of t s write = pick (eqb (protection_of t s write) 0) (Ok tt) (Err (violation_of (protection_of t s write) t))

unfoldable pub guarded_of : Translation → Bool → Bool → Lookup
guarded_of t s write = pick (eqb (protection_of t s write) 0) (Found t) (Violation (violation_of (protection_of t s write) t))

-- a write that hits with M clear searches again and renews that entry
unfoldable pub entered_of : ℕ → Translation → Bool → Bool → Lookup
entered_of n t s write =
    pick (eqb (protection_of t s write) 0) (pick (write && not t.m) (Search n) (Found t)) (Violation (violation_of (protection_of t s write) t))

-- otherwise search; 56 stands for no entry to renew
abbrev pub judge_of : Place → Bool → Bool → Lookup
judge_of (Unmapped t) s write = Found t
judge_of (Block t) s write = guarded_of t s write
judge_of (Page n t) s write = entered_of n t s write
judge_of Nowhere s write = Search 56

-- protection, then the update of U and M, and only then an entry
abbrev pub completed_of : Translation → ℕ → Bool → Bool → Walked
completed_of t page s write =
    pick (eqb (protection_of t s write) 0)
    (pick (stale_of t write) (Update (renewed_of t write) (described_of page write)) (Complete t))
    (Barred (violation_of (protection_of t s write) t))

unfoldable pub walked_of : ℕ → ℕ → ℕ → ℕ → Bool → Bool → Walked
walked_of area segment page address s write = completed_of (combined_of area segment page address) page s write
