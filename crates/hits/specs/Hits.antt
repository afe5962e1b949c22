-- An access that only touches a line of the cache: its way there by the area pointer, a port or an entry, and the line that it hits.
use Rattle.std.specs.Prelude.{ℕ, Bool, true, false, not, ◌&&◌, ◌||◌, List, Option, Some, None, Result, Ok, Err, eqb, ltb}
use Rattle.words.specs.Words.{pick, bit_of}
use Rattle.lines.specs.Lines.{state_of, tag_word, hit_of}
use Rattle.pages.specs.declared.Translation.{Translation}
use Rattle.pages.specs.Pages.{unmapped_of, port_of, block_of, paged_of, protection_of}
use Rattle.patc.specs.Patc.{frame_word, entry_of}
use Rattle.hits.specs.declared.Hit.{Hit}

-- the way of an access to the cache: its physical address, whether it may touch a line alone, and whether its page is global
pub record Way : Type 0 where
  pub address : ℕ
  pub clear : Bool
  pub g : Bool

-- a way that is clear, and none otherwise
abbrev pub clear_way : Way → Option Way
clear_way w = pick w.clear (Some w) None

-- the clear way of a translation, if there is one
abbrev pub way_by : Translation → Way
way_by t = record { address = t.address; clear = true; g = t.g }

abbrev pub way_in : Option Translation → Option Way
way_in None = None
way_in (Some t) = Some (way_by t)

-- neither inhibited nor barred, nor a write through the cache
abbrev pub clear_for : Translation → Bool → Bool → Bool
clear_for t s write = not (t.ci || (write && t.wt)) && eqb (protection_of t s write) 0

unfoldable pub way_of : Translation → Bool → Bool → Way
way_of t s write = record { address = t.address; clear = clear_for t s write; g = t.g }

-- .. by an entry: nor a write that finds M clear
unfoldable pub page_way_of : Translation → Bool → Bool → Way
page_way_of t s write = record { address = t.address; clear = clear_for t s write && not (write && not t.m); g = t.g }

abbrev pub no_way : Way
no_way = record { address = 0; clear = false; g = false }

-- TE clear for the access's space: unmapped; then BATC; then PATC
unfoldable pub found_of : ℕ → List ℕ → List ℕ → ℕ → Bool → Bool → Way
found_of area ports ps address s write =
    pick (not (bit_of area 0))
    (way_of (unmapped_of area address) s write)
    (pick (bit_of (port_of ports address s) 0)
    (way_of (block_of (port_of ports address s) address) s write)
    (pick (ltb (entry_of ps address s) 56) (page_way_of (paged_of (frame_word ps (entry_of ps address s)) address) s write) no_way))

-- a write touches the line only, unless it is a shared one of a global page
unfoldable pub kept_of : List ℕ → Bool → ℕ → Bool
kept_of ls g p = pick (ltb p 1024) (not (g && eqb (state_of (tag_word ls p)) 2)) false

abbrev pub no_hit : Hit
no_hit = record { place = 1024; address = 0 }

abbrev pub line_at : List ℕ → ℕ → Hit
line_at ls address = record { place = hit_of ls address; address = address }

-- what the code answers: a hit at a place of the directory, or the address beside none
abbrev pub hit_in : Result Hit ℕ → Hit
hit_in (Ok h) = h
hit_in (Err address) = record { place = 1024; address = address }

unfoldable pub hit_by : List ℕ → Way → Bool → Hit
hit_by ls w write =
    pick (not w.clear) no_hit (pick (write && not (kept_of ls w.g (hit_of ls w.address))) no_hit (line_at ls w.address))

unfoldable pub look_of : List ℕ → ℕ → List ℕ → List ℕ → ℕ → Bool → Bool → Hit
look_of ls area ports ps address s write = hit_by ls (found_of area ports ps address s write) write
