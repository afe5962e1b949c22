-- An access that only touches a line of the cache, told from the words of a unit, and what it leaves.
use Rattle.std.specs.Prelude.{ℕ, Bool, not, ◌&&◌, List, [], ◌∷◌, eqb, leb}
use Rattle.words.specs.Words.{pick, bit_of, keep_of}
use Rattle.lines.specs.Lines.{marked, used_at}
use Rattle.cells.specs.Cells.{word_at, merged_at}
use Rattle.hits.specs.declared.Hit.{Hit}
use Rattle.hits.specs.Hits.{no_hit, look_of}
use Rattle.layout.specs.Layout.{at, registers_of}

-- an access that is neither idle nor locked, outside control space
abbrev pub plain_access : ℕ → ℕ → ℕ → Bool
plain_access address kind enables = not (eqb enables 0) && not (bit_of kind 5) && not (bit_of kind 7 && leb 0xFFF00000 address)

abbrev pub area_at : List ℕ → Bool → ℕ
area_at unit s = pick s (at unit 5) (at unit 6)

unfoldable pub quick_of : List ℕ → List ℕ → List ℕ → ℕ → ℕ → ℕ → Hit
quick_of unit ps ls address kind enables =
    pick (not (plain_access address kind enables)) no_hit (look_of ls (area_at unit (bit_of kind 7)) (registers_of unit).ports ps address (bit_of kind 7) (bit_of kind 6))

-- a reply without a transaction: its case and its value
unfoldable pub plain_reply : ℕ → ℕ → List ℕ
plain_reply case value = case ∷ value ∷ 0 ∷ 0 ∷ 0 ∷ 0 ∷ 0 ∷ 0 ∷ 0 ∷ 0 ∷ 0 ∷ 0 ∷ 0 ∷ 0 ∷ 0 ∷ 0 ∷ 0 ∷ 0 ∷ 0 ∷ 0 ∷ 0 ∷ 0 ∷ 0 ∷ 0 ∷ []

-- to a word that was read, and to one that was written
abbrev pub word_reply : ℕ → List ℕ
word_reply w = plain_reply 1 w

abbrev pub written_reply : List ℕ
written_reply = plain_reply 2 0

-- what a hit leaves: the line read or written, and used; the reply
abbrev pub lines_after : Bool → List ℕ → Hit → List ℕ
lines_after write ls h = pick write (used_at (marked ls h.place 1) h.place) (used_at ls h.place)

abbrev pub cells_after : Bool → List ℕ → Hit → ℕ → ℕ → List ℕ
cells_after write cs h enables word = pick write (merged_at cs h.place h.address enables word) cs

abbrev pub reply_after : Bool → List ℕ → Hit → ℕ → List ℕ
reply_after write cs h enables = pick write written_reply (word_reply (keep_of enables (word_at cs h.place h.address)))
