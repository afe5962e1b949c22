-- Document 01's twelve rows: one table, shown to follow from the definitions by a single proof.
use Rattle.std.specs.Prelude.{ℕ, ◌≡◌, refl, Bool, true, false, List, [], ◌∷◌, replicate}
use Rattle.words.specs.Words.{pick, merge_of, keep_of}
use Rattle.order.specs.Order.{used_of, earliest_of}
use Rattle.memory.specs.Memory.{read_of}
use Rattle.state.specs.declared.Access.{Access}
use Rattle.state.specs.Outcome.{case_of, value_of}
use Rattle.state.specs.Own.{own_idr}
use Rattle.state.specs.Reset.{reset_of, no_fault}
use Rattle.lines.specs.Lines.{set_of, victim_of}
use Rattle.cells.specs.Cells.{cell_of}
use Rattle.pages.specs.Pages.{segment_at, page_at, port_hits, port_of, block_of, combined_of, protection_of}
use Rattle.registers.specs.Registers.{read_of as register_of}
use Rattle.answers.specs.Answers.{plain_of, failed_of}
use Rattle.control.specs.Control.{control_of}
use Rattle.unit.specs.Unit.{access_of}

-- a row: its number in document 01, what the definitions give, and what document 01 says
pub record Row : Type 0 where
  pub number : ℕ
  pub gives : ℕ
  pub says : ℕ

abbrev row : ℕ → ℕ → ℕ → Row
row number gives says = record { number = number; gives = gives; says = says }

-- a test as a number
abbrev told : Bool → ℕ
told b = pick b 1 0

-- a supervisor's read of a whole word at an address, by a unit that was just reset to number 127; nothing is lent
abbrev read127 : ℕ → Access
read127 address = record { address = address; supervisor = true; write = false; lock = false; enables = 15; word = 0 }

abbrev case_at : ℕ → ℕ
case_at address = case_of (access_of (reset_of 127) no_fault [] [] [] [] [] (read127 address)).accessed.answer.outcome

abbrev value_at : ℕ → ℕ
value_at address = value_of (access_of (reset_of 127) no_fault [] [] [] [] [] (read127 address)).accessed.answer.outcome

-- a set's directory: four valid lines and a use code
abbrev full_set : ℕ → List ℕ
full_set code = 0x0000 ∷ 0x1000 ∷ 0x2000 ∷ 0x3000 ∷ code ∷ []

pub table : List Row
table =
    -- SAPR base 00004000, address 00C05124: segment descriptor at 0000400C
    row 1 (segment_at 0x4001 0xC05124) 0x400C
    -- page table 00006000: page descriptor at 00006014
    ∷ row 2 (page_at 0x6001 0xC05124) 0x6014
    -- frame 0000A000: physical 0000A124, set 18, word 1
    ∷ row 3 (combined_of 0x4001 0x6001 0xA001 0xC05124).address 0xA124
    ∷ row 3 (set_of 0xA124) 18
    ∷ row 3 (cell_of 0xA124) 1
    -- port 00080089: user 00081230 becomes 00101230
    ∷ row 4 (block_of (port_of (0x80089 ∷ []) 0x81230 false) 0x81230).address 0x101230
    -- the same, supervisor: no BATC hit
    ∷ row 5 (told (port_hits 0x80089 0x81230 true)) 0
    ∷ row 5 (port_of (0x80089 ∷ []) 0x81230 true) 0
    -- unit 127: registers at FFF7F000. Its IDR is read there; a page lower, fault 3
    ∷ row 6 (case_at 0xFFF7F000) 1
    ∷ row 6 (value_at 0xFFF7F000) 0x7FA00000
    ∷ row 6 (case_at 0xFFF7E000) 3
    ∷ row 6 (value_at 0xFFF7E000) 3
    -- code 63, line 1 used: 43
    ∷ row 7 (used_of 63 1) 43
    -- code 43, all valid: victim 0
    ∷ row 8 (victim_of (full_set 43) 0x4000) 0
    -- old 11223344, data AABBCCDD, enables 6: 11BBCC44
    ∷ row 9 (merge_of 6 0x11223344 0xAABBCCDD) 0x11BBCC44
    -- word 11223344 read with enables 8: 11000000
    ∷ row 10 (keep_of 8 0x11223344) 0x11000000
    -- RAM of 16 words: 0000003C read, 00000040 bus error
    ∷ row 11 (told (read_of (replicate 16 7) [] 0x3C).moved.ok) 1
    ∷ row 11 (read_of (replicate 16 7) [] 0x3C).word 7
    ∷ row 11 (told (read_of (replicate 16 7) [] 0x40).moved.ok) 0
    ∷ row 11 (read_of (replicate 16 7) [] 0x40).moved.failing 0x40
    -- WP in the segment only: a write is fault 7
    ∷ row 12 (protection_of (combined_of 0x4001 0x6005 0xA009 0xC05124) true true) 7
    ∷ []

abbrev gives : List Row → List ℕ
gives [] = []
gives (r ∷ rs) = r.gives ∷ gives rs

abbrev says : List Row → List ℕ
says [] = []
says (r ∷ rs) = r.says ∷ says rs

-- every row holds
pub rows : gives table ≡ says table
unfolding table segment_at page_at port_hits port_of block_of combined_of protection_of reset_of own_idr register_of plain_of failed_of control_of access_of used_of earliest_of victim_of merge_of read_of
rows = refl
