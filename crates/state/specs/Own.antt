-- The own bits of each word, as document 01 lists its fields.
use Rattle.std.specs.Prelude.{ℕ, ◌+◌, ◌*◌, ◌<◌, ◌≤◌, ◌≡◌, leb}
use Rattle.std.proofs.Common.{arith, le-leb, leb-true}
use Rattle.words.specs.Words.{pick, bits_of}
use Rattle.words.specs.Laws.{either}

-- IDR: unit number, type and version
unfoldable pub own_idr : ℕ → ℕ
own_idr w = bits_of w 31 16 * 65536

-- SCR: bits 5-0
unfoldable pub own_scr : ℕ → ℕ
own_scr w = bits_of w 5 0

-- SSR: CE, BE; WT, SP, G, CI; M, U, WP, BH, V
unfoldable pub own_ssr : ℕ → ℕ
own_ssr w = bits_of w 15 14 * 16384 + bits_of w 9 6 * 64 + bits_of w 4 0

-- SCTR: PE, SE, PR
unfoldable pub own_sctr : ℕ → ℕ
own_sctr w = bits_of w 15 13 * 8192

-- PFSR: the code
unfoldable pub own_status : ℕ → ℕ
own_status w = bits_of w 18 16 * 65536

-- SAPR and UAPR: table base; WT; G, CI; TE
unfoldable pub own_area : ℕ → ℕ
own_area w = bits_of w 31 12 * 4096 + bits_of w 9 9 * 512 + bits_of w 7 6 * 64 + bits_of w 0 0

-- a line's tag word: the tag and VV. A PATC page word: the page, S and V
unfoldable pub own_tag : ℕ → ℕ
own_tag w = bits_of w 31 12 * 4096 + bits_of w 1 0

-- a PATC frame word: the frame; WT, SP, G, CI; M; WP
unfoldable pub own_frame : ℕ → ℕ
own_frame w = bits_of w 31 12 * 4096 + bits_of w 9 6 * 64 + bits_of w 4 4 * 16 + bits_of w 2 2 * 4

-- a use code: bits 5-0
unfoldable pub own_code : ℕ → ℕ
own_code w = bits_of w 5 0

-- a pointer over 55 counts as 0
unfoldable pub own_pointer : ℕ → ℕ
own_pointer w = pick (leb w 55) w 0

-- own bits are kept: taking them twice is taking them once

pub own_idr_lem : (w : ℕ) → own_idr (own_idr w) ≡ own_idr w
unfolding own_idr
own_idr_lem w = omega arith

pub own_scr_lem : (w : ℕ) → own_scr (own_scr w) ≡ own_scr w
unfolding own_scr
own_scr_lem w = omega arith

-- a status word of its fields has only own bits
pub ssr_fields : (a b c : ℕ) → a < 4 → b < 16 → c < 32 → own_ssr (a * 16384 + b * 64 + c) ≡ a * 16384 + b * 64 + c
unfolding own_ssr
ssr_fields a b c ha hb hc =
    let p : bits_of (a * 16384 + b * 64 + c) 15 14 ≡ a = omega arith in
    let q : bits_of (a * 16384 + b * 64 + c) 9 6 ≡ b = omega arith in
    let r : bits_of (a * 16384 + b * 64 + c) 4 0 ≡ c = omega arith in
    rw (p, q, r)

pub own_ssr_lem : (w : ℕ) → own_ssr (own_ssr w) ≡ own_ssr w
unfolding own_ssr
own_ssr_lem w = ssr_fields (bits_of w 15 14) (bits_of w 9 6) (bits_of w 4 0) (omega arith) (omega arith) (omega arith)

pub own_sctr_lem : (w : ℕ) → own_sctr (own_sctr w) ≡ own_sctr w
unfolding own_sctr
own_sctr_lem w = omega arith

pub own_status_lem : (w : ℕ) → own_status (own_status w) ≡ own_status w
unfolding own_status
own_status_lem w = omega arith

pub own_area_lem : (w : ℕ) → own_area (own_area w) ≡ own_area w
unfolding own_area
own_area_lem w = fields (bits_of w 31 12) (bits_of w 9 9) (bits_of w 7 6) (bits_of w 0 0) (omega arith) (omega arith) (omega arith) (omega arith)
  where
    fields : (a b c d : ℕ) → a < 1048576 → b < 2 → c < 4 → d < 2 → own_area (a * 4096 + b * 512 + c * 64 + d) ≡ a * 4096 + b * 512 + c * 64 + d
    fields a b c d ha hb hc hd =
        let n : ℕ = a * 4096 + b * 512 + c * 64 + d in
        let p : bits_of n 31 12 ≡ a = omega arith in
        let q : bits_of n 9 9 ≡ b = omega arith in
        let r : bits_of n 7 6 ≡ c = omega arith in
        let t : bits_of n 0 0 ≡ d = omega arith in
        rw (p, q, r, t)

-- a tag word of a tag and a state, or a page word, has only own bits
pub tag_fields : (a b : ℕ) → a < 1048576 → b < 4 → own_tag (a * 4096 + b) ≡ a * 4096 + b
unfolding own_tag
tag_fields a b ha hb = omega arith

pub own_tag_lem : (w : ℕ) → own_tag (own_tag w) ≡ own_tag w
unfolding own_tag
own_tag_lem w = tag_fields (bits_of w 31 12) (bits_of w 1 0) (omega arith) (omega arith)

-- a frame word of its fields has only own bits
pub frame_fields : (a b c d : ℕ) → a < 1048576 → b < 16 → c < 2 → d < 2 → own_frame (a * 4096 + b * 64 + c * 16 + d * 4) ≡ a * 4096 + b * 64 + c * 16 + d * 4
unfolding own_frame
frame_fields a b c d ha hb hc hd =
    let n : ℕ = a * 4096 + b * 64 + c * 16 + d * 4 in
    let p : bits_of n 31 12 ≡ a = omega arith in
    let q : bits_of n 9 6 ≡ b = omega arith in
    let r : bits_of n 4 4 ≡ c = omega arith in
    let t : bits_of n 2 2 ≡ d = omega arith in
    rw (p, q, r, t)

pub own_frame_lem : (w : ℕ) → own_frame (own_frame w) ≡ own_frame w
unfolding own_frame
own_frame_lem w = frame_fields (bits_of w 31 12) (bits_of w 9 6) (bits_of w 4 4) (bits_of w 2 2) (omega arith) (omega arith) (omega arith) (omega arith)

pub own_code_lem : (w : ℕ) → own_code (own_code w) ≡ own_code w
unfolding own_code
own_code_lem w = omega arith

-- the counted pointer is at most 55, and is its own
pub pointer_small : (w : ℕ) → own_pointer w ≤ 55
unfolding own_pointer
pointer_small w = either (λ p. p ≤ 55) (leb w 55) (λ e. leb-true _ _ e) (λ _. omega arith)

pub pointer_own : (w : ℕ) → w ≤ 55 → own_pointer w ≡ w
unfolding own_pointer
pointer_own w h = rw (le-leb _ _ h)

pub own_pointer_lem : (w : ℕ) → own_pointer (own_pointer w) ≡ own_pointer w
own_pointer_lem w = pointer_own _ (pointer_small w)
