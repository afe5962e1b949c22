-- Laws of a word's bytes.
use Rattle.std.specs.Prelude.{ℕ, ◌/◌, ◌%◌, ◌^◌, ◌<◌, ◌≡◌, refl, Bool, true, false, ◌&&◌, ◌||◌}
use Rattle.std.proofs.Common.{sym, ap, ◌∙◌, arith, shr-shr}
use Rattle.words.specs.Words.{pick, byte_of, lane_of, join_of, merge_of}

-- what holds of both choices, each where its test came out so, holds of the one picked
pub either {ℓ} : {A : Type ℓ} (P : A → Type 0) (b : Bool) {x y : A} → (b ≡ true → P x) → (b ≡ false → P y) → P (pick b x y)
either P true p q = p refl
either P false p q = q refl

-- two tests that pass together are one
pub both_ways : (a b : Bool) → (a ≡ true → b ≡ true) → (b ≡ true → a ≡ true) → a ≡ b
both_ways true b f g = sym (f refl)
both_ways false true f g = g refl
both_ways false false f g = refl

-- a test that cannot pass fails
pub ruled_out : (b : Bool) → (b ≡ true → ⊥) → b ≡ false
ruled_out true f = absurd (f refl)
ruled_out false f = refl

-- both parts of a test that both parts pass
pub and_left : (a b : Bool) → (a && b) ≡ true → a ≡ true
and_left true b e = refl
and_left false b e = e

pub and_right : (a b : Bool) → (a && b) ≡ true → b ≡ true
and_right true b e = e
and_right false true e = refl
and_right false false e = e

-- neither part of a test that one part would pass
pub or_left : (a b : Bool) → (a || b) ≡ false → a ≡ false
or_left true b e = e
or_left false b e = refl

pub or_right : (a b : Bool) → (a || b) ≡ false → b ≡ false
or_right true true e = e
or_right true false e = refl
or_right false b e = e

digits : (w a b c : ℕ) → a ≡ w / 256 → b ≡ a / 256 → c ≡ b / 256 → c < 256 → join_of (c % 256) (b % 256) (a % 256) (w % 256) ≡ w
digits w a b c ha hb hc small = omega arith

-- a word is the word of its bytes
pub join_bytes : (w : ℕ) → w < 2 ^ 32 → join_of (byte_of w 3) (byte_of w 2) (byte_of w 1) (byte_of w 0) ≡ w
join_bytes w h = ap (join_of _ _ _) (omega arith) ∙ digits w (w / 2 ^ 8) (w / 2 ^ 16) (w / 2 ^ 24) refl (sym (shr-shr w 8 8)) (sym (shr-shr w 16 8)) (omega arith)

-- .. and the bytes of the word of four bytes are these
pub byte_joins : (a b c d : ℕ) → a < 256 → b < 256 → c < 256 → d < 256
    → (byte_of (join_of a b c d) 3 ≡ a) × (byte_of (join_of a b c d) 2 ≡ b) × (byte_of (join_of a b c d) 1 ≡ c) × (byte_of (join_of a b c d) 0 ≡ d)
byte_joins a b c d ha hb hc hd = (omega arith, omega arith, omega arith, omega arith)

pub join_small : (a b c d : ℕ) → a < 256 → b < 256 → c < 256 → d < 256 → join_of a b c d < 2 ^ 32
join_small a b c d ha hb hc hd = omega arith

-- all four bytes enabled: the new word
pub merge_all : (old new : ℕ) → new < 2 ^ 32 → merge_of 15 old new ≡ new
unfolding merge_of
merge_all old new h = join_bytes new h

-- none enabled: the old word
pub merge_none : (old new : ℕ) → old < 2 ^ 32 → merge_of 0 old new ≡ old
unfolding merge_of
merge_none old new h = join_bytes old h

byte_small : (w n : ℕ) → byte_of w n < 256
byte_small w n = omega arith

pick_small : (b : Bool) (x y : ℕ) → x < 256 → y < 256 → pick b x y < 256
pick_small true x y p q = p
pick_small false x y p q = q

lane_small : (enables old new n : ℕ) → lane_of enables old new n < 256
lane_small enables old new n = pick_small _ _ _ (byte_small new n) (byte_small old n)

-- a merged word is a word
pub merge_small : (enables old new : ℕ) → merge_of enables old new < 2 ^ 32
unfolding merge_of
merge_small enables old new =
    join_small _ _ _ _ (lane_small enables old new 3) (lane_small enables old new 2) (lane_small enables old new 1) (lane_small enables old new 0)
