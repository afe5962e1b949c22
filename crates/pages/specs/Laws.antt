-- Laws of translations: the key of a port, and that the words of an entry have only own bits.
use Rattle.std.specs.Prelude.{ℕ, zero, suc, ◌+◌, ◌*◌, ◌<◌, ◌≡◌, Bool, true, false, ◌&&◌, List, [], ◌∷◌, Option, Some, None, find, if◌then◌else◌, eqb}
use Rattle.std.proofs.Common.{refl, arith, eq-eqb, ne_eqb, eqb-true}
use Rattle.words.specs.Words.{pick, bits_of, bit_of, flag_of}
use Rattle.words.specs.Laws.{both_ways, and_left}
use Rattle.state.specs.Own.{own_tag, own_frame, tag_fields, frame_fields}
use Rattle.pages.specs.declared.Translation.{Translation}
use Rattle.pages.specs.Pages.{same, port_hits, port_key, block_key, port_of, valid_port, page_word_of, frame_word_of}

-- a flag is its weight times 0 or 1
pub flag_bit : (b : Bool) (weight : ℕ) → (flag_of b weight ≡ weight * flag_of b 1) × (flag_of b 1 < 2)
flag_bit true weight = (omega arith, omega arith)
flag_bit false weight = (omega arith, omega arith)

alike : (x y k m n : ℕ) → m ≡ x * 524288 + k → n ≡ y * 524288 + k → eqb m n ≡ eqb x y
alike x y k m n e f =
    both_ways _ _ (λ t. let h : m ≡ n = eqb-true _ _ t in eq-eqb x y (omega arith)) (λ t. let h : x ≡ y = eqb-true _ _ t in eq-eqb m n (omega arith))

-- a port's three tests at once
parts : (x y a b : ℕ) (s : Bool) → a < 2 → b < 2 → eqb (x * 524288 + a * 32 + b) (y * 524288 + flag_of s 32 + 1) ≡ (eqb b 1 && same (eqb a 1) s && eqb x y)
parts x y zero zero true la lb = ne_eqb (x * 524288 + 0 * 32 + 0) (y * 524288 + 32 + 1) (λ e. omega arith)
parts x y zero zero false la lb = ne_eqb (x * 524288 + 0 * 32 + 0) (y * 524288 + 0 + 1) (λ e. omega arith)
parts x y zero (suc zero) true la lb = ne_eqb (x * 524288 + 0 * 32 + 1) (y * 524288 + 32 + 1) (λ e. omega arith)
parts x y zero (suc zero) false la lb = alike x y 1 (x * 524288 + 0 * 32 + 1) (y * 524288 + 0 + 1) (omega arith) (omega arith)
parts x y zero (suc (suc b)) s la lb = absurd (omega arith)
parts x y (suc zero) zero true la lb = ne_eqb (x * 524288 + 1 * 32 + 0) (y * 524288 + 32 + 1) (λ e. omega arith)
parts x y (suc zero) zero false la lb = ne_eqb (x * 524288 + 1 * 32 + 0) (y * 524288 + 0 + 1) (λ e. omega arith)
parts x y (suc zero) (suc zero) true la lb = alike x y 33 (x * 524288 + 1 * 32 + 1) (y * 524288 + 32 + 1) (omega arith) (omega arith)
parts x y (suc zero) (suc zero) false la lb = ne_eqb (x * 524288 + 1 * 32 + 1) (y * 524288 + 0 + 1) (λ e. omega arith)
parts x y (suc zero) (suc (suc b)) s la lb = absurd (omega arith)
parts x y (suc (suc a)) b s la lb = absurd (omega arith)

pub port_key_lem : (port address : ℕ) (s : Bool) → eqb (port_key port) (block_key address s) ≡ port_hits port address s
unfolding port_key block_key port_hits
port_key_lem port address s = parts (bits_of port 31 19) (bits_of address 31 19) (bits_of port 5 5) (bits_of port 0 0) s (omega arith) (omega arith)

-- a port that is hit is valid
hit_valid : (port address : ℕ) (s : Bool) → port_hits port address s ≡ true → bit_of port 0 ≡ true
unfolding port_hits
hit_valid port address s e = and_left (bit_of port 0) (same (bit_of port 5) s) (and_left (bit_of port 0 && same (bit_of port 5) s) _ e)

-- the first port with the key is the one that is hit
module _ (address : ℕ) (s : Bool) where
  abbrev with_key : List ℕ → Option ℕ
  with_key ports = find (λ port. eqb (port_key port) (block_key address s)) ports

  pub find_port : (ports : List ℕ) → with_key ports ≡ valid_port (port_of ports address s)
  unfolding port_of
  find_port [] = refl
  find_port (port ∷ ports) = rw (port_key_lem port address s) (go (find_port ports) (port_hits port address s) refl)
    where
      go : with_key ports ≡ valid_port (port_of ports address s) → (b : Bool) → port_hits port address s ≡ b
          → (if b then Some port else with_key ports) ≡ valid_port (pick b port (port_of ports address s))
      go rest true e = rw (hit_valid port address s e)
      go rest false e = rest

-- a port or none, by the word that a definition has
pub hits_port : (w p : ℕ) → valid_port w ≡ Some p → (bit_of w 0 ≡ true) × (w ≡ p)
hits_port w p e = go (bit_of w 0) e
  where
    go : (b : Bool) → pick b (Some w) None ≡ Some p → (b ≡ true) × (w ≡ p)
    go true f = (refl, cc)
    go false f = absurd cc

pub no_port : (w : ℕ) → valid_port w ≡ None → bit_of w 0 ≡ false
no_port w e = go (bit_of w 0) e
  where
    go : (b : Bool) → pick b (Some w) None ≡ None → b ≡ false
    go true f = absurd cc
    go false f = refl

-- ---- an entry's words have only own bits

pub word_own : (address : ℕ) (s : Bool) → own_tag (page_word_of address s) ≡ page_word_of address s
unfolding page_word_of
word_own address true = let e : bits_of address 31 12 * 4096 + 2 + 1 ≡ bits_of address 31 12 * 4096 + 3 = omega arith in rw e (tag_fields (bits_of address 31 12) 3 (omega arith) (omega arith))
word_own address false = let e : bits_of address 31 12 * 4096 + 0 + 1 ≡ bits_of address 31 12 * 4096 + 1 = omega arith in rw e (tag_fields (bits_of address 31 12) 1 (omega arith) (omega arith))

fields : (a p q r s m w : ℕ) → a * 4096 + 512 * p + 256 * q + 128 * r + 64 * s + 16 * m + 4 * w ≡ a * 4096 + (8 * p + 4 * q + 2 * r + s) * 64 + m * 16 + w * 4
fields a p q r s m w = omega arith

pub frame_own : (t : Translation) → own_frame (frame_word_of t) ≡ frame_word_of t
unfolding frame_word_of
frame_own t =
    let wt = flag_bit t.wt 512 in
    let sp = flag_bit t.sp 256 in
    let g = flag_bit t.g 128 in
    let ci = flag_bit t.ci 64 in
    let m = flag_bit t.m 16 in
    let wp = flag_bit t.wp 4 in
    rw (wt.0, sp.0, g.0, ci.0, m.0, wp.0, fields (bits_of t.address 31 12) (flag_of t.wt 1) (flag_of t.sp 1) (flag_of t.g 1) (flag_of t.ci 1) (flag_of t.m 1) (flag_of t.wp 1))
    (frame_fields _ _ _ _ (omega arith) (omega arith) m.1 wp.1)
