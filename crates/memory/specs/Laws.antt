-- Words put into a list leave its length.
use Rattle.std.specs.Prelude.{ℕ, ◌<◌, ◌≡◌, refl, Bool, true, false, List, [], length, take, ltb}
use Rattle.std.proofs.Common.{length-set, sym}
use Rattle.std.proofs.lemmas.Bool.{ltb-true}
use Rattle.words.specs.Words.{pick}
use Rattle.memory.specs.Memory.{put_of, whole_of}

pub length_put : (ws : List ℕ) (at : ℕ) (part : List ℕ) → length (put_of ws at part) ≡ length ws
unfolding put_of
length_put ws at part = simp length-set

-- a part that is four words or none is the one that it shows
pub whole_part : (part : List ℕ) → take 4 part ≡ part → (length part < 4 → part ≡ []) → whole_of part ≡ part
whole_part part four none = go (ltb (length part) 4) refl
  where
    go : (b : Bool) → ltb (length part) 4 ≡ b → pick b [] (take 4 part) ≡ part
    go true t = sym (none (ltb-true _ _ t))
    go false t = four
