-- Laws of a way: that of an entry is that of its translation, but for a write that finds M clear.
use Rattle.std.specs.Prelude.{◌≡◌, Bool, true, false, not, ◌&&◌, Some, None}
use Rattle.std.proofs.Math.Path.{refl, sym}
use Rattle.std.proofs.lemmas.Option.{same_Some}
use Rattle.words.specs.Words.{pick}
use Rattle.pages.specs.declared.Translation.{Translation}
use Rattle.hits.specs.Hits.{Way, clear_way, clear_for, way_of, page_way_of}

module _ (t : Translation) (s write : Bool) where
  pub page_way : (write && not t.m) ≡ false → clear_way (page_way_of t s write) ≡ clear_way (way_of t s write)
  unfolding way_of page_way_of
  page_way e = rw e (go (clear_for t s write))
    where
      go : (b : Bool) → clear_way (record { address = t.address; clear = b && true; g = t.g }) ≡ clear_way (record { address = t.address; clear = b; g = t.g })
      go true = refl
      go false = refl

  pub no_page_way : (write && not t.m) ≡ true → clear_way (page_way_of t s write) ≡ None
  unfolding page_way_of
  no_page_way e = rw e (go (clear_for t s write))
    where
      go : (b : Bool) → clear_way (record { address = t.address; clear = b && false; g = t.g }) ≡ None
      go true = refl
      go false = refl

-- a way or none, by the way that a definition has
pub clear_some : (w v : Way) → Some v ≡ clear_way w → w ≡ v
clear_some w v e = go w.clear e
  where
    go : (b : Bool) → Some v ≡ pick b (Some w) None → w ≡ v
    go true f = sym (same_Some _ _ f)
    go false f = absurd cc

pub clear_none : (w : Way) → None ≡ clear_way w → w.clear ≡ false
clear_none w e = go w.clear e
  where
    go : (b : Bool) → None ≡ pick b (Some w) None → b ≡ false
    go true f = absurd cc
    go false f = refl
