-- Laws of a lookup: what it says that an access may use a translation, or that it may not.
use Rattle.std.specs.Prelude.{◌≡◌, Bool, true, false, Result, Ok, Err, eqb}
use Rattle.std.specs.Result.{MatchResult}
use Rattle.std.proofs.Math.Path.{refl}
use Rattle.words.specs.Words.{pick}
use Rattle.state.specs.declared.Fault.{Fault}
use Rattle.pages.specs.declared.Translation.{Translation}
use Rattle.pages.specs.declared.Violation.{Violation}
use Rattle.pages.specs.declared.Violation.TheVariants.{Supervisor, Write}
use Rattle.pages.specs.Pages.{protection_of, violation_code, protection_code}
use Rattle.lookup.specs.Lookup.{violation_of, permit_of}

module _ (t : Translation) (s write : Bool) where
  abbrev fault : Fault
  fault = violation_of (protection_of t s write) t

  abbrev told : Bool → Result (Unit {0}) Fault
  told b = pick b (Ok tt) (Err fault)

  pub permitted : (x : Unit {0}) → permit_of t s write ≡ Ok x → eqb (protection_of t s write) 0 ≡ true
  unfolding permit_of
  permitted x e = go (eqb (protection_of t s write) 0) e
    where
      go : (b : Bool) → told b ≡ Ok x → b ≡ true
      go true f = refl
      go false f = absurd cc

  pub barred : (f : Fault) → permit_of t s write ≡ Err f → (eqb (protection_of t s write) 0 ≡ false) × (fault ≡ f)
  unfolding permit_of
  barred f e = go (eqb (protection_of t s write) 0) e
    where
      go : (b : Bool) → told b ≡ Err f → (b ≡ false) × (fault ≡ f)
      go true g = absurd cc
      go false g = (refl, cc)

  -- .. which is what the test of its protection comes to
  pub permit_by : (p : Result (Unit {0}) Violation) (r : Result (Unit {0}) Fault) → protection_code p ≡ protection_of t s write
      → MatchResult p (λ x. r ≡ Ok x) (λ v. r ≡ Err (record { code = violation_code v; address = t.address })) → r ≡ permit_of t s write
  unfolding permit_of
  permit_by (Ok x) r e k = rw (k, ← e)
  permit_by (Err Supervisor) r e k = rw (k, ← e)
  permit_by (Err Write) r e k = rw (k, ← e)
