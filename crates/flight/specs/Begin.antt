-- How an access begins that is neither idle nor in control space.
use Rattle.std.specs.Prelude.{ℕ, List}
use Rattle.state.specs.declared.Access.{Access}
use Rattle.state.specs.declared.Outcome.TheVariants.{Failed}
use Rattle.lookup.specs.Lookup.{Lookup, Found, Violation, Search, place_of, judge_of}
use Rattle.course.specs.declared.Course.{Course}
use Rattle.course.specs.Course.{fresh_of, with_translation, ended_of}
use Rattle.course.specs.Next.{Cached, cached}
use Rattle.cache.specs.Cache.{enter_of}
use Rattle.flight.specs.Search.{start_of}

-- go on with the translation, end in a fault, or search
unfoldable pub go_of : Course → Lookup → List ℕ → List ℕ → Cached
go_of c (Found t) ls cs = enter_of (with_translation c t) ls cs
go_of c (Violation fault) ls cs = cached (ended_of c (Failed fault)) ls cs
go_of c (Search entry) ls cs = cached (start_of c entry) ls cs

unfoldable pub begin_of : Access → ℕ → List ℕ → ℕ → List ℕ → List ℕ → List ℕ → Cached
begin_of a area ports pointer ps ls cs = go_of (fresh_of a area pointer) (judge_of (place_of area ports ps a.address a.supervisor) a.supervisor a.write) ls cs
