-- An access that is found to touch a line alone is answered by the big steps in the same way: from the line that is read or written up to the whole access.
use Rattle.std.specs.Prelude.{ℕ, ◌<◌, Bool, not, ◌&&◌, ◌||◌, List, ◌≡◌, eqb, leb, ltb}
use Rattle.std.proofs.Math.Bool.{true, false}
use Rattle.std.proofs.Math.Path.{refl, ap}
use Rattle.std.proofs.Common.{◌∙◌}
use native.Mathlib.Omega.{arith}
use borrow.Author.Tests.{not-true, not-false}
use Rattle.words.specs.Words.{pick, bit_of}
use Rattle.words.specs.Laws.{and_left, and_right, or_left, or_right}
use Rattle.state.specs.declared.Access.{Access}
use Rattle.state.specs.declared.FaultPair.{FaultPair}
use Rattle.state.specs.declared.Registers.{Registers}
use Rattle.lines.specs.Lines.{hit_of}
use Rattle.pages.specs.declared.Translation.{Translation}
use Rattle.pages.specs.Pages.{unmapped_of, port_of, block_of, paged_of}
use Rattle.patc.specs.Patc.{frame_word, entry_of}
use Rattle.lookup.specs.Lookup.{Lookup, Found, place_of, guarded_of, entered_of, judge_of}
use Rattle.flight.specs.Steps.{Scene, go_of, access_of as steps_of}
use Rattle.driver.specs.Alone.{Memory, alone}
use Rattle.registers.specs.Registers.{area_of}
use Rattle.unit.specs.Unit.{Whole, ended_by, mapped_of, access_of}
use Rattle.hits.specs.declared.Hit.{Hit}
use Rattle.hits.specs.Hits.{clear_for, way_of, page_way_of, no_way, found_of, kept_of, no_hit, line_at, hit_by, look_of}
use Rattle.hit_laws.specs.Laws.{through, unbarred, guarded_found, entered_found}
use Rattle.hit_laws.specs.Laws as laws

module _ (u : Registers) (p : FaultPair) (ps ls cs ram rom : List ℕ) (a : Access) where
  abbrev read_at : Hit → Whole
  read_at = laws.read_at u p ps ls cs ram rom a

  abbrev written_at : Hit → Whole
  written_at = laws.written_at u p ps ls cs ram rom a

  abbrev touched_at : Hit → Whole
  touched_at = laws.touched_at u p ps ls cs ram rom a

  abbrev start : Scene Memory
  start = laws.start u p ps ls cs ram rom a

  abbrev ended : Translation → Whole
  ended = laws.ended u p ps ls cs ram rom a

  module _ (free : a.lock ≡ false) where
    touch_right : (t : Translation) (b k : Bool) → a.write ≡ b → (t.ci || (b && t.wt)) ≡ false → (b && not (kept_of ls t.g (hit_of ls t.address))) ≡ k
        → (pick k no_hit (line_at ls t.address)).place < 1024 → ended t ≡ pick b (written_at (pick k no_hit (line_at ls t.address))) (read_at (pick k no_hit (line_at ls t.address)))
    unfolding kept_of
    touch_right t true true e o f l = absurd (omega arith)
    touch_right t true false e o f l = laws.write_right u p ps ls cs ram rom a free t _ _ e (or_left _ _ o) (or_right t.ci t.wt o) refl refl (not-false _ f)
    touch_right t false true e o f l = absurd (omega arith)
    touch_right t false false e o f l = laws.read_right u p ps ls cs ram rom a free t e (or_left _ _ o) l

    -- at the end of a clear way
    way_right : (t : Translation) (o : Bool) → (o ≡ true → (t.ci || (a.write && t.wt)) ≡ false)
        → (hit_by ls (record { address = t.address; clear = o; g = t.g }) a.write).place < 1024
        → (o ≡ true) × (ended t ≡ touched_at (hit_by ls (record { address = t.address; clear = o; g = t.g }) a.write))
    unfolding hit_by
    way_right t false f l = absurd (omega arith)
    way_right t true f l = (refl, touch_right t a.write _ refl (f refl) refl l)

    abbrev gone : Lookup → Whole
    gone n = ended_by u p (go_of alone a (area_of u a.supervisor) start n)

    unmapped_right : (t : Translation) → (hit_by ls (way_of t a.supervisor a.write) a.write).place < 1024
        → gone (Found t) ≡ touched_at (hit_by ls (way_of t a.supervisor a.write) a.write)
    unfolding go_of way_of
    unmapped_right t l = (way_right t _ (through t a.supervisor a.write) l).1

    block_right : (t : Translation) → (hit_by ls (way_of t a.supervisor a.write) a.write).place < 1024
        → gone (guarded_of t a.supervisor a.write) ≡ touched_at (hit_by ls (way_of t a.supervisor a.write) a.write)
    unfolding go_of way_of
    block_right t l = let r = way_right t _ (through t a.supervisor a.write) l in ap gone (guarded_found t a.supervisor a.write (unbarred t a.supervisor a.write r.0)) ∙ r.1

    page_right : (n : ℕ) (t : Translation) → (hit_by ls (page_way_of t a.supervisor a.write) a.write).place < 1024
        → gone (entered_of n t a.supervisor a.write) ≡ touched_at (hit_by ls (page_way_of t a.supervisor a.write) a.write)
    unfolding go_of page_way_of
    page_right n t l =
        let clear = clear_for t a.supervisor a.write in
        let r = way_right t _ (λ e. through t a.supervisor a.write (and_left clear _ e)) l in
        ap gone (entered_found n t a.supervisor a.write (unbarred t a.supervisor a.write (and_left clear _ r.0)) (not-true _ (and_right clear _ r.0))) ∙ r.1

    abbrev port : ℕ
    port = port_of u.ports a.address a.supervisor

    abbrev entry : ℕ
    entry = entry_of ps a.address a.supervisor

    no_way_lem : (hit_by ls no_way a.write).place < 1024 → ⊥
    unfolding hit_by
    no_way_lem h = omega arith

    found_right : (area : ℕ) (x y z : Bool) → bit_of area 0 ≡ x → bit_of port 0 ≡ y → ltb entry 56 ≡ z
        → (hit_by ls (found_of area u.ports ps a.address a.supervisor a.write) a.write).place < 1024
        → gone (judge_of (place_of area u.ports ps a.address a.supervisor) a.supervisor a.write)
        ≡ touched_at (hit_by ls (found_of area u.ports ps a.address a.supervisor a.write) a.write)
    unfolding found_of place_of
    found_right area false y z e f g l = rw e (unmapped_right (unmapped_of area a.address) (rw e at l))
    found_right area true true z e f g l = rw (e, f) (block_right (block_of port a.address) (rw (e, f) at l))
    found_right area true false true e f g l = rw (e, f, g) (page_right entry (paged_of (frame_word ps entry) a.address) (rw (e, f, g) at l))
    found_right area true false false e f g l = absurd (no_way_lem (rw (e, f, g) at l))

    -- neither idle nor locked, outside control space: the line is read or written, and nothing else happens
    pub look_right : eqb a.enables 0 ≡ false → (a.supervisor && leb 0xFFF00000 a.address) ≡ false
        → (look_of ls (area_of u a.supervisor) u.ports ps a.address a.supervisor a.write).place < 1024
        → access_of u p ps ls cs ram rom a ≡ touched_at (look_of ls (area_of u a.supervisor) u.ports ps a.address a.supervisor a.write)
    unfolding access_of mapped_of steps_of look_of
    look_right some outside l = rw (some, outside) (found_right (area_of u a.supervisor) _ _ _ refl refl refl l)
