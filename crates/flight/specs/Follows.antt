-- The machine follows the big steps: a flight that is run to its end ends as document 01's words say.
use Prim.Native.Nat.{ℕ, zero, suc}
use Rattle.std.specs.Prelude.{◌≡◌, Bool, true, not, ◌&&◌, ◌||◌, List, length}
use Rattle.std.proofs.Math.Path.{refl, ap}
use Rattle.std.proofs.Math.Bool.{false}
use Rattle.std.proofs.Math.Dec.{eqb, ltb}
use Rattle.words.specs.Words.{pick, bit_of}
use Rattle.lines.specs.Lines.{modified, state_of, tag_word, hit_of, victim_of}
use Rattle.state.specs.declared.Access.{Access}
use Rattle.lookup.specs.Lookup.{Lookup, Found, Search, Violation, Walked, Update, Complete, Barred}
use Rattle.patc.specs.Patc.{Loaded, load_of}
use Rattle.pages.specs.Pages.{page_word_of, frame_word_of}
use Rattle.course.specs.declared.Course.{Course}
use Rattle.course.specs.declared.Stage.TheVariants.{Done}
use Rattle.course.specs.Course.{fresh_of, with_want, with_translation, with_place, with_entry, with_descriptor, with_pointer, listed_of, searched_of, carried_of}
use Rattle.course.specs.Next
use Rattle.cache.specs.Cache
use Rattle.flight.specs.Search
use Rattle.flight.specs.Steps
use Rattle.course.specs.Next.{Lined, Cached, single_of, storing_of, filling_of, backing_of, dropping_of, read_hit_of}
use Rattle.cache.specs.Cache.{inhibited_of, uncached_of, write_line_of, write_hit_of, miss_of, enter_at, enter_of}
use Rattle.after.specs.After.{settled_of, back_of, drop_of, fill_of, store_of, word_of}
use Rattle.flight.specs.Search.{Flown, start_of, segment_of, updating_of, loaded_of, walk_of, page_of, update_of}
use Rattle.flight.specs.Begin.{go_of, begin_of}
use Rattle.flight.specs.Ops.{Got, Shown, Sent, Ops, System, system, on_flown, on_cached, on_lined, turn_at, turn_of, left_of, segment_turn, page_turn, update_turn, drop_turn, back_turn, fill_turn, store_turn, sent_turn, got_turn}
use Rattle.flight.specs.Steps.{Scene, Ended, opening}

-- a choice on both sides
split : {A B : Type 0} (F : A → B) (b : Bool) {x y : A} {u v : B} → F x ≡ u → F y ≡ v → F (pick b x y) ≡ pick b u v
split F true p q = p
split F false p q = q

-- .. where each way may use how it was taken
split_on : {A B : Type 0} (F : A → B) (b : Bool) {x y : A} {u v : B} → (b ≡ true → F x ≡ u) → (b ≡ false → F y ≡ v) → F (pick b x y) ≡ pick b u v
split_on F true p q = p refl
split_on F false p q = q refl

module _ {W : Type 0} (ops : Ops W) where
  -- what a flight has come to
  abbrev scene_of : Course → List ℕ → List ℕ → List ℕ → W → Scene W
  scene_of c ps ls cs w = record { list = c.list; count = c.count; pointer = c.pointer; patc = ps; lines = ls; cells = cs; world = w }

  abbrev pub end_of : System W → Ended W
  end_of s = record { outcome = s.flight.outcome; scene = scene_of s.flight.course s.patc s.lines s.cells s.world }

  done_turn : (s : System W) → s.flight.stage ≡ Done → turn_of ops s ≡ s
  unfolding turn_of turn_at
  done_turn s e = ap (λ k. turn_at ops k s.flight s.patc s.lines s.cells s.world) e

  -- a flight that is done stays as it is
  pub stays : (n : ℕ) (s : System W) → s.flight.stage ≡ Done → left_of ops n s ≡ s
  unfolding left_of
  stays zero s e = refl
  stays (suc n) s e = rw (done_turn s e) (stays n s e)

  module _ (ps : List ℕ) where
    store_end : (n : ℕ) (c : Course) (ls cs : List ℕ) (w : W) (r : Sent W)
        → end_of (left_of ops n (store_turn ops c ps ls cs r)) ≡ Steps.store_by ops c.access (scene_of c ps ls cs w) c.t c.place c.want r
    unfolding store_of settled_of listed_of
    store_end n c ls cs w r = split (λ x. end_of (left_of ops n (on_cached x ps r.world))) r.moved.ok (ap end_of (stays n _ refl)) (ap end_of (stays n _ refl))

    pub store_follows : (n : ℕ) (c : Course) (ls cs : List ℕ) (w : W)
        → end_of (left_of ops (suc n) (system (storing_of c) ps ls cs w)) ≡ Steps.store_of ops c.access (scene_of c ps ls cs w) c.t c.place
    unfolding left_of turn_of turn_at storing_of Steps.store_of with_want carried_of
    store_follows n c ls cs w = store_end n _ ls cs w _

    read_follows : (n : ℕ) (c : Course) (p : ℕ) (ls cs : List ℕ) (w : W)
        → end_of (left_of ops n (on_cached (Next.with_cells (read_hit_of c p ls cs) cs) ps w)) ≡ Steps.read_of ops c.access (scene_of c ps ls cs w) c.t p
    unfolding read_hit_of Steps.read_of
    read_follows n c p ls cs w = ap end_of (stays n _ refl)

    fill_end : (n : ℕ) (c : Course) (ls cs : List ℕ) (w : W) (r : Shown W)
        → end_of (left_of ops (suc n) (fill_turn ops c ps ls cs r)) ≡ Steps.fill_by ops c.access (scene_of c ps ls cs w) c.t c.place c.want r
    unfolding fill_of listed_of
    fill_end n c ls cs w r =
        split (λ x. end_of (left_of ops (suc n) (on_cached x ps r.world))) (not r.moved.ok || ltb (length r.part) 4)
        (ap end_of (stays (suc n) _ refl))
        (split (λ x. end_of (left_of ops (suc n) (on_cached x ps r.world))) c.access.write (store_follows n _ _ _ _) (read_follows (suc n) _ _ _ _ _))

    pub fill_follows : (n : ℕ) (c : Course) (ls cs : List ℕ) (w : W)
        → end_of (left_of ops (suc (suc n)) (system (filling_of c) ps ls cs w)) ≡ Steps.fill_of ops c.access (scene_of c ps ls cs w) c.t c.place
    unfolding left_of turn_of turn_at filling_of Steps.fill_of with_want carried_of
    fill_follows n c ls cs w = fill_end n _ ls cs w _

    back_end : (n : ℕ) (c : Course) (ls cs : List ℕ) (w : W) (r : Sent W)
        → end_of (left_of ops (suc (suc n)) (back_turn ops c ps ls cs r)) ≡ Steps.back_by ops c.access (scene_of c ps ls cs w) c.t c.place c.want r
    unfolding back_of listed_of
    back_end n c ls cs w r =
        split (λ x. end_of (left_of ops (suc (suc n)) (system x ps ls cs r.world))) r.moved.ok (fill_follows n _ _ _ _) (ap end_of (stays (suc (suc n)) _ refl))

    miss_follows : (n : ℕ) (c : Course) (p : ℕ) (ls cs : List ℕ) (w : W)
        → end_of (left_of ops (suc (suc (suc n))) (system (Cache.miss_at c p ls) ps ls cs w)) ≡ Steps.miss_at ops c.access (scene_of c ps ls cs w) c.t p
    unfolding left_of turn_of turn_at backing_of Steps.miss_at with_want with_place carried_of
    miss_follows n c p ls cs w =
        split (λ x. end_of (left_of ops (suc (suc (suc n))) (system x ps ls cs w))) (modified (tag_word ls p)) (back_end n _ ls cs w _) (fill_follows (suc n) (with_place c p) ls cs w)

    word_sent : (n : ℕ) (c : Course) (ls cs : List ℕ) (w : W) (r : Sent W) → c.access.write ≡ true
        → end_of (left_of ops n (sent_turn ops c ps ls cs r)) ≡ Steps.sent_by ops c.access (Steps.noted (scene_of c ps ls cs w) c.want r.moved r.world) r.moved
    unfolding word_of listed_of
    word_sent n c ls cs w r e = rw e (split (λ x. end_of (left_of ops n (system x ps ls cs r.world))) r.moved.ok (ap end_of (stays n _ refl)) (ap end_of (stays n _ refl)))

    word_got : (n : ℕ) (c : Course) (ls cs : List ℕ) (w : W) (r : Got W) → c.access.write ≡ false
        → end_of (left_of ops n (got_turn ops c ps ls cs r)) ≡ Steps.got_by ops c.access (Steps.noted (scene_of c ps ls cs w) c.want r.read.moved r.world) r.read.moved r.read.word
    unfolding word_of listed_of
    word_got n c ls cs w r e = rw e (split (λ x. end_of (left_of ops n (system x ps ls cs r.world))) r.read.moved.ok (ap end_of (stays n _ refl)) (ap end_of (stays n _ refl)))

    pub single_follows : (n : ℕ) (c : Course) (ls cs : List ℕ) (w : W)
        → end_of (left_of ops (suc n) (system (single_of c) ps ls cs w)) ≡ Steps.single_of ops c.access (scene_of c ps ls cs w) c.t
    unfolding left_of turn_of turn_at single_of Steps.single_of with_want carried_of
    single_follows n c ls cs w = split_on (λ x. end_of (left_of ops n x)) c.access.write (λ e. word_sent n _ ls cs w _ e) (λ e. word_got n _ ls cs w _ e)

    drop_end : (n : ℕ) (c : Course) (ls cs : List ℕ) (w : W) (r : Sent W)
        → end_of (left_of ops (suc n) (drop_turn ops c ps ls cs r)) ≡ Steps.drop_by ops c.access (scene_of c ps ls cs w) c.t c.place c.want r
    unfolding drop_of listed_of
    drop_end n c ls cs w r =
        split (λ x. end_of (left_of ops (suc n) (on_lined x ps cs r.world))) r.moved.ok (single_follows n _ _ _ _) (ap end_of (stays (suc n) _ refl))

    inhibited_follows : (n : ℕ) (c : Course) (p : ℕ) (ls cs : List ℕ) (w : W)
        → end_of (left_of ops (suc (suc n)) (on_cached (Next.with_cells (uncached_of c p ls) cs) ps w)) ≡ Steps.inhibited_of ops c.access (scene_of c ps ls cs w) c.t p
    unfolding left_of turn_of turn_at uncached_of dropping_of Steps.inhibited_of with_want with_place carried_of
    inhibited_follows n c p ls cs w =
        split (λ x. end_of (left_of ops (suc (suc n)) (on_cached (Next.with_cells x cs) ps w))) (ltb p 1024)
        (split (λ x. end_of (left_of ops (suc (suc n)) (on_cached (Next.with_cells x cs) ps w))) (modified (tag_word ls p)) (drop_end n _ ls cs w _) (single_follows (suc n) c _ cs w))
        (single_follows (suc n) c ls cs w)

    write_follows : (n : ℕ) (c : Course) (p : ℕ) (ls cs : List ℕ) (w : W)
        → end_of (left_of ops (suc n) (on_cached (write_hit_of c p ls cs) ps w)) ≡ Steps.write_of ops c.access (scene_of c ps ls cs w) c.t p
    unfolding write_hit_of write_line_of Steps.write_of with_place
    write_follows n c p ls cs w =
        split (λ x. end_of (left_of ops (suc n) (on_cached x ps w))) (c.t.wt || (c.t.g && eqb (state_of (tag_word ls p)) 2)) (store_follows n _ ls cs w) (ap end_of (stays (suc n) _ refl))

    -- the cache: at most three turns
    pub cache_follows : (n : ℕ) (c : Course) (ls cs : List ℕ) (w : W)
        → end_of (left_of ops (suc (suc (suc n))) (on_cached (enter_of c ls cs) ps w)) ≡ Steps.cache_of ops c.access (scene_of c ps ls cs w) c.t
    unfolding enter_of miss_of Steps.cache_of
    cache_follows n c ls cs w =
        split (λ x. end_of (left_of ops (suc (suc (suc n))) (on_cached x ps w))) (c.t.ci || c.access.lock)
        (inhibited_follows (suc n) c (hit_of ls c.t.address) ls cs w)
        (split (λ x. end_of (left_of ops (suc (suc (suc n))) (on_cached x ps w))) (ltb (hit_of ls c.t.address) 1024)
        (split (λ x. end_of (left_of ops (suc (suc (suc n))) (on_cached x ps w))) c.access.write (write_follows (suc (suc n)) c _ ls cs w) (read_follows (suc (suc (suc n))) c _ ls cs w))
        (miss_follows n c (victim_of ls c.t.address) ls cs w))

  load_follows : (n : ℕ) (c : Course) (ps ls cs : List ℕ) (w : W)
      → end_of (left_of ops (suc (suc (suc n))) (on_flown (loaded_of c ps ls cs) w)) ≡ Steps.loaded_of ops c.access c.area (scene_of c ps ls cs w) c.t c.entry
  unfolding loaded_of Steps.loaded_of with_pointer
  load_follows n c ps ls cs w =
      split (λ x. end_of (left_of ops (suc (suc (suc n))) (on_flown x w))) (ltb c.entry 56) (cache_follows _ n c ls cs w) (by_pointer (load_of ps c.pointer (page_word_of c.access.address c.access.supervisor) (frame_word_of c.t)))
    where
      by_pointer : (l : Loaded) → end_of (left_of ops (suc (suc (suc n))) (on_flown (Search.loaded_by c l ls cs) w)) ≡ Steps.load_by ops c.access c.area (scene_of c ps ls cs w) c.t l
      by_pointer l = cache_follows l.patc n (with_pointer c l.pointer) ls cs w

  update_end : (n : ℕ) (c : Course) (ps ls cs : List ℕ) (w : W) (r : Sent W)
      → end_of (left_of ops (suc (suc (suc n))) (update_turn ops c ps ls cs r)) ≡ Steps.update_by ops c.access c.area (scene_of c ps ls cs w) c.t c.entry c.want r
  unfolding update_of listed_of
  update_end n c ps ls cs w r =
      split (λ x. end_of (left_of ops (suc (suc (suc n))) (on_flown x r.world))) r.moved.ok (load_follows n _ ps ls cs _) (ap end_of (stays (suc (suc (suc n))) _ refl))

  finish_follows : (n : ℕ) (c : Course) (at : ℕ) (walked : Walked) (ps ls cs : List ℕ) (w : W) → c.want.address ≡ at
      → end_of (left_of ops (suc (suc (suc (suc n)))) (on_flown (walk_of c walked ps ls cs) w)) ≡ Steps.finish_of ops c.access c.area (scene_of c ps ls cs w) c.entry at walked
  unfolding walk_of Steps.finish_of left_of turn_of turn_at updating_of with_want with_descriptor with_translation searched_of
  finish_follows n c at (Barred fault) ps ls cs w e = ap end_of (stays (suc (suc (suc (suc n)))) _ refl)
  finish_follows n c at (Update t descriptor) ps ls cs w e = rw (← e) (update_end n _ ps ls cs w _)
  finish_follows n c at (Complete t) ps ls cs w e = load_follows (suc n) (with_translation c t) ps ls cs w

  page_end : (n : ℕ) (c : Course) (at : ℕ) (ps ls cs : List ℕ) (w : W) (r : Got W)
      → end_of (left_of ops (suc (suc (suc (suc n)))) (page_turn ops (with_want c (searched_of c false at)) ps ls cs r))
      ≡ Steps.page_by ops c.access c.area (scene_of c ps ls cs w) c.entry c.descriptor at r
  unfolding page_of listed_of with_want searched_of
  page_end n c at ps ls cs w r =
      split (λ x. end_of (left_of ops (suc (suc (suc (suc n)))) (on_flown x r.world))) r.read.moved.ok
      (split (λ x. end_of (left_of ops (suc (suc (suc (suc n)))) (on_flown x r.world))) (bit_of r.read.word 0)
      (finish_follows n (listed_of (with_want c (searched_of c false at)) r.read.moved) at _ ps ls cs r.world refl)
      (ap end_of (stays (suc (suc (suc (suc n)))) _ refl)))
      (ap end_of (stays (suc (suc (suc (suc n)))) _ refl))

  segment_end : (n : ℕ) (c : Course) (at : ℕ) (ps ls cs : List ℕ) (w : W) (r : Got W)
      → end_of (left_of ops (suc (suc (suc (suc (suc n))))) (segment_turn ops (with_want c (searched_of c false at)) ps ls cs r))
      ≡ Steps.segment_by ops c.access c.area (scene_of c ps ls cs w) c.entry at r
  unfolding segment_of Steps.page_of left_of turn_of turn_at listed_of with_want with_descriptor searched_of
  segment_end n c at ps ls cs w r =
      split (λ x. end_of (left_of ops (suc (suc (suc (suc (suc n))))) (system x ps ls cs r.world))) r.read.moved.ok
      (split (λ x. end_of (left_of ops (suc (suc (suc (suc (suc n))))) (system x ps ls cs r.world))) (bit_of r.read.word 0)
      (page_end n (with_descriptor (listed_of (with_want c (searched_of c false at)) r.read.moved) r.read.word) _ ps ls cs r.world _)
      (ap end_of (stays (suc (suc (suc (suc (suc n))))) _ refl)))
      (ap end_of (stays (suc (suc (suc (suc (suc n))))) _ refl))

  search_follows : (n : ℕ) (c : Course) (entry : ℕ) (ps ls cs : List ℕ) (w : W)
      → end_of (left_of ops (suc (suc (suc (suc (suc (suc n)))))) (system (start_of c entry) ps ls cs w)) ≡ Steps.search_of ops c.access c.area (scene_of c ps ls cs w) entry
  unfolding start_of Steps.search_of left_of turn_of turn_at with_want with_entry searched_of
  search_follows n c entry ps ls cs w = segment_end n (with_entry c entry) _ ps ls cs w _

  go_follows : (n : ℕ) (c : Course) (next : Lookup) (ps ls cs : List ℕ) (w : W)
      → end_of (left_of ops (suc (suc (suc (suc (suc (suc n)))))) (on_cached (go_of c next ls cs) ps w)) ≡ Steps.go_of ops c.access c.area (scene_of c ps ls cs w) next
  unfolding go_of Steps.go_of with_translation
  go_follows n c (Found t) ps ls cs w = cache_follows ps (suc (suc (suc n))) (with_translation c t) ls cs w
  go_follows n c (Violation fault) ps ls cs w = ap end_of (stays (suc (suc (suc (suc (suc (suc n)))))) _ refl)
  go_follows n c (Search entry) ps ls cs w = search_follows n c entry ps ls cs w

  -- six turns from its beginning, an access has ended as the big steps say
  pub follows : (a : Access) (area : ℕ) (ports : List ℕ) (pointer : ℕ) (ps ls cs : List ℕ) (w : W)
      → end_of (left_of ops 6 (on_cached (begin_of a area ports pointer ps ls cs) ps w)) ≡ Steps.access_of ops a area (opening pointer ps ls cs w) ports
  unfolding begin_of Steps.access_of fresh_of
  follows a area ports pointer ps ls cs w = go_follows 0 (fresh_of a area pointer) _ ps ls cs w
