-- A part of a slice written anew is a run of stores.
use Rattle.std.proofs.Common.{◌≡◌, ℕ, ◌+◌, ◌-◌, ◌≤◌, List, ◌++◌, length, take, drop, sym, ap, ◌∙◌, append_assoc, drop-drop}
use Rattle.std.proofs.lemmas.List.Edits.{sets, sets-eq}
use borrow.Rule.Slice.PartMut.{put_mid}

pub put_run : (l new vs : List ℕ) (p k : ℕ) → new ≡ vs → k ≡ length vs → p + length vs ≤ length l → put_mid p k l new ≡ sets l p vs
put_run l new vs p k e s room =
    rw (e, s) (ap (λ (r : List ℕ). take p l ++ (vs ++ r)) (drop-drop (length vs) p l) ∙ sym (append_assoc (take p l) vs (drop (p + length vs) l)) ∙ sym (sets-eq vs l p room))
