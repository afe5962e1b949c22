use Rattle.std.proofs.Common.{◌≡◌, ℕ, ◌/◌, ◌%◌, [], ◌∷◌, ◌∙◌, arith}
use Rattle.fields.specs.Fields.{word_bytes}
use Rattle.fields.proofs.Runs.{put_run}
use Rattle.fields.proofs.put_word.Goals as goal

lowest : (w : ℕ) → w / 16777216 % 256 ∷ w / 65536 % 256 ∷ w / 256 % 256 ∷ w % 256 ∷ [] ≡ word_bytes w
lowest w = let whole : w / 1 ≡ w = omega arith in rw whole

-- whatever four bytes are copied, they are read off those of the word
pub returns : goal.returns
returns c = put_run c.args.out.now _ (word_bytes c.args.w) c.args.at _ (c.copy_from_slice.ensures.after ∙ rw c.to_be_bytes.ensures (lowest c.args.w)) (omega arith) c.requires
