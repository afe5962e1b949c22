use Rattle.std.proofs.Common.{◌≡◌, ◌/◌, ◌%◌, ◌∙◌, arith}
use Rattle.fields.specs.Fields.{head_of}
use Rattle.fields.proofs.Runs.{put_run}
use Rattle.fields.proofs.put_head.Goals as goal

pub returns : goal.returns
returns c =
    let small : c.args.n / 256 % 256 ≡ c.args.n / 256 = omega arith in
    put_run c.args.out.now _ (head_of c.args.tag c.args.n) c.args.at _ (c.copy_from_slice.ensures.after ∙ rw (c.to_be_bytes.ensures, small)) (omega arith) c.requires.0
