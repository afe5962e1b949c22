-- `field` meets its contract: a head and the content after it are a field.
use Rattle.fields.specs.Fields.{bytes_of}
use Rattle.saved.specs.Chip.{own_words}
use Rattle.fields.specs.Laws.{field_run}
use Rattle.saved.specs.Own.{length_own_bytes}
use Rattle.image.proofs.write.field.Goals as goal

pub returns : goal.returns
returns c =
    rw (c.content.ensures, c.put_head.ensures)
    (field_run c.args.out.now c.args.at c.args.tag _ (bytes_of (own_words c.args.layout c.args.src.now)) (length_own_bytes c.args.layout c.args.src.now))
