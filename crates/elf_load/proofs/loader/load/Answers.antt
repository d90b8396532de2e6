-- What is answered is the first refusal, or the image of a file that none applies to.
use Rattle.std.proofs.Common.{rules}
use Rattle.elf_load.proofs.Images.{image_is}
use Rattle.elf_load.proofs.Order.{first_refuses}
use Rattle.elf_load.proofs.SegmentRows.{segments_have_bytes}
use Rattle.elf_load.proofs.loader.load.Goals as goal

pub returns-in-Some-clause-err : goal.returns-in-Some-clause-err
returns-in-Some-clause-err c = first_refuses c.args.bytes.now c.args.map c.in-Some.refusal (c.in-Some.ensures.first c.args.map)

pub image-requires-clause-segments : goal.image-requires-clause-segments
image-requires-clause-segments c =
    segments_have_bytes c.args.bytes.now c.args.map c.as_slice-in-None.result.now (search rules) (search rules)

pub returns-clause-ok : goal.returns-clause-ok
returns-clause-ok c = (search rules, image_is c.args.bytes.now c.in_ok-image-in-None.field-0 c.as_slice-in-None.result.now (search rules) c.in_ok-image-in-None.ensures)
