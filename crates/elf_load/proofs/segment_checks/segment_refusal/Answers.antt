-- Each refusal that is answered is the first that applies.
use Rattle.std.proofs.Common.{rules}
use Rattle.elf_load.proofs.SegmentRows.{overlap_first, clear_13, is_table}
use Rattle.elf_load.proofs.segment_checks.segment_refusal.Goals as goal

pub returns-in-Some-2 : goal.returns-in-Some-2
returns-in-Some-2 c =
    overlap_first c.args.bytes.now c.args.map c.args.segments.now c.in-Some-2.i c.in-Some-2.j c.requires.table (search rules) (search rules)

pub returns-in-None : goal.returns-in-None
returns-in-None c = c.entry_refusal.ensures c.args.map (clear_13 c.args.bytes.now c.args.map c.args.segments.now c.requires.table (search rules) (search rules))

pub first_overlap-requires : goal.first_overlap-requires
first_overlap-requires c = is_table c.args.bytes.now c.args.map c.args.segments.now c.requires.table (search rules)
