-- Each refusal that is answered is the first that applies.
use Rattle.std.proofs.Common.{rules}
use Rattle.elf_load.proofs.SegmentRows.{out_of_file_first, above_memory_size_first, out_of_memory_first, clear_10, clear_11, clear_12}
use Rattle.elf_load.proofs.segment_checks.bounds_refusal.Goals as goal

pub returns-in-Some : goal.returns-in-Some
returns-in-Some c =
    out_of_file_first c.args.bytes.now c.args.map c.args.segments.now c.in-Some.i c.requires.table c.requires.clear (search rules)

pub returns-in-Some-first_above_memory_size : goal.returns-in-Some-first_above_memory_size
returns-in-Some-first_above_memory_size c =
    above_memory_size_first c.args.bytes.now c.args.map c.args.segments.now c.in-Some-first_above_memory_size.i c.requires.table
    (clear_10 c.args.bytes.now c.args.map c.args.segments.now c.requires.table c.requires.clear (search rules)) (search rules)

pub returns-in-Some-first_out_of_memory : goal.returns-in-Some-first_out_of_memory
returns-in-Some-first_out_of_memory c =
    out_of_memory_first c.args.bytes.now c.args.map c.args.segments.now c.in-Some-first_out_of_memory.i c.requires.table
    (clear_11 c.args.bytes.now c.args.map c.args.segments.now c.requires.table
    (clear_10 c.args.bytes.now c.args.map c.args.segments.now c.requires.table c.requires.clear (search rules)) (search rules)) (search rules)

pub returns-in_default-first_out_of_memory : goal.returns-in_default-first_out_of_memory
returns-in_default-first_out_of_memory c =
    clear_12 c.args.bytes.now c.args.map c.args.segments.now c.requires.table
    (clear_11 c.args.bytes.now c.args.map c.args.segments.now c.requires.table
    (clear_10 c.args.bytes.now c.args.map c.args.segments.now c.requires.table c.requires.clear (search rules)) (search rules)) (search rules)
