-- Each refusal that is answered is the first that applies.
use Rattle.std.proofs.Common.{rules, ap}
use Rattle.elf_load.specs.declared.header.FileHeader.{FileHeader}
use Rattle.elf_load.proofs.SegmentRows.{no_segment_first, entry_first, all_clear, clear_14}
use Rattle.elf_load.proofs.segment_checks.entry_refusal.Goals as goal

pub returns-then-is_empty : goal.returns-then-is_empty
returns-then-is_empty c = λ map clear. no_segment_first c.args.bytes.now map c.args.segments.now c.requires.table clear (search rules)

pub returns-then-not-is_executable : goal.returns-then-not-is_executable
returns-then-not-is_executable c = λ map clear.
    entry_first c.args.bytes.now map c.args.segments.now c.read-entry.result.e_entry c.requires.table (ap (λ (h : FileHeader). h.e_entry) c.read-entry.ensures)
    (clear_14 c.args.bytes.now map c.args.segments.now c.requires.table clear (search rules)) (search rules)

pub returns-else-not-is_executable : goal.returns-else-not-is_executable
returns-else-not-is_executable c = λ map clear.
    all_clear c.args.bytes.now map c.args.segments.now c.read-entry.result.e_entry c.requires.table (ap (λ (h : FileHeader). h.e_entry) c.read-entry.ensures)
    (clear_14 c.args.bytes.now map c.args.segments.now c.requires.table clear (search rules)) (search rules)
