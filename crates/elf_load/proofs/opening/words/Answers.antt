use Rattle.std.proofs.Common.{subst, sym}
use Rattle.elf_load.specs.Opening.{IsOpening}
use Rattle.elf_load.proofs.Opened.{opened_words}
use Rattle.elf_load.proofs.opening.words.Goals as goal

pub returns-clause-words : goal.returns-clause-words
returns-clause-words c =
    opened_words c.args.segments.now c.args.map c.as_slice.result.now c.in_ok-words_in.field-0.items
    (subst (λ xs. IsOpening c.args.segments.now c.args.map xs) (sym c.as_slice.ensures.value) c.in_ok-bytes.ensures.each) c.in_ok-words_in.ensures.words
