use Rattle.std.proofs.Common.{sym, ap, ◌∙◌}
use Rattle.trace_text.specs.Reading.{is_whole}
use Rattle.trace_text.proofs.Texts.{whole_last}
use Rattle.trace_text.proofs.reader.is_whole.Goals as goal

pub returns-in-Some : goal.returns-in-Some
returns-in-Some c =
    sym (ap is_whole c.in-Some.ensures.cases.0 ∙ whole_last c.in-Some.field-0-1.now c.in-Some.last.now)
