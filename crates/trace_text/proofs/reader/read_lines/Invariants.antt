use Rattle.std.proofs.Common.{length}
use Rattle.trace_text.proofs.Texts.{Reads}
use Rattle.trace_text.proofs.reader.read_lines.Given as goal

abbrev pub invariant-loop-rest : goal.invariant-loop-rest
invariant-loop-rest l = Reads l.lines l.log.items l.rest l.number

abbrev pub decreases-loop-rest : goal.decreases-loop-rest
decreases-loop-rest l = length l.rest
