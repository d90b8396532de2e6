use Rattle.std.proofs.Common.{length, [], sym, ◌∙◌, ap}
use Rattle.dash_model.specs.LocalRun.{events_of}
use Rattle.trace_merge.proofs.Recursion.{events_none}
use Rattle.trace_merge.proofs.merger.Merger.new.Goals as goal

pub invariant_of-result : goal.invariant_of-result
invariant_of-result c d within = c.loop-cluster.invariant.1 d within ∙ sym (ap (λ l. length (events_of d l)) c.new.ensures.items ∙ ap length (events_none d [] tt))
