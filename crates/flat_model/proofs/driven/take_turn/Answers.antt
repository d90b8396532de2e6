use Rattle.flat_model.proofs.MachineRuns.{passed, stepped}
use Rattle.flat_model.proofs.driven.take_turn.Goals as goal

pub returns-in-None-clause-reached : goal.returns-in-None-clause-reached
returns-in-None-clause-reached c = λ order reached.
    passed _ _ order c.args.hart.0 _ _ _ _ c.in-None.ensures.unchanged c.in-None.ensures.idle reached

pub returns-in_ok-keep-in-Some-clause-reached : goal.returns-in_ok-keep-in-Some-clause-reached
returns-in_ok-keep-in-Some-clause-reached c = λ order reached.
    stepped _ _ order c.args.hart.0 _ _ _ _ _ _ _ _ _ c.in-Some.ensures.done c.in_ok-keep-in-Some.ensures.accesses c.in_ok-keep-in-Some.ensures.console reached
