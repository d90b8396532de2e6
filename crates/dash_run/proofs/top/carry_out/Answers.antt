use Rattle.dash_run.proofs.Outputs.{ends_all, ends_part, ends_early}
use Rattle.dash_run.proofs.top.carry_out.Goals as goal

pub returns-in-Ok-show : goal.returns-in-Ok-show
returns-in-Ok-show g c = record {
  outcome = rw (c.ended.ensures.status, c.ended.ensures.log, c.ended.ensures.units, c.ended.ensures.rounds, c.status-status.ensures)
      (ends_all _ _ _ _ _ _ _ _ _ _ _ _ _ _ _ _ _ _ c.in-Ok.ensures.ready c.show.ensures.load_faults c.in-Ok.ensures.print_faults c.in-Ok-show.ensures.steady c.in-Ok.ensures.printed c.in-Ok-show.ensures.ok c.in-Ok-show.ensures.printed_all);
}

pub returns-in-Err-show : goal.returns-in-Err-show
returns-in-Err-show g c = record {
  outcome = rw (c.ended-in-Err-show.ensures.status, c.ended-in-Err-show.ensures.log, c.ended-in-Err-show.ensures.units, c.ended-in-Err-show.ensures.rounds)
      (ends_part _ _ _ _ _ _ _ _ _ _ _ _ _ _ _ _ _ _ c.in-Ok.ensures.ready c.show.ensures.load_faults c.in-Ok.ensures.print_faults c.in-Err-show.ensures.failed c.in-Ok.ensures.printed c.in-Err-show.ensures.err c.in-Err-show.ensures.broke_off);
}

pub returns-in-Err : goal.returns-in-Err
returns-in-Err g c = record {
  outcome = rw (c.ended-in-Err.ensures.status, c.ended-in-Err.ensures.log, c.ended-in-Err.ensures.units, c.ended-in-Err.ensures.rounds, c.none.ensures)
      (ends_early _ _ _ _ _ _ _ _ _ _ c.in-Err.ensures.memory c.in-Err.ensures.print_faults c.in-Err.ensures.printed);
}
