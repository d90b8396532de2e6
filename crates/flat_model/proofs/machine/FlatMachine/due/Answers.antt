use Rattle.std.proofs.Common.{sym, ◌∙◌}
use Rattle.flat_model.proofs.MachineSteps.{rests_idle, waits_idle, goes_on, needs_of_next, recorded_from, fits_from, hart_found}
use Rattle.flat_model.proofs.machine.FlatMachine.due.Goals as goal

pub returns-in-Rest-clause-idle : goal.returns-in-Rest-clause-idle
returns-in-Rest-clause-idle c = λ s held.
    rests_idle c.args.image.now c.args.topology.now c.args.self.now c.args.hart.0 c.index-own.result.now s c.requires.in_range
    (hart_found c.args.topology.now _ c.args.self.now c.args.hart.0 c.index-own.result.now c.self.view_is c.requires.sized c.requires.in_range c.index-own.ensures)
    (c.next-need.ensures.rest.0 c.in-Rest.is) held

pub returns-then-is_blocked-clause-idle : goal.returns-then-is_blocked-clause-idle
returns-then-is_blocked-clause-idle c = λ s held.
    waits_idle c.args.image.now c.args.topology.now c.args.self.now c.args.hart.0 c.index-own.result.now c.next-need.result s c.requires.in_range
    (hart_found c.args.topology.now _ c.args.self.now c.args.hart.0 c.index-own.result.now c.self.view_is c.requires.sized c.requires.in_range c.index-own.ensures)
    (needs_of_next c.args.image.now c.args.topology.now c.index-own.result.now c.next-need.result (goes_on c.args.topology.now c.index-own.result.now c.next-need.result c.next-need.ensures.rest c.in_default.not-Rest) c.next-need.ensures.next)
    (sym (c.is_blocked.ensures s held) ∙ c.if-is_blocked.true) held

pub returns-clause-due : goal.returns-clause-due
returns-clause-due c = record {
  hart = c.index-own.result.now;
  is_hart = hart_found c.args.topology.now _ c.args.self.now c.args.hart.0 c.index-own.result.now c.self.view_is c.requires.sized c.requires.in_range c.index-own.ensures;
  needs = needs_of_next c.args.image.now c.args.topology.now c.index-own.result.now c.next-need.result
      (goes_on c.args.topology.now c.index-own.result.now c.next-need.result c.next-need.ensures.rest c.in_default.not-Rest) c.next-need.ensures.next;
  pc_is = c.pc.ensures;
  possible = λ s held. sym (c.is_blocked.ensures s held) ∙ c.if-is_blocked.false;
  recorded = λ s held.
      recorded_from s c.args.hart.0 _ c.next-need.result c.record_of-record.result c.offer-access.result c.retired.result c.content-content.result c.succeeds-succeeds.result
      c.retired.ensures c.record_of-record.ensures c.offer-access.ensures (c.content-content.ensures s held) (c.succeeds-succeeds.ensures s held);
}

pub returns-clause-fits : goal.returns-clause-fits
returns-clause-fits c =
    fits_from c.args.topology.now c.args.hart.0 _ c.next-need.result c.record_of-record.result _ _ _ c.record_of-record.ensures c.offer-access.ensures c.next-need.ensures.proper
