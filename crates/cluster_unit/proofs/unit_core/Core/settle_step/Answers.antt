use Rattle.std.proofs.Common.{subst}
use Rattle.cluster_unit.specs.Choosing.{Performed}
use Rattle.cluster_unit.proofs.Lighter.{lighter, lighter_looked}
use Rattle.cluster_unit.proofs.SettleTurns.{settled_one, settled_none}
use Rattle.cluster_unit.proofs.unit_core.Core.settle_step.Goals as goal

pub returns-in_default : goal.returns-in_default
returns-in_default c = record {
  settles = settled_none c.args.self.now c.next_settling-found.new.self c.spend.new.self c.next_settling-found.ensures.same c.next_settling-found.ensures.looked c.in_default.ensures.first c.spend.ensures;
  lighter = λ did. absurd (cc);
}

pub returns : goal.returns
returns c = record {
  settles = settled_one c.perform-turn.result c.args.self.now c.next_settling-found.new.self c.perform-turn.new.self c.in-Some.choice c.next_settling-found.ensures.same c.next_settling-found.ensures.looked c.in-Some.ensures.first c.has_run.ensures.run c.perform-turn.ensures;
  lighter = λ did. lighter_looked c.args.self.now c.next_settling-found.new.self c.perform-turn.new.self c.next_settling-found.ensures.same c.next_settling-found.ensures.looked
      (lighter c.in-Some.choice c.next_settling-found.new.self c.perform-turn.new.self c.has_run.ensures.run c.has_run.ensures.weight c.has_run-2.ensures.run c.has_run-2.ensures.weight c.in-Some.ensures.first (subst (λ t. Performed c.in-Some.choice t c.next_settling-found.new.self c.perform-turn.new.self) did c.perform-turn.ensures));
}
