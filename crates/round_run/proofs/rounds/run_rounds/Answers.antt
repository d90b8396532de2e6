use Rattle.std.proofs.Common.{sym, subst}
use Rattle.round_run.specs.Units.{seen}
use Rattle.round_run.specs.Rounds.{StaysSame, AreCounted}
use Rattle.round_run.specs.Ending.{AreOver}
use Rattle.round_run.proofs.Eaches.{each_again, same_again, mesh_stays}
use Rattle.round_run.proofs.RoundsCounted.{stays_joined, of_stays}
use Rattle.round_run.proofs.rounds.run_rounds.Goals as goal

pub loop-round-init : goal.loop-round-init
loop-round-init g c = (c.args.machine.mesh, (c.args.machine.counted, each_again (λ u. seen u.core u.turns u.steps u.ahead) StaysSame _ same_again))

pub loop-round-preserved : goal.loop-round-preserved
loop-round-preserved g c = (
  mesh_stays (λ u. seen u.core u.turns u.steps u.ahead) _ _ _ c.round.ensures.same c.loop-round.invariant.0,
  (
    subst (λ n. AreCounted (λ u. seen u.core u.turns u.steps u.ahead) c.args.machine.topology n c.round.new.units.items) (sym c.saturating_add-rounds.ensures) c.in_ok-got_on.ensures.counted,
    stays_joined (λ u. seen u.core u.turns u.steps u.ahead) _ _ _ c.loop-round.invariant.1.1 c.round.ensures.same,
  ),
)

pub invariant_of-machine : goal.invariant_of-machine
invariant_of-machine g c = record {
  mesh = mesh_stays (λ u. seen u.core u.turns u.steps u.ahead) _ _ _ c.round.ensures.same c.loop-round.invariant.0;
  counted = subst (λ n. AreCounted (λ u. seen u.core u.turns u.steps u.ahead) c.args.machine.topology n c.round.new.units.items) (sym c.saturating_add-rounds.ensures) c.in_ok-got_on.ensures.counted;
}

pub finish-requires-clause-over : goal.finish-requires-clause-over
finish-requires-clause-over g c = subst (λ l. AreOver (λ u. seen u.core u.turns u.steps u.ahead) c.args.machine.topology l) c.deref.ensures.value (c.are_over.ensures c.if-are_over.true)

pub returns-then-are_over : goal.returns-then-are_over
returns-then-are_over g c w of = c.finish.ensures w (of_stays (λ u. seen u.core u.turns u.steps u.ahead) w _ _ (stays_joined (λ u. seen u.core u.turns u.steps u.ahead) _ _ _ c.loop-round.invariant.1.1 c.round.ensures.same) of)
