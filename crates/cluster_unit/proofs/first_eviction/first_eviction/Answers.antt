use Rattle.std.proofs.Common.{arith}
use Rattle.dash_base.specs.declared.id.LineId.{LineId}
use Rattle.unit_rows.specs.declared.choice.Choice.TheVariants.{Evict}
use Rattle.unit_rows.specs.Shown.{config, shown}
use Rattle.cluster_unit.specs.Searching.{CannotSettle}
use Rattle.cluster_unit.proofs.FirstOnes.{so_far, no_hart}
use Rattle.cluster_unit.proofs.first_eviction.first_eviction.Goals as goal

pub returns-in-Some : goal.returns-in-Some
returns-in-Some c = record { hart = c.loop-hart.hart; first = c.in-Some.ensures; before = λ h m low. c.loop-hart.invariant.0 h low m }

pub loop-hart-preserved : goal.loop-hart-preserved
loop-hart-preserved c = (
  so_far (λ h. (m : LineId) → CannotSettle (config c.args.site.now) c.args.site.now.cluster.0 (shown c.args.parts.now) (Evict h m)) c.loop-hart.hart c.loop-hart.invariant.0 c.in_default.ensures,
  grind arith,
)

pub returns : goal.returns
returns c =
    let past = c.loop-hart-test.false in
    let low = c.loop-hart.invariant.1 in
    no_hart (config c.args.site.now) c.args.site.now.cluster.0 (shown c.args.parts.now) c.requires.sized c.loop-hart.hart (grind arith) c.loop-hart.invariant.0
