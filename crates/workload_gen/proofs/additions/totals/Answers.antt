-- Each hart adds to the sums of those before it, and after the last one they are the totals.
use Rattle.std.proofs.Common.{◌≡◌, arith}
use Rattle.workload_gen.proofs.SumsListed.{one_more, totals_are}
use Rattle.workload_gen.proofs.additions.totals.Goals as goal

pub loop-hart-preserved : goal.loop-hart-preserved
loop-hart-preserved c = (
  c.add_turns.ensures.count,
  (λ k low. one_more c.args.seed k c.loop-hart.hart _ _ (c.loop-hart.invariant.1 k low) (c.add_turns.ensures.each k low)),
  c.add_turns.ensures.small,
)

pub returns : goal.returns
returns c =
    let over = c.loop-hart-test.false in
    let within = c.loop-hart.auto.hart-end in
    let last : c.loop-hart.hart ≡ 64 = omega arith in
    totals_are c.args.seed c.loop-hart.hart _ last c.loop-hart.invariant.0 c.loop-hart.invariant.1
