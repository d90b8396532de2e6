-- After the last turn all have added.
use Rattle.std.proofs.Common.{◌≡◌, ◌+◌, ◌∙◌, arith, slice_index, subst, sym}
use Rattle.workload_gen.specs.Workload.{added}
use Rattle.workload_gen.proofs.SumsListed.{turns_is}
use Rattle.workload_gen.proofs.additions.add_turns.Goals as goal

pub returns-clause-each : goal.returns-clause-each
returns-clause-each c = λ k low.
    let over = c.loop-turn-test.false in
    let within = c.loop-turn.auto._turn-end in
    let last : c.loop-turn._turn ≡ 468 = omega arith in
    subst (λ n. slice_index c.loop-turn.totals.items k ≡ slice_index c.args.totals.now.items k + added c.args.seed k c.args.hart n)
    (last ∙ sym turns_is) (c.loop-turn.invariant.2 k low)
