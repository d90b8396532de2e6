use Rattle.std.proofs.Common.{map, sym, ap, subst, ◌∙◌, ◌+◌, ◌<◌}
use Rattle.std.specs.Prelude.{MatchOption}
use Rattle.std.proofs.lemmas.List.{length-map}
use Rattle.trace_merge.specs.Taking.{AllTaken, IsFirst, earlier_of}
use Rattle.trace_merge.proofs.Firsts.{better_with, own_head}
use Rattle.trace_merge.proofs.taking.first_left.Goals as goal

pub loop-cluster-preserved : goal.loop-cluster-preserved
loop-cluster-preserved g c =
    let logs = map g.L.Logged.log c.args.logs.now in
    let ts = c.args.taken.now in
    let k = c.loop-cluster.cluster in
    let within = subst (λ n. k < n) (sym (length-map c.args.logs.now g.L.Logged.log)) c.loop-cluster-test.true in
    subst (λ o. MatchOption o (AllTaken logs ts (k + 1)) (IsFirst logs ts (k + 1))) (sym (c.earlier-first.ensures ∙ ap (earlier_of c.loop-cluster.first) c.head.ensures))
    (better_with logs ts k (own_head logs ts c.requires.logs k within) c.loop-cluster.first c.loop-cluster.invariant)
