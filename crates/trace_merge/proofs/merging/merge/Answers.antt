use Rattle.std.proofs.Common.{◌++◌, map, ◌∙◌, ap, subst, nat_cmp, rules}
use Rattle.std.specs.List.Sorted.{IsPermutation, IsStableByKey}
use Rattle.std.proofs.lemmas.Fn.{always_returns_same}
use Rattle.std.proofs.lemmas.List.{length-map}
use Rattle.std.proofs.lemmas.List.Sorted.{IsNonDecreasingBy-from_sort_by_key}
use Rattle.dash_model.specs.LocalRun.{IsMergeOf}
use Rattle.trace_merge.specs.MergedLogs.{log_of}
use Rattle.trace_merge.proofs.Shown.{one_more, all_of}
use Rattle.trace_merge.proofs.MergedLogs.{joined_map, sorted_is_merge}
use Rattle.trace_merge.proofs.merging.merge.Goals as goal

pub loop-log-preserved : goal.loop-log-preserved
loop-log-preserved g c =
    one_more g.L.Logged.log c.args.logs.now c.loop-log.log-index c.log-item.result _ _ c.loop-log-test.true c.log-item.is c.loop-log.invariant
    (c.in_ok-extend_from_slice.ensures.items ∙ ap (λ r. c.loop-log.events.items ++ r) c.events.ensures)

pub returns : goal.returns
returns g c =
    let logs = map g.L.Logged.log c.args.logs.now in
    let es = c.sort_by_key.new.self.items in
    let all = all_of g.L.Logged.log c.args.logs.now c.loop-log.log-index _ c.loop-log-test.false c.loop-log.invariant ∙ joined_map g.L.Logged.log c.args.logs.now in
    let sorts = c.in_ok-sort_by_key.ensures in
    subst (λ n. IsMergeOf n (log_of logs) es) (length-map c.args.logs.now g.L.Logged.log)
    (sorted_is_merge logs es c.requires
    (subst (λ l. IsPermutation l es) all sorts.permutation)
    (IsNonDecreasingBy-from_sort_by_key (λ e. e.stamp) es sorts.sorted (λ a r q k. search rules))
    (subst (λ l. IsStableByKey (λ e. e.stamp) nat_cmp l es) all (sorts.stable (λ e. e.stamp) (always_returns_same _ _ _ (λ a r q k. search rules)))))
