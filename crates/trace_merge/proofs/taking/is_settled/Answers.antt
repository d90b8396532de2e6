use Rattle.std.proofs.Common.{◌≡◌, ◌<◌, inl, inr, ◌⊎◌, map, sym, ap, subst, ◌∙◌, rules}
use Rattle.std.proofs.lemmas.List.{length-map}
use Rattle.trace_merge.specs.MergedLogs.{log_of}
use Rattle.trace_merge.specs.Settled.{last_stamp, IsBeforeNext}
use Rattle.trace_merge.proofs.Firsts.{map_at, less_or}
use Rattle.trace_merge.proofs.taking.is_settled.Goals as goal

pub returns-then-not-is_before_next-clause-no : goal.returns-then-not-is_before_next-clause-no
returns-then-not-is_before_next-clause-no g c shown settled =
    let k = c.loop-cluster.cluster in
    let at = map_at g.L.Logged.log c.args.logs.now k c.index-logs-cluster.result c.loop-cluster-test.true (search rules) in
    let last = c.last_stamp.ensures ∙ ap last_stamp (c.events.ensures ∙ sym at) in
    c.is_before_next.ensures.no (search rules) (subst (λ n. IsBeforeNext n k c.args.event.now) (sym last) (settled k (subst (λ n. k < n) (sym (length-map c.args.logs.now g.L.Logged.log)) c.loop-cluster-test.true)))

pub loop-cluster-preserved : goal.loop-cluster-preserved
loop-cluster-preserved g c d within = case (less_or d c.loop-cluster.cluster within) where
  case : (d < c.loop-cluster.cluster) ⊎ (d ≡ c.loop-cluster.cluster) → IsBeforeNext (last_stamp (log_of (map g.L.Logged.log c.args.logs.now) d)) d c.args.event.now
  case (inl below) = c.loop-cluster.invariant d below
  case (inr is) =
      let at = map_at g.L.Logged.log c.args.logs.now c.loop-cluster.cluster c.index-logs-cluster.result c.loop-cluster-test.true (search rules) in
      let last = c.last_stamp.ensures ∙ ap last_stamp (c.events.ensures ∙ sym at) in
      subst (λ n. IsBeforeNext (last_stamp (log_of (map g.L.Logged.log c.args.logs.now) n)) n c.args.event.now) (sym is)
      (subst (λ n. IsBeforeNext n c.loop-cluster.cluster c.args.event.now) last (c.is_before_next.ensures.yes (search rules)))
