use Rattle.std.proofs.Common.{◌≡◌, ap, arith, subst, sym, ◌<◌, ◌∙◌, ◌+◌, length}
use Rattle.std.proofs.lemmas.List.{length-append}
use Rattle.dash_base.specs.Places.{hart_count}
use Rattle.dash_run.specs.Report.{hart_of}
use Rattle.dash_run.proofs.Workloads.{told_more}
use Rattle.dash_run.proofs.retired.retired_counts.Goals as goal

pub loop-number-preserved : goal.loop-number-preserved
loop-number-preserved g c = record {
  count = ap length c.in_ok-push.ensures.items ∙ length-append c.loop-number.retired.items _ ∙ ap (λ n. n + 1) c.loop-number.invariant.count;
  each = λ image m at. told_more c.loop-number.retired.items c.push.new.self.items _ c.loop-number.number (λ h. (hart_of (record { image = image; top = c.args.topology.now }) m h).retired)
      c.loop-number.invariant.count c.in_ok-push.ensures.items (c.retired.ensures ∙ ap (λ x. x.retired) (c.hart_of.ensures image m at)) (c.loop-number.invariant.each image m at);
}

pub returns-clause-each : goal.returns-clause-each
returns-clause-each g c = λ image m at h low.
    let all : c.loop-number.number ≡ hart_count c.args.topology.now = omega (arith, c.loop-number-test.false, c.loop-number.auto.number-end, c.hart_count-number-end.ensures) in
    c.loop-number.invariant.each image m at h (subst (λ n. h < n) (sym all) low)
