use Rattle.std.proofs.Common.{◌≡◌, ◌++◌, string_bytes, ◌∙◌, ap, arith}
use Rattle.dash_base.specs.Places.{hart_count}
use Rattle.dash_run.specs.Report.{hart_of, harts_text}
use Rattle.dash_run.proofs.Texts.{harts_text-pushed}
use Rattle.dash_run.proofs.report.push_harts.Goals as goal

pub loop-number-preserved : goal.loop-number-preserved
loop-number-preserved g c = λ image m at.
    harts_text-pushed c.args.topology.now (hart_of (record { image = image; top = c.args.topology.now }) m) c.loop-number.number c.hart_of.result.now _ _ _
    (c.hart_of.ensures image m at) (c.loop-number.invariant image m at) c.in_ok-push_hart.ensures

pub returns : goal.returns
returns g c = λ image m at.
    let t = c.args.topology.now in
    let all : c.loop-number.number ≡ hart_count t = omega (arith, c.loop-number-test.false, c.loop-number.auto.number-end, c.hart_count-number-end.ensures) in
    c.loop-number.invariant image m at
    ∙ ap (λ n. string_bytes c.args.text.now ++ harts_text t (hart_of (record { image = image; top = t }) m) n) all
