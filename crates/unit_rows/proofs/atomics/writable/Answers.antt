use Rattle.std.proofs.Common.{sym, ap, ◌∙◌}
use Rattle.dash_base.specs.declared.id.LineId.{LineId}
use Rattle.fence_release.specs.Conditions.{is_free_to_commit}
use Rattle.snoop_bus.specs.View.{copy_of}
use Rattle.snoop_bus.specs.View.{owns_alone}
use Rattle.unit_rows.specs.Shown.{config, shown}
use Rattle.unit_rows.proofs.AtomicTold.{fits_if, no_copy, not_owned, not_free}
use Rattle.unit_rows.proofs.atomics.writable.Goals as goal

pub returns-then-not-owns_alone-clause-idle : goal.returns-then-not-owns_alone-clause-idle
returns-then-not-owns_alone-clause-idle c =
    let v = shown c.args.parts.now in
    not_owned (config c.args.site.now) v c.args.hart c.args.word c.args.labels
    (ap (λ (l : LineId). owns_alone v.bus c.args.hart l.0) (sym c.line_of-line.ensures) ∙ sym c.owns_alone.ensures ∙ c.if-not-owns_alone.true)

pub returns-then-not-may_commit-clause-idle : goal.returns-then-not-may_commit-clause-idle
returns-then-not-may_commit-clause-idle c =
    let v = shown c.args.parts.now in
    let x = c.index-local.result.now in
    not_free (config c.args.site.now) c.args.site.now.cluster.0 c.args.hart v c.args.word c.args.labels x c.requires.hart c.requires.sized c.index-local.ensures
    (ap (λ (l : LineId). is_free_to_commit c.args.labels.rl c.args.word.0 l.0 c.args.hart x.buffer v.acks) (sym c.line_of-line.ensures) ∙ sym c.may_commit.ensures ∙ c.if-not-may_commit.true)

pub returns-clause-fits : goal.returns-clause-fits
returns-clause-fits c =
    let v = shown c.args.parts.now in
    let x = c.index-local.result.now in
    fits_if (config c.args.site.now) v c.args.hart c.args.word c.args.labels x c.peek.result c.index-local.ensures
    (ap (λ (l : LineId). owns_alone v.bus c.args.hart l.0) (sym c.line_of-line.ensures) ∙ sym c.owns_alone.ensures ∙ c.if-not-owns_alone.false)
    (ap (λ (l : LineId). is_free_to_commit c.args.labels.rl c.args.word.0 l.0 c.args.hart x.buffer v.acks) (sym c.line_of-line.ensures) ∙ sym c.may_commit.ensures ∙ c.if-not-may_commit.false)
    (c.peek.ensures ∙ ap (λ (l : LineId). copy_of v.bus l.0) c.line_of-line.ensures)

pub returns-clause-idle : goal.returns-clause-idle
returns-clause-idle c =
    let v = shown c.args.parts.now in
    no_copy (config c.args.site.now) v c.args.hart c.args.word c.args.labels c.peek.result (c.peek.ensures ∙ ap (λ (l : LineId). copy_of v.bus l.0) c.line_of-line.ensures)
