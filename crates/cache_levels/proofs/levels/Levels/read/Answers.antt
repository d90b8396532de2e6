use Rattle.std.proofs.Common.{sym, ap, ◌∙◌, is_some}
use Rattle.cache_levels.specs.View.{LevelsView, read_of, after_read}
use Rattle.cache_levels.proofs.Parts.{reads_near, reads_far, reads_nothing, within-entered}
use Rattle.cache_levels.proofs.levels.Levels.read.Goals as goal

pub returns-in_err-copy-clause-answer : goal.returns-in_err-copy-clause-answer
returns-in_err-copy-clause-answer c =
    c.from_residual.ensures
    ∙ (reads_nothing c.self.inside.l1 c.self.inside.l2 c.args.line.0 (sym c.in_err-copy.ensures.copy)).0
    ∙ ap (λ (v : LevelsView). read_of v c.args.line.0) c.self.view_is

pub returns-in_err-copy-clause-after : goal.returns-in_err-copy-clause-after
returns-in_err-copy-clause-after c =
    sym c.self.view_is
    ∙ (reads_nothing c.self.inside.l1 c.self.inside.l2 c.args.line.0 (sym c.in_err-copy.ensures.copy)).1
    ∙ ap (λ (v : LevelsView). after_read v c.args.line.0) c.self.view_is

pub returns-then-has-clause-answer : goal.returns-then-has-clause-answer
returns-then-has-clause-answer c =
    (reads_near c.self.inside.l1 c.self.inside.l2 c.args.line.0 c.in_ok-copy.copy (sym c.has.ensures ∙ c.if-has.true) (sym c.in_ok-copy.ensures.copy)).0
    ∙ ap (λ (v : LevelsView). read_of v c.args.line.0) c.self.view_is

pub returns-then-has-clause-after : goal.returns-then-has-clause-after
returns-then-has-clause-after c =
    sym c.self.view_is
    ∙ (reads_near c.self.inside.l1 c.self.inside.l2 c.args.line.0 c.in_ok-copy.copy (sym c.has.ensures ∙ c.if-has.true) (sym c.in_ok-copy.ensures.copy)).1
    ∙ ap (λ (v : LevelsView). after_read v c.args.line.0) c.self.view_is

pub invariant_of-self : goal.invariant_of-self
invariant_of-self c =
    rw c.enter.ensures (within-entered c.self.inside.l1 c.self.inside.l2 c.args.line.0 c.self.invariant (ap is_some (sym c.in_ok-copy.ensures.copy)))

pub returns-clause-answer : goal.returns-clause-answer
returns-clause-answer c =
    (reads_far c.self.inside.l1 c.self.inside.l2 c.args.line.0 c.in_ok-copy.copy (sym c.has.ensures ∙ c.if-has.false) (sym c.in_ok-copy.ensures.copy)).0
    ∙ ap (λ (v : LevelsView). read_of v c.args.line.0) c.self.view_is

pub returns-clause-after : goal.returns-clause-after
returns-clause-after c =
    rw c.enter.ensures
    ((reads_far c.self.inside.l1 c.self.inside.l2 c.args.line.0 c.in_ok-copy.copy (sym c.has.ensures ∙ c.if-has.false) (sym c.in_ok-copy.ensures.copy)).1
    ∙ ap (λ (v : LevelsView). after_read v c.args.line.0) c.self.view_is)
