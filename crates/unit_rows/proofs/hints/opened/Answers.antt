use Rattle.std.proofs.Common.{◌≡◌, true, false, sym, ap, ◌∙◌}
use Rattle.std.specs.Prelude.{is_some}
use Rattle.dash_base.specs.declared.id.LineId.{LineId}
use Rattle.unit_rows.specs.Shown.{config, shown}
use Rattle.unit_rows.proofs.HintRows.{choice_tells}
use Rattle.unit_rows.proofs.hints.opened.Goals as goal

pub returns-then-not-in_memory : goal.returns-then-not-in_memory
returns-then-not-in_memory c = λ n f. let out : true ≡ false = sym f.inside ∙ sym c.in_memory.ensures ∙ c.if-not-in_memory.true in cc

pub returns : goal.returns
returns c =
    choice_tells (config c.args.site.now) (shown c.args.parts.now) c.args.address c.line_of-line.result.0 c.args.kind c.is_some-copy.result c.is_some-owner.result c.choose.result (ap (λ (l : LineId). l.0) c.line_of-line.ensures)
    (c.is_some-copy.ensures ∙ ap is_some c.peek.ensures) (c.is_some-owner.ensures ∙ ap is_some c.owner.ensures) (sym c.in_memory.ensures ∙ c.if-not-in_memory.false) c.choose.ensures
