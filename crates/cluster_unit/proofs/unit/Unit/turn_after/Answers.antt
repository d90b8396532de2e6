use Rattle.std.proofs.Common.{sym, ◌∙◌, subst, arith}
use Rattle.std.proofs.lemmas.Bool.Decides.{nat_tests}
use Rattle.cluster_unit.specs.Choosing.{Rests}
use Rattle.cluster_unit.proofs.Listed.{rests_where_none, rests_spent}
use Rattle.cluster_unit.proofs.Turning.{turned_none, turned_one, none_idle, picked}
use Rattle.cluster_unit.proofs.unit.Unit.turn_after.Goals as goal

pub returns-then-is_empty-clause-turned : goal.returns-then-is_empty-clause-turned
returns-then-is_empty-clause-turned g c =
    turned_none _ _ c.list_after.new.choices.items c.args.self.now.core c.list_after.new.self c.spend.new.self c.list_after.ensures.lists (sym c.list_after.new.choices.ok.0 ∙ (let e = c.if-is_empty.ensures in grind (arith, nat_tests))) c.spend.ensures

pub returns-then-is_empty-clause-rests : goal.returns-then-is_empty-clause-rests
returns-then-is_empty-clause-rests g c idle =
    subst Rests (sym c.spend.ensures) (rests_spent c.list_after.new.self (rests_where_none c.args.self.now.core c.list_after.new.self c.list_after.new.choices.items c.list_after.ensures.lists (sym c.list_after.new.choices.ok.0 ∙ (let e = c.if-is_empty.ensures in grind (arith, nat_tests)))))

pub returns-clause-turned : goal.returns-clause-turned
returns-clause-turned g c =
    turned_one _ _ c.list_after.new.choices.items c.perform.result c.args.self.now.core c.list_after.new.self c.perform.new.self c.len.result c.choose-number.result c.index-choice.result.now c.list_after.ensures.lists c.has_run.ensures.run (c.len.ensures ∙ c.list_after.new.choices.ok.0) c.choose-number.ensures.below
    (picked _ c.args.self.now.chooser.boxed c.choose-number.new.self.boxed c.args.self.now.chooser.rotate c.choose-number.new.self.rotate c.len.result c.choose-number.result _ _ c.choose-number.ensures.below c.choose-number.ensures.rotates c.choose-number.ensures.picks c.choose-number.ensures.retires) c.index-choice.ensures c.perform.ensures

pub returns-clause-rests : goal.returns-clause-rests
returns-clause-rests g c idle =
    absurd (none_idle c.list_after.new.choices.items c.perform.result c.args.self.now.core c.list_after.new.self c.perform.new.self c.len.result c.choose-number.result c.index-choice.result.now c.list_after.ensures.lists c.has_run.ensures.run (c.len.ensures ∙ c.list_after.new.choices.ok.0) c.choose-number.ensures.below c.index-choice.ensures c.perform.ensures idle)
