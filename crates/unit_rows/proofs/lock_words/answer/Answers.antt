use Rattle.std.proofs.Common.{◌<◌, ◌≡◌, ◌∙◌, sym, ap, subst, [], None}
use Rattle.hart_core.specs.Meaning.{IsFinished}
use Rattle.unit_rows.specs.declared.parts.Local.{Local}
use Rattle.unit_rows.specs.Shown.{config, shown}
use Rattle.unit_rows.specs.LockWords.{own_hart_number}
use Rattle.unit_rows.specs.Takes.{Takes}
use Rattle.unit_rows.proofs.Harts.{with_local}
use Rattle.unit_rows.proofs.Fronted.{does_fronted}
use Rattle.unit_rows.proofs.Retiring.{front_of}
use Rattle.unit_rows.proofs.LockAnswers.{done_by, own_hart_of, one_local, takes_foreign, takes_unasked, takes_answer, sized_answer}
use Rattle.unit_rows.proofs.lock_words.answer.Goals as goal

pub returns-in_default-clause-took : goal.returns-in_default-clause-took
returns-in_default-clause-took c =
    let none : own_hart_number (config c.args.site.now) c.args.site.now.cluster.0 c.args.hart ≡ None = sym c.own_hart.ensures ∙ c.in_default.is in
    λ from m is. takes_foreign (config c.args.site.now) c.args.site.now.cluster.0 (shown c.args.parts.now) from m c.args.hart c.args.answer is none

pub returns-then-not-index-clause-took : goal.returns-then-not-index-clause-took
returns-then-not-index-clause-took c =
    let v = shown c.args.parts.now in
    λ from m is. takes_unasked (config c.args.site.now) c.args.site.now.cluster.0 v from m c.args.hart c.args.answer c.in-Some.number c.index.result.now is (sym c.own_hart.ensures ∙ c.in-Some.is) (sym (ap (λ (x : Local). x.asked) c.index.ensures) ∙ c.if-not-index.true)

pub advance-requires-clause-front : goal.advance-requires-clause-front
advance-requires-clause-front c =
    let w = config c.args.site.now in
    let own = own_hart_of w c.args.site.now.cluster.0 c.args.hart c.in-Some.number (sym c.own_hart.ensures ∙ c.in-Some.is) in
    front_of w c.args.site.now.cluster.0 c.in-Some.number (shown c.args.parts.now) c.index_mut-local.result.now own.low c.requires.sized c.index_mut-local.ensures.value

pub returns-clause-took : goal.returns-clause-took
returns-clause-took c =
    let w = config c.args.site.now in
    let k = c.args.site.now.cluster.0 in
    let v = shown c.args.parts.now in
    let x = c.index_mut-local.result.now in
    let own = own_hart_of w k c.args.hart c.in-Some.number (sym c.own_hart.ensures ∙ c.in-Some.is) in
    let here = sym c.index_mut-local.ensures.value in
    let asked = ap (λ (y : Local). y.asked) (one_local w k v c.in-Some.number c.index.result.now c.requires.sized own.low c.index.ensures x) ∙ c.if-not-index.false in
    λ from m is. does_fronted w k _ _ v v v.locals c.in-Some.number (done_by x c.advance.new.self) c.advance.new.front [] (subst (λ n. c.in-Some.number < n) (sym c.requires.sized.locals) own.low)
    (subst (λ y. Takes w k from m v (with_local v c.in-Some.number (done_by y c.advance.new.self)) []) here
    (takes_answer w k v from m c.args.hart c.args.answer c.in-Some.number x c.advance.new.self c.requires.sized is own asked
    (subst (λ (y : Local). IsFinished w.image w.top y.core c.args.answer c.advance.new.self) (sym here) c.advance.ensures.finished)))

pub returns-clause-sized : goal.returns-clause-sized
returns-clause-sized c =
    let w = config c.args.site.now in
    let own = own_hart_of w c.args.site.now.cluster.0 c.args.hart c.in-Some.number (sym c.own_hart.ensures ∙ c.in-Some.is) in
    sized_answer w c.args.site.now.cluster.0 (shown c.args.parts.now) c.in-Some.number c.index_mut-local.result.now c.advance.new.self c.advance.new.front own.low c.requires.sized c.index_mut-local.ensures.value c.advance.ensures.front
