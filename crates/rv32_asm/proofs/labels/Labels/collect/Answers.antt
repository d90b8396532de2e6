use Rattle.std.proofs.Common.{ℕ, List, Option, subst}
use Rattle.rv32_asm.specs.Tree.{in_tree}
use Rattle.rv32_asm.proofs.Walk.{Collects, collect_end, collect_turn, room_turn}
use Rattle.rv32_asm.proofs.labels.Labels.collect.Goals as goal

pub loop-rest-smaller : goal.loop-rest-smaller
loop-rest-smaller c =
    room_turn c.in-Some.text c.bytes-in-Some.result.now c.loop-rest.rest c.behind_mark-rest.result c.in-Some.is c.bytes-in-Some.ensures c.behind_mark-rest.ensures

pub loop-rest-preserved : goal.loop-rest-preserved
loop-rest-preserved c =
    collect_turn c.args.source.now c.in-Some.text c.bytes.result.now c.bytes-in-Some.result.now c.before_mark.result.now c.read_line-said.result c.loop-rest.rest c.behind_mark-rest.result
    (in_tree c.loop-rest.labels.map) (in_tree c.define.new.self.map) c.loop-rest.place c.moved-place.result c.loop-rest.line
    c.in-Some.is c.bytes.ensures c.before_mark.ensures c.read_line-said.ensures c.bytes-in-Some.ensures c.behind_mark-rest.ensures
    c.loop-rest.invariant c.moved-place.ensures.value c.moved-place.ensures.bound c.in_ok-define.ensures

pub returns : goal.returns
returns c =
    collect_end c.args.source.now (in_tree c.loop-rest.labels.map) c.loop-rest.place c.loop-rest.line
    (subst (λ (r : Option (List ℕ)). Collects c.args.source.now (in_tree c.loop-rest.labels.map) c.loop-rest.place c.loop-rest.line r) c.in_default.is c.loop-rest.invariant)
