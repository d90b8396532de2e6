use Rattle.rv32_asm.specs.Tree.{in_tree}
use Rattle.rv32_asm.proofs.Building.{build_end, build_refused, build_turn}
use Rattle.rv32_asm.proofs.Walk.{room_turn}
use Rattle.rv32_asm.proofs.assembler.build.Goals as goal

pub returns-in-Some-cause-clause-refused : goal.returns-in-Some-cause-clause-refused
returns-in-Some-cause-clause-refused c =
    build_refused (in_tree c.args.labels.now.map) c.args.source.now c.in-Some.text c.bytes.result.now c.before_mark.result.now c.read_line-said.result c.loop-rest.rest
    c.loop-rest.assembly c.loop-rest.here c.cause.result c.in-Some-cause.cause
    c.in-Some.is c.bytes.ensures c.before_mark.ensures c.read_line-said.ensures c.loop-rest.invariant c.cause.ensures c.in-Some-cause.is

pub loop-rest-smaller : goal.loop-rest-smaller
loop-rest-smaller c =
    room_turn c.in-Some.text c.bytes-in-Some.result.now c.loop-rest.rest c.behind_mark-rest.result c.in-Some.is c.bytes-in-Some.ensures c.behind_mark-rest.ensures

pub loop-rest-preserved : goal.loop-rest-preserved
loop-rest-preserved c =
    build_turn (in_tree c.args.labels.now.map) c.args.source.now c.in-Some.text c.bytes.result.now c.bytes-in-Some.result.now c.before_mark.result.now c.read_line-said.result c.loop-rest.rest c.behind_mark-rest.result
    c.loop-rest.assembly c.put.new.assembly c.loop-rest.here c.next-here.result c.cause.result
    c.in-Some.is c.bytes.ensures c.before_mark.ensures c.read_line-said.ensures c.bytes-in-Some.ensures c.behind_mark-rest.ensures
    c.loop-rest.invariant c.cause.ensures c.in_default-cause.is
    c.in_ok-put.ensures.put c.in_ok-put.ensures.len c.in_ok-put.ensures.entry c.next-here.ensures.value c.next-here.ensures.bound

pub returns-clause-ok : goal.returns-clause-ok
returns-clause-ok c =
    build_end (in_tree c.args.labels.now.map) c.args.source.now c.loop-rest.assembly c.loop-rest.here c.loop-rest.rest c.in_ok-finish.field-0
    c.loop-rest.invariant c.in_default.is c.in_ok-finish.ensures
