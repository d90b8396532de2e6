use Rattle.std.proofs.Common.{refl, arith}
use Rattle.unit_rows.specs.Shown.{config, shown}
use Rattle.std.proofs.lemmas.List.{get_or_default}
use Rattle.cluster_unit.proofs.SerialOnes.{no_room_next, no_room}
use Rattle.cluster_unit.proofs.room.room_among.Goals as goal

pub returns-then-makes_room : goal.returns-then-makes_room
returns-then-makes_room c = record { line = _; is = refl; can = c.makes_room.ensures.can c.if-makes_room.true; room = c.makes_room.ensures.room c.if-makes_room.true }

pub loop-line-preserved : goal.loop-line-preserved
loop-line-preserved c = (
  no_room_next (config c.args.site.now) c.args.site.now.cluster.0 c.args.hart (shown c.args.parts.now) c.args.cause c.args.lines.now c.requires.whole c.loop-line.line-index _ (get_or_default c.args.lines.now c.loop-line.line-index _ 0 c.loop-line-test.true) c.loop-line.invariant.0 (c.makes_room.ensures.cannot c.if-makes_room.false),
  grind arith,
)

pub returns : goal.returns
returns c =
    let past = c.loop-line-test.false in
    let low = c.loop-line.invariant.1 in
    no_room (config c.args.site.now) c.args.site.now.cluster.0 c.args.hart (shown c.args.parts.now) c.args.cause c.args.lines.now c.requires.whole c.loop-line.line-index (grind arith) c.loop-line.invariant.0
