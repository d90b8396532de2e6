use Rattle.unit_rows.specs.Shown.{config, shown}
use Rattle.unit_rows.proofs.OtherLines.{wants_come, wants_read, wants_write, wants_last}
use Rattle.unit_rows.proofs.wanted.wants_other.Goals as goal

pub returns-then-comes_other : goal.returns-then-comes_other
returns-then-comes_other c =
    wants_come (config c.args.site.now) c.args.site.now.cluster.0 c.args.hart c.args.line.0 (shown c.args.parts.now) c.comes_other.result c.keeps_one_slot_a_line.ensures c.comes_other.ensures c.if-comes_other.true

pub returns-then-reads_other : goal.returns-then-reads_other
returns-then-reads_other c =
    wants_read (config c.args.site.now) c.args.site.now.cluster.0 c.args.hart c.args.line.0 (shown c.args.parts.now) c.reads_other.result c.reads_other.ensures c.if-reads_other.true

pub returns-then-writes_other : goal.returns-then-writes_other
returns-then-writes_other c =
    wants_write (config c.args.site.now) c.args.site.now.cluster.0 c.args.hart c.args.line.0 (shown c.args.parts.now) c.writes_other.result c.writes_other.ensures c.if-writes_other.true

pub returns : goal.returns
returns c =
    wants_last (config c.args.site.now) c.args.site.now.cluster.0 c.args.hart c.args.line.0 (shown c.args.parts.now) c.comes_other.result c.reads_other.result c.writes_other.result c.stores_other.result
    c.comes_other.ensures c.reads_other.ensures c.writes_other.ensures c.stores_other.ensures c.if-comes_other.false c.if-reads_other.false c.if-writes_other.false
