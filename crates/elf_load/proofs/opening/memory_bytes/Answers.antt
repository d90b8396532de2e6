use Rattle.std.proofs.Common.{rules, arith}
use Rattle.elf_load.proofs.Opened.{opening_none, opening_at}
use Rattle.elf_load.proofs.opening.memory_bytes.Goals as goal

pub loop-left-init : goal.loop-left-init
loop-left-init c = record {
  opening = opening_none c.args.segments.now c.args.map c.in_ok-bytes.bytes.items (search rules);
  len = search rules;
  within = search rules;
}

pub loop-left-preserved : goal.loop-left-preserved
loop-left-preserved c =
    let some = c.loop-left-test.true in
    let within = c.loop-left.invariant.within in record {
      opening = opening_at c.args.segments.now c.loop-left.left c.index-segments-left.result c.args.map c.loop-left.bytes.items c.put.new.bytes.items some within c.index-segments-left.is c.loop-left.invariant.opening c.put.ensures.each;
      len = search rules;
      within = omega arith;
    }
