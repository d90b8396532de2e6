use Rattle.std.proofs.Common.{◌≡◌, ◌-◌, rules, get_or}
use Rattle.elf_load.proofs.Opened.{none_put, put_at, all_put, byte_read}
use Rattle.elf_load.proofs.opening.put.Goals as goal

pub loop-address-init : goal.loop-address-init
loop-address-init c = none_put c.max-start.result c.args.segment.now c.args.map c.args.bytes.now.items (search rules)

pub loop-address-preserved : goal.loop-address-preserved
loop-address-preserved c =
    let same : c.segment.inside.bytes.items ≡ c.args.segment.now.bytes = search rules in
    let value : c.index.result.now ≡ get_or c.args.segment.now.bytes (c.loop-address.address - c.args.segment.now.vaddr) 0 = byte_read c.segment.inside.bytes.items c.args.segment.now.bytes (c.loop-address.address - c.from-first.result) _ c.index.result.now same (search rules) (search rules) c.index.ensures in
    put_at c.loop-address.address (c.loop-address.address - c.from-base.result) c.index.result.now c.args.segment.now c.args.map c.args.bytes.now.items c.loop-address.bytes.items
    (search rules) value (search rules) (search rules) (search rules) (search rules) (search rules) c.loop-address.invariant

pub returns-clause-each : goal.returns-clause-each
returns-clause-each c = all_put c.loop-address.address c.args.segment.now c.args.map c.args.bytes.now.items c.loop-address.bytes.items (search rules) c.loop-address.invariant
