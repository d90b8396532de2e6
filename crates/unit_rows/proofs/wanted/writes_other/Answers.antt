use Rattle.std.proofs.Common.{sym, ◌∙◌}
use Rattle.unit_rows.specs.Shown.{config, shown, hart_at}
use Rattle.unit_rows.specs.EvictFits.{Tells, CanWrite, is_other, owner_found}
use Rattle.unit_rows.proofs.OtherLines.{tells_write, then_so, else_not}
use Rattle.unit_rows.proofs.wanted.writes_other.Goals as goal

pub returns-then-other : goal.returns-then-other
returns-then-other c =
    let w = config c.args.site.now in
    let k = c.args.site.now.cluster.0 in
    let v = shown c.args.parts.now in
    let found = c.needed_write-found.result in
    then_so (Tells w k v c.args.line.0 (CanWrite w (hart_at w k c.args.hart))) (is_other w found c.args.line.0) (owner_found v.bus found) c.owner_found-owned.result
    (tells_write w k c.args.hart c.args.line.0 v found c.needed_write-found.ensures.needed) (sym c.is_other-other.ensures ∙ c.if-other.true) c.owner_found-owned.ensures

pub returns-else-other : goal.returns-else-other
returns-else-other c =
    let w = config c.args.site.now in
    let k = c.args.site.now.cluster.0 in
    let v = shown c.args.parts.now in
    let found = c.needed_write-found.result in
    else_not (Tells w k v c.args.line.0 (CanWrite w (hart_at w k c.args.hart))) (is_other w found c.args.line.0) (owner_found v.bus found) c.is_other-other.result
    (tells_write w k c.args.hart c.args.line.0 v found c.needed_write-found.ensures.needed) c.is_other-other.ensures c.if-other.false
