use Rattle.std.proofs.Common.{◌+◌, ◌-◌, ◌≤◌, arith}
use Rattle.unit_rows.specs.Shown.{config, shown}
use Rattle.unit_rows.proofs.AskCauses.{no_cause}
use Rattle.unit_rows.proofs.causes.cause.Goals as goal

pub returns-then-hart-harts : goal.returns-then-hart-harts
returns-then-hart-harts c =
    let first : c.args.site.now.topology.harts ≤ c.args.slot = c.if-slot-harts.false in
    let second : c.args.site.now.topology.harts ≤ c.args.slot - c.args.site.now.topology.harts = c.if-hart-harts.true in
    let past : c.args.site.now.topology.harts + c.args.site.now.topology.harts ≤ c.args.slot = omega arith in
    no_cause (config c.args.site.now) c.args.site.now.cluster.0 c.args.slot (shown c.args.parts.now) past
