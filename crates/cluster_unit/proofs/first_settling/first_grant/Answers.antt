use Rattle.std.proofs.Common.{◌∙◌, sym, arith}
use Rattle.unit_rows.specs.Shown.{config, shown}
use Rattle.cluster_unit.proofs.FirstOnes.{none_waits, no_word}
use Rattle.cluster_unit.proofs.first_settling.first_grant.Goals as goal

pub returns-then-waiting-eq0 : goal.returns-then-waiting-eq0
returns-then-waiting-eq0 c = none_waits (config c.args.site.now) c.args.site.now.cluster.0 (shown c.args.parts.now) c.requires.sized (sym c.waiting.ensures ∙ c.if-waiting-eq0.true)

pub returns : goal.returns
returns c =
    let past = c.loop-number-test.false in
    let low = c.loop-number.invariant.1 in
    no_word (config c.args.site.now) c.args.site.now.cluster.0 (shown c.args.parts.now) c.requires.sized c.loop-number.number (grind arith) c.loop-number.invariant.0
