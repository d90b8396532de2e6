use Rattle.std.proofs.Common.{rules, sym, ◌∙◌}
use Rattle.unit_rows.specs.Shown.{config, shown}
use Rattle.cluster_unit.proofs.SerialOnes.{as_front, as_store}
use Rattle.cluster_unit.proofs.first_serial.first_serial.Goals as goal

pub returns-then-len-eq0 : goal.returns-then-len-eq0
returns-then-len-eq0 c = as_front (config c.args.site.now) c.args.site.now.cluster.0 c.args.hart (shown c.args.parts.now) c.index.result.now c.first_for_instruction.result c.requires.hart (search rules) (sym c.len.ensures.len ∙ c.if-len-eq0.true) c.first_for_instruction.ensures

pub returns : goal.returns
returns c = as_store (config c.args.site.now) c.args.site.now.cluster.0 c.args.hart (shown c.args.parts.now) c.index.result.now c.first_for_store.result c.requires.hart (search rules) (λ e. c.if-len-eq0.false (c.len.ensures.len ∙ e)) c.first_for_store.ensures
