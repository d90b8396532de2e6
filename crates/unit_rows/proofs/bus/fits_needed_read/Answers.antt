use Rattle.std.proofs.Common.{sym, ◌∙◌}
use Rattle.unit_rows.specs.Shown.{config, shown}
use Rattle.unit_rows.proofs.BusFits.{no_copy, no_room, some_by_test, none_by_test, unroomy}
use Rattle.unit_rows.proofs.bus.fits_needed_read.Goals as goal

pub returns-then-is_none-clause-idle : goal.returns-then-is_none-clause-idle
returns-then-is_none-clause-idle c = λ t.
    no_copy (config c.args.site.now) c.args.site.now.cluster.0 c.args.hart (shown c.args.parts.now) c.args.line (sym c.peek.ensures ∙ none_by_test c.peek.result c.is_none.result c.is_none.ensures c.if-is_none.true)

pub returns-clause-fits : goal.returns-clause-fits
returns-clause-fits c = λ t. record {
  needs = c.requires.needed;
  copy = λ none. some_by_test c.peek.result c.is_none.result c.is_none.ensures c.if-is_none.false (c.peek.ensures ∙ none);
  room = c.room.ensures.0 t;
}

pub returns-clause-idle : goal.returns-clause-idle
returns-clause-idle c = λ t.
    no_room (config c.args.site.now) c.args.site.now.cluster.0 c.args.hart (shown c.args.parts.now) c.args.line c.requires.hart c.requires.sized (unroomy c.room.result c.room.ensures t)
