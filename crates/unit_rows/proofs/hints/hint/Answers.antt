use Rattle.std.proofs.Common.{subst}
use Rattle.unit_rows.specs.Shown.{config, shown}
use Rattle.unit_rows.specs.Hints.{OpensJust}
use Rattle.unit_rows.proofs.hints.hint.Goals as goal

pub hint_nothing-requires : goal.hint_nothing-requires
hint_nothing-requires c = record {
  sized = c.requires.sized;
  hart = c.requires.hart;
  need = c.requires.need;
  opens = subst (OpensJust (config c.args.site.now) (shown c.args.parts.now) c.args.kind c.args.address) c.in-None.is c.opened.ensures;
}

pub hint_opening-event-requires : goal.hint_opening-event-requires
hint_opening-event-requires c = record {
  sized = c.requires.sized;
  hart = c.requires.hart;
  need = c.requires.need;
  opens = subst (OpensJust (config c.args.site.now) (shown c.args.parts.now) c.args.kind c.args.address) c.in-Some.is c.opened.ensures;
}
