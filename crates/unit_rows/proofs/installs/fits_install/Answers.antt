use Rattle.std.proofs.Common.{◌<◌, sym, ap, ◌∙◌, subst, IfNone}
use Rattle.remote_cache.specs.Steps.{arrived_in}
use Rattle.unit_rows.specs.declared.choice.Choice.TheVariants.{Install}
use Rattle.unit_rows.specs.Rows.{Cannot}
use Rattle.unit_rows.specs.Shown.{config, shown}
use Rattle.unit_rows.proofs.BusFits.{unroomy}
use Rattle.unit_rows.proofs.InstallFits.{not_come, no_install_room, came_phase}
use Rattle.unit_rows.proofs.installs.fits_install.Goals as goal

pub room-requires : goal.room-requires
room-requires c = subst (λ n. c.in_ok-request.request.hart < n) (sym c.requires.sized.bus_harts) (c.requires.sized.slots_in_range c.args.slot c.in_ok-request.request (sym c.get.ensures ∙ c.in_ok-request.was)).0

pub returns-in_err-request-clause-idle : goal.returns-in_err-request-clause-idle
returns-in_err-request-clause-idle c =
    subst (λ r. IfNone r (Cannot (config c.args.site.now) c.args.site.now.cluster.0 (shown c.args.parts.now) (Install c.args.slot))) (sym c.from_residual.ensures)
    (not_come (config c.args.site.now) c.args.site.now.cluster.0 c.args.slot (shown c.args.parts.now) c.requires.sized (ap arrived_in (sym c.get.ensures ∙ c.in_err-request.was)))

pub returns-in_err-copy-clause-idle : goal.returns-in_err-copy-clause-idle
returns-in_err-copy-clause-idle c =
    subst (λ r. IfNone r (Cannot (config c.args.site.now) c.args.site.now.cluster.0 (shown c.args.parts.now) (Install c.args.slot))) (sym c.from_residual-in_err-copy.ensures)
    (not_come (config c.args.site.now) c.args.site.now.cluster.0 c.args.slot (shown c.args.parts.now) c.requires.sized (sym c.arrived.ensures ∙ c.in_err-copy.was))

pub returns-then-not-room-clause-idle : goal.returns-then-not-room-clause-idle
returns-then-not-room-clause-idle c =
    no_install_room (config c.args.site.now) c.args.site.now.cluster.0 c.args.slot (shown c.args.parts.now) c.in_ok-request.request c.requires.sized (sym c.get.ensures ∙ c.in_ok-request.was) (unroomy c.room.result c.room.ensures c.if-not-room.true)

pub returns-clause-fits : goal.returns-clause-fits
returns-clause-fits c = record {
  at = sym c.get.ensures ∙ c.in_ok-request.was;
  came = came_phase c.in_ok-request.request.phase c.in_ok-copy.copy (sym (ap arrived_in (sym c.get.ensures ∙ c.in_ok-request.was)) ∙ sym c.arrived.ensures ∙ c.in_ok-copy.was);
  room = c.room.ensures.0 c.if-not-room.false;
  local = (c.requires.sized.slots_in_range c.args.slot c.in_ok-request.request (sym c.get.ensures ∙ c.in_ok-request.was)).0;
}
