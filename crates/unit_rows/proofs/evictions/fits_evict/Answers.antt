use Rattle.std.proofs.Common.{sym, ◌∙◌}
use Rattle.ack_counter.specs.View.{is_pending}
use Rattle.snoop_bus.specs.Holding.{is_owner}
use Rattle.snoop_bus.specs.View.{owner_at}
use Rattle.unit_rows.specs.Shown.{config, shown}
use Rattle.unit_rows.proofs.EvictTold.{not_held, still_pending, not_wanted, wanted, either_not}
use Rattle.unit_rows.proofs.evictions.fits_evict.Goals as goal

pub returns-then-not-holds-clause-idle : goal.returns-then-not-holds-clause-idle
returns-then-not-holds-clause-idle c = λ t.
    not_held (config c.args.site.now) c.args.site.now.cluster.0 c.args.hart (shown c.args.parts.now) c.args.line c.requires.hart (sym c.holds.ensures ∙ c.if-not-holds.true)

pub returns-then-stays-clause-idle : goal.returns-then-stays-clause-idle
returns-then-stays-clause-idle c = λ t.
    still_pending (config c.args.site.now) c.args.site.now.cluster.0 c.args.hart (shown c.args.parts.now) c.args.line (sym c.stays.ensures ∙ c.if-stays.true)

pub returns-clause-fits : goal.returns-clause-fits
returns-clause-fits c = λ t.
    let v = shown c.args.parts.now in record {
      holder = sym c.holds.ensures ∙ c.if-not-holds.false;
      other = wanted (config c.args.site.now) c.args.site.now.cluster.0 c.args.hart v c.args.line.0 c.wants_other.result c.wants_other.ensures t;
      may_leave = either_not (is_pending v.acks c.args.line.0) (is_owner (owner_at v.bus c.args.line.0) c.args.hart) (sym c.stays.ensures ∙ c.if-stays.false);
    }

pub returns-clause-idle : goal.returns-clause-idle
returns-clause-idle c = λ t.
    not_wanted (config c.args.site.now) c.args.site.now.cluster.0 c.args.hart (shown c.args.parts.now) c.args.line c.wants_other.result c.wants_other.ensures t
