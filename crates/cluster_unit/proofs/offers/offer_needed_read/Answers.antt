use Rattle.std.proofs.Common.{refl}
use Rattle.unit_rows.specs.Shown.{config, shown}
use Rattle.unit_rows.proofs.LawsOffered.{can_read}
use Rattle.cluster_unit.specs.Listing.{PutIn, LeftOut}
use Rattle.cluster_unit.proofs.offers.offer_needed_read.Goals as goal

pub returns-then-not-fits_needed_read-clause-offers : goal.returns-then-not-fits_needed_read-clause-offers
returns-then-not-fits_needed_read-clause-offers c = LeftOut (c.fits_needed_read.ensures.idle c.if-not-fits_needed_read.true) refl

pub returns-clause-offers : goal.returns-clause-offers
returns-clause-offers c =
    PutIn (can_read (config c.args.site.now) c.args.site.now.cluster.0 c.args.hart (shown c.args.parts.now) c.args.line (c.fits_needed_read.ensures.fits c.if-not-fits_needed_read.false) c.requires.hart c.requires.sized c.keeps_one_map.ensures) c.push_reserved.ensures.items
