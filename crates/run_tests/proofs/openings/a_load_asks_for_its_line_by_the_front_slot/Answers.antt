use Rattle.unit_rows.specs.Shown.{config, shown}
use Rattle.unit_rows.proofs.LawsOffered.{opening_sized}
use Rattle.run_tests.proofs.openings.a_load_asks_for_its_line_by_the_front_slot.Goals as goal

pub fits_request-requires-clause-sized : goal.fits_request-requires-clause-sized
fits_request-requires-clause-sized g c = opening_sized (config c.in_ok-site.site) c.in_ok-site.site.cluster.0 (shown c.in_ok-parts.parts) c.in_ok-parts.ensures

pub fits_request-requires-2-clause-sized : goal.fits_request-requires-2-clause-sized
fits_request-requires-2-clause-sized g c = opening_sized (config c.in_ok-site.site) c.in_ok-site.site.cluster.0 (shown c.in_ok-parts.parts) c.in_ok-parts.ensures

pub request-requires-clause-sized : goal.request-requires-clause-sized
request-requires-clause-sized g c = opening_sized (config c.in_ok-site.site) c.in_ok-site.site.cluster.0 (shown c.in_ok-parts.parts) c.in_ok-parts.ensures
