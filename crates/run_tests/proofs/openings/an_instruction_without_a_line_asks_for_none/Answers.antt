use Rattle.unit_rows.specs.Shown.{config, shown}
use Rattle.unit_rows.proofs.LawsOffered.{opening_sized}
use Rattle.run_tests.proofs.openings.an_instruction_without_a_line_asks_for_none.Goals as goal

pub fits_request-requires-clause-sized : goal.fits_request-requires-clause-sized
fits_request-requires-clause-sized g c = opening_sized (config c.in_ok-site.site) c.in_ok-site.site.cluster.0 (shown c.in_ok-parts.parts) c.in_ok-parts.ensures
