use Rattle.std.proofs.Common.{ap, ◌∙◌}
use Rattle.remote_cache.specs.Steps.{is_refused, is_refused_phase}
use Rattle.unit_rows.specs.Shown.{config, shown}
use Rattle.unit_rows.proofs.AgainRow.{asks_again, sized_again}
use Rattle.unit_rows.proofs.requests.again.Goals as goal

pub reissue-requires-clause-refused : goal.reissue-requires-clause-refused
reissue-requires-clause-refused c = ap is_refused c.in_ok-request.ensures.fits.at ∙ ap is_refused_phase c.in_ok-request.ensures.fits.refused

pub returns-clause-did : goal.returns-clause-did
returns-clause-did c =
    asks_again (config c.args.site.now) c.args.site.now.cluster.0 c.args.slot (shown c.args.parts.now) c.in_ok-request.request c.reissue.new.slots c.asking-sent.result
    c.requires.slot c.keeps_one_slot_a_line.ensures c.in_ok-request.ensures.fits c.reissue.ensures c.asking-sent.ensures

pub returns-clause-sized : goal.returns-clause-sized
returns-clause-sized c =
    sized_again (config c.args.site.now) c.args.site.now.cluster.0 c.args.slot (shown c.args.parts.now) c.in_ok-request.request c.reissue.new.slots c.requires.slot c.requires.sized c.in_ok-request.ensures.fits c.reissue.ensures
