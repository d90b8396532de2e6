use Rattle.unit_rows.specs.Shown.{config, shown}
use Rattle.unit_rows.proofs.AskRow.{asks_for, sized_request}
use Rattle.unit_rows.proofs.requests.request.Goals as goal

pub returns-clause-did : goal.returns-clause-did
returns-clause-did c =
    asks_for (config c.args.site.now) c.args.site.now.cluster.0 c.args.slot c.hart_id.result c.in_ok-request.request (shown c.args.parts.now) c.issue.new.self c.count_owned.new.acks c.asking.result
    c.requires.slot c.keeps_one_slot_a_line.ensures c.in_ok-request.ensures.fits c.hart_id.ensures c.issue.ensures c.count_owned.ensures c.asking.ensures

pub returns-clause-sized : goal.returns-clause-sized
returns-clause-sized c =
    sized_request (config c.args.site.now) c.args.site.now.cluster.0 c.args.slot c.in_ok-request.request (shown c.args.parts.now) c.issue.new.self c.count_owned.new.acks c.requires.slot c.requires.sized c.in_ok-request.ensures.fits c.issue.ensures c.count_owned.ensures
