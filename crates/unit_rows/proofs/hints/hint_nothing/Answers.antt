use Rattle.unit_rows.specs.Shown.{config, shown}
use Rattle.unit_rows.proofs.Retiring.{hart_number}
use Rattle.unit_rows.proofs.HintRows.{does_nothing}
use Rattle.unit_rows.proofs.hints.hint_nothing.Goals as goal

pub retire-pc-requires-clause-goes : goal.retire-pc-requires-clause-goes
retire-pc-requires-clause-goes c = λ d. (c.requires.need d).goes

pub returns-clause-did : goal.returns-clause-did
returns-clause-did c =
    does_nothing (config c.args.site.now) c.args.site.now.cluster.0 c.args.hart c.retire-pc.result c.args.address c.args.kind c.hart_id.result (shown c.args.parts.now) (shown c.retire-pc.new.parts) c.retire-pc.ensures.retired (hart_number c.hart_id.ensures) c.requires.hart c.requires.sized c.requires.need c.keeps_one_slot_a_line.ensures c.requires.opens
