use Rattle.toml.specs.View.{table_view}
use Rattle.topology.proofs.Refused.{refused_result}
use Rattle.topology.proofs.reader.read.Goals as goal

pub returns-in-Ok-clause-refused : goal.returns-in-Ok-clause-refused
returns-in-Ok-clause-refused c =
    let (utf8, parsed) = c.in-Ok.ensures.ok in
    refused_result c.args.bytes.now (table_view c.in-Ok.table) (record { utf8 = utf8; parsed = parsed }) c.topology_of.result c.topology_of.ensures.refused
