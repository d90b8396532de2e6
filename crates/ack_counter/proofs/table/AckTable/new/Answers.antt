use Rattle.std.proofs.Common.{ap, ◌∙◌}
use Rattle.ack_counter.specs.Steps.{empty_table}
use Rattle.ack_counter.specs.Entries.{map_of}
use Rattle.ack_counter.proofs.Maps.{map_of-nil}
use Rattle.ack_counter.proofs.table.AckTable.new.Goals as goal

pub returns : goal.returns
unfolding empty_table
returns c = λ i. record { capacity = c.args.entries; entries = (ap map_of c.new.ensures ∙ map_of-nil) i }
