use Rattle.unit_rows.specs.Shown.{config, shown}
use Rattle.cluster_unit.proofs.SerialOnes.{room_of_store, no_room_of_store, room_of_front, no_room_of_front}
use Rattle.cluster_unit.proofs.room.is_for.Goals as goal

pub returns-in-Store-clause-yes : goal.returns-in-Store-clause-yes
returns-in-Store-clause-yes c = λ t. room_of_store (config c.args.site.now) c.args.site.now.cluster.0 c.args.hart c.args.line.0 (shown c.args.parts.now) c.args.cause c.stores_other.result c.in-Store.is c.stores_other.ensures t

pub returns-in-Store-clause-no : goal.returns-in-Store-clause-no
returns-in-Store-clause-no c = λ f. no_room_of_store (config c.args.site.now) c.args.site.now.cluster.0 c.args.hart c.args.line.0 (shown c.args.parts.now) c.args.cause c.stores_other.result c.in-Store.is c.stores_other.ensures f

pub returns-in-Instruction-clause-yes : goal.returns-in-Instruction-clause-yes
returns-in-Instruction-clause-yes c = λ t. room_of_front (config c.args.site.now) c.args.site.now.cluster.0 c.args.hart c.args.line.0 (shown c.args.parts.now) c.args.cause c.in-Instruction.is (c.is_for_instruction.ensures.yes t)

pub returns-in-Instruction-clause-no : goal.returns-in-Instruction-clause-no
returns-in-Instruction-clause-no c = λ f. no_room_of_front (config c.args.site.now) c.args.site.now.cluster.0 c.args.hart c.args.line.0 (shown c.args.parts.now) c.args.cause c.in-Instruction.is (c.is_for_instruction.ensures.no f)
