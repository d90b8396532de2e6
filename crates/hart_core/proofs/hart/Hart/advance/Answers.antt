use Rattle.hart_core.proofs.Fronts.{front_does, front_finishes}
use Rattle.hart_core.proofs.hart.Hart.advance.Goals as goal

pub returns-clause-finished : goal.returns-clause-finished
returns-clause-finished c = front_finishes c.args.image.now c.args.topology.now c.args.self.now c.answer.new.self c.args.front.now c.args.answer c.requires.goes c.requires.front c.answer.ensures

pub returns-clause-next : goal.returns-clause-next
returns-clause-next c = front_does c.args.image.now c.args.topology.now c.args.self.now c.answer.new.self c.args.front.now c.args.answer c.requires.goes c.requires.front c.answer.ensures
