use Rattle.std.proofs.Common.{refl}
use Rattle.std.proofs.lemmas.Option.{slice_get_read}
use Rattle.flat_model.proofs.MachineWork.{is_next, work_falls, sum_falls}
use Rattle.flat_model.proofs.change.finish.Goals as goal

pub returns-clause-after : goal.returns-clause-after
returns-clause-after c = record {
  before = c.index_mut-hart.result.now;
  after = c.finish.new.self;
  was = slice_get_read c.args.harts.now.items _ c.args.index c.index_mut-hart.result.now refl c.requires.in_range c.index_mut-hart.ensures.value;
  now = refl;
  does = λ need needs. c.finish.ensures.next need (is_next _ _ _ need needs);
}

pub returns-clause-nearer : goal.returns-clause-nearer
returns-clause-nearer c =
    sum_falls c.args.topology.now c.args.harts.now.items c.args.index c.index_mut-hart.result.now c.finish.new.self
    (slice_get_read c.args.harts.now.items _ c.args.index c.index_mut-hart.result.now refl c.requires.in_range c.index_mut-hart.ensures.value)
    (work_falls c.args.image.now c.args.topology.now c.index_mut-hart.result.now c.finish.new.self c.finish.ensures.finished.need c.args.answer c.finish.ensures.finished.does)
