use Rattle.unit_rows.specs.Shown.{config, shown}
use Rattle.unit_rows.proofs.Retiring.{retired_from, sized_local, capacity_of, front_of, goes_on}
use Rattle.unit_rows.proofs.instructions.retire.Goals as goal

pub advance-requires : goal.advance-requires
advance-requires c = record {
  goes = goes_on (config c.args.site.now) (shown c.args.parts.now) c.args.hart c.index_mut-local.result.now c.index_mut-local.ensures.value c.requires.goes;
  front = front_of (config c.args.site.now) c.args.site.now.cluster.0 c.args.hart (shown c.args.parts.now) c.index_mut-local.result.now c.requires.hart c.requires.sized c.index_mut-local.ensures.value;
}

pub returns-clause-retired : goal.returns-clause-retired
returns-clause-retired c =
    retired_from (config c.args.site.now) (shown c.args.parts.now) c.args.hart 0 c.pc-pc.result c.index_mut-local.result.now c.advance.new.self c.advance.new.front c.requires.hart c.requires.sized.locals c.index_mut-local.ensures.value c.advance.ensures.next c.pc-pc.ensures

pub returns-clause-sized : goal.returns-clause-sized
returns-clause-sized c =
    sized_local (config c.args.site.now) c.args.site.now.cluster.0 (shown c.args.parts.now) c.args.hart _ c.requires.hart c.requires.sized
    (capacity_of (config c.args.site.now) c.args.site.now.cluster.0 (shown c.args.parts.now) c.args.hart c.index_mut-local.result.now c.requires.hart c.requires.sized c.index_mut-local.ensures.value) c.advance.ensures.front
