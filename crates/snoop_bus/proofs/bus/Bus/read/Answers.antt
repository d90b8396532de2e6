use Rattle.std.proofs.Common.{ap, ◌∙◌, arith}
use Rattle.std.proofs.lemmas.List.{get_or_default}
use Rattle.cache_levels.specs.View.{read_of}
use Rattle.snoop_bus.specs.Caches.{CachesView, caches_read}
use Rattle.snoop_bus.specs.View.{BusView, hart_read_of, after_hart_read}
use Rattle.snoop_bus.proofs.Gathered.{any_caches}
use Rattle.snoop_bus.proofs.OnBus.{low_hart, set_becomes}
use Rattle.snoop_bus.proofs.HartReads.{reads_one_map, reads_bus, reads_answer}
use Rattle.snoop_bus.proofs.bus.Bus.read.Goals as goal

pub index_mut-caches-requires : goal.index_mut-caches-requires
index_mut-caches-requires c =
    let low = low_hart c.self.inside.harts.items c.args.self.now c.args.hart c.self.view_is c.requires in
    omega (arith, low)

pub invariant_of-self : goal.invariant_of-self
invariant_of-self c =
    let hs = c.self.inside.harts.items in
    let low = low_hart hs c.args.self.now c.args.hart c.self.view_is c.requires in
    let becomes = set_becomes (λ h. caches_read h c.args.line.0) hs c.args.hart c.index_mut-caches.result.now c.read.new.self low c.index_mut-caches.ensures.value c.read.ensures.after in
    reads_one_map hs _ c.args.hart c.args.line.0 c.self.invariant low becomes

pub returns-clause-answer : goal.returns-clause-answer
returns-clause-answer c =
    let hs = c.self.inside.harts.items in
    let low = low_hart hs c.args.self.now c.args.hart c.self.view_is c.requires in
    let here = c.index_mut-caches.ensures.value ∙ get_or_default hs c.args.hart c.index_mut-caches.result.now any_caches low in
    c.read.ensures.answer
    ∙ ap (λ (x : CachesView). read_of x.levels c.args.line.0) here
    ∙ reads_answer hs c.args.hart c.args.line.0 c.self.invariant low
    ∙ ap (λ (b : BusView). hart_read_of b c.args.hart c.args.line.0) c.self.view_is

pub returns-clause-after : goal.returns-clause-after
returns-clause-after c =
    let hs = c.self.inside.harts.items in
    let low = low_hart hs c.args.self.now c.args.hart c.self.view_is c.requires in
    let becomes = set_becomes (λ h. caches_read h c.args.line.0) hs c.args.hart c.index_mut-caches.result.now c.read.new.self low c.index_mut-caches.ensures.value c.read.ensures.after in
    reads_bus hs _ c.args.hart c.args.line.0 c.self.invariant low becomes
    ∙ ap (λ (b : BusView). after_hart_read b c.args.hart c.args.line.0) c.self.view_is
