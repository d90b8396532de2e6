use Rattle.std.proofs.Common.{arith}
use Rattle.snoop_bus.proofs.OnBus.{low_hart}
use Rattle.snoop_bus.proofs.Lent.{has_owned, commits}
use Rattle.snoop_bus.proofs.bus.Bus.commit.Goals as goal

pub invariant_of-self : goal.invariant_of-self
invariant_of-self c = (commits c.self.inside.harts _ c.args.line.0 c.self.invariant c.self.view_is c.args.hart _ _ c.args.copy c.requires.hart_in_range c.requires.owner c.requires.only_holder c.index_mut-caches.ensures.value c.write.ensures).one

pub returns : goal.returns
returns c = (commits c.self.inside.harts _ c.args.line.0 c.self.invariant c.self.view_is c.args.hart _ _ c.args.copy c.requires.hart_in_range c.requires.owner c.requires.only_holder c.index_mut-caches.ensures.value c.write.ensures).bus

pub write-requires : goal.write-requires
write-requires c = has_owned c.self.inside.harts _ c.args.line.0 c.self.invariant c.self.view_is c.args.hart _ c.requires.hart_in_range c.requires.owner c.requires.only_holder c.index_mut-caches.ensures.value

pub index_mut-caches-requires : goal.index_mut-caches-requires
index_mut-caches-requires c = let low = low_hart _ _ c.args.hart c.self.view_is c.requires.hart_in_range in omega (arith, low)
