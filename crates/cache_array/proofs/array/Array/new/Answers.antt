use Rattle.cache_array.proofs.Direct.{empty_clone}
use Rattle.cache_array.proofs.Changed.{starts}
use Rattle.cache_array.proofs.array.Array.new.Goals as goal

pub invariant_of-result : goal.invariant_of-result
invariant_of-result c = rw (c.in_ok-places.ensures.items_if_clones_equal (empty_clone _ (λ p is. is))) (starts c.args.lines c.requires).direct

pub returns : goal.returns
returns c = rw (c.in_ok-places.ensures.items_if_clones_equal (empty_clone _ (λ p is. is))) (starts c.args.lines c.requires).array
