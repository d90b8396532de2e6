use Rattle.cache_array.proofs.LawsOffered.{empty_clone}
use Rattle.cache_levels.proofs.LineSets.{starts}
use Rattle.cache_levels.proofs.line_set.LineSet.new.Goals as goal

pub invariant_of-result : goal.invariant_of-result
invariant_of-result c =
    rw (c.in_ok-places.ensures.items_if_clones_equal (empty_clone _ (λ l is. is))) (starts c.args.lines c.requires).direct

pub returns : goal.returns
returns c = rw (c.in_ok-places.ensures.items_if_clones_equal (empty_clone _ (λ l is. is))) (starts c.args.lines c.requires).set_is
