use Rattle.std.proofs.Common.{subst, ap, sym, ◌∙◌}
use Rattle.std.specs.Prelude.{MatchOption}
use Rattle.cache_array.specs.Places.{place_at, other_in}
use Rattle.cache_array.specs.View.{ArrayView, HasRoom, IsOther, IsOnePerIndex}
use Rattle.cache_array.proofs.Held.{array_of, array_of-one_per_index, other_at_place}
use Rattle.cache_array.proofs.array.Array.victim.Goals as goal

pub returns-clause-other : goal.returns-clause-other
returns-clause-other c =
    let line = c.args.line.0 in
    let places = c.self.inside.places.items in
    let is = c.other_at.ensures ∙ ap (λ ps. other_in line (place_at ps line)) c.deref.ensures.value in
    subst (λ (a : ArrayView). MatchOption c.other_at.result (HasRoom a line) (λ other. IsOther a line other.0)) c.self.view_is
    (subst (λ r. MatchOption r (HasRoom (array_of places) line) (λ other. IsOther (array_of places) line other.0)) (sym is) (other_at_place places c.self.invariant line))

pub returns-clause-one_per_index : goal.returns-clause-one_per_index
returns-clause-one_per_index c =
    subst (λ (a : ArrayView). IsOnePerIndex a) c.self.view_is (array_of-one_per_index c.self.inside.places.items c.self.invariant)
