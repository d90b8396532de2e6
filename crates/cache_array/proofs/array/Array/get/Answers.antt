use Rattle.std.proofs.Common.{subst, ap, sym, ◌∙◌}
use Rattle.cache_array.specs.Places.{place_at, copy_in}
use Rattle.cache_array.specs.View.{ArrayView, copy_at, IsOnePerIndex}
use Rattle.cache_array.proofs.Held.{copy_at-array_of, array_of-one_per_index}
use Rattle.cache_array.proofs.array.Array.get.Goals as goal

pub returns-clause-copy : goal.returns-clause-copy
returns-clause-copy c =
    let line = c.args.line.0 in
    c.copy_of.ensures
    ∙ ap (λ ps. copy_in line (place_at ps line)) c.deref.ensures.value
    ∙ sym (copy_at-array_of c.self.inside.places.items c.self.invariant line)
    ∙ ap (λ (a : ArrayView). copy_at a line) c.self.view_is

pub returns-clause-one_per_index : goal.returns-clause-one_per_index
returns-clause-one_per_index c =
    subst (λ (a : ArrayView). IsOnePerIndex a) c.self.view_is (array_of-one_per_index c.self.inside.places.items c.self.invariant)
