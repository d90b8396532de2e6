use Rattle.std.proofs.Common.{◌≡◌, map}
use Rattle.std.specs.List.{range_with_len}
use Rattle.hart_core.specs.Opening.{opening_hart}
use Rattle.flat_model.proofs.opening.opening_harts.Given as goal

-- the harts of the numbers so far
abbrev pub invariant-numbers : goal.invariant-numbers
invariant-numbers l = l.harts.items ≡ map (λ h. opening_hart l.image l.topology h) (range_with_len 0 l.number)
