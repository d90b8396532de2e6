use Rattle.std.proofs.Common.{◌≡◌, map, None}
use Rattle.std.specs.List.{range_with_len}
use Rattle.flat_model.proofs.opening.opening_reservations.Given as goal

-- one for each number so far
abbrev pub invariant-numbers : goal.invariant-numbers
invariant-numbers l = l.reservations.items ≡ map (λ h. None) (range_with_len 0 l._number)
