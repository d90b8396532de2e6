-- What is picked where an arbiter's plan tells it.
use Rattle.std.proofs.Common.{◌≡◌, ℕ, ◌<◌, ◌%◌, None, Some, ◌∙◌, arith}
use Rattle.arbiter.specs.declared.arbitration.Plan.TheVariants.{Retire, At}
use Rattle.arbiter.specs.Picks.{Follows}

-- a number of the plan that is below how many there are is what is picked
pub pick_is_planned : (k n i : ℕ) → k < n → Follows (At k) n (Some i) → i ≡ k
pick_is_planned k n i low follows =
    let is : i ≡ k % n = cc in
    is ∙ grind arith

-- who has a number does not retire, and who retires picks nothing
pub plan_does_not_retire : (k n : ℕ) → Follows (At k) n None → ⊥
plan_does_not_retire k n follows = cc

pub retired_picks_none : (n i : ℕ) → Follows Retire n (Some i) → ⊥
retired_picks_none n i follows = cc
