-- What an arbiter's plan says of its next pick.
use Rattle.std.specs.Prelude.{◌≡◌, ℕ, ◌%◌, List, [], ◌∷◌, Option, Some, None, ⊤}
use Rattle.arbiter.specs.declared.arbitration.Plan.{Plan}
use Rattle.arbiter.specs.declared.arbitration.Plan.TheVariants.{Unknown, Retire, At}

-- what is picked of n things
abbrev pub Follows : Plan → ℕ → Option ℕ → Type 0
Follows Unknown n picked = ⊤
Follows Retire n picked = picked ≡ None
Follows (At k) n picked = picked ≡ Some (k % n)

-- the plan of a script, by the numbers that it has left
abbrev pub plan_of_rest : List ℕ → Plan
plan_of_rest [] = Retire
plan_of_rest (k ∷ ks) = At k
