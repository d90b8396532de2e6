-- The order of choices: by kind, then by hart, slot, lock word or source, and then as each kind has it.
use Rattle.std.specs.Prelude.{◌≡◌, ◌≢◌, ◌⊎◌, ℕ, ◌<◌, List, [], ◌∷◌}
use Rattle.dash_msg.specs.declared.classes.Class.TheVariants.{Request, Reply}
use Rattle.dash_model.specs.Config.{Config}
use Rattle.dash_model.specs.Part.{Part}
use Rattle.dash_model.specs.Wants.{FrontNeed}
use Rattle.unit_rows.specs.declared.choice.Choice.{Choice}
use Rattle.unit_rows.specs.declared.choice.Choice.TheVariants.{Step, Commit, BusRead, BusOwn, Evict, Ask, Again, Install, Grant, Take}
use Rattle.unit_rows.specs.Shown.{hart_at}

-- the place of a choice's kind
abbrev pub kind_place : Choice → ℕ
kind_place (Step k) = 1
kind_place (Commit k) = 2
kind_place (BusRead k l) = 3
kind_place (BusOwn k l) = 3
kind_place (Evict k l) = 4
kind_place (Ask n) = 5
kind_place (Again n) = 6
kind_place (Install n) = 7
kind_place (Grant i) = 8
kind_place (Take f k) = 9

-- the hart, slot, lock word or source that it is of
abbrev pub number_in : Choice → ℕ
number_in (Step k) = k
number_in (Commit k) = k
number_in (BusRead k l) = k
number_in (BusOwn k l) = k
number_in (Evict k l) = k
number_in (Ask n) = n
number_in (Again n) = n
number_in (Install n) = n
number_in (Grant i) = i
number_in (Take f k) = f.0

-- of choices of one kind and one number: a hart's instruction before its oldest store, lines as they rise, a request before a reply
abbrev pub IsSooner : Config → ℕ → Part → Choice → Choice → Type 0
IsSooner w c p (BusRead k l) (BusOwn h m) = Unit {0}
IsSooner w c p (BusOwn k l) (BusOwn h m) = FrontNeed w (hart_at w c k) l.0 p × (l ≢ m)
IsSooner w c p (Evict k l) (Evict h m) = l.0 < m.0
IsSooner w c p (Take f Request) (Take g Reply) = Unit {0}
IsSooner w c p x y = ⊥

-- one choice stands before another
abbrev pub IsBefore : Config → ℕ → Part → Choice → Choice → Type 0
IsBefore w c p x y =
    (kind_place x < kind_place y)
    ⊎ ((kind_place x ≡ kind_place y) × ((number_in x < number_in y) ⊎ ((number_in x ≡ number_in y) × IsSooner w c p x y)))

-- it stands before each of these
abbrev pub IsBeforeAll : Config → ℕ → Part → Choice → List Choice → Type 0
IsBeforeAll w c p x [] = Unit {0}
IsBeforeAll w c p x (y ∷ ys) = IsBefore w c p x y × IsBeforeAll w c p x ys

-- each choice stands before all that follow
abbrev pub AreInOrder : Config → ℕ → Part → List Choice → Type 0
AreInOrder w c p [] = Unit {0}
AreInOrder w c p (x ∷ xs) = IsBeforeAll w c p x xs × AreInOrder w c p xs
