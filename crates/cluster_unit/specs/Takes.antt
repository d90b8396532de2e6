-- The choices to take a message: from each cluster, of each class, where the lane shows one.
use Rattle.std.specs.Prelude.{ℕ, suc, zero, Bool, cond, List, [], ◌∷◌, ◌++◌, slice_get}
use Rattle.dash_msg.specs.declared.classes.Class.{Class}
use Rattle.dash_msg.specs.declared.classes.Class.TheVariants.{Request, Reply}
use Rattle.mesh_lanes.specs.View.{InletView}
use Rattle.dash_model.specs.Config.{cluster_id}
use Rattle.unit_rows.specs.declared.choice.Choice.{Choice}
use Rattle.unit_rows.specs.declared.choice.Choice.TheVariants.{Take}
use Rattle.cluster_unit.specs.Ends.{place, knows}

-- the choice to take it
abbrev pub take_if : Bool → ℕ → Class → List Choice
take_if b f k = cond b (Take (cluster_id f) k ∷ []) []

abbrev pub takes_from : List InletView → ℕ → List Choice
takes_from xs f = take_if (knows (slice_get xs (place f Request))) f Request ++ take_if (knows (slice_get xs (place f Reply))) f Reply

-- from the first n clusters
unfoldable pub takes_of : List InletView → ℕ → List Choice
takes_of xs zero = []
takes_of xs (suc n) = takes_of xs n ++ takes_from xs n
