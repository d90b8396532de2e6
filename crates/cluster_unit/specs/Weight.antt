-- What is on its way and what is left to settle, by weights, as a core shows them.
use Rattle.std.specs.Prelude.{ℕ, ◌+◌, ◌<◌, Option, None, Some, List, [], ◌∷◌, slice_get}
use Rattle.dash_msg.specs.declared.classes.Class.TheVariants.{Request, Reply}
use Rattle.dash_msg.specs.declared.parcel.Parcel.{Parcel}
use Rattle.mesh_lanes.specs.View.{OutletView, InletView}
use Rattle.dash_model.specs.Maps.{total}
use Rattle.dash_model.specs.Weight.{msg_weight}
use Rattle.cluster_unit.specs.View.{CoreView}
use Rattle.cluster_unit.specs.Ends.{place}

-- messages in a machine of n clusters, all together
unfoldable pub parcels_weight : ℕ → List Parcel → ℕ
parcels_weight n [] = 0
parcels_weight n (q ∷ qs) = msg_weight n q.msg + parcels_weight n qs

-- all that was sent by an end, and all that was received by one; nothing where there is no end
abbrev pub sent_weight : ℕ → Option OutletView → ℕ
sent_weight n None = 0
sent_weight n (Some o) = parcels_weight n o.sent

abbrev pub received_weight : ℕ → Option InletView → ℕ
received_weight n None = 0
received_weight n (Some i) = parcels_weight n i.received

-- all that went to cluster d, and all that came from it
abbrev pub went_to : ℕ → List OutletView → ℕ → ℕ
went_to n outlets d = sent_weight n (slice_get outlets (place d Request)) + sent_weight n (slice_get outlets (place d Reply))

abbrev pub came_from : ℕ → List InletView → ℕ → ℕ
came_from n inlets d = received_weight n (slice_get inlets (place d Request)) + received_weight n (slice_get inlets (place d Reply))

-- and to all clusters, and from all
unfoldable pub went_out : ℕ → List OutletView → ℕ
went_out n outlets = total (went_to n outlets) n

unfoldable pub came_in : ℕ → List InletView → ℕ
came_in n inlets = total (came_from n inlets) n

-- what is left there, with what went out, less what came in, became less
abbrev pub IsLighter : CoreView → CoreView → Type 0
IsLighter a b =
    went_out a.config.top.clusters b.outlets + b.weight + came_in a.config.top.clusters a.inlets
    < went_out a.config.top.clusters a.outlets + a.weight + came_in a.config.top.clusters b.inlets
