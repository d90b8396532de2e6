-- One step by which a cluster settles.
use Rattle.std.proofs.Common.{◌≡◌, ℕ, ◌+◌, ◌*◌, ◌<◌, false, None, Some, List, slice_get, refl, sym, ap, ◌∙◌, subst, arith}
use Rattle.dash_msg.specs.declared.classes.Class.{Class}
use Rattle.dash_msg.specs.declared.classes.Class.TheVariants.{Request, Reply}
use Rattle.mesh_lanes.specs.View.{InletView}
use Rattle.dash_model.specs.Config.{cluster_id}
use Rattle.dash_model.specs.Part.{opening_part}
use Rattle.dash_model.specs.LocalRun.{part_at}
use Rattle.unit_rows.specs.declared.choice.Choice.{Choice}
use Rattle.unit_rows.specs.declared.choice.Choice.TheVariants.{Take}
use Rattle.cluster_unit.specs.declared.turn.Turn.{Turn}
use Rattle.cluster_unit.specs.declared.turn.Turn.TheVariants.{Idle}
use Rattle.cluster_unit.specs.View.{CoreView}
use Rattle.cluster_unit.specs.Ends.{place, knows, Looked}
use Rattle.cluster_unit.specs.Core.{HasRun}
use Rattle.cluster_unit.specs.Turns.{spent}
use Rattle.cluster_unit.specs.Choosing.{Performed}
use Rattle.cluster_unit.specs.Settling.{FirstToSettle, Settled, Settles}
use Rattle.cluster_unit.specs.Searching.{FirstClass, IsFirstClass, IsFirstTake}
use Rattle.cluster_unit.proofs.FirstOnes.{so_far}
use Rattle.cluster_unit.proofs.Turning.{at_run, performed_did}

-- what was found is done
pub settled_one : (t : Turn) (a seen b : CoreView) (x : Choice) → seen ≡ record a { inlets = seen.inlets } → Looked a.inlets seen.inlets → FirstToSettle seen (Some x) → HasRun seen → Performed x t seen b → Settles t a b
settled_one t a seen b x same looked first run done =
    let at = at_run seen run in
    let did = performed_did x t seen b (part_at seen.config seen.cluster (opening_part seen.config) run.history) at (first (part_at seen.config seen.cluster (opening_part seen.config) run.history) at).may done in
    record { seen = seen; same = same; looked = looked; settled = subst (λ u. Settled u seen b) (sym did.0) (record { choice = x; first = first; done = did.1 }) }

pub settled_none : (a seen b : CoreView) → seen ≡ record a { inlets = seen.inlets } → Looked a.inlets seen.inlets → FirstToSettle seen None → b ≡ spent seen → Settles Idle a b
settled_none a seen b same looked none is = record { seen = seen; same = same; looked = looked; settled = (none, is) }

-- ends that were looked at
place_below : (f n : ℕ) (k : Class) → f < n → place f k < 2 * n
place_below f n Request low = omega (arith, low)
place_below f n Reply low = omega (arith, low)

module _ (xs ys : List InletView) (n : ℕ) (same : (j : ℕ) → j < 2 * n → slice_get ys j ≡ slice_get xs j) (before : (f : ℕ) (k : Class) → f < n → knows (slice_get xs (place f k)) ≡ false) where
  pub still_none : (f : ℕ) (k : Class) → f < n → knows (slice_get ys (place f k)) ≡ false
  still_none f k low = ap knows (same (place f k) (place_below f n k low)) ∙ before f k low

  pub none_more : FirstClass ys n None → (f : ℕ) (k : Class) → f < n + 1 → knows (slice_get ys (place f k)) ≡ false
  none_more none f k low = so_far (λ g. (j : Class) → knows (slice_get ys (place g j)) ≡ false) n (λ g less j. still_none g j less) none f low k

  pub one_shown : (m : ℕ) (k : Class) → n < m → IsFirstClass ys n k → IsFirstTake ys m (Take (cluster_id n) k)
  one_shown m k low one = record { from = n; class = k; below = low; is = refl; first = one; before = still_none }

pub no_class : (xs : List InletView) (f : ℕ) → knows (slice_get xs (place f Request)) ≡ false → knows (slice_get xs (place f Reply)) ≡ false → FirstClass xs f None
no_class xs f a b Request = a
no_class xs f a b Reply = b
