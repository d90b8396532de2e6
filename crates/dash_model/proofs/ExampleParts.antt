-- What the example runs share: their topologies and steps, tests of lines, and logs that rise.
use Rattle.std.proofs.Common.{◌≡◌, ◌≢◌, ◌⊎◌, inl, inr, ℕ, ◌+◌, ◌*◌, ◌/◌, ◌≤◌, ◌<◌, ◌==◌, ◌&&◌, ◌||◌, Bool, true, false, List, [], ◌∷◌, refl, arith}
use Rattle.std.specs.Prelude.{nat_lt}
use Rattle.std.proofs.Math.Dec.{lit≤}
use Rattle.std.proofs.lemmas.Bool.Decides.{nat_tests}
use Rattle.dash_base.specs.Bounds.{IsBetween}
use Rattle.dash_base.specs.declared.topology.Topology.{Topology}
use Rattle.dash_event.specs.declared.event.Event.{Event}
use Rattle.dash_event.specs.declared.event.Kind.{Kind}
use Rattle.dash_base.specs.declared.need.Need.TheVariants as needed
use Rattle.dash_model.specs.Config.{cluster_id}
use Rattle.dash_model.specs.HartRows.{HartEffect}
use Rattle.dash_model.specs.Machine.{Step, Precedes, PrecedesAll, IsRising}
use Rattle.dash_model.specs.ExampleLogs.{unlabelled}
use Rattle.dash_model.specs.TableParts.{hart_with}

-- a topology with these keys, and every other one at its least value
abbrev pub shape : (clusters harts budget locks prefetch : ℕ) → IsBetween 1 16 clusters → IsBetween 1 4 harts → IsBetween 1 2147483647 budget → locks ≤ 1024 → prefetch ≤ 8 → 0 + 65536 + 4 * locks ≤ 4294901760 → IsBetween 16 (65536 / (clusters * harts)) 16 → clusters * harts * budget ≤ 2000000 → Topology
shape clusters harts budget locks prefetch c h b l p r s w = record {
  clusters = clusters;
  harts = harts;
  budget = budget;
  memory = 65536;
  locks = locks;
  base = 0;
  l2 = 16;
  l1 = 1;
  buffer = 1;
  acks = 1;
  prefetch = prefetch;
  stack = 16;
  clusters_in_range = c;
  harts_in_range = h;
  budget_in_range = b;
  memory_in_range = record { low = lit≤ tt; high = lit≤ tt };
  memory_is_power = ∣ (16, refl) ∣₁;
  memory_in_pages = refl;
  locks_in_range = l;
  base_in_pages = refl;
  base_in_range = r;
  l2_in_range = record { low = lit≤ tt; high = lit≤ tt };
  l2_is_power = ∣ (4, refl) ∣₁;
  l1_in_range = record { low = lit≤ tt; high = lit≤ tt };
  l1_is_power = ∣ (0, refl) ∣₁;
  buffer_in_range = record { low = lit≤ tt; high = lit≤ tt };
  acks_in_range = record { low = lit≤ tt; high = lit≤ tt };
  prefetch_in_range = p;
  stack_in_range = s;
  stack_is_aligned = refl;
  work_in_range = w;
}

-- an event that does no instruction, and a step of cluster c
abbrev pub plain : HartEffect
plain = record { need = needed.Rest; next = hart_with 93 }

abbrev pub step : ℕ → ℕ → ℕ → Kind → HartEffect → Step
step c stamp taken k d = record { event = record { stamp = stamp; cluster = cluster_id c; kind = k }; stamp = taken; done = d }

pub no_release : unlabelled.rl ≡ true → ⊥
no_release e = cc

-- tests of a line's number
pub either : (b : Bool) → (b ≡ true) ⊎ (b ≡ false)
either true = inl refl
either false = inr refl

pub not_0 : (k : ℕ) → k ≢ 0 → (k == 0) ≡ false
not_0 k n = grind (arith, nat_tests)

pub not_16 : (k : ℕ) → k ≢ 16 → (k == 16) ≡ false
not_16 k n = grind (arith, nat_tests)

pub nothing_below : (m : ℕ) → 2 ≤ m → m < 2 → ⊥
nothing_below m a b = omega arith

-- a log rises where each event precedes the next one
abbrev precedes : Event → Event → Bool
precedes e f = nat_lt e.stamp f.stamp || ((e.stamp == f.stamp) && nat_lt e.cluster.0 f.cluster.0)

abbrev rise_from : Event → List Event → Bool
rise_from e [] = true
rise_from e (f ∷ fs) = precedes e f && rise_from f fs

abbrev pub rise : List Event → Bool
rise [] = true
rise (e ∷ es) = rise_from e es

by_test : (s t c d : ℕ) → (nat_lt s t || ((s == t) && nat_lt c d)) ≡ true → (s < t) ⊎ ((s ≡ t) × (c < d))
by_test s t c d e = grind (arith, nat_tests)

through : (e f g : Event) → Precedes e f → Precedes f g → Precedes e g
through e f g (inl a) (inl b) = inl (omega arith)
through e f g (inl a) (inr b) = inl (omega arith)
through e f g (inr a) (inl b) = inl (omega arith)
through e f g (inr a) (inr b) = inr (omega arith, omega arith)

through_all : (e f : Event) (fs : List Event) → Precedes e f → PrecedesAll f fs → PrecedesAll e fs
through_all e f [] p a = tt
through_all e f (g ∷ gs) p a = (through e f g p a.0, through_all e f gs p a.1)

pub both : (a b : Bool) → (a && b) ≡ true → (a ≡ true) × (b ≡ true)
both true b e = (refl, e)
both false b e = absurd (cc)

rises_from : (e : Event) (es : List Event) → rise_from e es ≡ true → PrecedesAll e es × IsRising es
rises_from e [] t = (tt, tt)
rises_from e (f ∷ fs) t =
    let h = both (precedes e f) (rise_from f fs) t in
    let r = rises_from f fs h.1 in
    let p : Precedes e f = by_test e.stamp f.stamp e.cluster.0 f.cluster.0 h.0 in
    ((p, through_all e f fs p r.0), r)

pub rises : (es : List Event) → rise es ≡ true → IsRising es
rises [] t = tt
rises (e ∷ es) t = rises_from e es t
