-- What a step changes, and how stamps rise.
use Rattle.std.proofs.Common.{◌≡◌, ◌≢◌, ◌⊎◌, ℕ, ◌<◌, ◌≤◌, ◌==◌, false, cond, max, List, [], ◌∷◌, refl, ap, inl, inr, arith}
use Rattle.std.proofs.lemmas.Bool.Decides.{nat_tests}
use Rattle.dash_msg.specs.declared.msg.Msg.TheVariants.{Unlock}
use Rattle.dash_event.specs.declared.event.Kind.{Kind}
use Rattle.dash_event.specs.declared.event.Kind.TheVariants.{Free, Take}
use Rattle.dash_model.specs.Maps.{most, raised}
use Rattle.dash_model.specs.Config.{Config}
use Rattle.dash_model.specs.Part.{Part}
use Rattle.dash_model.specs.Row.{row}
use Rattle.dash_model.specs.Machine.{Machine, Step, stamp_of, taken, AtHead, less, part_after, CanHappen}
use Rattle.dash_model.specs.LocalRun.{IsLocalRun, StampsFit}
use Rattle.dash_model.specs.MachineLaws.{TakesHead, ChangesOnePart, StampsFrom, StampsOf}
use Rattle.dash_model.proofs.Lanes.{lane-send}
use Rattle.dash_model.proofs.Taking.{off_source}

part_other : (m : Machine) (k c : ℕ) (q : Part) → c ≢ k → cond (c == k) q (m.parts c) ≡ m.parts c
part_other m k c q n = let e : (c == k) ≡ false = grind (arith, nat_tests) in ap (λ t. cond t q (m.parts c)) e

takes_by : (w : Config) (m : Machine) (g : Step) (k : Kind) → g.event.kind ≡ k → AtHead (taken g.event.cluster.0 g.stamp k) m.net
    → (taken g.event.cluster.0 g.stamp g.event.kind ≡ []) ⊎ TakesHead w m g
takes_by w m g (Take f x) e h =
    inr (record { parcel = record { src = f.0; dst = g.event.cluster.0; msg = x; stamp = g.stamp }; only = ap (taken g.event.cluster.0 g.stamp) e; to_it = refl; is_head = h })
takes_by w m g (Free f a) e h =
    inr (record { parcel = record { src = f.0; dst = g.event.cluster.0; msg = Unlock a.hart a.number a.word; stamp = g.stamp }; only = ap (taken g.event.cluster.0 g.stamp) e; to_it = refl; is_head = h })
takes_by w m g _ e h = inl (ap (taken g.event.cluster.0 g.stamp) e)

pub changes : (w : Config) (m : Machine) (g : Step) → CanHappen w m g → ChangesOnePart w m g
changes w m g h = record {
  parts = λ c n. part_other m g.event.cluster.0 c (part_after w g.event.cluster.0 g (m.parts g.event.cluster.0)) n;
  takes = takes_by w m g g.event.kind refl h.head;
  lanes = λ a b k. lane-send a b k (less (taken g.event.cluster.0 g.stamp g.event.kind) m.net) g.event.stamp g.event.cluster.0 (row w g.event.cluster.0 g.event.kind g.done (m.parts g.event.cluster.0)).sent;
  others = λ a b k n. off_source a b k g.event.cluster.0 g.event.stamp (row w g.event.cluster.0 g.event.kind g.done (m.parts g.event.cluster.0)).sent n;
  console = refl;
}

-- stamps
max_left : (a b : ℕ) → a ≤ max a b
max_left a b = grind arith

max_right : (a b : ℕ) → b ≤ max a b
max_right a b = grind arith

above : (before m t : ℕ) → before ≤ m → t ≡ raised most m → t < most → before < t
above before m t l e h = grind (arith, nat_tests)

no_less : (before m t : ℕ) → before ≤ m → t ≡ raised most m → before ≤ t
no_less before m t l e = grind (arith, nat_tests)

rise : (w : Config) (c : ℕ) (p : Part) (gs : List Step) → IsLocalRun w c p gs → StampsFit gs → StampsFrom ◌<◌ c p.last gs
rise w c p [] r h = tt
rise w c p (g ∷ gs) r h =
    let u = stamp_of (taken c g.stamp g.event.kind) in
    (above p.last (max p.last u) g.event.stamp (max_left p.last u) r.0.stamp h.0, above u (max p.last u) g.event.stamp (max_right p.last u) r.0.stamp h.0, rise w c (part_after w c g p) gs r.1 h.1)

never_fall : (w : Config) (c : ℕ) (p : Part) (gs : List Step) → IsLocalRun w c p gs → StampsFrom ◌≤◌ c p.last gs
never_fall w c p [] r = tt
never_fall w c p (g ∷ gs) r =
    let u = stamp_of (taken c g.stamp g.event.kind) in
    (no_less p.last (max p.last u) g.event.stamp (max_left p.last u) r.0.stamp, no_less u (max p.last u) g.event.stamp (max_right p.last u) r.0.stamp, never_fall w c (part_after w c g p) gs r.1)

pub stamps_rise : (w : Config) (c : ℕ) (p : Part) (gs : List Step) → IsLocalRun w c p gs → StampsOf c p.last gs
stamps_rise w c p gs r = record { rise = rise w c p gs r; never_fall = never_fall w c p gs r }
