-- Harts by their numbers in the machine, as the units have them; and units as they are seen.
use Rattle.std.proofs.Common.{◌≡◌, ℕ, ◌+◌, ◌*◌, ◌/◌, ◌%◌, ◌<◌, Bool, List, [], ◌∷◌, map, length, refl, sym, ◌∙◌, ap, subst, arith, mod-lt}
use Rattle.std.specs.Prelude.{slice_index_or}
use Rattle.std.proofs.Math.Nat.{div-add-mod, div-lt_iff_lt-mul}
use Rattle.std.proofs.lemmas.List.{get_or-map, length-map}
use Rattle.dash_base.specs.Places.{hart_count}
use Rattle.dash_base.specs.declared.topology.Topology.{Topology}
use Rattle.dash_event.specs.declared.event.Event.{Event}
use Rattle.hart_core.specs.HartState.{HartState}
use Rattle.dash_model.specs.Config.{Config}
use Rattle.dash_model.specs.Machine.{Machine}
use Rattle.dash_model.specs.Part.{Part}
use Rattle.dash_model.specs.LocalRun.{IsMergeOf}
use Rattle.unit_rows.specs.Shown.{hart_at}
use Rattle.trace_merge.specs.MergedLogs.{log_of}
use Rattle.cluster_unit.specs.View.{CoreView}
use Rattle.cluster_unit.specs.Core.{IsAt}
use Rattle.cluster_unit.specs.Wiring.{AreOf}
use Rattle.round_run.specs.Units.{UnitView}
use Rattle.round_run.specs.Finished.{IsFinished}
use Rattle.round_run.specs.declared.finished.Cause.{Cause}
use Rattle.dash_run.specs.Ran.{itself}
use Rattle.dash_run.specs.Report.{hart_of}
use Rattle.dash_run.specs.Units.{AreOn, AreAt}

-- one unit for each cluster of a machine is one for each of its topology
pub are_on : {U : Type 0} (core : U → CoreView) (w : Config) (us : List U) → AreOf core w us → AreOn core w.top us
are_on core w us of = record { count = of.count; top = λ c d inside. ap (λ (v : Config). v.top) (of.config c d inside) }

-- a hart's number in its cluster
pub in_cluster : {U : Type 0} (core : U → CoreView) (t : Topology) (us : List U) (h c : ℕ) (d : U) → AreOn core t us → h < hart_count t → c ≡ h / t.harts
    → (c < length us) × (h % t.harts < (core (slice_index_or us c d)).config.top.harts)
in_cluster core t us h c d on inside same =
    let some : 0 < t.harts = (let least = t.harts_in_range.low in omega arith) in
    let mine : h / t.harts < t.clusters = (div-lt_iff_lt-mul some).1 inside in
    let count = on.count in
    let in_units : c < length us = omega arith in
    let local : h % t.harts < t.harts = mod-lt h some in
    (in_units, subst (λ (u : Topology). h % t.harts < u.harts) (sym (on.top c d in_units)) local)

-- the hart that a unit tells by its number there
pub hart_is : {U : Type 0} (core : U → CoreView) (w : Config) (m : Machine) (us : List U) (h c : ℕ) (d : U) (x : HartState) → AreAt core w m us → h < hart_count w.top → c ≡ h / w.top.harts
    → ((p : Part) → IsAt (core (slice_index_or us c d)) p
    → x ≡ (p.harts (hart_at (core (slice_index_or us c d)).config (core (slice_index_or us c d)).cluster (h % w.top.harts))).core)
    → x ≡ hart_of w m h
hart_is core w m us h c d x at inside same tells =
    let in_units = (in_cluster core w.top us h c d (are_on core w us at.units) inside same).0 in
    let mine : c < w.top.clusters = subst (λ (n : ℕ). c < n) at.units.count in_units in
    let whole : c * w.top.harts + h % w.top.harts ≡ h = (let parts = div-add-mod h w.top.harts in rw same (grind arith)) in
    let number : hart_at (core (slice_index_or us c d)).config (core (slice_index_or us c d)).cluster (h % w.top.harts) ≡ h =
    (λ i. hart_at (at.units.config c d in_units i) (at.units.cluster c d in_units i) (h % w.top.harts)) ∙ whole in
    let told : x ≡ ((m.parts c).harts h).core = tells (m.parts c) (at.parts c d mine) ∙ ap (λ (n : ℕ). ((m.parts c).harts n).core) number in
    told ∙ ap (λ (k : ℕ). ((m.parts k).harts h).core) same

-- what is so of each unit is so of it as it is seen
pub at_seen : {U : Type 0} (view : U → UnitView) (us : List U) (c : ℕ) (d : UnitView) → c < length us → (P : UnitView → Type 0)
    → ((e : U) → P (view (slice_index_or us c e))) → P (slice_index_or (map view us) c d)
at_seen view [] c d inside P holds = absurd (omega arith)
at_seen view (x ∷ xs) c d inside P holds = subst P (sym (get_or-map view (x ∷ xs) c x d inside)) (holds x)

pub logs_seen : {U : Type 0} (view : U → UnitView) (us : List U) → map (λ u. (view u).core.log) us ≡ map (λ u. (itself u).core.log) (map view us)
logs_seen view [] = refl
logs_seen view (x ∷ xs) = ap (λ ls. (view x).core.log ∷ ls) (logs_seen view xs)

unfoldable pub finished_seen : {U : Type 0} (view : U → UnitView) (w : Config) (log : List Event) (us : List U) (rounds : ℕ) (waits : List Bool) (cause : Cause)
    → IsFinished view w log us rounds waits cause → IsFinished itself w log (map view us) rounds waits cause
finished_seen view w log us rounds waits cause f =
    let same : length (map view us) ≡ length us = length-map us view in
    let in_units = λ (c : ℕ) (inside : c < w.top.clusters). subst (λ (n : ℕ). c < n) (sym f.units.count) inside in
    record {
      end = f.end;
      reaches = f.reaches;
      complete = f.complete;
      status = f.status;
      units = record {
        count = same ∙ f.units.count;
        config = λ c d inside. let there = subst (λ (n : ℕ). c < n) same inside in at_seen view us c d there (λ u. u.core.config ≡ w) (λ e. f.units.config c e there);
        cluster = λ c d inside. let there = subst (λ (n : ℕ). c < n) same inside in at_seen view us c d there (λ u. u.core.cluster ≡ c) (λ e. f.units.cluster c e there);
      };
      merged = subst (λ (ls : List (List Event)). IsMergeOf w.top.clusters (log_of ls) log) (logs_seen view us) f.merged;
      parts = λ c d inside. at_seen view us c d (in_units c inside) (λ u. IsAt u.core (f.end.parts c)) (λ e. f.parts c e inside);
      waits_count = f.waits_count;
      waiting = f.waiting;
      some_round = f.some_round;
      turns = λ few c d inside. at_seen view us c d (in_units c inside) (λ u. u.turns ≡ 256 * rounds) (λ e. f.turns few c e inside);
      ahead = λ few c d inside. at_seen view us c d (in_units c inside) (λ u. u.ahead ≡ 0) (λ e. f.ahead few c e inside);
    }

pub none_seen : {U : Type 0} (view : U → UnitView) (us : List U) → map view us ≡ [] → us ≡ []
none_seen view [] none = refl
none_seen view (x ∷ xs) none = absurd cc
