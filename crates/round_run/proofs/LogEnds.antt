-- The logs of units that ended: each is of its cluster, and its stamps rise and stay below the greatest one.
use Rattle.std.proofs.Common.{◌≡◌, ℕ, suc, ◌^◌, ◌<◌, ◌≤◌, List, [], ◌∷◌, length, map, slice_index_or, inl, refl, sym, subst, arith}
use Rattle.std.specs.List.{AllByRecursion as Each}
use Rattle.std.proofs.lemmas.List.{get_or-map, get_or_past, length-map}
use Rattle.std.proofs.lemmas.List.Elements.{All-from_recursion}
use Rattle.dash_event.specs.declared.event.Event.{Event}
use Rattle.dash_model.specs.Maps.{most}
use Rattle.dash_model.specs.Config.{Config}
use Rattle.dash_model.specs.Part.{Part, opening_part}
use Rattle.dash_model.specs.Machine.{Step, event_of, part_after, PrecedesAll, IsRising}
use Rattle.dash_model.specs.MachineLaws.{StampsFrom}
use Rattle.dash_model.specs.LocalRun.{IsLocalRun, StampsFit}
use Rattle.dash_model.proofs.LawsOffered.{stamps_rise}
use Rattle.trace_merge.specs.MergedLogs.{IsLogOf, log_of, AreLogs}
use Rattle.cluster_unit.specs.View.{CoreView}
use Rattle.cluster_unit.specs.Core.{HasRun}
use Rattle.round_run.specs.Units.{UnitView}
use Rattle.round_run.specs.Stamps.{EndsBelow, AreBelow}

-- what follows the first event ends as all do
ends_after : (e : Event) (es : List Event) → EndsBelow (e ∷ es) → EndsBelow es
ends_after e es below i f last is = below (suc i) f (omega arith) is

-- such a stamp is below the greatest one
low_fits : (n : ℕ) → n < 2 ^ 62 → n < most
low_fits n low = omega arith

-- stamps that never fall stay below the greatest one where the last does
pub stamps_fit : (c last : ℕ) (gs : List Step) → StampsFrom ◌≤◌ c last gs → EndsBelow (map event_of gs) → StampsFit gs
stamps_fit c last [] from below = tt
stamps_fit c last (g ∷ []) from below = (low_fits g.event.stamp (below 0 g.event refl refl), tt)
stamps_fit c last (g ∷ h ∷ gs) from below =
    let rest : StampsFit (h ∷ gs) = stamps_fit c g.event.stamp (h ∷ gs) from.2 (ends_after g.event (map event_of (h ∷ gs)) below) in
    let later : h.event.stamp < most = rest.0 in
    let rises : g.event.stamp ≤ h.event.stamp = from.2.0 in
    (omega arith, rest)

-- an event precedes those of later stamps
precedes : (c last : ℕ) (e : Event) (gs : List Step) → e.stamp ≤ last → StampsFrom ◌<◌ c last gs → PrecedesAll e (map event_of gs)
precedes c last e [] least from = tt
precedes c last e (g ∷ gs) least from =
    let first : last < g.event.stamp = from.0 in
    let less : e.stamp < g.event.stamp = omega arith in
    (inl less, precedes c g.event.stamp e gs (omega arith) from.2)

-- events of rising stamps rise
rising : (c last : ℕ) (gs : List Step) → StampsFrom ◌<◌ c last gs → IsRising (map event_of gs)
rising c last [] from = tt
rising c last (g ∷ gs) from = (precedes c g.event.stamp g.event gs (omega arith) from.2, rising c g.event.stamp gs from.2)

-- the events of a local run are of its cluster
of_its_cluster : (w : Config) (c : ℕ) (p : Part) (gs : List Step) → IsLocalRun w c p gs → Each (λ e. e.cluster.0 ≡ c) (map event_of gs)
of_its_cluster w c p [] ran = tt
of_its_cluster w c p (g ∷ gs) ran = (ran.0.cluster, of_its_cluster w c (part_after w c g p) gs ran.1)

-- the stamps of a local run whose log ends so
pub run_fits : (w : Config) (c : ℕ) (p : Part) (gs : List Step) → IsLocalRun w c p gs → EndsBelow (map event_of gs) → StampsFit gs
run_fits w c p gs ran below = stamps_fit c p.last gs (stamps_rise w c p gs ran).never_fall below

-- and its log
pub run_log : (w : Config) (c : ℕ) (p : Part) (gs : List Step) → IsLocalRun w c p gs → EndsBelow (map event_of gs) → IsLogOf c (map event_of gs)
run_log w c p gs ran below = record {
  cluster = All-from_recursion (λ e. e.cluster.0 ≡ c) (map event_of gs) (of_its_cluster w c p gs ran);
  rising = rising c p.last gs ((stamps_rise w c p gs ran).rise (run_fits w c p gs ran below));
}

-- the log of a core
core_log : (a : CoreView) → HasRun a → EndsBelow a.log → IsLogOf a.cluster a.log
core_log a has below =
    subst (IsLogOf a.cluster) has.events (run_log a.config a.cluster (opening_part a.config) has.history has.ran (subst EndsBelow (sym has.events) below))

module _ {U : Type 0} (view : U → UnitView) where
  -- the log of each unit is a run
  abbrev pub HaveRun : List U → Type 0
  HaveRun us = (c : ℕ) (d : U) → c < length us → HasRun (view (slice_index_or us c d)).core

  -- the units' logs
  abbrev pub logs_of : List U → List (List Event)
  logs_of us = map (λ u. (view u).core.log) us

  -- the log of number c among all, and that there is none past the last
  pub log_at : (us : List U) (c : ℕ) (d : U) → c < length us → log_of (logs_of us) c ≡ (view (slice_index_or us c d)).core.log
  log_at us c d low = get_or-map (λ u. (view u).core.log) us c d [] low

  pub log_past : (us : List U) (c : ℕ) → length us ≤ c → log_of (logs_of us) c ≡ []
  log_past us c high = get_or_past (logs_of us) c [] (subst (λ n. n ≤ c) (sym (length-map us (λ u. (view u).core.log))) high)

  -- the units' logs can be merged
  pub are_logs : (us : List U) → HaveRun us → ((c : ℕ) (d : U) → c < length us → (view (slice_index_or us c d)).core.cluster ≡ c)
      → AreBelow view us → AreLogs (logs_of us)
  are_logs [] runs clusters below c low = absurd (omega arith)
  are_logs (u ∷ us) runs clusters below c low =
      let inside : c < length (u ∷ us) = (let l = length-map (u ∷ us) (λ z. (view z).core.log) in omega arith) in
      subst (IsLogOf c) (sym (log_at (u ∷ us) c u inside))
      (subst (λ n. IsLogOf n (view (slice_index_or (u ∷ us) c u)).core.log) (clusters c u inside)
      (core_log (view (slice_index_or (u ∷ us) c u)).core (runs c u inside) (below c u inside)))
