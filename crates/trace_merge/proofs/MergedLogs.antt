-- The logs of the clusters one after another, sorted by stamp, are their merge; and the merge of met local runs is a run.
use Rattle.std.proofs.Common.{◌≡◌, ℕ, zero, suc, ◌+◌, ◌<◌, ◌≤◌, List, [], ◌∷◌, ◌++◌, length, map, get_or, inl, inr, refl, sym, ◌∙◌, ap, subst, nat_cmp, arith}
use Rattle.std.specs.Prelude.{flat_map}
use Rattle.std.specs.List.{AllByRecursion as Each}
use Rattle.std.specs.List.Sorted.{IsPermutation, IsNonDecreasingBy, IsStableByKey}
use Rattle.std.proofs.lemmas.List.{append-nil}
use Rattle.std.proofs.lemmas.List.Elements.{All-from_recursion, recursion_from_All}
use Rattle.std.proofs.lemmas.List.Sorted.{IsPermutation-sym}
use Rattle.dash_event.specs.declared.event.Event.{Event}
use Rattle.dash_model.specs.Config.{Config}
use Rattle.dash_model.specs.Part.{Part, opening_part}
use Rattle.dash_model.specs.Machine.{Step, event_of, part_after, Precedes, IsRising}
use Rattle.dash_model.specs.MachineLaws.{StampsFrom}
use Rattle.dash_model.specs.LocalRun.{IsLocalRun, LanesMeet, StampsFit, events_of, IsMergeOf}
use Rattle.dash_model.proofs.LawsOffered.{stamps_rise, merge_is_run}
use Rattle.trace_merge.specs.MergedLogs.{IsLogOf, log_of, AreLogs, MergesToRun}
use Rattle.trace_merge.proofs.Recursion.{each_append, each_weaker, events_append, events_own, events_none, own_moved}
use Rattle.trace_merge.proofs.Rising.{precedes_of, own_rises, same_rising}
use Rattle.trace_merge.proofs.InTurn.{Before, InTurn, turn_of, turn_append, turn_kept, tie, rises_sorted}

-- all logs, one after another
abbrev pub joined : List (List Event) → List Event
joined logs = flat_map (λ l. l) logs

pub joined_map : {X : Type 0} (f : X → List Event) (xs : List X) → flat_map f xs ≡ joined (map f xs)
joined_map f [] = refl
joined_map f (x ∷ xs) = ap (λ l. f x ++ l) (joined_map f xs)

-- the logs of the clusters from k on
abbrev LogsFrom : ℕ → List (List Event) → Type 0
LogsFrom k [] = Unit {0}
LogsFrom k (l ∷ ls) = IsLogOf k l × LogsFrom (k + 1) ls

from_each : (k : ℕ) (ls : List (List Event)) → ((c : ℕ) → c < length ls → IsLogOf (k + c) (get_or ls c [])) → LogsFrom k ls
from_each k [] h = tt
from_each k (l ∷ ls) h = (
  subst (λ n. IsLogOf n l) (omega arith) (h 0 (omega arith)),
  from_each (k + 1) ls (λ c within. let at : k + suc c ≡ k + 1 + c = omega arith in subst (λ n. IsLogOf n (get_or ls c [])) at (h (suc c) (omega arith))),
)

from_logs : (ls : List (List Event)) → AreLogs ls → LogsFrom 0 ls
from_logs ls h = from_each 0 ls (λ c within. let at : c ≡ 0 + c = omega arith in subst (λ n. IsLogOf n (get_or ls c [])) at (h c within))

clusters : (k : ℕ) (l : List Event) → IsLogOf k l → Each (λ e. e.cluster.0 ≡ k) l
clusters k l h = recursion_from_All (λ e. e.cluster.0 ≡ k) l h.cluster

all_from : (k : ℕ) (ls : List (List Event)) → LogsFrom k ls → Each (λ e. k ≤ e.cluster.0) (joined ls)
all_from k [] h = tt
all_from k (l ∷ ls) h = each_append (λ e. k ≤ e.cluster.0) l (joined ls)
    (each_weaker (λ e. e.cluster.0 ≡ k) (λ e. k ≤ e.cluster.0) (λ e is. omega arith) l (clusters k l h.0))
    (each_weaker (λ e. k + 1 ≤ e.cluster.0) (λ e. k ≤ e.cluster.0) (λ e le. omega arith) (joined ls) (all_from (k + 1) ls h.1))

-- ---- in turn, and each cluster's are its log

across : (k : ℕ) (l rest : List Event) → Each (λ e. e.cluster.0 ≡ k) l → Each (λ e. k + 1 ≤ e.cluster.0) rest → Each (λ x. Each (Before x) rest) l
across k l rest own above = each_weaker (λ e. e.cluster.0 ≡ k) (λ x. Each (Before x) rest)
    (λ x is. each_weaker (λ e. k + 1 ≤ e.cluster.0) (Before x) (λ e le. inr (omega arith)) rest above) l own

in_turn : (k : ℕ) (ls : List (List Event)) → LogsFrom k ls → InTurn (joined ls)
in_turn k [] h = tt
in_turn k (l ∷ ls) h = turn_append l (joined ls) (turn_of l h.0.rising) (in_turn (k + 1) ls h.1) (across k l (joined ls) (clusters k l h.0) (all_from (k + 1) ls h.1))

none_at : (k c : ℕ) (ls : List (List Event)) → c < k → LogsFrom k ls → events_of c (joined ls) ≡ []
none_at k c ls below h = events_none c (joined ls) (each_weaker (λ e. k ≤ e.cluster.0) (λ e. e.cluster.0 ≡ c → ⊥) (λ e le is. omega arith) (joined ls) (all_from k ls h))

log_at : (k c : ℕ) (ls : List (List Event)) → LogsFrom k ls → events_of (k + c) (joined ls) ≡ get_or ls c []
log_at k c [] h = events_none (k + c) [] tt
log_at k zero (l ∷ ls) h =
    let at : k + 0 ≡ k = omega arith in
    ap (λ n. events_of n (l ++ joined ls)) at ∙ events_append k l (joined ls) ∙ ap (λ r. events_of k l ++ r) (none_at (k + 1) k ls (omega arith) h.1)
    ∙ append-nil (events_of k l) ∙ events_own k l (clusters k l h.0)
log_at k (suc c) (l ∷ ls) h =
    let at : k + suc c ≡ k + 1 + c = omega arith in
    events_append (k + suc c) l (joined ls)
    ∙ ap (λ r. r ++ events_of (k + suc c) (joined ls)) (events_none (k + suc c) l (each_weaker (λ e. e.cluster.0 ≡ k) (λ e. e.cluster.0 ≡ k + suc c → ⊥) (λ e is same. omega arith) l (clusters k l h.0)))
    ∙ ap (λ n. events_of n (joined ls)) at ∙ log_at (k + 1) c ls h.1

-- ---- the merge

own_log : (ls : List (List Event)) → AreLogs ls → (c : ℕ) → events_of c (joined ls) ≡ log_of ls c
own_log ls logs c = let at : c ≡ 0 + c = omega arith in ap (λ n. events_of n (joined ls)) at ∙ log_at 0 c ls (from_logs ls logs)

pub past : (c : ℕ) (ls : List (List Event)) → length ls ≤ c → log_of ls c ≡ []
past c [] le = refl
past zero (l ∷ ls) le = absurd (omega arith)
past (suc c) (l ∷ ls) le = past c ls (omega arith)

log_rises : (k c : ℕ) (ls : List (List Event)) → LogsFrom k ls → IsRising (get_or ls c [])
log_rises k c [] h = tt
log_rises k zero (l ∷ ls) h = h.0.rising
log_rises k (suc c) (l ∷ ls) h = log_rises (k + 1) c ls h.1

pub sorted_is_merge : (ls : List (List Event)) (es : List Event) → AreLogs ls → IsPermutation (joined ls) es
    → IsNonDecreasingBy (λ e. e.stamp) es → IsStableByKey (λ e. e.stamp) nat_cmp (joined ls) es → IsMergeOf (length ls) (log_of ls) es
sorted_is_merge ls es logs moved sorted stable =
    let from = from_logs ls logs in
    let rises : IsRising es = rises_sorted es sorted (λ x. subst InTurn (sym (stable x)) (turn_kept (tie x) (joined ls) (in_turn 0 ls from))) in
    record {
      parts = λ c. same_rising (events_of c es) (events_of c (joined ls)) (own_rises c es rises) (subst IsRising (sym (own_log ls logs c)) (log_rises 0 c ls from))
          (λ P. own_moved c P es (joined ls) (IsPermutation-sym (joined ls) es moved)) (λ P. own_moved c P (joined ls) es moved) ∙ own_log ls logs c;
      none = λ c le. past c ls le;
      rising = rises;
    }

-- ---- the logs of local runs

of_their_cluster : (w : Config) (c : ℕ) (p : Part) (gs : List Step) → IsLocalRun w c p gs → Each (λ e. e.cluster.0 ≡ c) (map event_of gs)
of_their_cluster w c p [] h = tt
of_their_cluster w c p (g ∷ gs) h = (h.0.cluster, of_their_cluster w c (part_after w c g p) gs h.1)

stamps_above : (c last low : ℕ) (gs : List Step) → low ≤ last → StampsFrom ◌<◌ c last gs → Each (λ e. low < e.stamp) (map event_of gs)
stamps_above c last low [] le h = tt
stamps_above c last low (g ∷ gs) le h = let first = h.0 in (omega arith, stamps_above c g.event.stamp low gs (omega arith) h.2)

stamps_rising : (c last : ℕ) (gs : List Step) → StampsFrom ◌<◌ c last gs → IsRising (map event_of gs)
stamps_rising c last [] h = tt
stamps_rising c last (g ∷ gs) h = (
  precedes_of g.event (map event_of gs) (each_weaker (λ e. g.event.stamp < e.stamp) (Precedes g.event) (λ e less. inl less) (map event_of gs) (stamps_above c g.event.stamp g.event.stamp gs (omega arith) h.2)),
  stamps_rising c g.event.stamp gs h.2,
)

local_log : (w : Config) (c : ℕ) (p : Part) (gs : List Step) → IsLocalRun w c p gs → StampsFit gs → IsLogOf c (map event_of gs)
local_log w c p gs local fit = record {
  cluster = All-from_recursion (λ e. e.cluster.0 ≡ c) (map event_of gs) (of_their_cluster w c p gs local);
  rising = stamps_rising c p.last gs ((stamps_rise w c p gs local).rise fit);
}

pub merged_logs_are_runs : (w : Config) (runs : ℕ → List Step) (logs : List (List Event)) → length logs ≡ w.top.clusters
    → ((c : ℕ) → log_of logs c ≡ map event_of (runs c)) → ((c : ℕ) → IsLocalRun w c (opening_part w) (runs c)) → (l : LanesMeet w runs)
    → ((c : ℕ) → StampsFit (runs c)) → MergesToRun w runs l logs
merged_logs_are_runs w runs logs count same local l fit = record {
  mergeable = λ c within. subst (IsLogOf c) (sym (same c)) (local_log w c (opening_part w) (runs c) (local c) (fit c));
  run = λ es merge. merge_is_run w runs es local l fit (record {
    parts = λ c. merge.parts c ∙ same c;
    none = λ c le. sym (same c) ∙ merge.none c (subst (λ n. n ≤ c) (sym count) le);
    rising = merge.rising;
  });
}
