-- Who committed a version of a line since its cluster last took the line to own, event by event.
use Rattle.std.proofs.Common.{◌≡◌, ℕ, ◌<◌, Option, None, Some, List, [], ◌∷◌, ◌++◌, length, slice_get, option_map, refl, sym, ap, ◌∙◌, subst, arith}
use Rattle.dash_base.specs.declared.line.Line.{Line}
use Rattle.dash_base.specs.declared.id.ClusterId.{ClusterId}
use Rattle.dash_base.specs.declared.id.HartId.{HartId}
use Rattle.dash_base.specs.declared.id.LineId.{LineId}
use Rattle.dash_base.specs.declared.topology.Topology.{Topology}
use Rattle.dash_base.specs.Places.{cluster_of}
use Rattle.dash_msg.specs.declared.msg.Msg.TheVariants.{DataEx}
use Rattle.dash_event.specs.declared.event.Event.{Event}
use Rattle.dash_event.specs.declared.event.Kind.{Kind}
use Rattle.dash_event.specs.declared.event.Kind.TheVariants.{Take}
use Rattle.dash_model.specs.Log.{IsEventAt, IsCommitEvent, Commits}
use Rattle.dash_model.specs.Owed.{IsGivenToOwn}
use Rattle.dash_model.proofs.LogPlaces.{at_last, at_first, Placed, Before, Last, placed}

-- the hart committed a version of the line since its cluster last took the line to own
pub record CommittedSince (t : Topology) (log : List Event) (hart : HartId) (line : LineId) : Type 0 where
  pub at : ℕ
  pub version : ℕ
  pub commit : IsCommitEvent log at hart line version
  pub since : (i : ℕ) → IsGivenToOwn log i (cluster_of t hart) line → at < i → ⊥

-- the event brings the line to the cluster, to own
pub record Gives (e : Event) (cluster : ClusterId) (line : LineId) : Type 0 where
  pub in_cluster : e.cluster ≡ cluster
  pub from : ClusterId
  pub copy : Line
  pub count : ℕ
  pub takes : e.kind ≡ Take from (DataEx line copy count)

-- an event of a log of one event more
record Found (o : Option Event) (k : Kind) : Type 0 where
  pub event : Event
  pub there : o ≡ Some event
  pub is : event.kind ≡ k

found : (o : Option Event) (k : Kind) → option_map (λ (e : Event). e.kind) o ≡ Some k → Found o k
found None k e = absurd (cc)
found (Some f) k e = record { event = f; there = refl; is = cc }

event_first : (log : List Event) (e : Event) (i : ℕ) (k : Kind) → IsEventAt log i k → IsEventAt (log ++ e ∷ []) i k
event_first log e i k at = let f = found (slice_get log i) k at in ap (option_map (λ (x : Event). x.kind)) (at_first log e f.event i f.there) ∙ ap Some f.is

commit_first : (log : List Event) (e : Event) (i : ℕ) (h : HartId) (l : LineId) (v : ℕ) → IsCommitEvent log i h l v → IsCommitEvent (log ++ e ∷ []) i h l v
commit_first log e i h l v c = record { kind = c.kind; at = event_first log e i c.kind c.at; is = c.is }

pub given_first : (log : List Event) (e : Event) (i : ℕ) (c : ClusterId) (l : LineId) → IsGivenToOwn log i c l → IsGivenToOwn (log ++ e ∷ []) i c l
given_first log e i c l g = record { event = g.event; at = at_first log e g.event i g.at; in_cluster = g.in_cluster; from = g.from; copy = g.copy; count = g.count; takes = g.takes }

-- where one was given to own, in the log or by the last event
pub given_by : (log : List Event) (e : Event) (i : ℕ) (c : ClusterId) (l : LineId) (g : IsGivenToOwn (log ++ e ∷ []) i c l) → (Gives e c l → ⊥) → Placed log e i g.event → IsGivenToOwn log i c l × (i < length log)
given_by log e i c l g none (Before at low) = (record { event = g.event; at = at; in_cluster = g.in_cluster; from = g.from; copy = g.copy; count = g.count; takes = g.takes }, low)
given_by log e i c l g none (Last at same) = absurd (none (subst (λ (x : Event). Gives x c l) same (record { in_cluster = g.in_cluster; from = g.from; copy = g.copy; count = g.count; takes = g.takes })))

-- where one committed
commit_by : (log : List Event) (e : Event) (i : ℕ) (h : HartId) (l : LineId) (v : ℕ) (k : Kind) (f : Event) → f.kind ≡ k → Commits k h l v → ((u : ℕ) → Commits e.kind h l u → ⊥) → Placed log e i f → IsCommitEvent log i h l v × (i < length log)
commit_by log e i h l v k f is c none (Before at low) = (record { kind = k; at = ap (option_map (λ (x : Event). x.kind)) at ∙ ap Some is; is = c }, low)
commit_by log e i h l v k f is c none (Last at same) = absurd (none v (subst (λ x. Commits x h l v) (sym is ∙ ap (λ (x : Event). x.kind) same) c))

commit_placed : (log : List Event) (e : Event) (i : ℕ) (h : HartId) (l : LineId) (v : ℕ) → IsCommitEvent (log ++ e ∷ []) i h l v → ((u : ℕ) → Commits e.kind h l u → ⊥) → IsCommitEvent log i h l v × (i < length log)
commit_placed log e i h l v c none =
    let f = found (slice_get (log ++ e ∷ []) i) c.kind c.at in
    commit_by log e i h l v c.kind f.event f.is c.is none (placed log e f.event i f.there)

-- it stays where the line isn't given
pub since_stays : (t : Topology) (log : List Event) (e : Event) (h : HartId) (l : LineId) → (Gives e (cluster_of t h) l → ⊥) → CommittedSince t log h l → CommittedSince t (log ++ e ∷ []) h l
since_stays t log e h l none k = record {
  at = k.at;
  version = k.version;
  commit = commit_first log e k.at h l k.version k.commit;
  since = λ i g after. k.since i (given_by log e i (cluster_of t h) l g none (placed log e g.event i g.at)).0 after;
}

-- it was so before where the hart doesn't commit
pub since_was : (t : Topology) (log : List Event) (e : Event) (h : HartId) (l : LineId) → ((v : ℕ) → Commits e.kind h l v → ⊥) → CommittedSince t (log ++ e ∷ []) h l → CommittedSince t log h l
since_was t log e h l none k = record {
  at = k.at;
  version = k.version;
  commit = (commit_placed log e k.at h l k.version k.commit none).0;
  since = λ i g after. k.since i (given_first log e i (cluster_of t h) l g) after;
}

-- no position is past the last
pub past : (log : List Event) (e : Event) (i : ℕ) (f : Event) → Placed log e i f → length log < i → ⊥
past log e i f (Before at low) after = omega arith
past log e i f (Last at same) after = omega arith

-- it is so after a commit
pub since_commit : (t : Topology) (log : List Event) (e : Event) (h : HartId) (l : LineId) (v : ℕ) → Commits e.kind h l v → CommittedSince t (log ++ e ∷ []) h l
since_commit t log e h l v c = record {
  at = length log;
  version = v;
  commit = record { kind = e.kind; at = ap (option_map (λ (x : Event). x.kind)) (at_last log e); is = c };
  since = λ i g after. past log e i g.event (placed log e g.event i g.at) after;
}

-- and not where the line is given
pub since_gone : (t : Topology) (log : List Event) (e : Event) (h : HartId) (l : LineId) → ((v : ℕ) → Commits e.kind h l v → ⊥) → Gives e (cluster_of t h) l → CommittedSince t (log ++ e ∷ []) h l → ⊥
since_gone t log e h l none g k =
    k.since (length log) (record { event = e; at = at_last log e; in_cluster = g.in_cluster; from = g.from; copy = g.copy; count = g.count; takes = g.takes }) (commit_placed log e k.at h l k.version k.commit none).1
