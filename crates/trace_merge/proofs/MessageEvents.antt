-- What stands at each position of the written log of a message passing.
use Rattle.std.proofs.Common.{◌≡◌, ◌⊎◌, inl, inr, ℕ, refl}
use Rattle.dash_base.specs.declared.id.HartId.{HartId}
use Rattle.dash_base.specs.declared.id.LineId.{LineId}
use Rattle.dash_event.specs.declared.access.Access.{Access}
use Rattle.dash_event.specs.declared.access.Seen.TheVariants.{Line, Own}
use Rattle.dash_event.specs.declared.event.Kind.{Kind}
use Rattle.dash_event.specs.declared.event.Kind.TheVariants as kind
use Rattle.dash_model.specs.Log.{IsEventAt, IsShown, Commits, IsCommitEvent}
use Rattle.dash_model.specs.Coherent.{IsLockEvent}
use Rattle.dash_model.specs.Release.{Releases, IsReleaseEvent}
use Rattle.trace_merge.specs.WrittenLogs.{message_image, message_store, flag_release, flag_acquire, message_load, message_log}
use Rattle.trace_merge.proofs.Written.{Each, each_at, OfAccess, access_at, ServesNone}

abbrev pub hart_0 : HartId
hart_0 = record { 0 = 0 }

abbrev pub line_0 : LineId
line_0 = record { 0 = 0 }

abbrev pub line_4 : LineId
line_4 = record { 0 = 4 }

-- what stands at each position
pub record IsTheStore (i : ℕ) (a : Access) : Type 0 where
  pub at : i ≡ 1
  pub is : a ≡ message_store

abbrev StoreAt : ℕ → Kind → Type 0
StoreAt i (kind.Store a) = IsTheStore i a
StoreAt i k = Unit {0}

pub store_is : (i : ℕ) (a : Access) → IsEventAt message_log i (kind.Store a) → IsTheStore i a
store_is i a at = each_at StoreAt message_log (tt, (record { at = refl; is = refl }, (tt, (tt, (tt, (tt, (tt, (tt, tt)))))))) i (kind.Store a) at

pub record IsTheCommit (i : ℕ) (h : HartId) (n : ℕ) (l : LineId) (v : ℕ) : Type 0 where
  pub at : i ≡ 2
  pub hart : hart_0 ≡ h
  pub number : 2 ≡ n
  pub line : line_4 ≡ l
  pub version : 1 ≡ v

abbrev CommitAt : ℕ → Kind → Type 0
CommitAt i (kind.Commit h n l v) = IsTheCommit i h n l v
CommitAt i k = Unit {0}

pub commit_is : (i : ℕ) (h : HartId) (n : ℕ) (l : LineId) (v : ℕ) → IsEventAt message_log i (kind.Commit h n l v) → IsTheCommit i h n l v
commit_is i h n l v at =
    each_at CommitAt message_log (tt, (tt, (record { at = refl; hart = refl; number = refl; line = refl; version = refl }, (tt, (tt, (tt, (tt, (tt, tt)))))))) i (kind.Commit h n l v) at

pub record IsTheRmw (i : ℕ) (a : Access) (l : LineId) (v : ℕ) : Type 0 where
  pub at : i ≡ 3
  pub is : a ≡ flag_release
  pub line : line_0 ≡ l
  pub version : 1 ≡ v

abbrev RmwAt : ℕ → Kind → Type 0
RmwAt i (kind.Rmw a l v) = IsTheRmw i a l v
RmwAt i k = Unit {0}

pub rmw_is : (i : ℕ) (a : Access) (l : LineId) (v : ℕ) → IsEventAt message_log i (kind.Rmw a l v) → IsTheRmw i a l v
rmw_is i a l v at = each_at RmwAt message_log (tt, (tt, (tt, (record { at = refl; is = refl; line = refl; version = refl }, (tt, (tt, (tt, (tt, tt)))))))) i (kind.Rmw a l v) at

-- the commits are at 2 and 3
pub record IsACommit (n : ℕ) (line : LineId) (i : ℕ) (h : HartId) (l : LineId) (v : ℕ) : Type 0 where
  pub at : i ≡ n
  pub hart : hart_0 ≡ h
  pub same_line : line ≡ l
  pub version : 1 ≡ v

abbrev IsOneCommit : ℕ → Kind → Type 0
IsOneCommit i k = (h : HartId) (l : LineId) (v : ℕ) → Commits k h l v → IsACommit 2 line_4 i h l v ⊎ IsACommit 3 line_0 i h l v

commits : Each IsOneCommit message_log
commits =
    (λ h l v c. absurd c, (λ h l v c. absurd c, (λ h l v c. inl (record { at = refl; hart = c.0; same_line = c.1; version = c.2 }), (λ h l v c. inr (record { at = refl; hart = c.0; same_line = c.1; version = c.2 }), (λ h l v c. absurd c, (λ h l v c. absurd c, (λ h l v c. absurd c, (λ h l v c. absurd c, tt))))))))

pub commit_event_is : (i : ℕ) (h : HartId) (l : LineId) (v : ℕ) → IsCommitEvent message_log i h l v → IsACommit 2 line_4 i h l v ⊎ IsACommit 3 line_0 i h l v
commit_event_is i h l v c = each_at IsOneCommit message_log commits i c.kind c.at h l v c.is

-- the accesses that are shown a version are at 3, 5 and 7
pub record IsAShown (n : ℕ) (b : Access) (u : ℕ) (i : ℕ) (a : Access) (v : ℕ) : Type 0 where
  pub at : i ≡ n
  pub is : a ≡ b
  pub version : u ≡ v

abbrev pub IsTheShown : ℕ → Access → ℕ → Type 0
IsTheShown i a v = IsAShown 3 flag_release 0 i a v ⊎ (IsAShown 5 flag_acquire 1 i a v ⊎ IsAShown 7 message_load 1 i a v)

abbrev ShownAt : ℕ → Access → Type 0
ShownAt i a = (v : ℕ) → a.seen ≡ Line v → IsTheShown i a v

shown : Each (OfAccess ShownAt) message_log
shown =
    (tt, (λ v e. absurd cc, (tt, (λ v e. inl (record { at = refl; is = refl; version = cc }), (tt, (λ v e. inr (inl (record { at = refl; is = refl; version = cc })), (tt, (λ v e. inr (inr (record { at = refl; is = refl; version = cc })), tt))))))))

pub shown_is : (i : ℕ) (a : Access) (v : ℕ) → IsShown message_log i a v → IsTheShown i a v
shown_is i a v w = access_at ShownAt message_log shown i a w.event v w.seen

abbrev NotOwn : ℕ → Access → Type 0
NotOwn i a = (n : ℕ) → a.seen ≡ Own n → ⊥

pub no_own : (i : ℕ) (a : Access) (level n : ℕ) → IsEventAt message_log i (kind.Load a level) → a.seen ≡ Own n → ⊥
no_own i a level n at =
    access_at NotOwn message_log (tt, (λ n e. cc, (tt, (λ n e. cc, (tt, (λ n e. cc, (tt, (λ n e. cc, tt)))))))) i a (record { kind = kind.Load a level; at = at; is = refl }) n

pub no_lock : (i : ℕ) (a : Access) → ¬ IsLockEvent message_log i a
no_lock i a e = each_at ServesNone message_log (λ a s. s, (λ a s. s, (λ a s. s, (λ a s. s, (λ a s. s, (λ a s. s, (λ a s. s, (λ a s. s, tt)))))))) i e.kind e.at a e.is

abbrev IsTheRelease : ℕ → Kind → Type 0
IsTheRelease i k = (h : HartId) → Releases message_image k h → (i ≡ 3) × (hart_0 ≡ h)

releases : Each IsTheRelease message_log
releases = (λ h r. absurd r, (λ h r. absurd r, (λ h r. absurd r, (λ h r. (refl, r.0), (λ h r. absurd r, (λ h r. absurd r, (λ h r. absurd r, (λ h r. absurd r, tt))))))))

pub release_is : (i : ℕ) (h : HartId) → IsReleaseEvent message_image message_log i h → (i ≡ 3) × (hart_0 ≡ h)
release_is i h r = each_at IsTheRelease message_log releases i r.kind r.at h r.is
