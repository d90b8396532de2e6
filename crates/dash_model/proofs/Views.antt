-- What each event but Take does to lines: nothing, or one act on one line.
use Rattle.std.proofs.Common.{◌≡◌, ◌⊎◌, ℕ, ◌==◌, Bool, true, false, cond, Option, None, Some, List, [], ◌∷◌, refl, sym, ap, ◌∙◌, subst, inl, inr}
use Rattle.std.specs.Prelude.{unwrap_or}
use Rattle.dash_base.specs.declared.id.HartId.{HartId}
use Rattle.dash_base.specs.declared.id.LineId.{LineId}
use Rattle.dash_base.specs.declared.line.Line.{Line}
use Rattle.dash_msg.specs.declared.msg.Msg.{Msg}
use Rattle.dash_msg.specs.declared.parcel.Sent.{Sent}
use Rattle.dash_event.specs.declared.access.Access.{Access}
use Rattle.dash_event.specs.declared.event.Kind.{Kind}
use Rattle.dash_event.specs.declared.event.Kind.TheVariants as kind
use Rattle.dash_base.specs.declared.need.HintKind.{HintKind}
use Rattle.dash_base.specs.declared.need.HintKind.TheVariants.{Fetch, Shared, Exclusive}
use Rattle.write_buffer.specs.declared.entry.Entry.{Entry as Stored}
use Rattle.dash_base.specs.declared.need.Need.{Need}
use Rattle.dash_base.specs.declared.need.Need.TheVariants as needed
use Rattle.dash_model.specs.Maps.{upd}
use Rattle.dash_model.specs.Config.{Config, line_id, home_of, line_at, lock_at}
use Rattle.dash_model.specs.Cell.{Copy, NoCopy, Held, NoSlot, NoAcks, Cell}
use Rattle.dash_model.specs.Part.{Waiter, Part}
use Rattle.dash_model.specs.LineEffect.{has_copy, is_owner}
use Rattle.dash_model.specs.Acts.{Act, AskRead, AskOwn, Again, Install, Commit, Evict, Drop, BusRead, BusOwn, act_row}
use Rattle.dash_model.specs.Words.{in_m, content, written_in}
use Rattle.dash_model.specs.Wants.{MayAsk, AsksFor, FrontReads, FrontOwns, StoreOwns, Opens}
use Rattle.dash_model.specs.HartRows.{HartEffect, retire, hint_row, commit_row, evict_act, ask_act}
use Rattle.dash_model.specs.LockRows.{grant_row}
use Rattle.dash_model.specs.HartGuards.{SlotIs, LockSends}
use Rattle.dash_model.specs.Guard.{Guard}
use Rattle.dash_model.specs.Row.{row}
use Rattle.dash_model.specs.OnLine.{is_of}
use Rattle.dash_model.proofs.LineState.{IsNext, MayAct, content_after}
use Rattle.dash_model.proofs.Along.{AllAre}

-- the content after the oldest store leaves the buffer
abbrev pub stored_over : Config → List Stored → Line → Line
stored_over w [] d = d
stored_over w (e ∷ es) d = written_in w e.word.0 e.mask e.value d

-- the content of line l after an event of a cluster with this part, where it was d: what the cluster's copy becomes, where the event commits the line
abbrev pub content_by : Config → Part → ℕ → Line → Kind → Line
content_by w p l d (kind.Commit h n k v) = cond (k.0 == l) (stored_over w (p.harts h.0).buffer (content (p.cells k.0).copy)) d
content_by w p l d (kind.Rmw a k v) = cond (k.0 == l) (written_in w a.word.0 a.mask (unwrap_or a.written 0) (content (p.cells k.0).copy)) d
content_by w p l d e = d

-- an act of the cluster on line k, with the contents that the event gives lines
pub record ActsOn (w : Config) (e : Kind) (p q : Part) (ss : List Sent) (k : ℕ) (a : Act) : Type 0 where
  pub may : MayAct a (p.cells k)
  pub cells : (l : ℕ) → q.cells l ≡ upd p.cells k (act_row (line_id k) (home_of w k) a (p.cells k) (p.homes k)).cell l
  pub homes : (l : ℕ) → q.homes l ≡ upd p.homes k (act_row (line_id k) (home_of w k) a (p.cells k) (p.homes k)).home l
  pub sent : ss ≡ (act_row (line_id k) (home_of w k) a (p.cells k) (p.homes k)).sent
  pub writes : (l : ℕ) (d : Line) → content_by w p l d e ≡ cond (k == l) (content_after d a) d

pub record IsStill (w : Config) (e : Kind) (p q : Part) (ss : List Sent) : Type 0 where
  pub cells : (l : ℕ) → q.cells l ≡ p.cells l
  pub homes : (l : ℕ) → q.homes l ≡ p.homes l
  pub sent : (l : ℕ) → AllAre l false ss
  pub keeps : (l : ℕ) (d : Line) → content_by w p l d e ≡ d

pub data View (w : Config) (e : Kind) (p q : Part) (ss : List Sent) : Type 0 where
  Still : IsStill w e p q ss → View w e p q ss
  Does : (k : ℕ) (a : Act) → ActsOn w e p q ss k a → View w e p q ss

same_if : (b : Bool) (v : Line) → v ≡ cond b v v
same_if true v = refl
same_if false v = refl

-- parts that differ in harts and lock words alone
quiet_view : (w : Config) (e : Kind) (p q : Part) → ((l : ℕ) → q.cells l ≡ p.cells l) → ((l : ℕ) → q.homes l ≡ p.homes l) → ((l : ℕ) (d : Line) → content_by w p l d e ≡ d) → View w e p q []
quiet_view w e p q f g h = Still (record { cells = f; homes = g; sent = λ l. tt; keeps = h })

-- an act that writes nothing
plain : (w : Config) (e : Kind) (p q : Part) (k : ℕ) (a : Act) → MayAct a (p.cells k) → ((l : ℕ) → q.cells l ≡ upd p.cells k (act_row (line_id k) (home_of w k) a (p.cells k) (p.homes k)).cell l) → ((l : ℕ) → q.homes l ≡ upd p.homes k (act_row (line_id k) (home_of w k) a (p.cells k) (p.homes k)).home l) → ((l : ℕ) (d : Line) → content_by w p l d e ≡ d) → ((d : Line) → content_after d a ≡ d) → View w e p q (act_row (line_id k) (home_of w k) a (p.cells k) (p.homes k)).sent
plain w e p q k a m f g h i = Does k a (record { may = m; cells = f; homes = g; sent = refl; writes = λ l v. h l v ∙ same_if (k == l) v ∙ ap (λ n. cond (k == l) n v) (sym (i v)) })

no_copy : (c : Copy) → has_copy c ≡ false → c ≡ NoCopy
no_copy NoCopy e = refl
no_copy (Held hs o d) e = absurd (cc)

hint_slot : (w : Config) (h pc : ℕ) (x : HartId) (n : ℕ) (d : HartEffect) (p : Part) (k : HintKind) (address : ℕ) → Opens w k address n p → View w (kind.Hint x pc (Some n)) p (hint_row w h (Some n) (needed.Hint k address) (retire h d p)).part (hint_row w h (Some n) (needed.Hint k address) (retire h d p)).sent
hint_slot w h pc x n d p Fetch address o = absurd o.kinds
hint_slot w h pc x n d p Shared address o = plain w (kind.Hint x pc (Some n)) p (hint_row w h (Some n) (needed.Hint Shared address) (retire h d p)).part (line_at w address) (AskRead n h) (o.lone, no_copy (p.cells (line_at w address)).copy o.kinds) (λ l. refl) (λ l. refl) (λ l v. refl) (λ v. refl)
hint_slot w h pc x n d p Exclusive address o = plain w (kind.Hint x pc (Some n)) p (hint_row w h (Some n) (needed.Hint Exclusive address) (retire h d p)).part (line_at w address) (AskOwn n h) (o.lone, o.kinds.0) (λ l. refl) (λ l. refl) (λ l v. refl) (λ v. refl)

hint_kind : (w : Config) (h pc : ℕ) (x : HartId) (slot : Option ℕ) (d : HartEffect) (p : Part) (k : HintKind) (address : ℕ) → SlotIs w k address slot p → View w (kind.Hint x pc slot) p (hint_row w h slot (needed.Hint k address) (retire h d p)).part (hint_row w h slot (needed.Hint k address) (retire h d p)).sent
hint_kind w h pc x (Some n) d p k address o = hint_slot w h pc x n d p k address o
hint_kind w h pc x None d p k address o = quiet_view w (kind.Hint x pc None) p (retire h d p) (λ l. refl) (λ l. refl) (λ l v. refl)

hint_view : (w : Config) (h pc : ℕ) (x : HartId) (slot : Option ℕ) (d : HartEffect) (p : Part) (k : HintKind) (address : ℕ) (need : Need) → need ≡ needed.Hint k address → SlotIs w k address slot p → View w (kind.Hint x pc slot) p (hint_row w h slot need (retire h d p)).part (hint_row w h slot need (retire h d p)).sent
hint_view w h pc x slot d p k address need e o = subst (λ n. View w (kind.Hint x pc slot) p (hint_row w h slot n (retire h d p)).part (hint_row w h slot n (retire h d p)).sent) (sym e) (hint_kind w h pc x slot d p k address o)

commit_may : (w : Config) (address mask value h : ℕ) (c : Copy) → in_m h c ≡ true → IsNext (written_in w address mask value (content c)) c
commit_may w address mask value h (Held (x ∷ []) (Some o) d) e = refl
commit_may w address mask value h (Held (x ∷ []) None d) e = absurd (cc)
commit_may w address mask value h (Held [] o d) e = absurd (cc)
commit_may w address mask value h (Held (x ∷ y ∷ ys) o d) e = absurd (cc)
commit_may w address mask value h NoCopy e = absurd (cc)

evict_may : (h : ℕ) (a : Cell) (i : Bool) → is_owner h a.copy ≡ i → (a.acks ≡ NoAcks) ⊎ (is_owner h a.copy ≡ false) → MayAct (cond i (Evict h) (Drop h)) a
evict_may h a true e (inl f) = f
evict_may h a true e (inr f) = absurd (cc)
evict_may h a false e f = e

evict_keeps : (v : Line) (h : ℕ) (i : Bool) → content_after v (cond i (Evict h) (Drop h)) ≡ v
evict_keeps v h true = refl
evict_keeps v h false = refl

ask_cause : (w : Config) (c n h l : ℕ) (own : Bool) (p : Part) → (p.cells l).slot ≡ NoSlot → AsksFor w c n h l p own → MayAct (ask_act own n h) (p.cells l)
ask_cause w c n h l false p e (FrontReads i j k) = (e, no_copy (p.cells l).copy k)
ask_cause w c n h l true p e (FrontOwns i j k r) = (e, k)
ask_cause w c n h l true p e (StoreOwns i j k r) = (e, k)

ask_keeps : (own : Bool) (n h : ℕ) (v : Line) → content_after v (ask_act own n h) ≡ v
ask_keeps true n h v = refl
ask_keeps false n h v = refl

ask_may : (w : Config) (c n h l : ℕ) (own : Bool) (p : Part) → MayAsk w c n h l own p → MayAct (ask_act own n h) (p.cells l)
ask_may w c n h l own p m = ask_cause w c n h l own p m.lone m.cause

pub lock_sent : (h l : ℕ) (m : Msg) (need : Need) (p : Part) → LockSends h m need p → is_of l m ≡ false
lock_sent h l m (needed.Ask word value) p e = ap (is_of l) e
lock_sent h l m (needed.Unlock word) p e = ap (is_of l) e.0
lock_sent h l m _ p e = absurd e

grant_view : (w : Config) (i : ℕ) (a : Access) (q : List Waiter) (p : Part) → View w (kind.Grant a) p (grant_row w i q p).part (grant_row w i q p).sent
grant_view w i a [] p = quiet_view w (kind.Grant a) p p (λ l. refl) (λ l. refl) (λ l v. refl)
grant_view w i a (x ∷ xs) p = Still (record { cells = λ l. refl; homes = λ l. refl; sent = λ l. (refl, tt); keeps = λ l v. refl })

commit_view : (w : Config) (h : HartId) (n v : ℕ) (k : LineId) (b : List Stored) (p : Part) → in_m h.0 (p.cells k.0).copy ≡ true → (e : Stored) (es : List Stored) → b ≡ e ∷ es → (p.harts h.0).buffer ≡ e ∷ es → View w (kind.Commit h n k v) p (commit_row w h.0 k.0 b p).part (commit_row w h.0 k.0 b p).sent
commit_view w h n v k b p m e es g f = subst (λ b. View w (kind.Commit h n k v) p (commit_row w h.0 k.0 b p).part (commit_row w h.0 k.0 b p).sent) (sym g) (Does k.0 (Commit h.0 (written_in w e.word.0 e.mask e.value (content (p.cells k.0).copy))) (record { may = commit_may w e.word.0 e.mask e.value h.0 (p.cells k.0).copy m; cells = λ l. refl; homes = λ l. refl; sent = refl; writes = λ l d. ap (λ b. cond (k.0 == l) (stored_over w b (content (p.cells k.0).copy)) d) f }))

-- whether an event takes a message that may be of a line
abbrev pub IsNoTake : Kind → Type 0
IsNoTake (kind.Take f m) = ⊥
IsNoTake e = Unit {0}

pub view : (w : Config) (c : ℕ) (e : Kind) (d : HartEffect) (p : Part) → IsNoTake e → Guard w c e d p → View w e p (row w c e d p).part (row w c e d p).sent
unfolding row Guard
view w c (kind.Alu h pc) d p t g = quiet_view w (kind.Alu h pc) p (row w c (kind.Alu h pc) d p).part (λ l. refl) (λ l. refl) (λ l v. refl)
view w c (kind.Fence h pc) d p t g = quiet_view w (kind.Fence h pc) p (row w c (kind.Fence h pc) d p).part (λ l. refl) (λ l. refl) (λ l v. refl)
view w c (kind.Hint h pc slot) d p t g = hint_view w h.0 pc h slot d p g.kinds g.address d.need g.next.retires.need_is g.opens
view w c (kind.Put h pc byte) d p t g = quiet_view w (kind.Put h pc byte) p (row w c (kind.Put h pc byte) d p).part (λ l. refl) (λ l. refl) (λ l v. refl)
view w c (kind.Stop h pc end) d p t g = quiet_view w (kind.Stop h pc end) p (row w c (kind.Stop h pc end) d p).part (λ l. refl) (λ l. refl) (λ l v. refl)
view w c (kind.Load a level) d p t g = quiet_view w (kind.Load a level) p (row w c (kind.Load a level) d p).part (λ l. refl) (λ l. refl) (λ l v. refl)
view w c (kind.Store a) d p t g = quiet_view w (kind.Store a) p (row w c (kind.Store a) d p).part (λ l. refl) (λ l. refl) (λ l v. refl)
view w c (kind.Commit h n k v) d p t g = commit_view w h n v k (p.harts h.0).buffer p g.owner g.oldest g.others g.buffer g.buffer
view w c (kind.Rmw a k v) d p t g = Does k.0 (Commit a.hart.0 (written_in w a.word.0 a.mask (unwrap_or a.written 0) (content (p.cells k.0).copy))) (record { may = commit_may w a.word.0 a.mask (unwrap_or a.written 0) a.hart.0 (p.cells k.0).copy g.owner; cells = λ l. refl; homes = λ l. refl; sent = refl; writes = λ l v. refl })
view w c (kind.ScFail a) d p t g = quiet_view w (kind.ScFail a) p (row w c (kind.ScFail a) d p).part (λ l. refl) (λ l. refl) (λ l v. refl)
view w c (kind.LockSend h m) d p t g = Still (record { cells = λ l. refl; homes = λ l. refl; sent = λ l. (lock_sent h.0 l m g.need p g.sends, tt); keeps = λ l v. refl })
view w c (kind.BusRead h k) d p t g = plain w (kind.BusRead h k) p (row w c (kind.BusRead h k) d p).part k.0 (BusRead h.0) tt (λ l. refl) (λ l. refl) (λ l v. refl) (λ v. refl)
view w c (kind.BusOwn h k) d p t g = plain w (kind.BusOwn h k) p (row w c (kind.BusOwn h k) d p).part k.0 (BusOwn h.0) tt (λ l. refl) (λ l. refl) (λ l v. refl) (λ v. refl)
view w c (kind.Evict h k) d p t g = plain w (kind.Evict h k) p (row w c (kind.Evict h k) d p).part k.0 (evict_act h.0 (p.cells k.0).copy) (evict_may h.0 (p.cells k.0) (is_owner h.0 (p.cells k.0).copy) refl g.may_leave) (λ l. refl) (λ l. refl) (λ l v. refl) (λ v. evict_keeps v h.0 (is_owner h.0 (p.cells k.0).copy))
view w c (kind.Ask slot h k own) d p t g = plain w (kind.Ask slot h k own) p (row w c (kind.Ask slot h k own) d p).part k.0 (ask_act own slot h.0) (ask_may w c slot h.0 k.0 own p g.may) (λ l. refl) (λ l. refl) (λ l v. refl) (ask_keeps own slot h.0)
view w c (kind.Again slot k) d p t g = plain w (kind.Again slot k) p (row w c (kind.Again slot k) d p).part k.0 Again tt (λ l. refl) (λ l. refl) (λ l v. refl) (λ v. refl)
view w c (kind.Install slot h k) d p t g = plain w (kind.Install slot h k) p (row w c (kind.Install slot h k) d p).part k.0 Install tt (λ l. refl) (λ l. refl) (λ l v. refl) (λ v. refl)
view w c (kind.Grant a) d p t g = grant_view w (lock_at w a.word.0) a (p.locks (lock_at w a.word.0)).queue p
view w c (kind.Free f a) d p t g = Still (record { cells = λ l. refl; homes = λ l. refl; sent = λ l. (refl, tt); keeps = λ l v. refl })
view w c (kind.Take f m) d p t g = absurd t
