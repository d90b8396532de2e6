-- In every run the accesses of a lock word count 0, 1, 2 and so on, each reads what the one before it wrote, and a Grant reads 0.
use Rattle.std.proofs.Common.{◌≡◌, ◌≢◌, ℕ, ◌==◌, Bool, true, false, cond, Some, List, [], ◌∷◌, ◌++◌, sum_by, length, map, unwrap_or, refl, sym, ap, ◌∙◌, subst, arith}
use Rattle.std.specs.Prelude.{take}
use Rattle.std.proofs.lemmas.List.{length-append}
use Rattle.dash_base.specs.declared.id.WordAddr.{WordAddr}
use Rattle.dash_base.specs.declared.need.Need.TheVariants as needed
use Rattle.dash_event.specs.Offered.{offered}
use Rattle.dash_event.specs.Records.{unseen}
use Rattle.dash_event.specs.declared.access.Access.{Access}
use Rattle.dash_event.specs.declared.access.Seen.TheVariants as seen
use Rattle.dash_event.specs.declared.event.Event.{Event}
use Rattle.dash_event.specs.declared.event.Kind.{Kind}
use Rattle.dash_event.specs.declared.event.Kind.TheVariants as kind
use Rattle.dash_model.specs.Maps.{upd, raised, most}
use Rattle.dash_model.specs.Config.{Config, is_lock, lock_at, lock_home}
use Rattle.dash_model.specs.Part.{Waiter, Lock, Part}
use Rattle.dash_model.specs.HartRows.{PartEffect, HartEffect}
use Rattle.dash_model.specs.LockRows.{grant_row}
use Rattle.dash_model.specs.Guard.{Guard}
use Rattle.dash_model.specs.Ranges.{has_hart, own_lock}
use Rattle.dash_model.specs.Row.{row}
use Rattle.dash_model.specs.Machine.{Machine, event_of, part_after, IsRun, Reaches}
use Rattle.dash_model.specs.Log.{IsEventAt}
use Rattle.dash_model.specs.Coherent.{ServesLock, IsLockEvent, lock_uses, ReadsLock, reads_first, reads_last}
use Rattle.dash_model.specs.RunEnds.{LastUse, Unused, Used, value_of}
use Rattle.dash_model.proofs.Tests.{same, is_same, differ, both_left, both_right}
use Rattle.dash_model.proofs.InRuns.{in_runs}
use Rattle.dash_model.proofs.Happened.{Happened, happened, before_is}
use Rattle.dash_model.proofs.Earlier.{Earlier, Latest, stands, event_kept, event_last, event_within, into_before, from_before, guard_of}
use Rattle.dash_model.proofs.LockViews.{LockView, Plain, Sends, Grants, Frees, Waits, Granted, Freed, Drops, lock_view}
use Rattle.dash_model.proofs.Serving.{one_lock}
use Rattle.dash_model.proofs.LockCounts.{lock_uses_numbered}

-- what an Ask and an Unlock read and write
record Chains (a : Access) (read written : ℕ) : Type 0 where
  pub read_is : a.read ≡ Some read
  pub written_is : a.written ≡ Some written

asks : (h number value old : ℕ) (word : WordAddr) (ok : Bool) (a : Access) → Some (unseen a) ≡ offered h number (needed.Ask word value) old ok → Chains a 0 value
asks h number value old word ok a made =
    let same : unseen a ≡ unwrap_or (offered h number (needed.Ask word value) old ok) (unseen a) = ap (λ z. unwrap_or z (unseen a)) made in
    record { read_is = ap (λ (z : Access). z.read) same; written_is = ap (λ (z : Access). z.written) same }

frees : (h number old : ℕ) (word : WordAddr) (ok : Bool) (a : Access) → Some (unseen a) ≡ offered h number (needed.Unlock word) old ok → Chains a old 0
frees h number old word ok a made =
    let same : unseen a ≡ unwrap_or (offered h number (needed.Unlock word) old ok) (unseen a) = ap (λ z. unwrap_or z (unseen a)) made in
    record { read_is = ap (λ (z : Access). z.read) same; written_is = ap (λ (z : Access). z.written) same }

-- what an event does to a lock word: it leaves its value, or it writes it
data WordTurn (e : Kind) (word : WordAddr) (old new : ℕ) : Type 0 where
  Stays : ((a : Access) → ServesLock e a → a.word ≡ word → ⊥) → new ≡ old → WordTurn e word old new
  Writes : (a : Access) → ServesLock e a → a.word ≡ word → a.written ≡ Some new → WordTurn e word old new

queued_value : (x : Lock) (i k : ℕ) (p : Part) (b : Bool) → (i == k) ≡ b → x.value ≡ (p.locks k).value → (cond b x (p.locks i)).value ≡ (p.locks i).value
queued_value x i k p true e kept = kept ∙ ap (λ z. (p.locks z).value) (sym (is_same i k e))
queued_value x i k p false e kept = refl

-- an event that serves no access of a lock word leaves all their values
view_values : (w : Config) (c : ℕ) (p : Part) (e : Kind) (r : PartEffect) (i : ℕ) → LockView w c p e r → ((a : Access) → ServesLock e a → ⊥) → (r.part.locks i).value ≡ (p.locks i).value
view_values w c p _ _ i (Plain e r k) none = ap (λ (f : ℕ → Lock). (f i).value) k.locks
view_values w c p _ _ i (Sends g m need q mine needs sends l) none = ap (λ (f : ℕ → Lock). (f i).value) l
view_values w c p _ _ i (Grants a x xs own is mine) none = absurd (none a refl)
view_values w c p _ _ i (Frees f a s) none = absurd (none a refl)
view_values w c p _ _ i (Waits f t n a v range) none =
    let x : Waiter = record { hart = t.0; number = n; value = v } in
    queued_value (record (p.locks (lock_at w a.0)) { queue = (p.locks (lock_at w a.0)).queue ++ x ∷ [] }) i (lock_at w a.0) p (i == lock_at w a.0) refl refl
view_values w c p _ _ i (Granted f t q l) none = ap (λ (f : ℕ → Lock). (f i).value) l
view_values w c p _ _ i (Freed f t old q l) none = ap (λ (f : ℕ → Lock). (f i).value) l
view_values w c p _ _ i (Drops f m s) none = refl

-- the lock word of the event becomes x, and another one stays
serves : (w : Config) (e : Kind) (a : Access) (word : WordAddr) (p : Part) (x : Lock) (b : Bool) → (a.word.0 == word.0) ≡ b → is_lock w a.word.0 ≡ true → is_lock w word.0 ≡ true → ServesLock e a → ((c : Access) → ServesLock e c → a ≡ c) → a.written ≡ Some x.value
    → WordTurn e word (p.locks (lock_at w word.0)).value (upd p.locks (lock_at w a.word.0) x (lock_at w word.0)).value
serves w e a word p x true is i j of only written =
    let at : word.0 ≡ a.word.0 = sym (is_same a.word.0 word.0 is) in
    let hit : (lock_at w word.0 == lock_at w a.word.0) ≡ true = subst (λ y. (lock_at w y == lock_at w a.word.0) ≡ true) (sym at) (same (lock_at w a.word.0)) in
    Writes a of (λ y. record { 0 = sym at y }) (written ∙ ap (λ z. Some (cond z x (p.locks (lock_at w word.0))).value) (sym hit))
serves w e a word p x false is i j of only written =
    let off : word.0 ≢ a.word.0 = λ q. not_both (a.word.0 == word.0) (subst (λ y. (a.word.0 == y) ≡ true) (sym q) (same a.word.0)) is in
    let miss : (lock_at w word.0 == lock_at w a.word.0) ≡ false = differ (lock_at w word.0) (lock_at w a.word.0) (λ q. off (one_lock w word.0 a.word.0 j i q)) in
    Stays (λ c s q. off (ap (λ (z : WordAddr). z.0) (sym q) ∙ sym (ap (λ (z : Access). z.word.0) (only c s)))) (ap (λ z. (cond z x (p.locks (lock_at w word.0))).value) miss)
  where
    not_both : (b : Bool) → b ≡ true → b ≡ false → ⊥
    not_both b u v = absurd (cc)

grant_turn : (w : Config) (c : ℕ) (a : Access) (word : WordAddr) (p : Part) (q : List Waiter) (x : Waiter) (xs : List Waiter) → q ≡ x ∷ xs → is_lock w a.word.0 ≡ true → is_lock w word.0 ≡ true → a.written ≡ Some x.value
    → WordTurn (kind.Grant a) word (p.locks (lock_at w word.0)).value ((grant_row w (lock_at w a.word.0) q p).part.locks (lock_at w word.0)).value
grant_turn w c a word p q x xs is i j written =
    subst (λ z. WordTurn (kind.Grant a) word (p.locks (lock_at w word.0)).value ((grant_row w (lock_at w a.word.0) z p).part.locks (lock_at w word.0)).value) (sym is)
    (serves w (kind.Grant a) a word p (record { value = x.value; count = raised most (p.locks (lock_at w a.word.0)).count; queue = xs }) (a.word.0 == word.0) refl i j refl (λ c s. s) written)

word_turn : (w : Config) (c : ℕ) (e : Kind) (d : HartEffect) (p : Part) (word : WordAddr) → Guard w c e d p → is_lock w word.0 ≡ true → WordTurn e word (p.locks (lock_at w word.0)).value ((row w c e d p).part.locks (lock_at w word.0)).value
unfolding Guard row
word_turn w c (kind.Grant a) d p word can j =
    let i = both_left (is_lock w a.word.0) (lock_home w (lock_at w a.word.0) == c) can.mine in
    let x = can.waiter in
    grant_turn w c a word p (p.locks (lock_at w a.word.0)).queue x can.others can.queue i j (asks x.hart x.number x.value 0 a.word true a can.access.made).written_is
word_turn w c (kind.Free f a) d p word can j =
    let own = both_right (has_hart w a.hart) (own_lock w c a.word) can.serves in
    let i = both_left (is_lock w a.word.0) (lock_home w (lock_at w a.word.0) == c) own in
    let old = p.locks (lock_at w a.word.0) in
    serves w (kind.Free f a) a word p (record { value = 0; count = raised most old.count; queue = old.queue }) (a.word.0 == word.0) refl i j refl (λ c s. s) (frees a.hart.0 a.number old.value a.word true a can.access.made).written_is
word_turn w c e d p word can j = Stays (λ a s q. s) (view_values w c p e (row w c e d p) (lock_at w word.0) (lock_view w c e d p can) (λ a s. s))

-- an event serves an access of a lock word at its home
record IsServed (w : Config) (c : ℕ) (a : Access) (p : Part) : Type 0 where
  pub own : own_lock w c a.word ≡ true
  pub read : a.read ≡ Some (p.locks (lock_at w a.word.0)).value

served : (w : Config) (c : ℕ) (e : Kind) (d : HartEffect) (p : Part) (a : Access) → Guard w c e d p → ServesLock e a → IsServed w c a p
unfolding Guard
served w c (kind.Grant b) d p a can is =
    let x = can.waiter in
    subst (λ z. IsServed w c z p) is (record { own = can.mine; read = (asks x.hart x.number x.value 0 b.word true b can.access.made).read_is ∙ ap Some (sym can.is_zero) })
served w c (kind.Free f b) d p a can is =
    subst (λ z. IsServed w c z p) is (record { own = both_right (has_hart w b.hart) (own_lock w c b.word) can.serves; read = (frees b.hart.0 b.number (p.locks (lock_at w b.word.0)).value b.word true b can.access.made).read_is })
served w c _ d p a can is = absurd is

lock_event_kept : (log : List Event) (e : Event) (j : ℕ) (b : Access) → IsLockEvent log j b → IsLockEvent (log ++ e ∷ []) j b
lock_event_kept log e j b k = record { kind = k.kind; at = event_kept log (e ∷ []) j k.kind k.at; is = k.is }

-- an access of the longer log is one of the log, or served by the last event
data LockStands (log : List Event) (e : Event) (j : ℕ) (b : Access) : Type 0 where
  Before : IsLockEvent log j b → LockStands log e j b
  Last : ServesLock e.kind b → LockStands log e j b

lock_stands : (log : List Event) (e : Event) (j : ℕ) (b : Access) → IsLockEvent (log ++ e ∷ []) j b → LockStands log e j b
lock_stands log e j b k = elim (stands log e j k.kind k.at) [
  | Earlier there low ↦ Before (record { kind = k.kind; at = there; is = k.is })
  | Latest place is ↦ Last (subst (λ z. ServesLock z b) (sym is) k.is)
]

last_stays : (log : List Event) (e : Event) (word : WordAddr) (old : ℕ) → ((a : Access) → ServesLock e.kind a → a.word ≡ word → ⊥) → LastUse log word old → LastUse (log ++ e ∷ []) word old
last_stays log e word old none (Unused never zero) = Unused (λ j b k q. elim (lock_stands log e j b k) [ Before there ↦ never j b there q | Last of ↦ none b of q ]) zero
last_stays log e word old none (Used j b there at last written) =
    Used j b (lock_event_kept log e j b there) at (λ k c x q low. elim (lock_stands log e k c x) [ Before y ↦ last k c y q low | Last of ↦ none c of q ]) written

last_by : (log : List Event) (e : Event) (word : WordAddr) (old new : ℕ) → WordTurn e.kind word old new → LastUse log word old → LastUse (log ++ e ∷ []) word new
last_by log e word old new (Stays none kept) k = subst (LastUse (log ++ e ∷ []) word) (sym kept) (last_stays log e word old none k)
last_by log e word old new (Writes a of at written) k =
    Used (length log) a (record { kind = e.kind; at = event_last log e; is = of }) at
    (λ j c x q low. (let inside = event_within (log ++ e ∷ []) j x.kind x.at in let size = length-append log (e ∷ []) in absurd (omega arith))) written

elsewhere : (w : Config) (c : ℕ) (e : Kind) (d : HartEffect) (p : Part) (word : WordAddr) → Guard w c e d p → (lock_home w (lock_at w word.0) == c) ≡ false → (a : Access) → ServesLock e a → a.word ≡ word → ⊥
elsewhere w c e d p word can off a of at =
    let home = both_right (is_lock w a.word.0) (lock_home w (lock_at w a.word.0) == c) (served w c e d p a can of).own in
    let here : (lock_home w (lock_at w word.0) == c) ≡ true = subst (λ (y : WordAddr). (lock_home w (lock_at w y.0) == c) ≡ true) at home in
    absurd (cc)

step_by : (w : Config) (log : List Event) (m : Machine) (e : Event) (c : ℕ) (d : HartEffect) (q : Part) (word : WordAddr) (b : Bool) → (lock_home w (lock_at w word.0) == c) ≡ b → q.locks ≡ (row w c e.kind d (m.parts c)).part.locks → Guard w c e.kind d (m.parts c) → is_lock w word.0 ≡ true
    → LastUse log word (value_of w m word) → LastUse (log ++ e ∷ []) word ((cond b q (m.parts (lock_home w (lock_at w word.0)))).locks (lock_at w word.0)).value
step_by w log m e c d q word true is locks can i k =
    let here = is_same (lock_home w (lock_at w word.0)) c is in
    let there : LastUse log word ((m.parts c).locks (lock_at w word.0)).value = subst (λ y. LastUse log word ((m.parts y).locks (lock_at w word.0)).value) here k in
    subst (λ (f : ℕ → Lock). LastUse (log ++ e ∷ []) word (f (lock_at w word.0)).value) (sym locks) (last_by log e word ((m.parts c).locks (lock_at w word.0)).value ((row w c e.kind d (m.parts c)).part.locks (lock_at w word.0)).value (word_turn w c e.kind d (m.parts c) word can i) there)
step_by w log m e c d q word false is locks can i k = last_stays log e word (value_of w m word) (elsewhere w c e.kind d (m.parts c) word can is) k

pub last_use : (w : Config) (log : List Event) (m : Machine) (word : WordAddr) → is_lock w word.0 ≡ true → Reaches w log m → LastUse log word (value_of w m word)
last_use w log m word i r =
    in_runs w (λ es n. LastUse es word (value_of w n word)) (Unused (λ j b k q. absurd (nowhere j k.kind k.at)) refl)
    (λ es n g reached can k. step_by w es n g.event g.event.cluster.0 g.done (part_after w g.event.cluster.0 g (n.parts g.event.cluster.0)) word (lock_home w (lock_at w word.0) == g.event.cluster.0) refl refl can.steps.guard i k) log m r
  where
    nowhere : (j : ℕ) (k : Kind) → IsEventAt [] j k → ⊥
    nowhere j k at = absurd (cc)

chained : (w : Config) (log : List Event) (i : ℕ) (e : Kind) (a : Access) (x : Happened w log i e) (value : ℕ) → LastUse x.before a.word value → a.read ≡ Some value → ReadsLock log i a
chained w log i e a x value (Unused never zero) read =
    reads_first (λ j b k q low. never j b (record { kind = k.kind; at = into_before w log i e x j k.kind k.at low; is = k.is }) q) (read ∙ ap Some zero)
chained w log i e a x value (Used j b there at last written) read =
    let first = from_before w log i e x j there.kind there.at in
    reads_last j b (record { kind = there.kind; at = first.0; is = there.is }) at first.1
    (λ k c y q after low. last k c (record { kind = y.kind; at = into_before w log i e x k y.kind y.at low; is = y.is }) q after) (read ∙ sym written)

pub locks_are_chained : (w : Config) (log : List Event) → IsRun w log → (i : ℕ) (a : Access) → IsLockEvent log i a → ReadsLock log i a
locks_are_chained w log r i a k =
    let x = happened w log i k.kind r k.at in
    let c = x.step.event.cluster.0 in
    let s = served w c k.kind x.step.done (x.state.parts c) a (guard_of w log i k.kind x) k.is in
    let lock = both_left (is_lock w a.word.0) (lock_home w (lock_at w a.word.0) == c) s.own in
    let home = is_same (lock_home w (lock_at w a.word.0)) c (both_right (is_lock w a.word.0) (lock_home w (lock_at w a.word.0) == c) s.own) in
    chained w log i k.kind a x (value_of w x.state a.word) (last_use w x.before x.state a.word lock x.reached) (s.read ∙ ap (λ y. Some ((x.state.parts y).locks (lock_at w a.word.0)).value) (sym home))

reads_zero : (w : Config) (c : ℕ) (a : Access) (d : HartEffect) (p : Part) → Guard w c (kind.Grant a) d p → a.read ≡ Some 0
unfolding Guard
reads_zero w c a d p can = (asks can.waiter.hart can.waiter.number can.waiter.value 0 a.word true a can.access.made).read_is

pub grants_read_zero : (w : Config) (log : List Event) → IsRun w log → (i : ℕ) (a : Access) → IsEventAt log i (kind.Grant a) → a.read ≡ Some 0
grants_read_zero w log r i a at =
    let x = happened w log i (kind.Grant a) r at in
    let c = x.step.event.cluster.0 in
    reads_zero w c a x.step.done (x.state.parts c) (guard_of w log i (kind.Grant a) x)

pub locks_count : (w : Config) (log : List Event) → IsRun w log → (i : ℕ) (a : Access) → IsLockEvent log i a → a.seen ≡ seen.Lock (sum_by (λ (e : Event). lock_uses a.word e.kind) (take i log))
locks_count w log r i a k =
    let x = happened w log i k.kind r k.at in
    lock_uses_numbered w x.before (map event_of x.follow) x.step.event a (subst (IsRun w) x.whole r) (subst (λ z. ServesLock z a) (sym x.is) k.is) ∙ ap (λ es. seen.Lock (sum_by (λ (e : Event). lock_uses a.word e.kind) es)) (before_is w log i k.kind x)
