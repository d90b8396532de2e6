-- In every run who is shown a version of a line has no store of the word left to commit, and a load that is shown its hart's own store is shown the newest.
use Rattle.std.proofs.Common.{◌≡◌, ℕ, ◌<◌, Bool, true, false, if◌then◌else◌, Option, None, Some, List, [], ◌∷◌, inl, inr, unwrap_or, refl, sym, ap, ◌∙◌, subst, arith}
use Rattle.dash_base.specs.Words.{has_byte}
use Rattle.dash_base.specs.declared.id.HartId.{HartId}
use Rattle.dash_base.specs.declared.id.WordAddr.{WordAddr}
use Rattle.dash_base.specs.declared.instr.Labels.{Labels}
use Rattle.dash_base.specs.declared.need.Need.{Need}
use Rattle.dash_base.specs.declared.need.Need.TheVariants as needed
use Rattle.dash_event.specs.Offered.{offered, bytes_under}
use Rattle.dash_event.specs.Records.{accesses_in, unseen}
use Rattle.dash_event.specs.declared.access.Access.{Access}
use Rattle.dash_event.specs.declared.access.Seen.{Seen}
use Rattle.dash_event.specs.declared.access.Seen.TheVariants as seen
use Rattle.dash_event.specs.declared.event.Event.{Event}
use Rattle.dash_event.specs.declared.event.Kind.{Kind}
use Rattle.dash_event.specs.declared.event.Kind.TheVariants as kind
use Rattle.write_buffer.specs.Look.{newest_of, look_by, covers}
use Rattle.write_buffer.specs.declared.entry.Entry.{Entry as Stored}
use Rattle.write_buffer.specs.declared.entry.Look.TheVariants.{Hit, Wait}
use Rattle.write_buffer.proofs.LawsOffered.{covers-has_byte}
use Rattle.dash_model.specs.Config.{Config, cluster_of}
use Rattle.dash_model.specs.Part.{Processor, Part}
use Rattle.dash_model.specs.HartRows.{HartEffect, entry_of}
use Rattle.dash_model.specs.HartGuards.{number_of, FromBuffer, LoadsBy, LoadFits}
use Rattle.dash_model.specs.Guard.{Guard}
use Rattle.dash_model.specs.Machine.{IsRun}
use Rattle.dash_model.specs.Log.{IsEventAt, IsShown}
use Rattle.dash_model.specs.Coherent.{IsCommittedBefore, IsShownOwn}
use Rattle.dash_model.proofs.Happened.{Happened, happened}
use Rattle.dash_model.proofs.Earlier.{into_before, from_before, guard_of}
use Rattle.dash_model.proofs.Entries.{IsNewest, no_newest, newest}
use Rattle.dash_model.proofs.StoreOrder.{IsStore, Ordered, ordered_at}
use Rattle.dash_model.proofs.CommitsFollow.{committed_before, stores_rise}

same_access : (a b : Access) → b ∷ [] ≡ a ∷ [] → b ≡ a
same_access a b e = cc

own_is_no_version : (s : Seen) (n v : ℕ) → s ≡ seen.Own n → s ≡ seen.Line v → ⊥
own_is_no_version s n v x y = cc

lock_is_no_version : (s : Seen) (n v : ℕ) → s ≡ seen.Lock n → s ≡ seen.Line v → ⊥
lock_is_no_version s n v x y = cc

nothing_is_no_version : (s : Seen) (v : ℕ) → s ≡ seen.Nothing → s ≡ seen.Line v → ⊥
nothing_is_no_version s v x y = cc

-- a load that is shown a version finds no store of its word in the buffer
covered_by : (w : Config) (x : Stored) (a : Access) (level : ℕ) (reserve : Bool) (d : HartEffect) (p : Part) (v : ℕ) (b : Bool) → LoadsBy w (if b then Hit x.value x.number else Wait) a level reserve d p → a.seen ≡ seen.Line v → ⊥
covered_by w x a level reserve d p v true from is = own_is_no_version a.seen x.number v from.access.seen_is is
covered_by w x a level reserve d p v false from is = absurd from

loads_past : (w : Config) (a : Access) (level : ℕ) (reserve : Bool) (d : HartEffect) (p : Part) (v : ℕ) (o : Option Stored) → LoadsBy w (look_by o a.mask) a level reserve d p → a.seen ≡ seen.Line v → o ≡ None
loads_past w a level reserve d p v None from is = refl
loads_past w a level reserve d p v (Some x) from is = absurd (covered_by w x a level reserve d p v (covers x.mask a.mask) from is)

-- the hart of an access that is shown a version is of the event's cluster, and no store of the word waits in its buffer
record IsPast (w : Config) (c : ℕ) (a : Access) (p : Part) : Type 0 where
  pub mine : cluster_of w a.hart.0 ≡ c
  pub none : newest_of a.word.0 (p.harts a.hart.0).buffer ≡ None

past : (w : Config) (c : ℕ) (e : Kind) (d : HartEffect) (p : Part) (a : Access) (v : ℕ) → Guard w c e d p → accesses_in e ≡ a ∷ [] → a.seen ≡ seen.Line v → IsPast w c a p
unfolding Guard
past w c (kind.Load b level) d p a v can is shown =
    let q = same_access a b is in
    subst (λ z. IsPast w c z p) q (record { mine = can.next.mine; none = loads_past w b level can.reserve d p v (newest_of b.word.0 (p.harts b.hart.0).buffer) can.from (ap (λ (x : Access). x.seen) q ∙ shown) })
past w c (kind.Store b) d p a v can is shown = absurd (nothing_is_no_version b.seen v can.access.seen_is (ap (λ (x : Access). x.seen) (same_access a b is) ∙ shown))
past w c (kind.Rmw b k u) d p a v can is shown = subst (λ z. IsPast w c z p) (same_access a b is) (record { mine = can.next.mine; none = can.unbuffered })
past w c (kind.ScFail b) d p a v can is shown = absurd (nothing_is_no_version b.seen v can.access.seen_is (ap (λ (x : Access). x.seen) (same_access a b is) ∙ shown))
past w c (kind.Grant b) d p a v can is shown = absurd (lock_is_no_version b.seen (p.locks _).count v can.access.seen_is (ap (λ (x : Access). x.seen) (same_access a b is) ∙ shown))
past w c (kind.Free f b) d p a v can is shown = absurd (lock_is_no_version b.seen (p.locks _).count v can.access.seen_is (ap (λ (x : Access). x.seen) (same_access a b is) ∙ shown))
past w c _ d p a v can is shown = absurd (cc)

pub own_stores_are_committed : (w : Config) (log : List Event) → IsRun w log
    → (i : ℕ) (a : Access) (version : ℕ) (j : ℕ) (b : Access) → IsShown log i a version → IsEventAt log j (kind.Store b) → j < i → b.hart ≡ a.hart → b.word ≡ a.word → IsCommittedBefore log b i
own_stores_are_committed w log r i a v j b shown there low hart word =
    let e = shown.event.kind in
    let x = happened w log i e r shown.event.at in
    let c = x.step.event.cluster.0 in
    let p = x.state.parts c in
    let y = past w c e x.step.done p a v (guard_of w log i e x) shown.event.is shown.seen in
    let o = ordered_at w log i e x a.hart.0 y.mine in
    elim (o.stored j b (into_before w log i e x j (kind.Store b) there low) (ap (λ (h : HartId). h.0) hart)) [
      | inl waits ↦ absurd (no_newest a.word.0 (p.harts a.hart.0).buffer (entry_of b) y.none waits (ap (λ (z : WordAddr). z.0) word))
      | inr done ↦ committed_before w log i e x b done
    ]

-- a load that is shown the hart's own store
record IsHit (w : Config) (a : Access) (level : ℕ) (reserve : Bool) (d : HartEffect) (p : Part) (number : ℕ) (o : Option Stored) : Type 0 where
  pub store : Stored
  pub is : o ≡ Some store
  pub covers : covers store.mask a.mask ≡ true
  pub from : FromBuffer w store.value store.number a level reserve d p
  pub of_number : store.number ≡ number

one_number : (s : Seen) (m n : ℕ) → s ≡ seen.Own m → s ≡ seen.Own n → m ≡ n
one_number s m n x y = cc

hit_by : (w : Config) (x : Stored) (a : Access) (level : ℕ) (reserve : Bool) (d : HartEffect) (p : Part) (n : ℕ) (b : Bool) → covers x.mask a.mask ≡ b → LoadsBy w (if b then Hit x.value x.number else Wait) a level reserve d p → a.seen ≡ seen.Own n → IsHit w a level reserve d p n (Some x)
hit_by w x a level reserve d p n true test from is = record { store = x; is = refl; covers = test; from = from; of_number = one_number a.seen x.number n from.access.seen_is is }
hit_by w x a level reserve d p n false test from is = absurd from

hit : (w : Config) (a : Access) (level : ℕ) (reserve : Bool) (d : HartEffect) (p : Part) (n : ℕ) (o : Option Stored) → LoadsBy w (look_by o a.mask) a level reserve d p → a.seen ≡ seen.Own n → IsHit w a level reserve d p n o
hit w a level reserve d p n None from is = absurd (own_is_no_version a.seen n _ is from.access.seen_is)
hit w a level reserve d p n (Some x) from is = hit_by w x a level reserve d p n (covers x.mask a.mask) refl from is

fits : (w : Config) (c : ℕ) (a : Access) (level : ℕ) (d : HartEffect) (p : Part) → Guard w c (kind.Load a level) d p → LoadFits w c a level d p
unfolding Guard
fits w c a level d p can = can

-- what a load reads of its word
load_reads : (h number : ℕ) (need : Need) (a : Access) (word : WordAddr) (mask : ℕ) (labels : Labels) (reserve : Bool) (old : ℕ) (ok : Bool) → need ≡ needed.Load word mask labels reserve → Some (unseen a) ≡ offered h number need old ok → a.read ≡ Some (bytes_under mask old)
load_reads h number need a word mask labels reserve old ok is made =
    let now : Some (unseen a) ≡ offered h number (needed.Load word mask labels reserve) old ok = made ∙ ap (λ z. offered h number z old ok) is in
    let same : unseen a ≡ unwrap_or (offered h number (needed.Load word mask labels reserve) old ok) (unseen a) = ap (λ z. unwrap_or z (unseen a)) now in
    ap (λ (z : Access). z.read) same

value_of : (o : Option ℕ) (x y : ℕ) → o ≡ Some x → unwrap_or o 0 ≡ y → o ≡ Some y
value_of (Some z) x y is e = ap Some e
value_of None x y is e = absurd (cc)

-- the newest store of the word in the buffer, which has all bytes that are meant
module _ (w : Config) (log : List Event) (r : IsRun w log) (i : ℕ) (e : Kind) (x : Happened w log i e) (a : Access) (p : Processor) (o : Ordered w x.before a.hart.0 p)
    (y : Stored) (best : IsNewest a.word.0 p.buffer y) (s : IsStore w x.before a.hart.0 y) where
  none_newer : (j : ℕ) (b : Access) → IsEventAt log j (kind.Store b) → b.hart ≡ a.hart → b.word ≡ a.word → s.at < j → j < i → ⊥
  none_newer j b at hart word after low =
      let mine = ap (λ (h : HartId). h.0) hart in
      let first = from_before w log i e x s.at (kind.Store s.store) s.is_at in
      let rises = stores_rise w log r s.at j s.store b first.0 at (s.of_hart ∙ sym mine) after in
      let number = ap (λ (z : Stored). z.number) s.entry in
      elim (o.stored j b (into_before w log i e x j (kind.Store b) at low) mine) [
        | inl waits ↦ (let most = best.least (entry_of b) waits (ap (λ (z : WordAddr). z.0) word) in absurd (omega arith))
        | inr done ↦ (let passed = o.passed done.at b.hart b.number done.line done.version done.is_at mine y best.inside in absurd (omega arith))
      ]

  not_committed : IsCommittedBefore log s.store i → ⊥
  not_committed done =
      let commit = kind.Commit s.store.hart s.store.number done.line done.version in
      let passed = o.passed done.at s.store.hart s.store.number done.line done.version (into_before w log i e x done.at commit done.is_at done.before) s.of_hart y best.inside in
      let number = ap (λ (z : Stored). z.number) s.entry in
      absurd (omega arith)

  shown_own : (n : ℕ) → covers y.mask a.mask ≡ true → y.number ≡ n → a.read ≡ Some (bytes_under a.mask y.value) → IsShownOwn log i a n
  shown_own n all number read =
      let there = from_before w log i e x s.at (kind.Store s.store) s.is_at in
      let hart = s.of_hart in
      let word : s.store.word.0 ≡ a.word.0 = ap (λ (z : Stored). z.word.0) s.entry ∙ best.word in
      let mask : s.store.mask ≡ y.mask = ap (λ (z : Stored). z.mask) s.entry in
      record {
        at = s.at;
        store = s.store;
        value = y.value;
        is_at = there.0;
        before = there.1;
        of_hart = λ z. record { 0 = hart z };
        of_word = λ z. record { 0 = word z };
        of_number = ap (λ (z : Stored). z.number) s.entry ∙ number;
        newest = none_newer;
        covers = λ k low has. subst (λ m. has_byte m k ≡ true) (sym mask) (covers-has_byte y.mask a.mask k all has);
        written = value_of s.store.written s.writes.value y.value s.writes.written (ap (λ (z : Stored). z.value) s.entry);
        read = read;
        not_yet = not_committed;
      }

pub own_is_newest : (w : Config) (log : List Event) → IsRun w log
    → (i : ℕ) (a : Access) (level number : ℕ) → IsEventAt log i (kind.Load a level) → a.seen ≡ seen.Own number → IsShownOwn log i a number
own_is_newest w log r i a level n at shown =
    let x = happened w log i (kind.Load a level) r at in
    let p = x.state.parts x.step.event.cluster.0 in
    let can = fits w x.step.event.cluster.0 a level x.step.done p (guard_of w log i (kind.Load a level) x) in
    let o = ordered_at w log i (kind.Load a level) x a.hart.0 can.next.mine in
    let y = hit w a level can.reserve x.step.done p n (newest_of a.word.0 (p.harts a.hart.0).buffer) can.from shown in
    let best = newest a.word.0 (p.harts a.hart.0).buffer y.store o.rising y.is in
    shown_own w log r i (kind.Load a level) x a (p.harts a.hart.0) o y.store best (o.waiting y.store best.inside) n y.covers y.of_number
    (load_reads a.hart.0 (number_of a.hart.0 p) x.step.done.need a a.word a.mask can.labels can.reserve y.store.value false can.next.need_is y.from.access.made)
