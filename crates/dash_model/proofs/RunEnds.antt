-- Where a run stands at its end.
use Rattle.std.proofs.Common.{List, [], ap, arith, inl, inr, length, refl, subst, suc, sym, zero, ℕ, ◌+◌, ◌<◌, ◌≤◌, ◌∙◌, ◌∷◌, ◌≡◌, ◌≢◌, ◌⊎◌}
use Rattle.dash_base.specs.declared.id.HartId.{HartId}
use Rattle.dash_base.specs.declared.need.Need.{Need}
use Rattle.dash_base.specs.declared.topology.Topology.{Topology}
use Rattle.dash_event.specs.declared.access.Access.{Access}
use Rattle.dash_event.specs.declared.event.Event.{Event}
use Rattle.dash_event.specs.declared.event.Kind.{Kind}
use Rattle.dash_event.specs.declared.event.Kind.TheVariants as kind
use Rattle.elf_load.specs.Image.{ImageView}
use Rattle.hart_core.proofs.LawsOffered.{needs_of, one_after, one_need}
use Rattle.hart_core.specs.HartState.{HartState}
use Rattle.hart_core.specs.Meaning.{Does}
use Rattle.dash_model.specs.Complete.{IsQueued}
use Rattle.dash_model.specs.Config.{Config}
use Rattle.dash_model.specs.LockFacts.{queue_of}
use Rattle.dash_model.specs.HartRows.{entry_of}
use Rattle.dash_model.specs.Log.{IsEventAt}
use Rattle.dash_model.specs.Maps.{weigh}
use Rattle.dash_model.specs.Part.{Waiter}
use Rattle.dash_model.specs.Replay.{Accesses, Harts, IsReplay, Moves, Replays}
use Rattle.dash_model.specs.RunEnds.{AsksFor, DrainedHartsHaveCommitted, LocksHaveLastUses, SettledRunsAreReplayed, WaitersAsk}
use Rattle.dash_model.proofs.Earlier.{event_within}
use Rattle.dash_model.proofs.Entries.{IsIn}
use Rattle.dash_model.proofs.LockChain.{last_use}
use Rattle.dash_model.proofs.LockCounts.{answers}
use Rattle.dash_model.proofs.LockInstructions.{AllWait, core_at, each_asks}
use Rattle.dash_model.proofs.ReplayedHarts.{replayed}
use Rattle.dash_model.proofs.StoreOrder.{ordered}

pub locks_have_last_uses : LocksHaveLastUses
locks_have_last_uses w log m word r lock = last_use w log m word lock r

-- ---- stores

pub drained_harts_have_committed : DrainedHartsHaveCommitted
drained_harts_have_committed w log m h j b r empty at mine = elim ((ordered w log m h r).stored j b at mine) [
  | inl waits ↦ absurd (subst (IsIn (entry_of b)) empty waits)
  | inr done ↦ record { at = done.at; line = done.line; version = done.version; is_at = done.is_at; before = event_within log done.at (kind.Commit b.hart b.number done.line done.version) done.is_at }
]

-- ---- waiters

waiter_asks : (w : Config) (h : ℕ) (s : HartState) (i : ℕ) (xs : List Waiter) → AllWait w h s i xs → IsQueued h xs → AsksFor w s i
waiter_asks w h s i [] all q = absurd q
waiter_asks w h s i (x ∷ xs) all (inl here) = let k = all.0 here in record { word = k.word; value = x.value; lock = k.lock; at = k.at; needs = k.next.needs }
waiter_asks w h s i (x ∷ xs) all (inr there) = waiter_asks w h s i xs all.1 there

pub waiters_ask : WaitersAsk
waiters_ask w log m h i r low q = waiter_asks w h (core_at w m h) i (queue_of w m i) ((each_asks w log m r h).queues i low) q

-- ---- a log has one replay

module _ (image : ImageView) (t : Topology) (old new new' : Harts) where
  one_moves : (hart : HartId) (need need' : Need) (answer g : ℕ) → Moves image t old new hart need answer → Moves image t old new' hart need' answer → (g ≡ hart.0) ⊎ (g ≢ hart.0) → new g ≡ new' g
  one_moves hart need need' answer g a b (inl same) =
      let s = old hart.0 in
      let needs : need ≡ need' = one_need image t s need need' (needs_of image t s (new hart.0) need answer a.does) (needs_of image t s (new' hart.0) need' answer b.does) in
      ap new same ∙ one_after image t s (new hart.0) (new' hart.0) need' answer (subst (λ n. Does image t s n answer (new hart.0)) needs a.does) b.does ∙ ap new' (sym same)
  one_moves hart need need' answer g a b (inr other) = a.others g other ∙ sym (b.others g other)

  same_or_not : (g h : ℕ) → (g ≡ h) ⊎ (g ≢ h)
  same_or_not g h = grind arith

  one_access : (a : Access) (g : ℕ) → Accesses image t old new a → Accesses image t old new' a → new g ≡ new' g
  one_access a g x y = one_moves a.hart x.need y.need _ g x.moves y.moves (same_or_not g a.hart.0)

  one_replays : (k : Kind) (g : ℕ) → Replays image t old k new → Replays image t old k new' → new g ≡ new' g
  one_replays (kind.Alu h pc) g x y = one_moves h _ _ 0 g x.moves y.moves (same_or_not g h.0)
  one_replays (kind.Fence h pc) g x y = one_moves h _ _ 0 g x.next.moves y.next.moves (same_or_not g h.0)
  one_replays (kind.Hint h pc slot) g x y = one_moves h _ _ 0 g x.next.moves y.next.moves (same_or_not g h.0)
  one_replays (kind.Put h pc byte) g x y = one_moves h _ _ 0 g x.moves y.moves (same_or_not g h.0)
  one_replays (kind.Stop h pc end) g x y = one_moves h _ _ 0 g x.moves y.moves (same_or_not g h.0)
  one_replays (kind.Load a level) g x y = one_access a g x.0 y.0
  one_replays (kind.Store a) g x y = one_access a g x.0 y.0
  one_replays (kind.Rmw a line version) g x y = one_access a g x.0 y.0
  one_replays (kind.ScFail a) g x y = one_access a g x.0 y.0
  one_replays (kind.Grant a) g x y = one_access a g x.0 y.0
  one_replays (kind.Free from a) g x y = one_access a g x.0 y.0
  one_replays k g x y = x.stays g ∙ sym (y.stays g)

event_there : (log : List Event) (n : ℕ) → n < length log → (e : Kind) × IsEventAt log n e
event_there [] n low = absurd (omega arith)
event_there (x ∷ xs) zero low = (x.kind, refl)
event_there (x ∷ xs) (suc n) low = event_there xs n (omega arith)

module _ (image : ImageView) (t : Topology) (log : List Event) (old old' : ℕ → Harts) (r : IsReplay image t log old) (r' : IsReplay image t log old') where
  one_replay : (n : ℕ) → n ≤ length log → old n ≡ old' n
  one_replay zero low = λ i h. (r.opens h ∙ sym (r'.opens h)) i
  one_replay (suc n) low =
      let e = event_there log n (omega arith) in
      let next : n + 1 ≡ suc n = omega arith in
      let a = subst (λ k. Replays image t (old n) e.0 (old k)) next (r.moves n e.0 e.1) in
      let b = subst (λ k. Replays image t (old' n) e.0 (old' k)) next (r'.moves n e.0 e.1) in
      let c = subst (λ hs. Replays image t hs e.0 (old' (suc n))) (sym (one_replay n (omega arith))) b in
      λ i g. one_replays image t (old n) (old (suc n)) (old' (suc n)) e.0 g a c i

-- ---- replayed harts

none_left : (h : ℕ) → weigh (answers h) [] ≡ 0
unfolding weigh
none_left h = refl

pub settled_runs_are_replayed : SettledRunsAreReplayed
settled_runs_are_replayed w log m harts r settled replay h =
    let run = replayed w log r.run in
    let empty = ap (λ n. n.net) (sym r.state) ∙ settled in
    let stands = (run.stands h).same (ap (weigh (answers h)) empty ∙ none_left h) in
    ap (λ (f : Harts). f h) (one_replay w.image w.top log harts run.harts replay run.replay (length log) (omega arith))
    ∙ stands
    ∙ ap (λ n. core_at w n h) (sym r.state)
