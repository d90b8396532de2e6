-- In every run a release finds each earlier store of its hart committed, and no acknowledgement owed to it.
use Rattle.std.proofs.Common.{◌≡◌, ℕ, ◌<◌, Bool, true, false, Some, List, [], ◌⊎◌, inl, inr, unwrap_or, refl, sym, ap, ◌∙◌, subst}
use Rattle.dash_base.specs.declared.id.HartId.{HartId}
use Rattle.dash_base.specs.declared.id.LineId.{LineId}
use Rattle.dash_base.specs.declared.id.WordAddr.{WordAddr}
use Rattle.dash_base.specs.declared.instr.Instr.TheVariants as instr
use Rattle.dash_base.specs.declared.instr.Labels.{Labels}
use Rattle.dash_base.specs.declared.need.Need.{Need}
use Rattle.dash_base.specs.declared.need.Need.TheVariants as needed
use Rattle.dash_base.specs.declared.ops.AmoOp.{AmoOp}
use Rattle.dash_base.specs.declared.ops.AmoOp.TheVariants.{Sc}
use Rattle.dash_msg.specs.declared.msg.Msg.TheVariants.{Unlock}
use Rattle.hart_core.specs.HartState.{HartState}
use Rattle.hart_core.specs.Meaning.{Does, IsFound, need_at, fence_waits}
use Rattle.hart_core.specs.declared.found.Found.TheVariants.{This}
use Rattle.hart_core.proofs.LawsOffered.{one_found}
use Rattle.dash_event.specs.Offered.{offered, rmw_access, bare_access}
use Rattle.dash_event.specs.declared.access.Op.TheVariants as op
use Rattle.dash_event.specs.Records.{unseen}
use Rattle.dash_event.specs.declared.access.Access.{Access}
use Rattle.dash_event.specs.declared.event.Event.{Event}
use Rattle.dash_event.specs.declared.event.Kind.{Kind}
use Rattle.dash_event.specs.declared.event.Kind.TheVariants as kind
use Rattle.dash_model.specs.Maps.{member}
use Rattle.dash_model.specs.Cell.{Acks, NoAcks, Counting, Expects}
use Rattle.dash_model.specs.Config.{Config, cluster_of, lines}
use Rattle.dash_model.specs.Part.{Part}
use Rattle.dash_model.specs.HartRows.{HartEffect, entry_of}
use Rattle.dash_model.specs.HartGuards.{number_of, Drained, LockSends}
use Rattle.dash_model.specs.Words.{owes}
use Rattle.dash_model.specs.Guard.{Guard}
use Rattle.dash_model.specs.Machine.{IsRun}
use Rattle.dash_model.specs.Log.{IsEventAt, Commits}
use Rattle.dash_model.specs.Owed.{IsOwed}
use Rattle.dash_model.specs.OwedFacts.{owed_to}
use Rattle.dash_model.specs.Release.{IsWaitingFence, Releases, StoresAreCommitted, NothingIsOwed}
use Rattle.dash_model.proofs.Told.{rmw_writes}
use Rattle.dash_model.proofs.Numbered.{line_below, commit_line}
use Rattle.dash_model.proofs.OwedFacts.{runs_owe_as_logged}
use Rattle.dash_model.proofs.Happened.{happened, before_is}
use Rattle.dash_model.proofs.Earlier.{into_before, guard_of}
use Rattle.dash_model.proofs.Entries.{IsIn}
use Rattle.dash_model.proofs.StoreOrder.{ordered_at}
use Rattle.dash_model.proofs.CommitsFollow.{committed_before, commit_fits}
use Rattle.dash_model.proofs.VersionsCount.{line_is}
use Rattle.write_buffer.specs.declared.entry.Entry.{Entry as Stored}

-- the labels of an atomic operation's access are the instruction's
same_labels : (a : Access) (amo : AmoOp) (operand old : ℕ) (ok : Bool) → (rmw_access a amo operand old ok).labels ≡ a.labels
same_labels a Sc operand old ok = refl
same_labels a _ operand old ok = refl

rmw_labels : (h number : ℕ) (need : Need) (a : Access) (word : WordAddr) (amo : AmoOp) (operand : ℕ) (labels : Labels) (old : ℕ) (ok : Bool) → need ≡ needed.Rmw word amo operand labels → Some (unseen a) ≡ offered h number need old ok → a.labels ≡ labels
rmw_labels h number need a word amo operand labels old ok is made =
    let now : Some (unseen a) ≡ offered h number (needed.Rmw word amo operand labels) old ok = made ∙ ap (λ z. offered h number z old ok) is in
    let same : unseen a ≡ unwrap_or (offered h number (needed.Rmw word amo operand labels) old ok) (unseen a) = ap (λ z. unwrap_or z (unseen a)) now in
    ap (λ (z : Access). z.labels) same ∙ same_labels (record (bare_access h number op.Amo word) { labels = labels }) amo operand old ok

-- a fence that waits needs it
one_fence : (x y : Bool) → needed.Fence x ≡ needed.Fence y → x ≡ y
one_fence x y e = cc

does_wait : (w : Config) (core next : HartState) (need : Need) (waits : Bool) (pc : ℕ) → need ≡ needed.Fence waits → Does w.image w.top core need 0 next → pc ≡ core.pc → IsWaitingFence w.image pc → waits ≡ true
does_wait w core next need waits pc is does at f =
    let there : IsFound w.image core.pc (This (instr.Fence f.fence)) = subst (λ z. IsFound w.image z (This (instr.Fence f.fence))) at f.found in
    let found = one_found w.image core.pc does.found (This (instr.Fence f.fence)) does.is_found there in
    one_fence waits (fence_waits f.fence) (sym is ∙ does.needs ∙ ap (λ z. need_at w.image w.top core z) found) ∙ f.waits

passes : (h : ℕ) (p : Part) (waits : Bool) → waits ≡ true → (waits ≡ false) ⊎ Drained h p → Drained h p
passes h p waits has (inl lacks) = absurd (cc)
passes h p waits has (inr d) = d

-- the Unlock of a lock instruction
unlocks : (h : ℕ) (need : Need) (p : Part) (hart : HartId) (n : ℕ) (word : WordAddr) → LockSends h (Unlock hart n word) need p → Drained h p
unlocks h (needed.Ask v value) p hart n word sends = absurd (cc)
unlocks h (needed.Unlock v) p hart n word sends = sends.1
unlocks h _ p hart n word sends = absurd sends

-- the hart of a release is of the event's cluster, and is drained
record Rests (w : Config) (c h : ℕ) (p : Part) : Type 0 where
  pub mine : cluster_of w h ≡ c
  pub drained : Drained h p

of_hart : (w : Config) (c : ℕ) (p : Part) (g h : HartId) → g ≡ h → Rests w c g.0 p → Rests w c h.0 p
of_hart w c p g h e k = subst (λ (z : HartId). Rests w c z.0 p) e k

rests : (w : Config) (c : ℕ) (e : Kind) (h : HartId) (d : HartEffect) (p : Part) → Guard w c e d p → Releases w.image e h → Rests w c h.0 p
unfolding Guard
rests w c (kind.Rmw a k v) h d p can is =
    let labels = rmw_labels a.hart.0 (number_of a.hart.0 p) d.need a a.word can.op can.operand can.labels _ true can.next.need_is can.access.made in
    of_hart w c p a.hart h is.0 (record { mine = can.next.mine; drained = can.release (sym (ap (λ (z : Labels). z.rl) labels) ∙ is.1) })
rests w c (kind.Fence g pc) h d p can is =
    let waits = does_wait w (p.harts g.0).core d.next d.need can.waits pc can.next.retires.need_is can.next.retires.does can.next.pc_is is.1 in
    of_hart w c p g h is.0 (record { mine = can.next.retires.mine; drained = passes g.0 p can.waits waits can.passes })
rests w c (kind.LockSend g (Unlock t n word)) h d p can is = of_hart w c p g h is (record { mine = can.mine; drained = unlocks g.0 can.need p t n word can.sends })
rests w c _ h d p can is = absurd is

no_entry : (x : Stored) (b : List Stored) → b ≡ [] → IsIn x b → ⊥
no_entry x b none i = subst (IsIn x) none i

pub stores_are_committed : (w : Config) (log : List Event) → IsRun w log → StoresAreCommitted w.image log
stores_are_committed w log r i h j b release there mine low =
    let e = release.kind in
    let a = happened w log i e r release.at in
    let c = a.step.event.cluster.0 in
    let p = a.state.parts c in
    let k = rests w c e h a.step.done p (guard_of w log i e a) release.is in
    let o = ordered_at w log i e a h.0 k.mine in
    elim (o.stored j b (into_before w log i e a j (kind.Store b) there low) (ap (λ (z : HartId). z.0) mine)) [
      | inl waits ↦ absurd (no_entry (entry_of b) (p.harts h.0).buffer k.drained.buffer waits)
      | inr done ↦ committed_before w log i e a b done
    ]

-- what a log commits is a version of a line of memory
commit_inside : (w : Config) (log : List Event) (i : ℕ) (e : Kind) (h : HartId) (k : LineId) (v : ℕ) → IsRun w log → IsEventAt log i e → Commits e h k v → k.0 < lines w
commit_inside w log i (kind.Commit g n j u) h k v r at is =
    let a = happened w log i (kind.Commit g n j u) r at in
    let c = a.step.event.cluster.0 in
    subst (λ (z : LineId). z.0 < lines w) is.1 (commit_line w a.before a.state c g n u j a.reached (commit_fits w c g n j u a.step.done (a.state.parts c) (guard_of w log i (kind.Commit g n j u) a)))
commit_inside w log i (kind.Rmw b j u) h k v r at is =
    let a = happened w log i (kind.Rmw b j u) r at in
    let c = a.step.event.cluster.0 in
    let can = guard_of w log i (kind.Rmw b j u) a in
    subst (λ (z : LineId). z.0 < lines w) is.1 (line_below w b.word.0 j.0 (rmw_writes w c b j u a.step.done (a.state.parts c) can).inside (line_is w c b j u a.step.done (a.state.parts c) can))
commit_inside w log i _ h k v r at is = absurd is

-- an entry that has the hart owes to it
no_member : (h : ℕ) → member h [] ≡ true → ⊥
unfolding member
no_member h e = absurd (cc)

owes_it : (h : ℕ) (a : Acks) → member h (owed_to a) ≡ true → owes h a ≡ true
owes_it h NoAcks i = absurd (no_member h i)
owes_it h (Counting g o) i = i
owes_it h (Expects n g o) i = i

not_both : (b : Bool) → b ≡ true → b ≡ false → ⊥
not_both b x y = absurd (cc)

pub nothing_is_owed : (w : Config) (log : List Event) → IsRun w log → NothingIsOwed w.image w.top log
nothing_is_owed w log r i h k release owed =
    let e = release.kind in
    let a = happened w log i e r release.at in
    let c = a.step.event.cluster.0 in
    let p = a.state.parts c in
    let rest = rests w c e h a.step.done p (guard_of w log i e a) release.is in
    let due : IsOwed w.top a.before h k = subst (λ es. IsOwed w.top es h k) (sym (before_is w log i e a)) owed in
    let inside = commit_inside w a.before due.at due.commit.kind h k due.version a.reached.run due.commit.at due.commit.is in
    let entry = (runs_owe_as_logged w a.before a.state k.0 c inside a.reached).to_entry h.0 rest.mine due in
    not_both (owes h.0 (p.cells k.0).acks) (owes_it h.0 (p.cells k.0).acks entry) (rest.drained.unowed k.0)
