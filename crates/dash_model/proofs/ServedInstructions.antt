-- Whom a home serves waits for it with its next instruction, and nothing else of its lock instruction is on its way.
use Rattle.std.proofs.Common.{List, ap, arith, refl, subst, sym, ℕ, ◌+◌, ◌==◌, ◌∙◌, ◌∷◌, ◌≡◌}
use Rattle.dash_base.specs.declared.id.ClusterId.{ClusterId}
use Rattle.dash_base.specs.declared.need.Need.TheVariants as needed
use Rattle.dash_msg.specs.declared.classes.Class.TheVariants.{Request}
use Rattle.dash_msg.specs.declared.msg.Msg.TheVariants.{Unlock}
use Rattle.dash_event.specs.declared.access.Access.{Access}
use Rattle.dash_event.specs.declared.event.Event.{Event}
use Rattle.dash_event.specs.declared.event.Kind.TheVariants as kind
use Rattle.dash_model.specs.Config.{Config, cluster_of, is_lock, lock_at, lock_home}
use Rattle.dash_model.specs.Guard.{GrantFits}
use Rattle.dash_model.specs.LockFacts.{is_waiter, of_hart, queue_of}
use Rattle.dash_model.specs.Machine.{AtHead, Machine, Reaches, less, taken}
use Rattle.dash_model.specs.Maps.{weigh}
use Rattle.dash_model.specs.Net.{parcel}
use Rattle.dash_model.specs.OnLine.{one}
use Rattle.dash_model.specs.Part.{Waiter}
use Rattle.dash_model.proofs.Each.{each_member}
use Rattle.dash_model.proofs.LockBalance.{lock_below, lock_there, weigh_first}
use Rattle.dash_model.proofs.LockCases.{on_its_way}
use Rattle.dash_model.proofs.LockFacts.{one_each}
use Rattle.dash_model.proofs.LockInstructions.{AllWait, AskOf, IsNextOf, core_at, each_asks}
use Rattle.dash_model.proofs.LockViews.{grants_to}
use Rattle.dash_model.proofs.Serving.{one_lock}
use Rattle.dash_model.proofs.Tests.{at_most_one, both_left, is_same, one_same}
use Rattle.dash_model.proofs.Totals.{term_le}
use Rattle.dash_model.proofs.Weigh.{cut}

-- the waiter that is granted a lock word
pub record IsGranted (w : Config) (m : Machine) (a : Access) (x : Waiter) : Type 0 where
  pub mine : a.hart.0 ≡ x.hart
  pub next : IsNextOf w (core_at w m a.hart.0) x.number (needed.Ask a.word x.value)
  pub alone : weigh (of_hart a.hart.0) m.net ≡ 0

pub is_granted : (w : Config) (log : List Event) (m : Machine) (c : ℕ) (a : Access) → Reaches w log m → (fits : GrantFits w c a (m.parts c)) → IsGranted w m a fits.waiter
is_granted w log m c a r fits =
    let i = lock_at w a.word.0 in
    let x = fits.waiter in
    let h = a.hart.0 in
    let mine : h ≡ x.hart = grants_to x.hart x.number x.value 0 a.word a fits.access.made in
    let low = lock_below w c a.word fits.mine in
    let home = is_same (lock_home w i) c (lock_there w c a.word fits.mine) in
    let queue : queue_of w m i ≡ x ∷ fits.others = ap (λ y. ((m.parts y).locks i).queue) home ∙ fits.queue in
    let waits = (subst (AllWait w h (core_at w m h) i) queue ((each_asks w log m r h).queues i low)).0 (sym mine) in
    let word : waits.word ≡ a.word = (λ j. record { 0 = one_lock w waits.word.0 a.word.0 waits.lock (both_left (is_lock w a.word.0) (lock_home w i == c) fits.mine) waits.at j }) in
    let place : weigh (is_waiter h) (queue_of w m i) ≡ is_waiter h x + weigh (is_waiter h) fits.others = ap (weigh (is_waiter h)) queue ∙ weigh_first h fits.others x in
    let there : is_waiter h x ≡ 1 = ap (λ y. one y h) (sym mine) ∙ one_same h in
    let all = term_le (λ j. weigh (is_waiter h) (queue_of w m j)) i w.top.locks low in
    let whole = one_each w log m r h in
    let most = at_most_one ((m.parts (cluster_of w h)).harts h).asked in
    record { mine = mine; next = subst (λ y. IsNextOf w (core_at w m h) x.number (needed.Ask y x.value)) word waits.next; alone = omega arith }

-- the hart that gives one back, whose Unlock the event takes
pub record IsFreed (w : Config) (m : Machine) (c u : ℕ) (f : ClusterId) (a : Access) : Type 0 where
  pub next : IsNextOf w (core_at w m a.hart.0) a.number (needed.Unlock a.word)
  pub alone : weigh (of_hart a.hart.0) (less (taken c u (kind.Free f a)) m.net) ≡ 0

pub is_freed : (w : Config) (log : List Event) (m : Machine) (c u : ℕ) (f : ClusterId) (a : Access) → Reaches w log m → AtHead (taken c u (kind.Free f a)) m.net → IsFreed w m c u f a
is_freed w log m c u f a r first =
    let h = a.hart.0 in
    let unlock = parcel f.0 c (Unlock a.hart a.number a.word) u in
    let left = cut f.0 c Request unlock m.net first (of_hart h) in
    let here = one_same h in
    let whole = one_each w log m r h in
    let most = at_most_one ((m.parts (cluster_of w h)).harts h).asked in
    record {
      next = each_member (λ j y. AskOf w h (core_at w m h) y) unlock m.net (on_its_way f.0 c Request unlock m.net first) (each_asks w log m r h).net refl;
      alone = omega arith;
    }
