-- A choice whose hart or slot the cluster does not have is enabled on no part.
use Rattle.std.proofs.Common.{◌≡◌, ℕ, ◌≤◌, None, refl, ap, subst, arith}
use Rattle.std.proofs.lemmas.List.{get_or_past}
use Rattle.dash_base.specs.declared.id.LineId.{LineId}
use Rattle.dash_event.specs.declared.event.Kind.{Kind}
use Rattle.dash_event.specs.declared.event.Kind.TheVariants as kind
use Rattle.remote_cache.specs.Steps.{is_refused, arrived_in}
use Rattle.remote_cache.specs.View.{slot_at, count}
use Rattle.dash_model.specs.Config.{Config, cluster_of}
use Rattle.dash_model.specs.Guard.{Guard}
use Rattle.dash_model.specs.HartRows.{HartEffect}
use Rattle.dash_model.specs.Part.{Part}
use Rattle.unit_rows.specs.declared.choice.Choice.TheVariants.{Step, Commit, BusRead, BusOwn, Evict, Ask, Again, Install}
use Rattle.unit_rows.specs.Choices.{IsOf, IsStepOf}
use Rattle.unit_rows.specs.Rows.{Cannot}
use Rattle.unit_rows.specs.Shown.{PartsView, hart_at, AreSized}
use Rattle.unit_rows.proofs.AgainRow.{not_refused}
use Rattle.unit_rows.proofs.AskCauses.{local_is, slot_is, no_cause}
use Rattle.unit_rows.proofs.AskTold.{causeless}
use Rattle.unit_rows.proofs.BusFits.{read_told, own_told}
use Rattle.unit_rows.proofs.EvictTold.{told as evict_told}
use Rattle.unit_rows.proofs.InstallFits.{not_come}

-- no hart of this number is of the cluster
far : (w : Config) (c k : ℕ) → w.top.harts ≤ k → cluster_of w (hart_at w c k) ≡ c → ⊥
far w c k high mine =
    let near = local_is w c (hart_at w c k) mine in
    let is = slot_is w c k in
    omega (arith, near, is)

step_mine : (w : Config) (c h : ℕ) (p : Part) (e : Kind) (d : HartEffect) → IsStepOf h e → Guard w c e d p → cluster_of w h ≡ c
unfolding Guard
step_mine w c h p (kind.Alu g pc) d is guard = subst (λ i. cluster_of w i ≡ c) is guard.retires.mine
step_mine w c h p (kind.Fence g pc) d is guard = subst (λ i. cluster_of w i ≡ c) is guard.next.retires.mine
step_mine w c h p (kind.Hint g pc slot) d is guard = subst (λ i. cluster_of w i ≡ c) is guard.next.retires.mine
step_mine w c h p (kind.Put g pc byte) d is guard = subst (λ i. cluster_of w i ≡ c) is guard.retires.mine
step_mine w c h p (kind.Stop g pc end) d is guard = subst (λ i. cluster_of w i ≡ c) is guard.retires.mine
step_mine w c h p (kind.Load a level) d is guard = subst (λ i. cluster_of w i ≡ c) is guard.next.mine
step_mine w c h p (kind.Store a) d is guard = subst (λ i. cluster_of w i ≡ c) is guard.next.mine
step_mine w c h p (kind.Rmw a line version) d is guard = subst (λ i. cluster_of w i ≡ c) is guard.next.mine
step_mine w c h p (kind.ScFail a) d is guard = subst (λ i. cluster_of w i ≡ c) is guard.next.mine
step_mine w c h p (kind.LockSend g msg) d is guard = subst (λ i. cluster_of w i ≡ c) is guard.mine
step_mine w c h p e d is guard = absurd is

commit_mine : (w : Config) (c k : ℕ) (p : Part) (e : Kind) (d : HartEffect) → IsOf w c (Commit k) e → Guard w c e d p → cluster_of w (hart_at w c k) ≡ c
unfolding Guard
commit_mine w c k p (kind.Commit g number line version) d is guard = subst (λ i. cluster_of w i ≡ c) is guard.mine
commit_mine w c k p e d is guard = absurd is

pub far_step : (w : Config) (c k : ℕ) (v : PartsView) → w.top.harts ≤ k → Cannot w c v (Step k)
far_step w c k v high p shows e = far w c k high (step_mine w c (hart_at w c k) p e.event e.done e.is_of e.guard)

pub far_commit : (w : Config) (c k : ℕ) (v : PartsView) → w.top.harts ≤ k → Cannot w c v (Commit k)
far_commit w c k v high p shows e = far w c k high (commit_mine w c k p e.event e.done e.is_of e.guard)

pub far_read : (w : Config) (c k : ℕ) (v : PartsView) (l : LineId) → w.top.harts ≤ k → Cannot w c v (BusRead k l)
far_read w c k v l high p shows e = far w c k high (read_told w c k l p e).mine

pub far_own : (w : Config) (c k : ℕ) (v : PartsView) (l : LineId) → w.top.harts ≤ k → Cannot w c v (BusOwn k l)
far_own w c k v l high p shows e = far w c k high (own_told w c k l p e).mine

pub far_evict : (w : Config) (c k : ℕ) (v : PartsView) (l : LineId) → w.top.harts ≤ k → Cannot w c v (Evict k l)
far_evict w c k v l high p shows e = far w c k high (evict_told w c k l p e).mine

-- there is no slot of this number
past : (v : PartsView) (n : ℕ) → count v.slots ≤ n → slot_at v.slots n ≡ None
past v n high = get_or_past v.slots.slots n None high

pub past_ask : (w : Config) (c n : ℕ) (v : PartsView) → AreSized w c v → count v.slots ≤ n → Cannot w c v (Ask n)
past_ask w c n v sized high = causeless w c n v None (no_cause w c n v (omega (arith, sized.slot_count))) refl

pub past_again : (w : Config) (c n : ℕ) (v : PartsView) → count v.slots ≤ n → Cannot w c v (Again n)
past_again w c n v high = not_refused w c n v (ap is_refused (past v n high))

pub past_install : (w : Config) (c n : ℕ) (v : PartsView) → AreSized w c v → count v.slots ≤ n → Cannot w c v (Install n)
past_install w c n v sized high = not_come w c n v sized (ap arrived_in (past v n high))
