-- The rows' effects on lock words.
use Rattle.std.specs.Prelude.{ℕ, ◌==◌, Bool, true, false, cond, List, [], ◌∷◌, ◌++◌, length}
use Rattle.dash_base.specs.declared.id.HartId.{HartId}
use Rattle.dash_msg.specs.declared.msg.Msg.TheVariants.{LockGrant, UnlockAck}
use Rattle.dash_model.specs.Maps.{upd, total, raised, most}
use Rattle.dash_model.specs.Config.{Config, hart_id, cluster_of, lock_home}
use Rattle.dash_model.specs.Net.{to}
use Rattle.dash_model.specs.Part.{Waiter, Part}
use Rattle.dash_model.specs.HartRows.{PartEffect, quiet, HartEffect, change}

-- Grant: the first waiter leaves, and the word is what it asked for
abbrev pub grant_row : Config → ℕ → List Waiter → Part → PartEffect
grant_row w i [] p = quiet p
grant_row w i (x ∷ xs) p = record { part = record p { locks = upd p.locks i (record { value = x.value; count = raised most (p.locks i).count; queue = xs }) }; sent = to (cluster_of w x.hart) (LockGrant (hart_id x.hart)) ∷ [] }

-- Free: the word is 0, and the hart is told what it was
abbrev pub free_row : Config → ℕ → HartId → Part → PartEffect
free_row w i h p = record { part = record p { locks = upd p.locks i (record { value = 0; count = raised most (p.locks i).count; queue = (p.locks i).queue }) }; sent = to (cluster_of w h.0) (UnlockAck h (p.locks i).value) ∷ [] }

-- LockAsk: the hart waits behind the others
abbrev pub queued : ℕ → Waiter → Part → Part
queued i x p = record p { locks = upd p.locks i (record (p.locks i) { queue = (p.locks i).queue ++ x ∷ [] }) }

-- LockGrant, UnlockAck: a hart whose lock instruction was sent did it
abbrev pub answered : ℕ → Bool → HartEffect → Part → Part
answered h true d p = change h (record (p.harts h) { core = d.next; asked = false }) p
answered h false d p = p

-- how many wait in the queues of the lock words whose home is c
abbrev pub own_queue : Config → ℕ → Part → ℕ → ℕ
own_queue w c p i = cond (lock_home w i == c) (length (p.locks i).queue) 0

-- how many wait at home c in all
abbrev pub waiting : Config → ℕ → Part → ℕ
waiting w c p = total (own_queue w c p) w.top.locks
