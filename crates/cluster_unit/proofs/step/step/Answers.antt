use Rattle.std.proofs.Common.{◌≡◌}
use Rattle.unit_rows.specs.declared.choice.Choice.TheVariants.{Step}
use Rattle.unit_rows.specs.Rows.{Cannot}
use Rattle.unit_rows.specs.Shown.{config, shown}
use Rattle.cluster_unit.proofs.Fitting.{rest_no, alu_needed, fence_needed, hint_needed, put_needed, stop_needed, load_needed, store_needed, atomic_needed, lock_needed, unlock_needed, unsent_did, unsent_idle, sending_did, sending_idle}
use Rattle.cluster_unit.proofs.step.step.Goals as goal

pub returns-in-Rest-clause-idle : goal.returns-in-Rest-clause-idle
returns-in-Rest-clause-idle c = rest_no (config c.args.site.now) c.args.site.now.cluster.0 c.args.hart (shown c.args.parts.now) c.index-local.result.now c.requires.hart c.requires.sized c.index-local.ensures c.in-Rest.is

pub alu-requires-clause-need : goal.alu-requires-clause-need
alu-requires-clause-need c = alu_needed (config c.args.site.now) c.args.site.now.cluster.0 c.args.hart (shown c.args.parts.now) c.index-local.result.now c.requires.hart c.requires.sized c.index-local.ensures c.in-Alu.is

pub fence-requires-clause-need : goal.fence-requires-clause-need
fence-requires-clause-need c = fence_needed (config c.args.site.now) c.args.site.now.cluster.0 c.args.hart (shown c.args.parts.now) c.index-local.result.now c.requires.hart c.requires.sized c.index-local.ensures c.in-Fence.is

pub hint-requires-clause-need : goal.hint-requires-clause-need
hint-requires-clause-need c = hint_needed (config c.args.site.now) c.args.site.now.cluster.0 c.args.hart (shown c.args.parts.now) c.index-local.result.now c.requires.hart c.requires.sized c.index-local.ensures c.in-Hint.is

pub put-requires-clause-need : goal.put-requires-clause-need
put-requires-clause-need c = put_needed (config c.args.site.now) c.args.site.now.cluster.0 c.args.hart (shown c.args.parts.now) c.index-local.result.now c.requires.hart c.requires.sized c.index-local.ensures c.in-Put.is

pub stop-requires-clause-need : goal.stop-requires-clause-need
stop-requires-clause-need c = stop_needed (config c.args.site.now) c.args.site.now.cluster.0 c.args.hart (shown c.args.parts.now) c.index-local.result.now c.requires.hart c.requires.sized c.index-local.ensures c.in-Stop.is

pub load-requires-clause-need : goal.load-requires-clause-need
load-requires-clause-need c = load_needed (config c.args.site.now) c.args.site.now.cluster.0 c.args.hart (shown c.args.parts.now) c.index-local.result.now c.requires.hart c.requires.sized c.index-local.ensures c.in-Load.is

pub store-requires-clause-need : goal.store-requires-clause-need
store-requires-clause-need c = store_needed (config c.args.site.now) c.args.site.now.cluster.0 c.args.hart (shown c.args.parts.now) c.index-local.result.now c.requires.hart c.requires.sized c.index-local.ensures c.in-Store.is

pub atomic-requires-clause-need : goal.atomic-requires-clause-need
atomic-requires-clause-need c = atomic_needed (config c.args.site.now) c.args.site.now.cluster.0 c.args.hart (shown c.args.parts.now) c.index-local.result.now c.requires.hart c.requires.sized c.index-local.ensures c.in-Rmw.is

pub ask-requires-clause-need : goal.ask-requires-clause-need
ask-requires-clause-need c = lock_needed (config c.args.site.now) c.args.site.now.cluster.0 c.args.hart (shown c.args.parts.now) c.index-local.result.now c.requires.hart c.requires.sized c.index-local.ensures c.in-Ask.is

pub unlock-requires-clause-need : goal.unlock-requires-clause-need
unlock-requires-clause-need c = unlock_needed (config c.args.site.now) c.args.site.now.cluster.0 c.args.hart (shown c.args.parts.now) c.index-local.result.now c.requires.hart c.requires.sized c.index-local.ensures c.in-Unlock.is

pub returns-in-Fence-clause-did : goal.returns-in-Fence-clause-did
returns-in-Fence-clause-did c = unsent_did (config c.args.site.now) c.args.site.now.cluster.0 (Step c.args.hart) (shown c.args.parts.now) (shown c.fence.new.parts) c.fence.result c.unsent.result c.unsent.ensures c.fence.ensures.did

pub returns-in-Fence-clause-idle : goal.returns-in-Fence-clause-idle
returns-in-Fence-clause-idle c = unsent_idle (Cannot (config c.args.site.now) c.args.site.now.cluster.0 (shown c.args.parts.now) (Step c.args.hart)) c.fence.result c.unsent.result c.unsent.ensures c.fence.ensures.idle

pub returns-in-Fence-clause-unchanged : goal.returns-in-Fence-clause-unchanged
returns-in-Fence-clause-unchanged c = unsent_idle (shown c.fence.new.parts ≡ (shown c.args.parts.now)) c.fence.result c.unsent.result c.unsent.ensures c.fence.ensures.same

pub returns-in-Load-clause-did : goal.returns-in-Load-clause-did
returns-in-Load-clause-did c = unsent_did (config c.args.site.now) c.args.site.now.cluster.0 (Step c.args.hart) (shown c.args.parts.now) (shown c.load.new.parts) c.load.result c.unsent-in-Load.result c.unsent-in-Load.ensures c.load.ensures.did

pub returns-in-Load-clause-idle : goal.returns-in-Load-clause-idle
returns-in-Load-clause-idle c = unsent_idle (Cannot (config c.args.site.now) c.args.site.now.cluster.0 (shown c.args.parts.now) (Step c.args.hart)) c.load.result c.unsent-in-Load.result c.unsent-in-Load.ensures c.load.ensures.idle

pub returns-in-Load-clause-unchanged : goal.returns-in-Load-clause-unchanged
returns-in-Load-clause-unchanged c = unsent_idle (shown c.load.new.parts ≡ (shown c.args.parts.now)) c.load.result c.unsent-in-Load.result c.unsent-in-Load.ensures c.load.ensures.same

pub returns-in-Store-clause-did : goal.returns-in-Store-clause-did
returns-in-Store-clause-did c = unsent_did (config c.args.site.now) c.args.site.now.cluster.0 (Step c.args.hart) (shown c.args.parts.now) (shown c.store.new.parts) c.store.result c.unsent-in-Store.result c.unsent-in-Store.ensures c.store.ensures.did

pub returns-in-Store-clause-idle : goal.returns-in-Store-clause-idle
returns-in-Store-clause-idle c = unsent_idle (Cannot (config c.args.site.now) c.args.site.now.cluster.0 (shown c.args.parts.now) (Step c.args.hart)) c.store.result c.unsent-in-Store.result c.unsent-in-Store.ensures c.store.ensures.idle

pub returns-in-Store-clause-unchanged : goal.returns-in-Store-clause-unchanged
returns-in-Store-clause-unchanged c = unsent_idle (shown c.store.new.parts ≡ (shown c.args.parts.now)) c.store.result c.unsent-in-Store.result c.unsent-in-Store.ensures c.store.ensures.same

pub returns-in-Rmw-clause-did : goal.returns-in-Rmw-clause-did
returns-in-Rmw-clause-did c = unsent_did (config c.args.site.now) c.args.site.now.cluster.0 (Step c.args.hart) (shown c.args.parts.now) (shown c.atomic.new.parts) c.atomic.result c.unsent-in-Rmw.result c.unsent-in-Rmw.ensures c.atomic.ensures.did

pub returns-in-Rmw-clause-idle : goal.returns-in-Rmw-clause-idle
returns-in-Rmw-clause-idle c = unsent_idle (Cannot (config c.args.site.now) c.args.site.now.cluster.0 (shown c.args.parts.now) (Step c.args.hart)) c.atomic.result c.unsent-in-Rmw.result c.unsent-in-Rmw.ensures c.atomic.ensures.idle

pub returns-in-Rmw-clause-unchanged : goal.returns-in-Rmw-clause-unchanged
returns-in-Rmw-clause-unchanged c = unsent_idle (shown c.atomic.new.parts ≡ (shown c.args.parts.now)) c.atomic.result c.unsent-in-Rmw.result c.unsent-in-Rmw.ensures c.atomic.ensures.same

pub returns-in-Ask-clause-did : goal.returns-in-Ask-clause-did
returns-in-Ask-clause-did c = sending_did (config c.args.site.now) c.args.site.now.cluster.0 (Step c.args.hart) (shown c.args.parts.now) (shown c.ask.new.parts) c.ask.result c.sending.result c.sending.ensures c.ask.ensures.did

pub returns-in-Ask-clause-idle : goal.returns-in-Ask-clause-idle
returns-in-Ask-clause-idle c = sending_idle (Cannot (config c.args.site.now) c.args.site.now.cluster.0 (shown c.args.parts.now) (Step c.args.hart)) c.ask.result c.sending.result c.sending.ensures c.ask.ensures.idle

pub returns-in-Ask-clause-unchanged : goal.returns-in-Ask-clause-unchanged
returns-in-Ask-clause-unchanged c = sending_idle (shown c.ask.new.parts ≡ (shown c.args.parts.now)) c.ask.result c.sending.result c.sending.ensures c.ask.ensures.same

pub returns-in-Unlock-clause-did : goal.returns-in-Unlock-clause-did
returns-in-Unlock-clause-did c = sending_did (config c.args.site.now) c.args.site.now.cluster.0 (Step c.args.hart) (shown c.args.parts.now) (shown c.unlock.new.parts) c.unlock.result c.sending-in-Unlock.result c.sending-in-Unlock.ensures c.unlock.ensures.did

pub returns-in-Unlock-clause-idle : goal.returns-in-Unlock-clause-idle
returns-in-Unlock-clause-idle c = sending_idle (Cannot (config c.args.site.now) c.args.site.now.cluster.0 (shown c.args.parts.now) (Step c.args.hart)) c.unlock.result c.sending-in-Unlock.result c.sending-in-Unlock.ensures c.unlock.ensures.idle

pub returns-in-Unlock-clause-unchanged : goal.returns-in-Unlock-clause-unchanged
returns-in-Unlock-clause-unchanged c = sending_idle (shown c.unlock.new.parts ≡ (shown c.args.parts.now)) c.unlock.result c.sending-in-Unlock.result c.sending-in-Unlock.ensures c.unlock.ensures.same
