use Rattle.std.proofs.Common.{◌≡◌}
use Rattle.unit_rows.specs.Rows.{Cannot}
use Rattle.unit_rows.specs.Shown.{config, shown}
use Rattle.unit_rows.specs.declared.choice.Choice.TheVariants.{Step, Commit, BusRead, BusOwn, Evict, Ask, Again, Install, Grant}
use Rattle.cluster_unit.proofs.ByChoice.{in_range, did_by, idle_by, granted_did, granted_idle, granted_same}
use Rattle.cluster_unit.proofs.Fitting.{unsent_did, unsent_idle, sending_did, sending_idle}
use Rattle.cluster_unit.proofs.act.act.Goals as goal

pub returns-then-not-is_in_range-clause-idle : goal.returns-then-not-is_in_range-clause-idle
returns-then-not-is_in_range-clause-idle c = c.is_in_range.ensures.outside c.if-not-is_in_range.true

pub step-requires-clause-hart : goal.step-requires-clause-hart
step-requires-clause-hart c = in_range (config c.args.site.now) (shown c.args.parts.now) c.args.choice (Step c.in-Step.hart) c.in-Step.is (c.is_in_range.ensures.inside c.if-not-is_in_range.false)

pub returns-in-Step-clause-did : goal.returns-in-Step-clause-did
returns-in-Step-clause-did c = did_by (config c.args.site.now) c.args.site.now.cluster.0 c.args.choice (Step c.in-Step.hart) (shown c.args.parts.now) (shown c.step.new.parts) c.step.result c.in-Step.is c.step.ensures.did

pub returns-in-Step-clause-idle : goal.returns-in-Step-clause-idle
returns-in-Step-clause-idle c = idle_by (config c.args.site.now) c.args.site.now.cluster.0 c.args.choice (Step c.in-Step.hart) (shown c.args.parts.now) c.step.result c.in-Step.is c.step.ensures.idle

pub commit-requires-clause-hart : goal.commit-requires-clause-hart
commit-requires-clause-hart c = in_range (config c.args.site.now) (shown c.args.parts.now) c.args.choice (Commit c.in-Commit.hart) c.in-Commit.is (c.is_in_range.ensures.inside c.if-not-is_in_range.false)

pub returns-in-Commit-clause-did : goal.returns-in-Commit-clause-did
returns-in-Commit-clause-did c = did_by (config c.args.site.now) c.args.site.now.cluster.0 c.args.choice (Commit c.in-Commit.hart) (shown c.args.parts.now) (shown c.commit.new.parts) c.unsent.result c.in-Commit.is (unsent_did (config c.args.site.now) c.args.site.now.cluster.0 (Commit c.in-Commit.hart) (shown c.args.parts.now) (shown c.commit.new.parts) c.commit.result c.unsent.result c.unsent.ensures c.commit.ensures.did)

pub returns-in-Commit-clause-idle : goal.returns-in-Commit-clause-idle
returns-in-Commit-clause-idle c = idle_by (config c.args.site.now) c.args.site.now.cluster.0 c.args.choice (Commit c.in-Commit.hart) (shown c.args.parts.now) c.unsent.result c.in-Commit.is (unsent_idle (Cannot (config c.args.site.now) c.args.site.now.cluster.0 (shown c.args.parts.now) (Commit c.in-Commit.hart)) c.commit.result c.unsent.result c.unsent.ensures c.commit.ensures.idle)

pub returns-in-Commit-clause-unchanged : goal.returns-in-Commit-clause-unchanged
returns-in-Commit-clause-unchanged c = unsent_idle ((shown c.commit.new.parts) ≡ (shown c.args.parts.now)) c.commit.result c.unsent.result c.unsent.ensures c.commit.ensures.unchanged

pub bus_read-requires-clause-hart : goal.bus_read-requires-clause-hart
bus_read-requires-clause-hart c = in_range (config c.args.site.now) (shown c.args.parts.now) c.args.choice (BusRead c.in-BusRead.hart c.in-BusRead.line) c.in-BusRead.is (c.is_in_range.ensures.inside c.if-not-is_in_range.false)

pub returns-in-BusRead-clause-did : goal.returns-in-BusRead-clause-did
returns-in-BusRead-clause-did c = did_by (config c.args.site.now) c.args.site.now.cluster.0 c.args.choice (BusRead c.in-BusRead.hart c.in-BusRead.line) (shown c.args.parts.now) (shown c.bus_read.new.parts) c.unsent-in-BusRead.result c.in-BusRead.is (unsent_did (config c.args.site.now) c.args.site.now.cluster.0 (BusRead c.in-BusRead.hart c.in-BusRead.line) (shown c.args.parts.now) (shown c.bus_read.new.parts) c.bus_read.result c.unsent-in-BusRead.result c.unsent-in-BusRead.ensures c.bus_read.ensures.did)

pub returns-in-BusRead-clause-idle : goal.returns-in-BusRead-clause-idle
returns-in-BusRead-clause-idle c = idle_by (config c.args.site.now) c.args.site.now.cluster.0 c.args.choice (BusRead c.in-BusRead.hart c.in-BusRead.line) (shown c.args.parts.now) c.unsent-in-BusRead.result c.in-BusRead.is (unsent_idle (Cannot (config c.args.site.now) c.args.site.now.cluster.0 (shown c.args.parts.now) (BusRead c.in-BusRead.hart c.in-BusRead.line)) c.bus_read.result c.unsent-in-BusRead.result c.unsent-in-BusRead.ensures c.bus_read.ensures.idle)

pub returns-in-BusRead-clause-unchanged : goal.returns-in-BusRead-clause-unchanged
returns-in-BusRead-clause-unchanged c = unsent_idle ((shown c.bus_read.new.parts) ≡ (shown c.args.parts.now)) c.bus_read.result c.unsent-in-BusRead.result c.unsent-in-BusRead.ensures c.bus_read.ensures.unchanged

pub bus_own-requires-clause-hart : goal.bus_own-requires-clause-hart
bus_own-requires-clause-hart c = in_range (config c.args.site.now) (shown c.args.parts.now) c.args.choice (BusOwn c.in-BusOwn.hart c.in-BusOwn.line) c.in-BusOwn.is (c.is_in_range.ensures.inside c.if-not-is_in_range.false)

pub returns-in-BusOwn-clause-did : goal.returns-in-BusOwn-clause-did
returns-in-BusOwn-clause-did c = did_by (config c.args.site.now) c.args.site.now.cluster.0 c.args.choice (BusOwn c.in-BusOwn.hart c.in-BusOwn.line) (shown c.args.parts.now) (shown c.bus_own.new.parts) c.unsent-in-BusOwn.result c.in-BusOwn.is (unsent_did (config c.args.site.now) c.args.site.now.cluster.0 (BusOwn c.in-BusOwn.hart c.in-BusOwn.line) (shown c.args.parts.now) (shown c.bus_own.new.parts) c.bus_own.result c.unsent-in-BusOwn.result c.unsent-in-BusOwn.ensures c.bus_own.ensures.did)

pub returns-in-BusOwn-clause-idle : goal.returns-in-BusOwn-clause-idle
returns-in-BusOwn-clause-idle c = idle_by (config c.args.site.now) c.args.site.now.cluster.0 c.args.choice (BusOwn c.in-BusOwn.hart c.in-BusOwn.line) (shown c.args.parts.now) c.unsent-in-BusOwn.result c.in-BusOwn.is (unsent_idle (Cannot (config c.args.site.now) c.args.site.now.cluster.0 (shown c.args.parts.now) (BusOwn c.in-BusOwn.hart c.in-BusOwn.line)) c.bus_own.result c.unsent-in-BusOwn.result c.unsent-in-BusOwn.ensures c.bus_own.ensures.idle)

pub returns-in-BusOwn-clause-unchanged : goal.returns-in-BusOwn-clause-unchanged
returns-in-BusOwn-clause-unchanged c = unsent_idle ((shown c.bus_own.new.parts) ≡ (shown c.args.parts.now)) c.bus_own.result c.unsent-in-BusOwn.result c.unsent-in-BusOwn.ensures c.bus_own.ensures.unchanged

pub evict-requires-clause-hart : goal.evict-requires-clause-hart
evict-requires-clause-hart c = in_range (config c.args.site.now) (shown c.args.parts.now) c.args.choice (Evict c.in-Evict.hart c.in-Evict.line) c.in-Evict.is (c.is_in_range.ensures.inside c.if-not-is_in_range.false)

pub returns-in-Evict-clause-did : goal.returns-in-Evict-clause-did
returns-in-Evict-clause-did c = did_by (config c.args.site.now) c.args.site.now.cluster.0 c.args.choice (Evict c.in-Evict.hart c.in-Evict.line) (shown c.args.parts.now) (shown c.evict.new.parts) c.evict.result c.in-Evict.is c.evict.ensures.did

pub returns-in-Evict-clause-idle : goal.returns-in-Evict-clause-idle
returns-in-Evict-clause-idle c = idle_by (config c.args.site.now) c.args.site.now.cluster.0 c.args.choice (Evict c.in-Evict.hart c.in-Evict.line) (shown c.args.parts.now) c.evict.result c.in-Evict.is c.evict.ensures.idle

pub request-requires-clause-slot : goal.request-requires-clause-slot
request-requires-clause-slot c = in_range (config c.args.site.now) (shown c.args.parts.now) c.args.choice (Ask c.in-Ask.slot) c.in-Ask.is (c.is_in_range.ensures.inside c.if-not-is_in_range.false)

pub returns-in-Ask-clause-did : goal.returns-in-Ask-clause-did
returns-in-Ask-clause-did c = did_by (config c.args.site.now) c.args.site.now.cluster.0 c.args.choice (Ask c.in-Ask.slot) (shown c.args.parts.now) (shown c.request.new.parts) c.sending.result c.in-Ask.is (sending_did (config c.args.site.now) c.args.site.now.cluster.0 (Ask c.in-Ask.slot) (shown c.args.parts.now) (shown c.request.new.parts) c.request.result c.sending.result c.sending.ensures c.request.ensures.did)

pub returns-in-Ask-clause-idle : goal.returns-in-Ask-clause-idle
returns-in-Ask-clause-idle c = idle_by (config c.args.site.now) c.args.site.now.cluster.0 c.args.choice (Ask c.in-Ask.slot) (shown c.args.parts.now) c.sending.result c.in-Ask.is (sending_idle (Cannot (config c.args.site.now) c.args.site.now.cluster.0 (shown c.args.parts.now) (Ask c.in-Ask.slot)) c.request.result c.sending.result c.sending.ensures c.request.ensures.idle)

pub returns-in-Ask-clause-unchanged : goal.returns-in-Ask-clause-unchanged
returns-in-Ask-clause-unchanged c = sending_idle ((shown c.request.new.parts) ≡ (shown c.args.parts.now)) c.request.result c.sending.result c.sending.ensures c.request.ensures.unchanged

pub again-requires-clause-slot : goal.again-requires-clause-slot
again-requires-clause-slot c = in_range (config c.args.site.now) (shown c.args.parts.now) c.args.choice (Again c.in-Again.slot) c.in-Again.is (c.is_in_range.ensures.inside c.if-not-is_in_range.false)

pub returns-in-Again-clause-did : goal.returns-in-Again-clause-did
returns-in-Again-clause-did c = did_by (config c.args.site.now) c.args.site.now.cluster.0 c.args.choice (Again c.in-Again.slot) (shown c.args.parts.now) (shown c.again.new.parts) c.sending-in-Again.result c.in-Again.is (sending_did (config c.args.site.now) c.args.site.now.cluster.0 (Again c.in-Again.slot) (shown c.args.parts.now) (shown c.again.new.parts) c.again.result c.sending-in-Again.result c.sending-in-Again.ensures c.again.ensures.did)

pub returns-in-Again-clause-idle : goal.returns-in-Again-clause-idle
returns-in-Again-clause-idle c = idle_by (config c.args.site.now) c.args.site.now.cluster.0 c.args.choice (Again c.in-Again.slot) (shown c.args.parts.now) c.sending-in-Again.result c.in-Again.is (sending_idle (Cannot (config c.args.site.now) c.args.site.now.cluster.0 (shown c.args.parts.now) (Again c.in-Again.slot)) c.again.result c.sending-in-Again.result c.sending-in-Again.ensures c.again.ensures.idle)

pub returns-in-Again-clause-unchanged : goal.returns-in-Again-clause-unchanged
returns-in-Again-clause-unchanged c = sending_idle ((shown c.again.new.parts) ≡ (shown c.args.parts.now)) c.again.result c.sending-in-Again.result c.sending-in-Again.ensures c.again.ensures.unchanged

pub install-requires-clause-slot : goal.install-requires-clause-slot
install-requires-clause-slot c = in_range (config c.args.site.now) (shown c.args.parts.now) c.args.choice (Install c.in-Install.slot) c.in-Install.is (c.is_in_range.ensures.inside c.if-not-is_in_range.false)

pub returns-in-Install-clause-did : goal.returns-in-Install-clause-did
returns-in-Install-clause-did c = did_by (config c.args.site.now) c.args.site.now.cluster.0 c.args.choice (Install c.in-Install.slot) (shown c.args.parts.now) (shown c.install.new.parts) c.unsent-in-Install.result c.in-Install.is (unsent_did (config c.args.site.now) c.args.site.now.cluster.0 (Install c.in-Install.slot) (shown c.args.parts.now) (shown c.install.new.parts) c.install.result c.unsent-in-Install.result c.unsent-in-Install.ensures c.install.ensures.did)

pub returns-in-Install-clause-idle : goal.returns-in-Install-clause-idle
returns-in-Install-clause-idle c = idle_by (config c.args.site.now) c.args.site.now.cluster.0 c.args.choice (Install c.in-Install.slot) (shown c.args.parts.now) c.unsent-in-Install.result c.in-Install.is (unsent_idle (Cannot (config c.args.site.now) c.args.site.now.cluster.0 (shown c.args.parts.now) (Install c.in-Install.slot)) c.install.result c.unsent-in-Install.result c.unsent-in-Install.ensures c.install.ensures.idle)

pub returns-in-Install-clause-unchanged : goal.returns-in-Install-clause-unchanged
returns-in-Install-clause-unchanged c = unsent_idle ((shown c.install.new.parts) ≡ (shown c.args.parts.now)) c.install.result c.unsent-in-Install.result c.unsent-in-Install.ensures c.install.ensures.unchanged

pub returns-in-Grant-clause-did : goal.returns-in-Grant-clause-did
returns-in-Grant-clause-did c = did_by (config c.args.site.now) c.args.site.now.cluster.0 c.args.choice (Grant c.in-Grant.word) (shown c.args.parts.now) (shown c.grant.new.parts) c.sending-in-Grant.result c.in-Grant.is (sending_did (config c.args.site.now) c.args.site.now.cluster.0 (Grant c.in-Grant.word) (shown c.args.parts.now) (shown c.grant.new.parts) c.grant.result c.sending-in-Grant.result c.sending-in-Grant.ensures (granted_did (config c.args.site.now) c.args.site.now.cluster.0 c.in-Grant.word (shown c.args.parts.now) (shown c.grant.new.parts) c.grant.result c.grant.ensures.did))

pub returns-in-Grant-clause-idle : goal.returns-in-Grant-clause-idle
returns-in-Grant-clause-idle c = idle_by (config c.args.site.now) c.args.site.now.cluster.0 c.args.choice (Grant c.in-Grant.word) (shown c.args.parts.now) c.sending-in-Grant.result c.in-Grant.is (sending_idle (Cannot (config c.args.site.now) c.args.site.now.cluster.0 (shown c.args.parts.now) (Grant c.in-Grant.word)) c.grant.result c.sending-in-Grant.result c.sending-in-Grant.ensures (granted_idle (config c.args.site.now) c.args.site.now.cluster.0 c.in-Grant.word (shown c.args.parts.now) (shown c.grant.new.parts) c.grant.result c.grant.ensures.did))

pub returns-in-Grant-clause-unchanged : goal.returns-in-Grant-clause-unchanged
returns-in-Grant-clause-unchanged c = sending_idle ((shown c.grant.new.parts) ≡ (shown c.args.parts.now)) c.grant.result c.sending-in-Grant.result c.sending-in-Grant.ensures (granted_same (config c.args.site.now) c.args.site.now.cluster.0 c.in-Grant.word (shown c.args.parts.now) (shown c.grant.new.parts) c.grant.result c.grant.ensures.did)
