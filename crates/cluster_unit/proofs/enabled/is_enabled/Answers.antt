use Rattle.std.proofs.Common.{sym, ◌∙◌}
use Rattle.unit_rows.specs.Rows.{Cannot}
use Rattle.unit_rows.specs.Shown.{config, shown}
use Rattle.unit_rows.specs.declared.choice.Choice.TheVariants.{Step, Commit, BusRead, BusOwn, Evict, Ask, Again, Install, Grant}
use Rattle.unit_rows.proofs.LawsOffered.{can_read, can_own, can_evict, can_grant}
use Rattle.cluster_unit.proofs.ByChoice.{in_range, can_other, cannot_other, some_commit, some_install, some_ask, some_again, none_cannot}
use Rattle.cluster_unit.proofs.enabled.is_enabled.Goals as goal

pub returns-then-not-is_in_range-clause-no : goal.returns-then-not-is_in_range-clause-no
returns-then-not-is_in_range-clause-no c = λ f own. c.is_in_range.ensures.outside c.if-not-is_in_range.true own

pub returns-in-Step-clause-yes : goal.returns-in-Step-clause-yes
returns-in-Step-clause-yes c = λ t. can_other (config c.args.site.now) c.args.site.now.cluster.0 c.args.choice (Step c.in-Step.hart) (shown c.args.parts.now) c.in-Step.is (c.fits_step.ensures.yes t)

pub returns-in-Step-clause-no : goal.returns-in-Step-clause-no
returns-in-Step-clause-no c = λ f own. cannot_other (config c.args.site.now) c.args.site.now.cluster.0 c.args.choice (Step c.in-Step.hart) (shown c.args.parts.now) c.in-Step.is (c.fits_step.ensures.no f)

pub fits_step-requires-clause-hart : goal.fits_step-requires-clause-hart
fits_step-requires-clause-hart c = in_range (config c.args.site.now) (shown c.args.parts.now) c.args.choice (Step c.in-Step.hart) c.in-Step.is (c.is_in_range.ensures.inside c.if-not-is_in_range.false)

pub returns-in-Commit-clause-yes : goal.returns-in-Commit-clause-yes
returns-in-Commit-clause-yes c = λ t. can_other (config c.args.site.now) c.args.site.now.cluster.0 c.args.choice (Commit c.in-Commit.hart) (shown c.args.parts.now) c.in-Commit.is (some_commit (config c.args.site.now) c.args.site.now.cluster.0 c.in-Commit.hart (shown c.args.parts.now) c.fits_commit.result (sym c.is_some.ensures ∙ t) c.fits_commit.ensures.fits (in_range (config c.args.site.now) (shown c.args.parts.now) c.args.choice (Commit c.in-Commit.hart) c.in-Commit.is (c.is_in_range.ensures.inside c.if-not-is_in_range.false)) c.requires.sized c.keeps_one_map.ensures)

pub returns-in-Commit-clause-no : goal.returns-in-Commit-clause-no
returns-in-Commit-clause-no c = λ f own. cannot_other (config c.args.site.now) c.args.site.now.cluster.0 c.args.choice (Commit c.in-Commit.hart) (shown c.args.parts.now) c.in-Commit.is (none_cannot c.fits_commit.result (Cannot (config c.args.site.now) c.args.site.now.cluster.0 (shown c.args.parts.now) (Commit c.in-Commit.hart)) (sym c.is_some.ensures ∙ f) c.fits_commit.ensures.idle)

pub fits_commit-requires-clause-hart : goal.fits_commit-requires-clause-hart
fits_commit-requires-clause-hart c = in_range (config c.args.site.now) (shown c.args.parts.now) c.args.choice (Commit c.in-Commit.hart) c.in-Commit.is (c.is_in_range.ensures.inside c.if-not-is_in_range.false)

pub returns-in-BusRead-clause-yes : goal.returns-in-BusRead-clause-yes
returns-in-BusRead-clause-yes c = λ t. can_other (config c.args.site.now) c.args.site.now.cluster.0 c.args.choice (BusRead c.in-BusRead.hart c.in-BusRead.line) (shown c.args.parts.now) c.in-BusRead.is (can_read (config c.args.site.now) c.args.site.now.cluster.0 c.in-BusRead.hart (shown c.args.parts.now) c.in-BusRead.line (c.fits_bus_read.ensures.fits t) (in_range (config c.args.site.now) (shown c.args.parts.now) c.args.choice (BusRead c.in-BusRead.hart c.in-BusRead.line) c.in-BusRead.is (c.is_in_range.ensures.inside c.if-not-is_in_range.false)) c.requires.sized c.keeps_one_map.ensures)

pub returns-in-BusRead-clause-no : goal.returns-in-BusRead-clause-no
returns-in-BusRead-clause-no c = λ f own. cannot_other (config c.args.site.now) c.args.site.now.cluster.0 c.args.choice (BusRead c.in-BusRead.hart c.in-BusRead.line) (shown c.args.parts.now) c.in-BusRead.is (c.fits_bus_read.ensures.idle f)

pub fits_bus_read-requires-clause-hart : goal.fits_bus_read-requires-clause-hart
fits_bus_read-requires-clause-hart c = in_range (config c.args.site.now) (shown c.args.parts.now) c.args.choice (BusRead c.in-BusRead.hart c.in-BusRead.line) c.in-BusRead.is (c.is_in_range.ensures.inside c.if-not-is_in_range.false)

pub returns-in-BusOwn-clause-yes : goal.returns-in-BusOwn-clause-yes
returns-in-BusOwn-clause-yes c = λ t. can_other (config c.args.site.now) c.args.site.now.cluster.0 c.args.choice (BusOwn c.in-BusOwn.hart c.in-BusOwn.line) (shown c.args.parts.now) c.in-BusOwn.is (can_own (config c.args.site.now) c.args.site.now.cluster.0 c.in-BusOwn.hart (shown c.args.parts.now) c.in-BusOwn.line (c.fits_bus_own.ensures.fits t) (in_range (config c.args.site.now) (shown c.args.parts.now) c.args.choice (BusOwn c.in-BusOwn.hart c.in-BusOwn.line) c.in-BusOwn.is (c.is_in_range.ensures.inside c.if-not-is_in_range.false)) c.requires.sized)

pub returns-in-BusOwn-clause-no : goal.returns-in-BusOwn-clause-no
returns-in-BusOwn-clause-no c = λ f own. cannot_other (config c.args.site.now) c.args.site.now.cluster.0 c.args.choice (BusOwn c.in-BusOwn.hart c.in-BusOwn.line) (shown c.args.parts.now) c.in-BusOwn.is (c.fits_bus_own.ensures.idle f)

pub fits_bus_own-requires-clause-hart : goal.fits_bus_own-requires-clause-hart
fits_bus_own-requires-clause-hart c = in_range (config c.args.site.now) (shown c.args.parts.now) c.args.choice (BusOwn c.in-BusOwn.hart c.in-BusOwn.line) c.in-BusOwn.is (c.is_in_range.ensures.inside c.if-not-is_in_range.false)

pub returns-in-Evict-clause-yes : goal.returns-in-Evict-clause-yes
returns-in-Evict-clause-yes c = λ t. can_other (config c.args.site.now) c.args.site.now.cluster.0 c.args.choice (Evict c.in-Evict.hart c.in-Evict.line) (shown c.args.parts.now) c.in-Evict.is (can_evict (config c.args.site.now) c.args.site.now.cluster.0 c.in-Evict.hart (shown c.args.parts.now) c.in-Evict.line (c.fits_evict.ensures.fits t) (in_range (config c.args.site.now) (shown c.args.parts.now) c.args.choice (Evict c.in-Evict.hart c.in-Evict.line) c.in-Evict.is (c.is_in_range.ensures.inside c.if-not-is_in_range.false)))

pub returns-in-Evict-clause-no : goal.returns-in-Evict-clause-no
returns-in-Evict-clause-no c = λ f own. cannot_other (config c.args.site.now) c.args.site.now.cluster.0 c.args.choice (Evict c.in-Evict.hart c.in-Evict.line) (shown c.args.parts.now) c.in-Evict.is (c.fits_evict.ensures.idle f)

pub fits_evict-requires-clause-hart : goal.fits_evict-requires-clause-hart
fits_evict-requires-clause-hart c = in_range (config c.args.site.now) (shown c.args.parts.now) c.args.choice (Evict c.in-Evict.hart c.in-Evict.line) c.in-Evict.is (c.is_in_range.ensures.inside c.if-not-is_in_range.false)

pub returns-in-Ask-clause-yes : goal.returns-in-Ask-clause-yes
returns-in-Ask-clause-yes c = λ t. can_other (config c.args.site.now) c.args.site.now.cluster.0 c.args.choice (Ask c.in-Ask.slot) (shown c.args.parts.now) c.in-Ask.is (some_ask (config c.args.site.now) c.args.site.now.cluster.0 c.in-Ask.slot (shown c.args.parts.now) c.fits_request.result (sym c.is_some-in-Ask.ensures ∙ t) c.fits_request.ensures.fits (in_range (config c.args.site.now) (shown c.args.parts.now) c.args.choice (Ask c.in-Ask.slot) c.in-Ask.is (c.is_in_range.ensures.inside c.if-not-is_in_range.false)) c.keeps_one_slot_a_line.ensures)

pub returns-in-Ask-clause-no : goal.returns-in-Ask-clause-no
returns-in-Ask-clause-no c = λ f own. cannot_other (config c.args.site.now) c.args.site.now.cluster.0 c.args.choice (Ask c.in-Ask.slot) (shown c.args.parts.now) c.in-Ask.is (none_cannot c.fits_request.result (Cannot (config c.args.site.now) c.args.site.now.cluster.0 (shown c.args.parts.now) (Ask c.in-Ask.slot)) (sym c.is_some-in-Ask.ensures ∙ f) c.fits_request.ensures.idle)

pub fits_request-requires-clause-slot : goal.fits_request-requires-clause-slot
fits_request-requires-clause-slot c = in_range (config c.args.site.now) (shown c.args.parts.now) c.args.choice (Ask c.in-Ask.slot) c.in-Ask.is (c.is_in_range.ensures.inside c.if-not-is_in_range.false)

pub returns-in-Again-clause-yes : goal.returns-in-Again-clause-yes
returns-in-Again-clause-yes c = λ t. can_other (config c.args.site.now) c.args.site.now.cluster.0 c.args.choice (Again c.in-Again.slot) (shown c.args.parts.now) c.in-Again.is (some_again (config c.args.site.now) c.args.site.now.cluster.0 c.in-Again.slot (shown c.args.parts.now) c.fits_again.result (sym c.is_some-in-Again.ensures ∙ t) c.fits_again.ensures.fits (in_range (config c.args.site.now) (shown c.args.parts.now) c.args.choice (Again c.in-Again.slot) c.in-Again.is (c.is_in_range.ensures.inside c.if-not-is_in_range.false)) c.keeps_one_slot_a_line.ensures)

pub returns-in-Again-clause-no : goal.returns-in-Again-clause-no
returns-in-Again-clause-no c = λ f own. cannot_other (config c.args.site.now) c.args.site.now.cluster.0 c.args.choice (Again c.in-Again.slot) (shown c.args.parts.now) c.in-Again.is (none_cannot c.fits_again.result (Cannot (config c.args.site.now) c.args.site.now.cluster.0 (shown c.args.parts.now) (Again c.in-Again.slot)) (sym c.is_some-in-Again.ensures ∙ f) c.fits_again.ensures.idle)

pub fits_again-requires-clause-slot : goal.fits_again-requires-clause-slot
fits_again-requires-clause-slot c = in_range (config c.args.site.now) (shown c.args.parts.now) c.args.choice (Again c.in-Again.slot) c.in-Again.is (c.is_in_range.ensures.inside c.if-not-is_in_range.false)

pub returns-in-Install-clause-yes : goal.returns-in-Install-clause-yes
returns-in-Install-clause-yes c = λ t. can_other (config c.args.site.now) c.args.site.now.cluster.0 c.args.choice (Install c.in-Install.slot) (shown c.args.parts.now) c.in-Install.is (some_install (config c.args.site.now) c.args.site.now.cluster.0 c.in-Install.slot (shown c.args.parts.now) c.fits_install.result (sym c.is_some-in-Install.ensures ∙ t) c.fits_install.ensures.fits c.keeps_one_slot_a_line.ensures c.requires.sized)

pub returns-in-Install-clause-no : goal.returns-in-Install-clause-no
returns-in-Install-clause-no c = λ f own. cannot_other (config c.args.site.now) c.args.site.now.cluster.0 c.args.choice (Install c.in-Install.slot) (shown c.args.parts.now) c.in-Install.is (none_cannot c.fits_install.result (Cannot (config c.args.site.now) c.args.site.now.cluster.0 (shown c.args.parts.now) (Install c.in-Install.slot)) (sym c.is_some-in-Install.ensures ∙ f) c.fits_install.ensures.idle)

pub fits_install-requires-clause-slot : goal.fits_install-requires-clause-slot
fits_install-requires-clause-slot c = in_range (config c.args.site.now) (shown c.args.parts.now) c.args.choice (Install c.in-Install.slot) c.in-Install.is (c.is_in_range.ensures.inside c.if-not-is_in_range.false)

pub returns-in-Grant-clause-yes : goal.returns-in-Grant-clause-yes
returns-in-Grant-clause-yes c = λ t. can_other (config c.args.site.now) c.args.site.now.cluster.0 c.args.choice (Grant c.in-Grant.word) (shown c.args.parts.now) c.in-Grant.is (can_grant (config c.args.site.now) c.args.site.now.cluster.0 c.in-Grant.word (shown c.args.parts.now) c.requires.sized (c.fits_grant.ensures.own t) (c.fits_grant.ensures.ready t))

pub returns-in-Grant-clause-no : goal.returns-in-Grant-clause-no
returns-in-Grant-clause-no c = λ f own. cannot_other (config c.args.site.now) c.args.site.now.cluster.0 c.args.choice (Grant c.in-Grant.word) (shown c.args.parts.now) c.in-Grant.is (c.fits_grant.ensures.idle f)
