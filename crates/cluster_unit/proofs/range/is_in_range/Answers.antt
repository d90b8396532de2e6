use Rattle.std.proofs.Common.{sym, subst, arith}
use Rattle.std.proofs.lemmas.Bool.Decides.{nat_tests}
use Rattle.unit_rows.specs.Shown.{config, shown}
use Rattle.unit_rows.proofs.LawsOffered.{far_step, far_commit, far_read, far_own, far_evict, past_ask, past_again, past_install}
use Rattle.cluster_unit.specs.Enabling.{IsInRange}
use Rattle.cluster_unit.proofs.ByChoice.{cannot_other}
use Rattle.cluster_unit.proofs.range.is_in_range.Goals as goal

pub returns-in-Step-clause-inside : goal.returns-in-Step-clause-inside
returns-in-Step-clause-inside c = λ t. subst (IsInRange (config c.args.site.now) (shown c.args.parts.now)) (sym c.in-Step.is) (grind (arith, nat_tests))

pub returns-in-Step-clause-outside : goal.returns-in-Step-clause-outside
returns-in-Step-clause-outside c = λ f own. cannot_other (config c.args.site.now) c.args.site.now.cluster.0 c.args.choice _ (shown c.args.parts.now) c.in-Step.is (far_step (config c.args.site.now) c.args.site.now.cluster.0 c.in-Step.hart (shown c.args.parts.now) (grind (arith, nat_tests)))

pub returns-in-Commit-clause-inside : goal.returns-in-Commit-clause-inside
returns-in-Commit-clause-inside c = λ t. subst (IsInRange (config c.args.site.now) (shown c.args.parts.now)) (sym c.in-Commit.is) (grind (arith, nat_tests))

pub returns-in-Commit-clause-outside : goal.returns-in-Commit-clause-outside
returns-in-Commit-clause-outside c = λ f own. cannot_other (config c.args.site.now) c.args.site.now.cluster.0 c.args.choice _ (shown c.args.parts.now) c.in-Commit.is (far_commit (config c.args.site.now) c.args.site.now.cluster.0 c.in-Commit.hart (shown c.args.parts.now) (grind (arith, nat_tests)))

pub returns-in-BusRead-clause-inside : goal.returns-in-BusRead-clause-inside
returns-in-BusRead-clause-inside c = λ t. subst (IsInRange (config c.args.site.now) (shown c.args.parts.now)) (sym c.in-BusRead.is) (grind (arith, nat_tests))

pub returns-in-BusRead-clause-outside : goal.returns-in-BusRead-clause-outside
returns-in-BusRead-clause-outside c = λ f own. cannot_other (config c.args.site.now) c.args.site.now.cluster.0 c.args.choice _ (shown c.args.parts.now) c.in-BusRead.is (far_read (config c.args.site.now) c.args.site.now.cluster.0 c.in-BusRead.hart (shown c.args.parts.now) _ (grind (arith, nat_tests)))

pub returns-in-BusOwn-clause-inside : goal.returns-in-BusOwn-clause-inside
returns-in-BusOwn-clause-inside c = λ t. subst (IsInRange (config c.args.site.now) (shown c.args.parts.now)) (sym c.in-BusOwn.is) (grind (arith, nat_tests))

pub returns-in-BusOwn-clause-outside : goal.returns-in-BusOwn-clause-outside
returns-in-BusOwn-clause-outside c = λ f own. cannot_other (config c.args.site.now) c.args.site.now.cluster.0 c.args.choice _ (shown c.args.parts.now) c.in-BusOwn.is (far_own (config c.args.site.now) c.args.site.now.cluster.0 c.in-BusOwn.hart (shown c.args.parts.now) _ (grind (arith, nat_tests)))

pub returns-in-Evict-clause-inside : goal.returns-in-Evict-clause-inside
returns-in-Evict-clause-inside c = λ t. subst (IsInRange (config c.args.site.now) (shown c.args.parts.now)) (sym c.in-Evict.is) (grind (arith, nat_tests))

pub returns-in-Evict-clause-outside : goal.returns-in-Evict-clause-outside
returns-in-Evict-clause-outside c = λ f own. cannot_other (config c.args.site.now) c.args.site.now.cluster.0 c.args.choice _ (shown c.args.parts.now) c.in-Evict.is (far_evict (config c.args.site.now) c.args.site.now.cluster.0 c.in-Evict.hart (shown c.args.parts.now) _ (grind (arith, nat_tests)))

pub returns-in-Ask-clause-inside : goal.returns-in-Ask-clause-inside
returns-in-Ask-clause-inside c = λ t. subst (IsInRange (config c.args.site.now) (shown c.args.parts.now)) (sym c.in-Ask.is) (let n = c.count.ensures in grind (arith, nat_tests))

pub returns-in-Ask-clause-outside : goal.returns-in-Ask-clause-outside
returns-in-Ask-clause-outside c = λ f own. cannot_other (config c.args.site.now) c.args.site.now.cluster.0 c.args.choice _ (shown c.args.parts.now) c.in-Ask.is (past_ask (config c.args.site.now) c.args.site.now.cluster.0 c.in-Ask.slot (shown c.args.parts.now) c.requires.sized (let n = c.count.ensures in grind (arith, nat_tests)))

pub returns-in-Again-clause-inside : goal.returns-in-Again-clause-inside
returns-in-Again-clause-inside c = λ t. subst (IsInRange (config c.args.site.now) (shown c.args.parts.now)) (sym c.in-Again.is) (let n = c.count-in-Again.ensures in grind (arith, nat_tests))

pub returns-in-Again-clause-outside : goal.returns-in-Again-clause-outside
returns-in-Again-clause-outside c = λ f own. cannot_other (config c.args.site.now) c.args.site.now.cluster.0 c.args.choice _ (shown c.args.parts.now) c.in-Again.is (past_again (config c.args.site.now) c.args.site.now.cluster.0 c.in-Again.slot (shown c.args.parts.now) (let n = c.count-in-Again.ensures in grind (arith, nat_tests)))

pub returns-in-Install-clause-inside : goal.returns-in-Install-clause-inside
returns-in-Install-clause-inside c = λ t. subst (IsInRange (config c.args.site.now) (shown c.args.parts.now)) (sym c.in-Install.is) (let n = c.count-in-Install.ensures in grind (arith, nat_tests))

pub returns-in-Install-clause-outside : goal.returns-in-Install-clause-outside
returns-in-Install-clause-outside c = λ f own. cannot_other (config c.args.site.now) c.args.site.now.cluster.0 c.args.choice _ (shown c.args.parts.now) c.in-Install.is (past_install (config c.args.site.now) c.args.site.now.cluster.0 c.in-Install.slot (shown c.args.parts.now) c.requires.sized (let n = c.count-in-Install.ensures in grind (arith, nat_tests)))
