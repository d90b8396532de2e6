use Rattle.std.proofs.Common.{sym, subst, option_to_list}
use Rattle.cluster_unit.specs.Ends.{Sends}
use Rattle.cluster_unit.proofs.Sending.{sends_none}
use Rattle.cluster_unit.proofs.ends.send_one.Goals as goal

pub returns-in_default : goal.returns-in_default
returns-in_default c = subst (λ s. Sends c.args.clusters c.args.stamp (option_to_list s) c.args.outlets.now c.args.outlets.now) (sym c.in_default.is) (sends_none c.args.clusters c.args.stamp c.args.outlets.now)
