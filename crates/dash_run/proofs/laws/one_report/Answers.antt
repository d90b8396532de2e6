use Rattle.dash_run.proofs.Reports.{one_report}
use Rattle.dash_run.proofs.laws.one_report.Goals as goal

pub returns : goal.returns
returns c = one_report c.events_fix_effects.ensures
