use Rattle.dash_model.proofs.RunsRelease.{runs_keep_releases}
use Rattle.dash_model.proofs.laws.runs_keep_releases.Goals as goal

pub returns : goal.returns
returns c = runs_keep_releases
