use Rattle.dash_model.proofs.Numbered.{commit_numbered, rmw_numbered}
use Rattle.dash_model.proofs.laws.commits_are_numbered.Goals as goal

pub returns : goal.returns
returns c = (commit_numbered, rmw_numbered)
