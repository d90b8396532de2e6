use Rattle.dash_model.proofs.TableHome.{rows_of_home}
use Rattle.dash_model.proofs.laws.rows_of_home.Goals as goal

pub returns : goal.returns
returns c = rows_of_home
