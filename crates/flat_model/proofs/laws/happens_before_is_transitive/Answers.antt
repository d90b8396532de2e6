use Rattle.flat_model.specs.Order.{chained}
use Rattle.flat_model.proofs.laws.happens_before_is_transitive.Goals as goal

pub returns : goal.returns
returns c = λ rs i j k first second. chained j first second
