use Rattle.std.proofs.Common.{subst}
use Rattle.directory.specs.View.{IsWhole}
use Rattle.directory.proofs.Places.{whole}
use Rattle.directory.proofs.home.Home.keeps_its_lines.Goals as goal

pub returns : goal.returns
returns c = subst IsWhole c.self.view_is (whole _ _ _ _ c.self.invariant)
