use Rattle.std.proofs.Common.{◌≡◌, true, sym, ap, subst, ◌∙◌}
use Rattle.directory.specs.View.{HomeView, is_home, kept_at}
use Rattle.directory.proofs.Places.{kept_at_place}
use Rattle.directory.proofs.home.Home.kept_line.Goals as goal

pub returns : goal.returns
returns c =
    let here = subst (λ (v : HomeView). is_home v c.args.line.0 ≡ true) (sym c.self.view_is) c.requires in
    c.index.ensures
    ∙ sym (kept_at_place _ _ _ _ c.self.invariant c.args.line.0 c.index.result.now here)
    ∙ ap (λ (v : HomeView). kept_at v c.args.line.0) c.self.view_is
