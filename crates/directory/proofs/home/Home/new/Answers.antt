use Rattle.std.proofs.Common.{ℕ, ◌≡◌, cond, Some, None, refl, sym, subst}
use Rattle.std.specs.FinMap.{get}
use Rattle.directory.specs.Kept.{map_of}
use Rattle.directory.specs.Opening.{opening_line}
use Rattle.directory.specs.View.{is_home}
use Rattle.directory.proofs.AtStart.{opening_at}
use Rattle.directory.proofs.home.Home.new.Goals as goal

pub returns : goal.returns
returns c = record {
  cluster_is = refl;
  clusters_is = refl;
  lines_is = c.line_count.ensures;
  kept_is = subst (λ n. (line : ℕ) → get (map_of c.args.topology.now.clusters c.args.cluster.0 c.in_ok-kept.kept.items) line ≡ cond (is_home (record { cluster = c.args.cluster.0; clusters = c.args.topology.now.clusters; lines = n; kept = map_of c.args.topology.now.clusters c.args.cluster.0 c.in_ok-kept.kept.items }) line) (Some (opening_line c.args.image.now c.args.topology.now line)) None)
      (sym c.line_count.ensures) (opening_at c.args.image.now c.args.topology.now _ _ _ c.in_ok-kept.kept.items c.in_ok-kept.ensures.all c.in_ok-kept.ensures.each);
}
