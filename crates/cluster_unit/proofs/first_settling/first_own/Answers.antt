use Rattle.unit_rows.specs.Shown.{config, shown}
use Rattle.cluster_unit.proofs.FirstOnes.{own_word, own_slot, own_line}
use Rattle.cluster_unit.proofs.first_settling.first_own.Goals as goal

pub returns-in-Some : goal.returns-in-Some
returns-in-Some c = own_word (config c.args.site.now) c.args.site.now.cluster.0 (shown c.args.parts.now) c.in-Some.choice c.in-Some.ensures

pub returns-in-Some-first_install : goal.returns-in-Some-first_install
returns-in-Some-first_install c = own_slot (config c.args.site.now) c.args.site.now.cluster.0 (shown c.args.parts.now) c.in_default.ensures c.in-Some-first_install.choice c.in-Some-first_install.ensures

pub returns : goal.returns
returns c = own_line (config c.args.site.now) c.args.site.now.cluster.0 (shown c.args.parts.now) c.in_default.ensures c.in_default-first_install.ensures c.first_eviction.result c.first_eviction.ensures
