use Rattle.unit_rows.specs.Shown.{config, shown}
use Rattle.remote_cache.specs.View.{count}
use Rattle.cluster_unit.proofs.InTheWay.{kept_came, kept_victim, all_victims}
use Rattle.cluster_unit.proofs.victims.victims_of.Goals as goal

pub returns-clause-whole : goal.returns-clause-whole
returns-clause-whole c =
    let w = config c.args.site.now in
    let v = shown c.args.parts.now in
    let k = c.args.hart in
    let n = count v.slots in
    let came = kept_came v.bus v.slots k n _ _ c.add_victim-3.ensures.keeps (kept_came v.bus v.slots k n _ _ c.add_victim-2.ensures.keeps (kept_came v.bus v.slots k n _ _ c.add_victim.ensures.keeps c.add_came.ensures.came)) in
    let copy = kept_victim v.bus k c.args.needed.copy _ _ c.add_victim-3.ensures.keeps (kept_victim v.bus k c.args.needed.copy _ _ c.add_victim-2.ensures.keeps c.add_victim.ensures.has) in
    let write = kept_victim v.bus k c.args.needed.write _ _ c.add_victim-3.ensures.keeps c.add_victim-2.ensures.has in
    all_victims w c.args.site.now.cluster.0 k v _ c.args.needed.copy c.args.needed.write c.args.needed.store came
    c.requires.needed.copy c.requires.needed.write c.requires.needed.store copy write c.add_victim-3.ensures.has c.requires.hart c.requires.sized
