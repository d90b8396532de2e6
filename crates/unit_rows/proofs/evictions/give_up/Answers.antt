use Rattle.std.proofs.Common.{◌≡◌, ◌∙◌, sym, ap, subst, refl, Some}
use Rattle.std.specs.Vec.{with_items}
use Rattle.dash_base.specs.declared.id.ClusterId.{ClusterId}
use Rattle.dash_msg.specs.declared.msg.Msg.{Msg}
use Rattle.dash_msg.specs.declared.msg.Msg.TheVariants.{WriteBack}
use Rattle.dash_msg.specs.declared.parcel.Sent.{Sent}
use Rattle.snoop_bus.specs.View.{owner_at, copy_of}
use Rattle.dash_model.specs.Config.{cluster_id, hart_id}
use Rattle.unit_rows.specs.Shown.{config, shown, hart_at}
use Rattle.unit_rows.specs.Sweeps.{AreSwept}
use Rattle.unit_rows.proofs.Swept.{swept_back}
use Rattle.unit_rows.proofs.EvictRow.{owner_evicts}
use Rattle.unit_rows.proofs.EvictTold.{owner_is, sized_give}
use Rattle.unit_rows.proofs.evictions.give_up.Goals as goal

abbrev a_sent : ClusterId → Msg → Sent
a_sent h m = record { to = h; msg = m }

pub returns-clause-did : goal.returns-clause-did
returns-clause-did c =
    let w = config c.args.site.now in
    let k = c.args.site.now.cluster.0 in
    let v = shown c.args.parts.now in
    let l = c.args.line in
    let back = swept_back w l.0 c.holders-before.result 0 c.args.parts.now.locals c.deref_mut.result.now c.sweep.new.locals c.deref_mut.ensures.value c.deref_mut.ensures.len c.sweep.ensures in
    let are = subst (λ n. AreSwept w l.0 n 0 v.locals (with_items c.args.parts.now.locals c.sweep.new.locals).items) c.holders-before.ensures back in
    let copy : copy_of v.bus l.0 ≡ Some c.unwrap-copy.result = sym c.peek.ensures ∙ c.unwrap-copy.ensures in
    owner_evicts w k c.args.hart v (hart_id (hart_at w k c.args.hart)) l c.unwrap-copy.result c.clear_all.new.self _ _ c.requires.hart c.requires.sized c.keeps_one_map.ensures c.requires.fits (owner_is (owner_at v.bus l.0) c.args.hart c.requires.owner) copy
    refl c.clear_all.ensures (ap (λ (h : ClusterId). a_sent h (WriteBack l c.unwrap-copy.result)) (ap cluster_id c.home_among-home.ensures)) are

pub returns-clause-sized : goal.returns-clause-sized
returns-clause-sized c =
    let w = config c.args.site.now in
    let back = swept_back w c.args.line.0 c.holders-before.result 0 c.args.parts.now.locals c.deref_mut.result.now c.sweep.new.locals c.deref_mut.ensures.value c.deref_mut.ensures.len c.sweep.ensures in
    sized_give w c.args.site.now.cluster.0 c.args.line.0 c.holders-before.result (shown c.args.parts.now) c.clear_all.new.self _ c.requires.sized c.clear_all.ensures back
