use Rattle.std.proofs.Common.{◌≡◌, ◌≤◌, ◌<◌, length, slice_set, slice_index_or, ◌∙◌, ap, sym, subst, ◌∷◌, []}
use Rattle.std.proofs.lemmas.List.{get_or_default}
use Rattle.dash_msg.specs.Classes.{class_of}
use Rattle.mesh_lanes.specs.View.{OutletView}
use Rattle.cluster_unit.specs.Ends.{place, Sends}
use Rattle.cluster_unit.proofs.Sending.{SendsOn, sent_on, sends_one, sends_past}
use Rattle.cluster_unit.proofs.ends.send.Goals as goal

pub returns-then-at-outlets : goal.returns-then-at-outlets
returns-then-at-outlets c =
    let at : c.place-at.result ≡ place c.args.sent.to.0 (class_of c.args.sent.msg) = c.place-at.ensures ∙ ap (place c.args.sent.to.0) c.class.ensures in
    sends_past c.args.clusters c.args.stamp c.args.sent c.args.outlets.now c.requires.ends (subst (λ n. length c.args.outlets.now ≤ n) at c.if-at-outlets.true)

pub returns : goal.returns
returns c =
    let at : c.place-at.result ≡ place c.args.sent.to.0 (class_of c.args.sent.msg) = c.place-at.ensures ∙ ap (place c.args.sent.to.0) c.class.ensures in
    subst (λ n. Sends c.args.clusters c.args.stamp (c.args.sent ∷ []) c.args.outlets.now (slice_set c.args.outlets.now n c.flush.new.self)) (sym at)
    (sends_one c.args.clusters c.args.stamp c.args.sent c.args.outlets.now c.flush.new.self (subst (λ n. n < length c.args.outlets.now) at c.if-at-outlets.false)
    (λ x. subst (λ (y : OutletView). SendsOn y c.flush.new.self (record { msg = c.args.sent.msg; stamp = c.args.stamp }))
    (ap (λ n. slice_index_or c.args.outlets.now n c.index-outlets-at.result) at ∙ get_or_default c.args.outlets.now (place c.args.sent.to.0 (class_of c.args.sent.msg)) c.index-outlets-at.result x (subst (λ n. n < length c.args.outlets.now) at c.if-at-outlets.false))
    (sent_on _ c.send.new.self c.flush.new.self _ c.send.ensures c.flush.ensures.lane c.flush.ensures.sent c.flush.ensures.fewer c.flush.ensures.spare)))
