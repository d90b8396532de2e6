use Rattle.unit_rows.specs.declared.choice.Choice.TheVariants.{Step}
use Rattle.std.proofs.Common.{[], None, ◌≡◌, ◌≢◌, ◌+◌, ◌<◌, Some, is_some, sym, ap, ◌∙◌, subst}
use Rattle.unit_rows.specs.declared.parts.Local.{Local}
use Rattle.unit_rows.specs.Shown.{config, shown, reserved_by}
use Rattle.unit_rows.proofs.Retiring.{hart_number, same_local, goes_on, sized_local, capacity_of, front_of}
use Rattle.unit_rows.proofs.Fronted.{does_fronted}
use Rattle.unit_rows.proofs.StoreRows.{does_sc_fail}
use Rattle.unit_rows.proofs.stores.sc_fail.Goals as goal

pub advance-requires : goal.advance-requires
advance-requires c = record {
  goes = goes_on (config c.args.site.now) (shown c.args.parts.now) c.args.hart c.index_mut-local.result.now c.index_mut-local.ensures.value (λ d. (c.requires.need d).goes);
  front = front_of (config c.args.site.now) c.args.site.now.cluster.0 c.args.hart (shown c.args.parts.now) c.index_mut-local.result.now c.requires.hart c.requires.sized c.index_mut-local.ensures.value;
}

pub returns-clause-did : goal.returns-clause-did
returns-clause-did c =
    let same : c.index.result.now ≡ c.index_mut-local.result.now = (same_local (shown c.args.parts.now) c.args.hart c.index.result.now c.index_mut-local.result.now (subst (λ n. c.args.hart < n) (sym c.requires.sized.locals) c.requires.hart) c.index.ensures c.index_mut-local.ensures.value) in
    does_fronted (config c.args.site.now) c.args.site.now.cluster.0 (Step c.args.hart) _ (shown c.args.parts.now) (shown c.args.parts.now) (shown c.args.parts.now).locals c.args.hart (record c.index_mut-local.result.now { core = c.advance.new.self; reserved = None }) c.advance.new.front [] (subst (λ n. c.args.hart < n) (sym c.requires.sized.locals) c.requires.hart)
    (does_sc_fail (config c.args.site.now) c.args.site.now.cluster.0 c.args.hart (c.retired-number.result + 1) c.args.operand c.hart_id.result c.args.word c.args.labels c.in_ok-access.access (shown c.args.parts.now) c.index_mut-local.result.now c.advance.new.self
    (hart_number c.hart_id.ensures) c.requires.hart c.requires.sized c.requires.need c.index_mut-local.ensures.value (ap (λ n. n + 1) c.retired-number.ensures ∙ ap (λ (y : Local). y.core.retired + 1) same)
    (subst (λ (y : Local). reserved_by y.reserved ≢ Some c.args.word.0) (sym c.index_mut-local.ensures.value) (c.requires.unreserved c.index_mut-local.result.now)) (ap is_some c.requires.front)
    (sym c.in_ok-access.was ∙ c.offer.ensures) c.advance.ensures.next)

pub returns-clause-sized : goal.returns-clause-sized
returns-clause-sized c =
    sized_local (config c.args.site.now) c.args.site.now.cluster.0 (shown c.args.parts.now) c.args.hart _ c.requires.hart c.requires.sized (capacity_of (config c.args.site.now) c.args.site.now.cluster.0 (shown c.args.parts.now) c.args.hart c.index_mut-local.result.now c.requires.hart c.requires.sized c.index_mut-local.ensures.value) c.advance.ensures.front
