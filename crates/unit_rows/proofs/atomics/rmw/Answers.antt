use Rattle.unit_rows.specs.declared.choice.Choice.TheVariants.{Step}
use Rattle.std.proofs.Common.{[], ◌≡◌, ◌+◌, ◌<◌, Some, sym, ap, ◌∙◌, subst}
use Rattle.dash_base.specs.declared.id.LineId.{LineId}
use Rattle.snoop_bus.specs.Holding.{alone}
use Rattle.snoop_bus.specs.View.{owner_at, holders_at}
use Rattle.dash_model.specs.Config.{line_at}
use Rattle.dash_model.specs.Words.{written_in}
use Rattle.unit_rows.specs.declared.parts.Local.{Local}
use Rattle.unit_rows.specs.Shown.{config, shown}
use Rattle.unit_rows.proofs.AtomicRows.{atomic_as, sized_atomic}
use Rattle.unit_rows.proofs.Retiring.{hart_number, same_local, goes_on, front_of}
use Rattle.unit_rows.proofs.Fronted.{does_fronted}
use Rattle.unit_rows.proofs.StateM.{owner_alone, holders_alone}
use Rattle.unit_rows.proofs.atomics.rmw.Goals as goal

pub advance-requires : goal.advance-requires
advance-requires c = record {
  goes = goes_on (config c.args.site.now) (shown c.args.parts.now) c.args.hart c.index_mut-local.result.now c.index_mut-local.ensures.value (λ d. (c.requires.need d).goes);
  front = front_of (config c.args.site.now) c.args.site.now.cluster.0 c.args.hart (shown c.args.parts.now) c.index_mut-local.result.now c.requires.hart c.requires.sized c.index_mut-local.ensures.value;
}

pub commit-requires-clause-owner : goal.commit-requires-clause-owner
commit-requires-clause-owner c =
    let bus = c.args.parts.now.bus in
    subst (λ (l : LineId). owner_at bus l.0 ≡ Some c.args.hart) (sym c.line_of-line.ensures) (owner_alone bus c.args.hart (line_at (config c.args.site.now) c.args.word.0) c.requires.fits.state_m)

pub commit-requires-clause-only_holder : goal.commit-requires-clause-only_holder
commit-requires-clause-only_holder c =
    let bus = c.args.parts.now.bus in
    subst (λ (l : LineId). holders_at bus l.0 ≡ alone c.args.hart) (sym c.line_of-line.ensures) (holders_alone bus c.args.hart (line_at (config c.args.site.now) c.args.word.0) c.requires.fits.state_m)

pub returns-clause-did : goal.returns-clause-did
returns-clause-did c =
    let v = shown c.args.parts.now in
    let x = c.index_mut-local.result.now in
    let same : c.index.result.now ≡ x = same_local v c.args.hart c.index.result.now x (subst (λ n. c.args.hart < n) (sym c.requires.sized.locals) c.requires.hart) c.index.ensures c.index_mut-local.ensures.value in
    does_fronted (config c.args.site.now) c.args.site.now.cluster.0 (Step c.args.hart) _ v (record v { bus = c.commit.new.self }) v.locals c.args.hart (record x { core = c.advance.new.self; reserved = c.reserved_after-local.result }) c.advance.new.front [] (subst (λ n. c.args.hart < n) (sym c.requires.sized.locals) c.requires.hart)
    (atomic_as (config c.args.site.now) c.args.site.now.cluster.0 c.args.hart (c.retired-number.result + 1) c.args.operand c.word_in-content.result c.unwrap_or-answer.result c.args.op c.hart_id.result c.args.word c.args.labels c.in_ok-access.access v x c.advance.new.self c.args.copy c.written-next.result c.line_of-line.result c.reserved_after-local.result c.commit.new.self
    c.requires.fits c.requires.hart c.requires.sized c.keeps_one_map.ensures c.requires.need c.requires.reserves
    (hart_number c.hart_id.ensures) c.line_of-line.ensures c.index_mut-local.ensures.value (ap (λ n. n + 1) c.retired-number.ensures ∙ ap (λ (y : Local). y.core.retired + 1) same) c.word_in-content.ensures
    (sym c.in_ok-access.was ∙ c.offer.ensures) c.unwrap_or-answer.ensures (c.written-next.ensures ∙ ap (λ i. written_in (config c.args.site.now) c.args.word.0 c.in_ok-access.access.mask i c.args.copy) c.unwrap_or-value.ensures) c.reserved_after-local.ensures c.commit.ensures c.advance.ensures.next)

pub returns-clause-sized : goal.returns-clause-sized
returns-clause-sized c =
    sized_atomic (config c.args.site.now) c.args.site.now.cluster.0 c.args.hart (shown c.args.parts.now) c.index_mut-local.result.now c.advance.new.self c.advance.new.front c.written-next.result c.line_of-line.result.0 c.reserved_after-local.result c.commit.new.self
    c.requires.hart c.requires.sized c.index_mut-local.ensures.value c.commit.ensures c.advance.ensures.front
