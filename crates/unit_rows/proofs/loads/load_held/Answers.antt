use Rattle.unit_rows.specs.declared.choice.Choice.TheVariants.{Step}
use Rattle.std.proofs.Common.{[], ◌≡◌, ◌+◌, ◌<◌, sym, ap, ◌∙◌, subst}
use Rattle.std.proofs.Common.{false, None}
use Rattle.dash_base.specs.declared.id.LineId.{LineId}
use Rattle.snoop_bus.specs.View.{is_holder, hart_read_of}
use Rattle.write_buffer.specs.Look.{newest_of, look_by}
use Rattle.unit_rows.specs.declared.parts.Local.{Local}
use Rattle.unit_rows.specs.Shown.{config, shown, AreSized}
use Rattle.unit_rows.proofs.Retiring.{hart_number, same_local, goes_on, capacity_of, front_of}
use Rattle.unit_rows.proofs.Fronted.{does_fronted}
use Rattle.unit_rows.proofs.LoadRows.{held_as, sized_read, held_cannot, no_read_tells, no_read_keeps, if_none}
use Rattle.unit_rows.proofs.loads.load_held.Goals as goal

pub advance-requires : goal.advance-requires
advance-requires c = record {
  goes = goes_on (config c.args.site.now) (shown c.args.parts.now) c.args.hart c.index_mut-local.result.now c.index_mut-local.ensures.value (λ d. (c.requires.need d).goes);
  front = front_of (config c.args.site.now) c.args.site.now.cluster.0 c.args.hart (shown c.args.parts.now) c.index_mut-local.result.now c.requires.hart c.requires.sized c.index_mut-local.ensures.value;
}

pub returns-clause-did : goal.returns-clause-did
returns-clause-did c =
    does_fronted (config c.args.site.now) c.args.site.now.cluster.0 (Step c.args.hart) _ (shown c.args.parts.now) (record (shown c.args.parts.now) { bus = c.read.new.self }) (shown c.args.parts.now).locals c.args.hart (record c.index_mut-local.result.now { core = c.advance.new.self; reserved = c.reserved_after-local.result }) c.advance.new.front [] (subst (λ n. c.args.hart < n) (sym c.requires.sized.locals) c.requires.hart)
    (held_as (config c.args.site.now) c.args.site.now.cluster.0 c.args.hart (c.retired-number.result + 1) c.args.mask c.in_ok-found.found.1 c.line_of-line.result.0 _ c.merge-answer.result c.hart_id.result c.args.word c.args.labels c.args.reserve c.in_ok-found.found.0 c.in_ok-access.access c.read.new.self c.reserved_after-local.result (shown c.args.parts.now) c.index_mut-local.result.now c.advance.new.self
    (hart_number c.hart_id.ensures) c.requires.hart c.requires.sized c.requires.need c.index_mut-local.ensures.value (ap (λ n. n + 1) c.retired-number.ensures ∙ ap (λ (y : Local). y.core.retired + 1) (same_local (shown c.args.parts.now) c.args.hart c.index.result.now c.index_mut-local.result.now (subst (λ n. c.args.hart < n) (sym c.requires.sized.locals) c.requires.hart) c.index.ensures c.index_mut-local.ensures.value))
    (ap (λ (y : Local). look_by (newest_of c.args.word.0 y.buffer.items) c.args.mask) c.index_mut-local.ensures.value ∙ c.requires.look c.index_mut-local.result.now) (ap (λ (l : LineId). l.0) c.line_of-line.ensures) (sym c.read.ensures.answer ∙ c.in_ok-found.was) c.read.ensures.after
    c.word_in-content.ensures (sym c.in_ok-access.was ∙ c.offer.ensures) c.merge-answer.ensures c.reserved_after-local.ensures c.advance.ensures.next)

pub returns-clause-sized : goal.returns-clause-sized
returns-clause-sized c = sized_read (config c.args.site.now) c.args.site.now.cluster.0 c.args.hart c.line_of-line.result.0 (shown c.args.parts.now) _ c.read.new.self c.requires.hart c.requires.sized (capacity_of (config c.args.site.now) c.args.site.now.cluster.0 (shown c.args.parts.now) c.args.hart c.index_mut-local.result.now c.requires.hart c.requires.sized c.index_mut-local.ensures.value) c.advance.ensures.front c.read.ensures.after

pub returns-in_err-found-clause-idle : goal.returns-in_err-found-clause-idle
returns-in_err-found-clause-idle c =
    let w = (config c.args.site.now) in
    let k = c.args.hart in
    let v = (shown c.args.parts.now) in
    let none : hart_read_of v.bus k c.line_of-line.result.0 ≡ None = sym c.read.ensures.answer ∙ c.in_err-found.was in
    let free = subst (λ l. is_holder v.bus k l ≡ false) (ap (λ (l : LineId). l.0) c.line_of-line.ensures) (no_read_tells v.bus k c.line_of-line.result.0 none) in
    if_none c.from_residual.result _ (held_cannot w c.args.site.now.cluster.0 k c.args.mask c.args.word c.args.labels c.args.reserve v c.index.result.now c.requires.hart c.index.ensures c.requires.need c.requires.look free)

pub returns-in_err-found-clause-same : goal.returns-in_err-found-clause-same
returns-in_err-found-clause-same c =
    let v = (shown c.args.parts.now) in
    let none : hart_read_of v.bus c.args.hart c.line_of-line.result.0 ≡ None = sym c.read.ensures.answer ∙ c.in_err-found.was in
    let bus = c.read.ensures.after ∙ no_read_keeps v.bus c.args.hart c.line_of-line.result.0 none in
    let same : record v { bus = c.read.new.self } ≡ v = ap (λ b. record v { bus = b }) bus in
    if_none c.from_residual.result _ same

pub returns-in_err-found-clause-sized : goal.returns-in_err-found-clause-sized
returns-in_err-found-clause-sized c =
    let v = (shown c.args.parts.now) in
    let none : hart_read_of v.bus c.args.hart c.line_of-line.result.0 ≡ None = sym c.read.ensures.answer ∙ c.in_err-found.was in
    let bus = c.read.ensures.after ∙ no_read_keeps v.bus c.args.hart c.line_of-line.result.0 none in
    subst (λ b. AreSized (config c.args.site.now) c.args.site.now.cluster.0 (record v { bus = b })) (sym bus) c.requires.sized
