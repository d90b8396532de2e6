use Rattle.std.proofs.Common.{ap, ◌∙◌, sym, ◌≡◌, ◌%◌, length, true, false}
use Rattle.cache_array.specs.View.{has_line}
use Rattle.snoop_bus.specs.Caches.{CachesView, owns}
use Rattle.snoop_bus.proofs.Marked.{mark_at, no_mark}
use Rattle.snoop_bus.proofs.hart_caches.HartCaches.owns.Goals as goal

pub returns-then-is_some : goal.returns-then-is_some
returns-then-is_some c =
    let place = c.index_in.ensures.value ∙ ap (λ xs. c.args.line.0 % length xs) c.deref.ensures.value in
    let held : has_line c.self.inside.levels.l2 c.args.line.0 ≡ true = cc (c.is_some.ensures, c.peek.ensures.copy, c.if-is_some.true) in
    mark_at c.self.inside.owned.items c.self.inside.levels c.args.line.0 c.index_in.result c.index.result.now c.self.invariant held place (rw (← c.deref.ensures.value) c.index_in.ensures.within) c.index.ensures
    ∙ ap (λ (h : CachesView). owns h c.args.line.0) c.self.view_is

pub returns-else-is_some : goal.returns-else-is_some
returns-else-is_some c =
    let lacks : has_line c.self.inside.levels.l2 c.args.line.0 ≡ false = cc (c.is_some.ensures, c.peek.ensures.copy, c.if-is_some.false) in
    c.if-is_some.false
    ∙ sym (no_mark c.self.inside.owned.items c.self.inside.levels c.args.line.0 lacks)
    ∙ ap (λ (h : CachesView). owns h c.args.line.0) c.self.view_is
