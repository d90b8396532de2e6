use Rattle.std.proofs.Common.{sym, ◌∙◌}
use Rattle.unit_rows.specs.Shown.{config, shown}
use Rattle.unit_rows.proofs.BusFits.{write_for, store_for, not_needed, this_found, this_missing}
use Rattle.unit_rows.proofs.needs.needs_own.Goals as goal

pub returns-then-is_this-clause-needed : goal.returns-then-is_this-clause-needed
returns-then-is_this-clause-needed c = λ t.
    write_for (config c.args.site.now) c.args.site.now.cluster.0 c.args.hart (shown c.args.parts.now) c.args.line c.needed_write-write.result c.needed_write-write.ensures.needed (this_found c.needed_write-write.result c.args.line (sym c.is_this.ensures ∙ c.if-is_this.true))

pub returns-clause-needed : goal.returns-clause-needed
returns-clause-needed c = λ t.
    store_for (config c.args.site.now) c.args.site.now.cluster.0 c.args.hart (shown c.args.parts.now) c.args.line c.needed_store-store.result c.needed_store-store.ensures.needed (this_found c.needed_store-store.result c.args.line (sym c.is_this-2.ensures ∙ t))

pub returns-clause-unneeded : goal.returns-clause-unneeded
returns-clause-unneeded c = λ t.
    not_needed (config c.args.site.now) c.args.site.now.cluster.0 c.args.hart (shown c.args.parts.now) c.args.line c.needed_write-write.result c.needed_store-store.result c.needed_write-write.ensures.needed c.needed_store-store.ensures.needed
    (this_missing c.needed_write-write.result c.args.line (sym c.is_this.ensures ∙ c.if-is_this.false)) (this_missing c.needed_store-store.result c.args.line (sym c.is_this-2.ensures ∙ t))
