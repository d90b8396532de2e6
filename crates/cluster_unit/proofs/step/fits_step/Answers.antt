use Rattle.std.proofs.Common.{sym, ◌∙◌}
use Rattle.unit_rows.specs.Shown.{config, shown}
use Rattle.cluster_unit.proofs.Fitting.{rest_no, alu_yes, fence_needed, fence_yes, hint_yes, put_yes, stop_yes, load_yes, load_no, store_yes, store_no, atomic_yes, atomic_no, lock_yes, lock_no, unlock_yes, unlock_no}
use Rattle.cluster_unit.proofs.step.fits_step.Goals as goal

pub returns-in-Rest-clause-no : goal.returns-in-Rest-clause-no
returns-in-Rest-clause-no c = λ f. rest_no (config c.args.site.now) c.args.site.now.cluster.0 c.args.hart (shown c.args.parts.now) c.index-local.result.now c.requires.hart c.requires.sized c.index-local.ensures c.in-Rest.is

pub returns-in-Alu-clause-yes : goal.returns-in-Alu-clause-yes
returns-in-Alu-clause-yes c = λ t. alu_yes (config c.args.site.now) c.args.site.now.cluster.0 c.args.hart (shown c.args.parts.now) c.index-local.result.now c.requires.hart c.requires.sized c.index-local.ensures c.in-Alu.is

pub returns-in-Fence-clause-yes : goal.returns-in-Fence-clause-yes
returns-in-Fence-clause-yes c = λ t. fence_yes (config c.args.site.now) c.args.site.now.cluster.0 c.args.hart (shown c.args.parts.now) c.index-local.result.now c.requires.hart c.requires.sized c.index-local.ensures c.in-Fence.is (c.fits_fence.ensures.fits t)

pub returns-in-Fence-clause-no : goal.returns-in-Fence-clause-no
returns-in-Fence-clause-no c = λ f. c.fits_fence.ensures.idle f (fence_needed (config c.args.site.now) c.args.site.now.cluster.0 c.args.hart (shown c.args.parts.now) c.index-local.result.now c.requires.hart c.requires.sized c.index-local.ensures c.in-Fence.is)

pub returns-in-Hint-clause-yes : goal.returns-in-Hint-clause-yes
returns-in-Hint-clause-yes c = λ t. hint_yes (config c.args.site.now) c.args.site.now.cluster.0 c.args.hart (shown c.args.parts.now) c.index-local.result.now c.requires.hart c.requires.sized c.index-local.ensures c.in-Hint.is c.keeps_one_slot_a_line.ensures

pub returns-in-Put-clause-yes : goal.returns-in-Put-clause-yes
returns-in-Put-clause-yes c = λ t. put_yes (config c.args.site.now) c.args.site.now.cluster.0 c.args.hart (shown c.args.parts.now) c.index-local.result.now c.requires.hart c.requires.sized c.index-local.ensures c.in-Put.is

pub returns-in-Stop-clause-yes : goal.returns-in-Stop-clause-yes
returns-in-Stop-clause-yes c = λ t. stop_yes (config c.args.site.now) c.args.site.now.cluster.0 c.args.hart (shown c.args.parts.now) c.index-local.result.now c.requires.hart c.requires.sized c.index-local.ensures c.in-Stop.is

pub returns-in-Load-clause-yes : goal.returns-in-Load-clause-yes
returns-in-Load-clause-yes c = λ t. load_yes (config c.args.site.now) c.args.site.now.cluster.0 c.args.hart (shown c.args.parts.now) c.index-local.result.now c.requires.hart c.requires.sized c.index-local.ensures c.fits_load.result c.in-Load.is (sym c.is_some.ensures ∙ t) c.fits_load.ensures.fits

pub returns-in-Load-clause-no : goal.returns-in-Load-clause-no
returns-in-Load-clause-no c = λ f. load_no (config c.args.site.now) c.args.site.now.cluster.0 c.args.hart (shown c.args.parts.now) c.index-local.result.now c.requires.hart c.requires.sized c.index-local.ensures c.fits_load.result c.in-Load.is (sym c.is_some.ensures ∙ f) c.fits_load.ensures.idle

pub returns-in-Store-clause-yes : goal.returns-in-Store-clause-yes
returns-in-Store-clause-yes c = λ t. store_yes (config c.args.site.now) c.args.site.now.cluster.0 c.args.hart (shown c.args.parts.now) c.index-local.result.now c.requires.hart c.requires.sized c.index-local.ensures c.in-Store.is (c.fits_store.ensures.fits t)

pub returns-in-Store-clause-no : goal.returns-in-Store-clause-no
returns-in-Store-clause-no c = λ f. store_no (config c.args.site.now) c.args.site.now.cluster.0 c.args.hart (shown c.args.parts.now) c.index-local.result.now c.requires.hart c.requires.sized c.index-local.ensures c.in-Store.is (c.fits_store.ensures.idle f)

pub returns-in-Rmw-clause-yes : goal.returns-in-Rmw-clause-yes
returns-in-Rmw-clause-yes c = λ t. atomic_yes (config c.args.site.now) c.args.site.now.cluster.0 c.args.hart (shown c.args.parts.now) c.index-local.result.now c.requires.hart c.requires.sized c.index-local.ensures c.fits_atomic.result c.in-Rmw.is (sym c.is_some-in-Rmw.ensures ∙ t) c.fits_atomic.ensures.fits c.keeps_one_map.ensures

pub returns-in-Rmw-clause-no : goal.returns-in-Rmw-clause-no
returns-in-Rmw-clause-no c = λ f. atomic_no (config c.args.site.now) c.args.site.now.cluster.0 c.args.hart (shown c.args.parts.now) c.index-local.result.now c.requires.hart c.requires.sized c.index-local.ensures c.fits_atomic.result c.in-Rmw.is (sym c.is_some-in-Rmw.ensures ∙ f) c.fits_atomic.ensures.idle

pub returns-in-Ask-clause-yes : goal.returns-in-Ask-clause-yes
returns-in-Ask-clause-yes c = λ t. lock_yes (config c.args.site.now) c.args.site.now.cluster.0 c.args.hart (shown c.args.parts.now) c.index-local.result.now c.requires.hart c.requires.sized c.index-local.ensures c.in-Ask.is (c.fits_ask.ensures.fits t)

pub returns-in-Ask-clause-no : goal.returns-in-Ask-clause-no
returns-in-Ask-clause-no c = λ f. lock_no (config c.args.site.now) c.args.site.now.cluster.0 c.args.hart (shown c.args.parts.now) c.index-local.result.now c.requires.hart c.requires.sized c.index-local.ensures c.in-Ask.is (c.fits_ask.ensures.idle f)

pub returns-in-Unlock-clause-yes : goal.returns-in-Unlock-clause-yes
returns-in-Unlock-clause-yes c = λ t. unlock_yes (config c.args.site.now) c.args.site.now.cluster.0 c.args.hart (shown c.args.parts.now) c.index-local.result.now c.requires.hart c.requires.sized c.index-local.ensures c.in-Unlock.is (c.fits_unlock.ensures.fits t)

pub returns-in-Unlock-clause-no : goal.returns-in-Unlock-clause-no
returns-in-Unlock-clause-no c = λ f. unlock_no (config c.args.site.now) c.args.site.now.cluster.0 c.args.hart (shown c.args.parts.now) c.index-local.result.now c.requires.hart c.requires.sized c.index-local.ensures c.in-Unlock.is (c.fits_unlock.ensures.idle f)
