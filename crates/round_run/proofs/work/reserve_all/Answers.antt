use Rattle.std.proofs.Common.{◌≤◌, ◌<◌, refl, sym, subst, arith}
use Rattle.round_run.specs.Units.{seen, HasCounts}
use Rattle.round_run.proofs.Eaches.{each_again, each_then, each_at, counts_again, counts_then}
use Rattle.round_run.proofs.Kept.{upto, same_reserved}
use Rattle.round_run.proofs.work.reserve_all.Goals as goal

pub loop-unit-init : goal.loop-unit-init
loop-unit-init g c = (each_again (λ u. seen u.core u.turns u.steps u.ahead) HasCounts _ counts_again, λ n d low. absurd (omega arith))

pub loop-unit-preserved : goal.loop-unit-preserved
loop-unit-preserved g c =
    let low = subst (λ n. c.loop-unit.unit-index < n) (sym c.loop-unit.invariant.0.count) c.loop-unit-test.true in (
      each_then (λ u. seen u.core u.turns u.steps u.ahead) HasCounts HasCounts HasCounts _ _ _ counts_then c.loop-unit.invariant.0
          (each_at (λ u. seen u.core u.turns u.steps u.ahead) HasCounts c.loop-unit.unit-items c.loop-unit.unit-index c.unit-item.result _ counts_again low (record { same = same_reserved _ _ c.reserve.ensures.others; turns = refl; steps = refl; ahead = refl })),
      upto (λ u. 256 ≤ u.core.reserved) c.loop-unit.unit-items c.loop-unit.unit-index _ low c.loop-unit.invariant.1 c.in_ok-reserve.ensures.ok,
    )

pub returns-in_err-reserve-clause-counts : goal.returns-in_err-reserve-clause-counts
returns-in_err-reserve-clause-counts g c =
    each_then (λ u. seen u.core u.turns u.steps u.ahead) HasCounts HasCounts HasCounts _ _ _ counts_then c.loop-unit.invariant.0
    (each_at (λ u. seen u.core u.turns u.steps u.ahead) HasCounts c.loop-unit.unit-items c.loop-unit.unit-index c.unit-item.result _ counts_again (subst (λ n. c.loop-unit.unit-index < n) (sym c.loop-unit.invariant.0.count) c.loop-unit-test.true) (record { same = same_reserved _ _ c.reserve.ensures.others; turns = refl; steps = refl; ahead = refl }))

pub returns-clause-reserved : goal.returns-clause-reserved
returns-clause-reserved g c n d low = c.loop-unit.invariant.1 n d (let past = c.loop-unit-test.false in grind arith)
