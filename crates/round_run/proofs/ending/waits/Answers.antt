use Rattle.std.proofs.Common.{◌≡◌, ◌*◌, ◌+◌, ◌<◌, length, sym, ap, ◌∙◌, subst, arith}
use Rattle.std.proofs.Math.Nat.{add_assoc}
use Rattle.round_run.specs.Units.{seen}
use Rattle.round_run.proofs.UnitsBelow.{length_more, TellsHarts, tells_longer, tells_more, tells_next}
use Rattle.round_run.proofs.ending.waits.Goals as goal

pub loop-hart-preserved : goal.loop-hart-preserved
loop-hart-preserved g c =
    let harts = c.args.topology.now.harts in
    let i = c.loop-unit.unit-index in
    let so = c.loop-hart.invariant in record {
      count = length_more c.loop-hart.waits.items c.push.new.self.items c.asked.result (i * harts + c.loop-hart.hart) so.count c.in_ok-push.ensures.items ∙ add_assoc (i * harts) c.loop-hart.hart 1;
      each = tells_longer (λ u. seen u.core u.turns u.steps u.ahead) harts i c.loop-hart.hart c.loop-hart.waits.items c.push.new.self.items c.asked.result c.args.units.now so.count c.in_ok-push.ensures.items so.each;
      here = tells_more harts i c.loop-hart.hart c.loop-hart.waits.items c.push.new.self.items c.asked.result c.unit-item.result.core so.count c.in_ok-push.ensures.items so.here c.asked.ensures;
    }

pub loop-unit-preserved : goal.loop-unit-preserved
loop-unit-preserved g c =
    let harts = c.args.topology.now.harts in
    let so = c.loop-hart.invariant in
    let end : c.loop-hart.hart ≡ harts = (let a = c.loop-hart-test.false in let b = c.loop-hart.auto.hart-end in omega arith) in record {
      count = so.count ∙ (let n = end in grind arith);
      each = tells_next (λ u. seen u.core u.turns u.steps u.ahead) harts c.loop-unit.unit-index c.loop-hart.waits.items c.args.units.now c.unit-item.result c.loop-unit-test.true so.each
          (subst (λ u. TellsHarts harts c.loop-unit.unit-index harts c.loop-hart.waits.items u.core) c.unit-item.is
          (subst (λ n. TellsHarts harts c.loop-unit.unit-index n c.loop-hart.waits.items c.unit-item.result.core) end so.here));
    }

pub returns : goal.returns
returns g c =
    let end : c.loop-unit.unit-index ≡ length c.args.units.now = (let a = c.loop-unit-test.false in let b = c.loop-unit.auto.unit-index-end in omega arith) in
    let so = c.loop-unit.invariant in record {
      count = so.count ∙ ap (λ n. n * c.args.topology.now.harts) end;
      each = λ n k d p low. so.each n k d p (subst (λ m. n < m) (sym end) low);
    }
