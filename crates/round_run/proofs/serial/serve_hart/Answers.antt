use Rattle.std.proofs.Common.{◌≡◌, ◌+◌, ◌/◌, ◌%◌, ◌<◌, sym, subst, arith, rules}
use Rattle.std.proofs.Math.Nat.{mod-lt}
use Rattle.cluster_unit.specs.declared.turn.Turn.TheVariants.{Idle}
use Rattle.round_run.specs.Units.{seen, OnlyMet}
use Rattle.round_run.specs.Serial.{tries_of}
use Rattle.round_run.proofs.Serials.{tried, tried_all, none_tried, unit_there, mesh_did, eachdid_settled}
use Rattle.round_run.proofs.Eaches.{each_at, met_again, none_grants_met}
use Rattle.round_run.proofs.Weights.{all_emptied}
use Rattle.round_run.proofs.serial.serve_hart.Goals as goal

pub loop-try-init : goal.loop-try-init
loop-try-init g c = (none_tried (λ u. seen u.core u.turns u.steps u.ahead) c.args.topology.now.harts c.args.hart _, (c.requires.emptied, c.requires.granted))

pub step_alone-requires : goal.step_alone-requires
step_alone-requires g c =
    let t = c.args.topology.now in
    let there = unit_there (λ u. seen u.core u.turns u.steps u.ahead) t c.loop-try._try c.args.hart _ _ c.requires.mesh c.loop-try.invariant.0 t.harts_in_range.low c.requires.hart in
    let mesh = mesh_did (λ u. seen u.core u.turns u.steps u.ahead) t (tries_of t.harts c.loop-try._try c.args.hart) _ _ c.loop-try.invariant.0 c.requires.mesh in
    subst (λ w. c.args.hart % t.harts < w.harts) (sym (mesh.top (c.args.hart / t.harts) c.index-units-cluster.result there)) (mod-lt c.args.hart t.harts_in_range.low)

pub settle-requires : goal.settle-requires
settle-requires g c =
    let t = c.args.topology.now in
    let there = unit_there (λ u. seen u.core u.turns u.steps u.ahead) t c.loop-try._try c.args.hart _ _ c.requires.mesh c.loop-try.invariant.0 t.harts_in_range.low c.requires.hart in
    record { mesh = mesh_did (λ u. seen u.core u.turns u.steps u.ahead) t (tries_of t.harts (c.loop-try._try + 1) c.args.hart) _ _ (tried (λ u. seen u.core u.turns u.steps u.ahead) t.harts c.loop-try._try c.args.hart _ _ c.index-units-cluster.result c.step_alone.new.unit there c.loop-try.invariant.0 c.step_alone.ensures.steps) c.requires.mesh }

pub loop-try-preserved : goal.loop-try-preserved
loop-try-preserved g c =
    let t = c.args.topology.now in
    let there = unit_there (λ u. seen u.core u.turns u.steps u.ahead) t c.loop-try._try c.args.hart _ _ c.requires.mesh c.loop-try.invariant.0 t.harts_in_range.low c.requires.hart in (
      eachdid_settled (λ u. seen u.core u.turns u.steps u.ahead) (tries_of t.harts (c.loop-try._try + 1) c.args.hart) _ _ _ (tried (λ u. seen u.core u.turns u.steps u.ahead) t.harts c.loop-try._try c.args.hart _ _ c.index-units-cluster.result c.step_alone.new.unit there c.loop-try.invariant.0 c.step_alone.ensures.steps) c.settle.ensures.counts,
      (c.in_ok-settle.ensures.emptied, c.in_ok-settle.ensures.granted),
    )

pub returns-in_err-step_alone-clause-steps : goal.returns-in_err-step_alone-clause-steps
returns-in_err-step_alone-clause-steps g c =
    let t = c.args.topology.now in
    let there = unit_there (λ u. seen u.core u.turns u.steps u.ahead) t c.loop-try._try c.args.hart _ _ c.requires.mesh c.loop-try.invariant.0 t.harts_in_range.low c.requires.hart in
    tried_all (λ u. seen u.core u.turns u.steps u.ahead) t.harts (c.loop-try._try + 1) 3 c.args.hart _ _ (let low = c.loop-try-test.true in omega arith)
    (tried (λ u. seen u.core u.turns u.steps u.ahead) t.harts c.loop-try._try c.args.hart _ _ c.index-units-cluster.result c.step_alone.new.unit there c.loop-try.invariant.0 c.step_alone.ensures.steps)

pub returns-in_err-settle-clause-steps : goal.returns-in_err-settle-clause-steps
returns-in_err-settle-clause-steps g c =
    let t = c.args.topology.now in
    let there = unit_there (λ u. seen u.core u.turns u.steps u.ahead) t c.loop-try._try c.args.hart _ _ c.requires.mesh c.loop-try.invariant.0 t.harts_in_range.low c.requires.hart in
    tried_all (λ u. seen u.core u.turns u.steps u.ahead) t.harts (c.loop-try._try + 1) 3 c.args.hart _ _ (let low = c.loop-try-test.true in omega arith)
    (eachdid_settled (λ u. seen u.core u.turns u.steps u.ahead) (tries_of t.harts (c.loop-try._try + 1) c.args.hart) _ _ _ (tried (λ u. seen u.core u.turns u.steps u.ahead) t.harts c.loop-try._try c.args.hart _ _ c.index-units-cluster.result c.step_alone.new.unit there c.loop-try.invariant.0 c.step_alone.ensures.steps) c.settle.ensures.counts)

pub returns-then-are_passed-clause-steps : goal.returns-then-are_passed-clause-steps
returns-then-are_passed-clause-steps g c =
    let t = c.args.topology.now in
    let there = unit_there (λ u. seen u.core u.turns u.steps u.ahead) t c.loop-try._try c.args.hart _ _ c.requires.mesh c.loop-try.invariant.0 t.harts_in_range.low c.requires.hart in
    tried_all (λ u. seen u.core u.turns u.steps u.ahead) t.harts (c.loop-try._try + 1) 3 c.args.hart _ _ (let low = c.loop-try-test.true in omega arith)
    (eachdid_settled (λ u. seen u.core u.turns u.steps u.ahead) (tries_of t.harts (c.loop-try._try + 1) c.args.hart) _ _ _ (tried (λ u. seen u.core u.turns u.steps u.ahead) t.harts c.loop-try._try c.args.hart _ _ c.index-units-cluster.result c.step_alone.new.unit there c.loop-try.invariant.0 c.step_alone.ensures.steps) c.settle.ensures.counts)

pub returns-then-eq-clause-steps : goal.returns-then-eq-clause-steps
returns-then-eq-clause-steps g c =
    let t = c.args.topology.now in
    let there = unit_there (λ u. seen u.core u.turns u.steps u.ahead) t c.loop-try._try c.args.hart _ _ c.requires.mesh c.loop-try.invariant.0 t.harts_in_range.low c.requires.hart in
    tried_all (λ u. seen u.core u.turns u.steps u.ahead) t.harts (c.loop-try._try + 1) 3 c.args.hart _ _ (let low = c.loop-try-test.true in omega arith)
    (tried (λ u. seen u.core u.turns u.steps u.ahead) t.harts c.loop-try._try c.args.hart _ _ c.index-units-cluster.result c.step_alone.new.unit there c.loop-try.invariant.0 c.step_alone.ensures.steps)

pub returns-clause-steps : goal.returns-clause-steps
returns-clause-steps g c = tried_all (λ u. seen u.core u.turns u.steps u.ahead) c.args.topology.now.harts c.loop-try._try 3 c.args.hart _ _ (let low = c.loop-try.auto._try-end in omega arith) c.loop-try.invariant.0

pub returns-then-eq-clause-emptied : goal.returns-then-eq-clause-emptied
returns-then-eq-clause-emptied g c =
    let t = c.args.topology.now in
    let idle : c.in_ok-step_alone.field-0 ≡ Idle = search rules in
    let there = unit_there (λ u. seen u.core u.turns u.steps u.ahead) t c.loop-try._try c.args.hart _ _ c.requires.mesh c.loop-try.invariant.0 t.harts_in_range.low c.requires.hart in
    all_emptied (λ u. seen u.core u.turns u.steps u.ahead) _ _ (each_at (λ u. seen u.core u.turns u.steps u.ahead) OnlyMet c.loop-try.units (c.args.hart / t.harts) c.index-units-cluster.result c.step_alone.new.unit met_again there (c.in_ok-step_alone.ensures.idle idle)) c.loop-try.invariant.1.0

pub returns-then-eq-clause-granted : goal.returns-then-eq-clause-granted
returns-then-eq-clause-granted g c =
    let t = c.args.topology.now in
    let idle : c.in_ok-step_alone.field-0 ≡ Idle = search rules in
    let there = unit_there (λ u. seen u.core u.turns u.steps u.ahead) t c.loop-try._try c.args.hart _ _ c.requires.mesh c.loop-try.invariant.0 t.harts_in_range.low c.requires.hart in
    none_grants_met (λ u. seen u.core u.turns u.steps u.ahead) _ _ (each_at (λ u. seen u.core u.turns u.steps u.ahead) OnlyMet c.loop-try.units (c.args.hart / t.harts) c.index-units-cluster.result c.step_alone.new.unit met_again there (c.in_ok-step_alone.ensures.idle idle)) c.loop-try.invariant.1.1
