use Rattle.std.proofs.Common.{◌+◌, arith}
use Rattle.round_run.specs.Units.{seen}
use Rattle.round_run.specs.Serial.{tries_between}
use Rattle.round_run.proofs.Serials.{served_one, served_all, none_served, mesh_did}
use Rattle.round_run.proofs.serial.serve_harts.Goals as goal

pub loop-hart-init : goal.loop-hart-init
loop-hart-init g c = (none_served (λ u. seen u.core u.turns u.steps u.ahead) c.args.topology.now.harts c.args.from _, (c.requires.emptied, c.requires.granted))

pub loop-hart-preserved : goal.loop-hart-preserved
loop-hart-preserved g c = (
  served_one (λ u. seen u.core u.turns u.steps u.ahead) c.args.topology.now.harts c.args.from c.loop-hart.hart _ _ _ c.args.topology.now.harts_in_range.low c.loop-hart.auto.hart c.loop-hart.invariant.0 c.serve_hart.ensures.steps,
  (c.in_ok-serve_hart.ensures.emptied, c.in_ok-serve_hart.ensures.granted),
)

pub serve_hart-requires : goal.serve_hart-requires
serve_hart-requires g c = record {
  hart = (let low = c.loop-hart-test.true in let most = c.requires.to in grind arith);
  mesh = mesh_did (λ u. seen u.core u.turns u.steps u.ahead) c.args.topology.now (tries_between c.args.topology.now.harts c.args.from c.loop-hart.hart) _ _ c.loop-hart.invariant.0 c.requires.mesh;
  emptied = c.loop-hart.invariant.1.0;
  granted = c.loop-hart.invariant.1.1;
}

pub returns-in_err-serve_hart-clause-steps : goal.returns-in_err-serve_hart-clause-steps
returns-in_err-serve_hart-clause-steps g c =
    served_all (λ u. seen u.core u.turns u.steps u.ahead) c.args.topology.now.harts c.args.from (c.loop-hart.hart + 1) c.args.to _ _ (let low = c.loop-hart-test.true in omega arith)
    (served_one (λ u. seen u.core u.turns u.steps u.ahead) c.args.topology.now.harts c.args.from c.loop-hart.hart _ _ _ c.args.topology.now.harts_in_range.low c.loop-hart.auto.hart c.loop-hart.invariant.0 c.serve_hart.ensures.steps)

pub returns-then-branch-clause-steps : goal.returns-then-branch-clause-steps
returns-then-branch-clause-steps g c =
    served_all (λ u. seen u.core u.turns u.steps u.ahead) c.args.topology.now.harts c.args.from (c.loop-hart.hart + 1) c.args.to _ _ (let low = c.loop-hart-test.true in omega arith)
    (served_one (λ u. seen u.core u.turns u.steps u.ahead) c.args.topology.now.harts c.args.from c.loop-hart.hart _ _ _ c.args.topology.now.harts_in_range.low c.loop-hart.auto.hart c.loop-hart.invariant.0 c.serve_hart.ensures.steps)
