use Rattle.std.proofs.Common.{◌≤◌, arith}
use Rattle.round_run.specs.Units.{seen}
use Rattle.round_run.specs.Serial.{tries_between}
use Rattle.round_run.proofs.Serials.{round_served, part_served, mesh_did}
use Rattle.round_run.proofs.serial.serial_turn.Goals as goal

pub serve_harts-requires-2 : goal.serve_harts-requires-2
serve_harts-requires-2 g c = record {
  to = (let low = c.requires.first in omega arith);
  from = (let z : 0 ≤ c.args.first = omega arith in z);
  mesh = mesh_did (λ u. seen u.core u.turns u.steps u.ahead) c.args.topology.now (tries_between c.args.topology.now.harts c.args.first c.hart_count-harts.result) _ _ c.serve_harts.ensures.steps c.requires.mesh;
  emptied = c.in_ok-serve_harts.ensures.emptied;
  granted = c.in_ok-serve_harts.ensures.granted;
}

pub returns-in_err-serve_harts-clause-steps : goal.returns-in_err-serve_harts-clause-steps
returns-in_err-serve_harts-clause-steps g c = part_served (λ u. seen u.core u.turns u.steps u.ahead) c.args.topology.now.harts c.args.first c.hart_count-harts.result _ _ c.serve_harts.ensures.steps

pub returns-then-branch-clause-steps : goal.returns-then-branch-clause-steps
returns-then-branch-clause-steps g c = part_served (λ u. seen u.core u.turns u.steps u.ahead) c.args.topology.now.harts c.args.first c.hart_count-harts.result _ _ c.serve_harts.ensures.steps

pub returns-clause-steps : goal.returns-clause-steps
returns-clause-steps g c = round_served (λ u. seen u.core u.turns u.steps u.ahead) c.args.topology.now.harts c.args.first c.hart_count-harts.result _ _ _ c.serve_harts.ensures.steps c.serve_harts-2.ensures.steps
