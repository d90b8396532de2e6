use Rattle.round_run.specs.Units.{seen, AreEmptied, NoneGrants}
use Rattle.round_run.specs.Serial.{EachDid, tries_between}
use Rattle.round_run.proofs.serial.serve_harts.Given as goal

abbrev pub invariant-loop-hart : goal.invariant-loop-hart
invariant-loop-hart g l =
    EachDid (λ u. seen u.core u.turns u.steps u.ahead) (tries_between l.topology.harts l.from l.hart) l.initial.units l.units
    × (AreEmptied (λ u. seen u.core u.turns u.steps u.ahead) l.units × NoneGrants (λ u. seen u.core u.turns u.steps u.ahead) l.units)
