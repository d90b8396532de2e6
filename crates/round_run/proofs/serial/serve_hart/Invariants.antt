use Rattle.round_run.specs.Units.{seen, AreEmptied, NoneGrants}
use Rattle.round_run.specs.Serial.{EachDid, tries_of}
use Rattle.round_run.proofs.serial.serve_hart.Given as goal

abbrev pub invariant-loop-try : goal.invariant-loop-try
invariant-loop-try g l =
    EachDid (λ u. seen u.core u.turns u.steps u.ahead) (tries_of l.topology.harts l._try l.hart) l.initial.units l.units
    × (AreEmptied (λ u. seen u.core u.turns u.steps u.ahead) l.units × NoneGrants (λ u. seen u.core u.turns u.steps u.ahead) l.units)
