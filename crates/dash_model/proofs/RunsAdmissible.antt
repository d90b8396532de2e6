-- Every run is admissible: it replays, is coherent, keeps what of the release rule is seen in it, lets an SC succeed only by its reservation, and frees a lock word only for an Unlock that was sent.
use Rattle.dash_model.specs.RunLaws.{RunsAreAdmissible}
use Rattle.dash_model.proofs.RunsCoherent.{runs_are_coherent}
use Rattle.dash_model.proofs.DrainedHarts.{stores_are_committed}
use Rattle.dash_model.proofs.ReleasesSeen.{releases_are_seen, atomics_are_seen}
use Rattle.dash_model.proofs.ReplayedHarts.{replayed}
use Rattle.dash_model.proofs.Reservations.{conds_are_reserved}
use Rattle.dash_model.proofs.SentUnlocks.{frees_are_sent}

pub runs_are_admissible : RunsAreAdmissible
runs_are_admissible w log run = record {
  harts = (replayed w log run).harts;
  replay = (replayed w log run).replay;
  coherent = runs_are_coherent w log run;
  stores_are_committed = stores_are_committed w log run;
  releases_are_seen = releases_are_seen w log run;
  atomics_are_seen = atomics_are_seen w log run;
  conds_are_reserved = conds_are_reserved w log run;
  frees_are_sent = frees_are_sent w log run;
}
