-- Every run keeps the release rule: its sentences, each proved in a file of its subject.
use Rattle.dash_model.specs.RunLaws.{RunsKeepReleases}
use Rattle.dash_model.proofs.DrainedHarts.{stores_are_committed, nothing_is_owed}
use Rattle.dash_model.proofs.ReleasesSeen.{releases_are_seen, atomics_are_seen}

pub runs_keep_releases : RunsKeepReleases
runs_keep_releases w log run = record {
  stores_are_committed = stores_are_committed w log run;
  nothing_is_owed = nothing_is_owed w log run;
  releases_are_seen = releases_are_seen w log run;
  atomics_are_seen = atomics_are_seen w log run;
}
