-- Every run is coherent: the sentences of coherence, each proved in a file of its subject.
use Rattle.dash_model.specs.RunLaws.{RunsAreCoherent}
use Rattle.dash_model.proofs.VersionsCount.{versions_count, rmw_of_its_line, rmw_shows_last}
use Rattle.dash_model.proofs.CommitsFollow.{commits_follow_stores, commits_in_order, no_store_is_passed}
use Rattle.dash_model.proofs.ShownVersions.{shown_is_committed, reads_shown}
use Rattle.dash_model.proofs.OwnStores.{own_stores_are_committed, own_is_newest}
use Rattle.dash_model.proofs.OwnCommits.{own_commits_are_seen}
use Rattle.dash_model.proofs.Floors.{never_falls}
use Rattle.dash_model.proofs.LockChain.{locks_count, locks_are_chained, grants_read_zero}

pub runs_are_coherent : RunsAreCoherent
runs_are_coherent w log run = record {
  versions_count = versions_count w log run;
  commits_follow_stores = commits_follow_stores w log run;
  commits_in_order = commits_in_order w log run;
  no_store_is_passed = no_store_is_passed w log run;
  rmw_of_its_line = rmw_of_its_line w log run;
  shown_is_committed = shown_is_committed w log run;
  reads_shown = reads_shown w log run;
  rmw_shows_last = rmw_shows_last w log run;
  own_stores_are_committed = own_stores_are_committed w log run;
  own_is_newest = own_is_newest w log run;
  never_falls = never_falls w log run;
  own_commits_are_seen = own_commits_are_seen w log run;
  locks_count = locks_count w log run;
  locks_are_chained = locks_are_chained w log run;
  grants_read_zero = grants_read_zero w log run;
}
