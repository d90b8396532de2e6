-- The rows of the table for the messages that the home of a line takes: equations on concrete scenes.
use Rattle.std.specs.Prelude.{ℕ, [], ◌∷◌}
use Rattle.dash_event.specs.declared.event.Kind.{Kind}
use Rattle.dash_event.specs.declared.event.Kind.TheVariants as kind
use Rattle.dash_msg.specs.declared.msg.Msg.{Msg}
use Rattle.dash_msg.specs.declared.parcel.Sent.{Sent}
use Rattle.dash_msg.specs.declared.msg.Msg.TheVariants.{Read, ReadEx, FwdRead, FwdReadEx, Inval, WriteBack, SharingBack, Transfer, Data, DataEx, TransferAck}
use Rattle.dash_model.specs.Config.{cluster_id, line_id}
use Rattle.dash_model.specs.Net.{to}
use Rattle.dash_model.specs.Cell.{Entry, Uncached, SharedBy, Dirty}
use Rattle.dash_model.specs.TableParts.{Scene, Makes, Leaves, old, new, home_with, calm, line}
use Rattle.dash_model.specs.TableCode.{addi}

-- a message from cluster f
abbrev pub from : ℕ → Msg → Kind
from f m = kind.Take (cluster_id f) m

-- the home of line 6, which is cluster 2, with this entry
abbrev pub entered : Entry → Scene
entered entry = record (calm addi) { home = home_with entry }

-- the same with the newer content in memory
abbrev pub stored : Entry → Scene
stored entry = record (calm addi) { home = record { mem = new; entry = entry } }

-- cluster 1 asks to read
abbrev pub asks : Kind
asks = from 1 (Read line)

-- it asks to own
abbrev pub asks_to_own : Kind
asks_to_own = from 1 (ReadEx line)

-- cluster f writes its copy back
abbrev pub writes_back : ℕ → Kind
writes_back f = from f (WriteBack line new)

-- cluster f gave a copy to cluster r
abbrev pub shares : ℕ → ℕ → Kind
shares f r = from f (SharingBack line new (cluster_id r))

-- cluster f gave the line to cluster r
abbrev pub transfers : ℕ → ℕ → Kind
transfers f r = from f (Transfer line (cluster_id r))

-- an Inval for cluster 1 goes to cluster c
abbrev pub inval_to : ℕ → Sent
inval_to c = to c (Inval line (cluster_id 1))

-- Read: the home gives a copy and marks the sender, or passes the request on to the owner
pub record RowsOfRead : Type 0 where
  pub of_an_uncached_line : Makes 2 asks (entered Uncached) (entered (SharedBy (1 ∷ []))) (to 1 (Data line old) ∷ [])
  pub of_a_shared_line : Makes 2 asks (entered (SharedBy (0 ∷ 3 ∷ []))) (entered (SharedBy (0 ∷ 1 ∷ 3 ∷ []))) (to 1 (Data line old) ∷ [])
  pub of_a_line_that_it_shares : Makes 2 asks (entered (SharedBy (0 ∷ 1 ∷ []))) (entered (SharedBy (0 ∷ 1 ∷ []))) (to 1 (Data line old) ∷ [])
  pub of_a_dirty_line : Makes 2 asks (entered (Dirty 3)) (entered (Dirty 3)) (to 3 (FwdRead line (cluster_id 1)) ∷ [])
  pub nothing_away_from_the_home : Leaves 1 asks (entered Uncached)
  pub nothing_of_a_line_outside_memory : Leaves 0 (from 1 (Read (line_id 4096))) (entered Uncached)

-- ReadEx: the home gives the line, with an Inval to each other sharer, or passes the request on to the owner
pub record RowsOfReadEx : Type 0 where
  pub of_an_uncached_line : Makes 2 asks_to_own (entered Uncached) (entered (Dirty 1)) (to 1 (DataEx line old 0) ∷ [])
  pub of_a_shared_line : Makes 2 asks_to_own (entered (SharedBy (0 ∷ 3 ∷ []))) (entered (Dirty 1)) (inval_to 0 ∷ inval_to 3 ∷ to 1 (DataEx line old 2) ∷ [])
  pub of_a_line_that_it_shares : Makes 2 asks_to_own (entered (SharedBy (0 ∷ 1 ∷ []))) (entered (Dirty 1)) (inval_to 0 ∷ to 1 (DataEx line old 1) ∷ [])
  pub of_a_line_that_it_alone_shares : Makes 2 asks_to_own (entered (SharedBy (1 ∷ []))) (entered (Dirty 1)) (to 1 (DataEx line old 0) ∷ [])
  pub of_a_dirty_line : Makes 2 asks_to_own (entered (Dirty 3)) (entered (Dirty 3)) (to 3 (FwdReadEx line (cluster_id 1)) ∷ [])
  pub nothing_away_from_the_home : Leaves 1 asks_to_own (entered Uncached)
  pub nothing_of_a_line_outside_memory : Leaves 0 (from 1 (ReadEx (line_id 4096))) (entered Uncached)

-- WriteBack: the owner gives the line up
pub record RowsOfWriteBack : Type 0 where
  pub from_the_owner : Makes 2 (writes_back 1) (entered (Dirty 1)) (stored Uncached) []
  pub nothing_from_another_cluster : Leaves 2 (writes_back 0) (entered (Dirty 1))
  pub nothing_of_an_uncached_line : Leaves 2 (writes_back 1) (entered Uncached)
  pub nothing_of_a_shared_line : Leaves 2 (writes_back 1) (entered (SharedBy (1 ∷ [])))
  pub nothing_away_from_the_home : Leaves 3 (writes_back 1) (entered (Dirty 1))

-- SharingBack: the owner gave a copy to cluster 3
pub record RowsOfSharingBack : Type 0 where
  pub from_the_owner : Makes 2 (shares 1 3) (entered (Dirty 1)) (stored (SharedBy (1 ∷ 3 ∷ []))) []
  pub sharers_stand_in_their_order : Makes 2 (shares 3 1) (entered (Dirty 3)) (stored (SharedBy (1 ∷ 3 ∷ []))) []
  pub nothing_from_another_cluster : Leaves 2 (shares 0 3) (entered (Dirty 1))
  pub nothing_of_an_uncached_line : Leaves 2 (shares 1 3) (entered Uncached)
  pub nothing_for_a_cluster_that_is_not_there : Leaves 2 (shares 1 4) (entered (Dirty 1))
  pub nothing_away_from_the_home : Leaves 1 (shares 1 3) (entered (Dirty 1))

-- Transfer: the owner gave the line to cluster 3
pub record RowsOfTransfer : Type 0 where
  pub from_the_owner : Makes 2 (transfers 1 3) (entered (Dirty 1)) (entered (Dirty 3)) (to 3 (TransferAck line) ∷ [])
  pub nothing_from_another_cluster : Leaves 2 (transfers 3 3) (entered (Dirty 1))
  pub nothing_of_a_shared_line : Leaves 2 (transfers 1 3) (entered (SharedBy (1 ∷ [])))
  pub nothing_for_a_cluster_that_is_not_there : Leaves 2 (transfers 1 4) (entered (Dirty 1))
  pub nothing_away_from_the_home : Leaves 1 (transfers 1 3) (entered (Dirty 1))

-- these rows
pub record RowsOfHome : Type 0 where
  pub read : RowsOfRead
  pub read_ex : RowsOfReadEx
  pub write_back : RowsOfWriteBack
  pub sharing_back : RowsOfSharingBack
  pub transfer : RowsOfTransfer
