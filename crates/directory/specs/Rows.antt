-- What each message to a home makes of its line, and what the home sends, in order.
use Rattle.std.specs.Prelude.{ℕ, ◌==◌, Bool, false, List, [], ◌∷◌, ◌++◌, map, length, if◌then◌else◌}
use Rattle.dash_base.specs.declared.line.Line.{Line}
use Rattle.dash_base.specs.declared.id.LineId.{LineId}
use Rattle.dash_base.specs.declared.id.ClusterId.{ClusterId}
use Rattle.dash_msg.specs.declared.msg.Msg.{Msg}
use Rattle.dash_msg.specs.declared.msg.Msg.TheVariants.{Read, ReadEx, FwdRead, FwdReadEx, Inval, WriteBack, SharingBack, Transfer, Data, DataEx, TransferAck}
use Rattle.dash_msg.specs.declared.parcel.Sent.{Sent}
use Rattle.directory.specs.declared.entry.EntryState.{EntryState}
use Rattle.directory.specs.declared.entry.EntryState.TheVariants.{Uncached, Shared, Dirty}
use Rattle.directory.specs.declared.home_line.HomeLine.{HomeLine}
use Rattle.directory.specs.Sharers.{only, with_sharer, sharers_but}

-- the line afterwards, and the messages that are sent
pub record Served : Type 0 where
  pub kept : HomeLine
  pub sent : List Sent

-- a cluster by its number
abbrev pub cluster_id : ℕ → ClusterId
cluster_id n = record { 0 = n }

-- a message to a cluster
abbrev pub send : ClusterId → Msg → Sent
send to msg = record { to = to; msg = msg }

-- nothing changes and nothing is sent
abbrev pub still : HomeLine → Served
still k = record { kept = k; sent = [] }

-- the entry is this one and these are sent
abbrev pub enter : HomeLine → EntryState → List Sent → Served
enter k entry sent = record { kept = record k { entry = entry }; sent = sent }

-- a request for a copy
abbrev pub read_row : LineId → ClusterId → EntryState → HomeLine → Served
read_row l f Uncached k = enter k (Shared (only f.0)) (send f (Data l k.content) ∷ [])
read_row l f (Shared s) k = enter k (Shared (with_sharer s f.0)) (send f (Data l k.content) ∷ [])
read_row l f (Dirty o) k = record { kept = k; sent = send o (FwdRead l f) ∷ [] }

-- an invalidation for each sharer but the cluster that becomes the owner, in ascending order
abbrev pub invalidations : ℕ → LineId → ClusterId → ℕ → List Sent
invalidations clusters l f s = map (λ c. send (cluster_id c) (Inval l f)) (sharers_but clusters s f.0)

-- a request to own the line
abbrev pub read_ex_row : ℕ → LineId → ClusterId → EntryState → HomeLine → Served
read_ex_row clusters l f Uncached k = enter k (Dirty f) (send f (DataEx l k.content 0) ∷ [])
read_ex_row clusters l f (Shared s) k =
    enter k (Dirty f) (invalidations clusters l f s ++ send f (DataEx l k.content (length (invalidations clusters l f s))) ∷ [])
read_ex_row clusters l f (Dirty o) k = record { kept = k; sent = send o (FwdReadEx l f) ∷ [] }

-- whether an entry says that the cluster owns the line
abbrev pub is_owner : EntryState → ClusterId → Bool
is_owner (Dirty o) f = o.0 == f.0
is_owner _ f = false

-- the owner gives the line up
abbrev pub write_back_row : ClusterId → Line → EntryState → HomeLine → Served
write_back_row f copy entry k =
    if is_owner entry f then record { kept = record { entry = Uncached; content = copy }; sent = [] } else still k

-- the owner has given another cluster a copy
abbrev pub sharing_back_row : ClusterId → Line → ClusterId → EntryState → HomeLine → Served
sharing_back_row f copy r entry k =
    if is_owner entry f then record { kept = record { entry = Shared (with_sharer (only f.0) r.0); content = copy }; sent = [] }
    else still k

-- the owner has given the line to another cluster
abbrev pub transfer_row : LineId → ClusterId → ClusterId → EntryState → HomeLine → Served
transfer_row l f r entry k =
    if is_owner entry f then enter k (Dirty r) (send r (TransferAck l) ∷ []) else still k

-- each message; one that is no home's to serve changes nothing
abbrev pub served : ℕ → ClusterId → Msg → HomeLine → Served
served clusters f (Read l) k = read_row l f k.entry k
served clusters f (ReadEx l) k = read_ex_row clusters l f k.entry k
served clusters f (WriteBack l copy) k = write_back_row f copy k.entry k
served clusters f (SharingBack l copy r) k = sharing_back_row f copy r k.entry k
served clusters f (Transfer l r) k = transfer_row l f r k.entry k
served clusters f _ k = still k

-- the cluster that a message to a home names, which is the sender where it names none
abbrev pub named : ClusterId → Msg → ClusterId
named f (SharingBack l copy r) = r
named f (Transfer l r) = r
named f _ = f
