-- What happens in the example runs, in its order.
use Rattle.std.specs.Prelude.{ℕ, true, false, Option, None, Some, List, [], ◌∷◌}
use Rattle.dash_base.specs.declared.end.End.TheVariants.{Exited, Trapped}
use Rattle.dash_base.specs.declared.end.Trap.TheVariants.{Fetch}
use Rattle.dash_base.specs.declared.id.LineId.{LineId}
use Rattle.dash_base.specs.declared.id.WordAddr.{WordAddr}
use Rattle.dash_base.specs.declared.instr.Labels.{Labels}
use Rattle.dash_base.specs.declared.line.Line.{Line}
use Rattle.dash_msg.specs.declared.msg.Msg.TheVariants.{Read, ReadEx, FwdRead, FwdReadEx, Inval, WriteBack, SharingBack, Transfer, LockAsk, Unlock, Data, DataEx, Ack, TransferAck, Nak, LockGrant, UnlockAck}
use Rattle.dash_event.specs.declared.access.Access.{Access}
use Rattle.dash_event.specs.declared.access.Op.{Op}
use Rattle.dash_event.specs.declared.access.Op.TheVariants as op
use Rattle.dash_event.specs.declared.access.Seen.{Seen}
use Rattle.dash_event.specs.declared.access.Seen.TheVariants as seen
use Rattle.dash_event.specs.declared.event.Kind.{Kind}
use Rattle.dash_event.specs.declared.event.Kind.TheVariants as kind
use Rattle.dash_model.specs.Config.{cluster_id, line_id, hart_id}

-- an address of a word
abbrev pub word_addr : ℕ → WordAddr
word_addr n = record { 0 = n }

-- the line of address 0
abbrev pub line_0 : LineId
line_0 = line_id 0

-- the line of address 256, which has the same index in L2
abbrev pub line_16 : LineId
line_16 = line_id 16

-- a line whose first word is this, at a version
abbrev pub content : ℕ → ℕ → Line
content n version = record { words = n ∷ 0 ∷ 0 ∷ 0 ∷ []; version = version }

-- no label
abbrev pub unlabelled : Labels
unlabelled = record { aq = false; rl = false }

-- aq alone
abbrev pub acquire : Labels
acquire = record { aq = true; rl = false }

-- rl alone
abbrev pub release : Labels
release = record { aq = false; rl = true }

-- an access of a whole word by a hart's instruction of this number
abbrev pub access : ℕ → ℕ → Op → Labels → ℕ → Option ℕ → Option ℕ → Seen → Access
access h number what labels word read written shown =
    record { hart = hart_id h; number = number; op = what; labels = labels; word = word_addr word; mask = 15; read = read; written = written; seen = shown }

-- two clusters of one hart store to a word and load it: the line moves from cluster 0 to cluster 1, and cluster 0 reads it back, refused once while the line is pending
abbrev pub moving : List Kind
moving = kind.Store (access 0 1 op.Store unlabelled 0 None (Some 2) seen.Nothing)
    ∷ kind.Store (access 1 1 op.Store unlabelled 0 None (Some 2) seen.Nothing)
    ∷ kind.Ask 1 (hart_id 0) line_0 true
    ∷ kind.Ask 1 (hart_id 1) line_0 true
    ∷ kind.Take (cluster_id 0) (ReadEx line_0)
    ∷ kind.Take (cluster_id 0) (DataEx line_0 (content 0 0) 0)
    ∷ kind.Install 1 (hart_id 0) line_0
    ∷ kind.Commit (hart_id 0) 1 line_0 1
    ∷ kind.Take (cluster_id 1) (ReadEx line_0)
    ∷ kind.Take (cluster_id 0) (FwdReadEx line_0 (cluster_id 1))
    ∷ kind.Ask 0 (hart_id 0) line_0 false
    ∷ kind.Take (cluster_id 0) (DataEx line_0 (content 2 1) 1)
    ∷ kind.Take (cluster_id 0) (Transfer line_0 (cluster_id 1))
    ∷ kind.Install 1 (hart_id 1) line_0
    ∷ kind.Take (cluster_id 0) (Read line_0)
    ∷ kind.Commit (hart_id 1) 1 line_0 2
    ∷ kind.Take (cluster_id 0) (FwdRead line_0 (cluster_id 0))
    ∷ kind.Take (cluster_id 1) (Nak line_0)
    ∷ kind.Take (cluster_id 0) (TransferAck line_0)
    ∷ kind.Again 0 line_0
    ∷ kind.Take (cluster_id 0) (Read line_0)
    ∷ kind.Take (cluster_id 0) (FwdRead line_0 (cluster_id 0))
    ∷ kind.Take (cluster_id 1) (SharingBack line_0 (content 2 2) (cluster_id 0))
    ∷ kind.Load (access 1 2 op.Load unlabelled 0 (Some 2) None (seen.Line 2)) 2
    ∷ kind.Take (cluster_id 1) (Data line_0 (content 2 2))
    ∷ kind.Install 0 (hart_id 0) line_0
    ∷ kind.Load (access 0 2 op.Load unlabelled 0 (Some 2) None (seen.Line 2)) 2
    ∷ []

-- two harts of one cluster add to a word and load another one of the same index: the second takes the line over, and evicts it
abbrev pub sharing : List Kind
sharing = kind.Ask 0 (hart_id 0) line_0 true
    ∷ kind.Take (cluster_id 0) (ReadEx line_0)
    ∷ kind.Take (cluster_id 0) (DataEx line_0 (content 0 0) 0)
    ∷ kind.Install 0 (hart_id 0) line_0
    ∷ kind.Rmw (access 0 1 op.Amo unlabelled 0 (Some 0) (Some 2) (seen.Line 0)) line_0 1
    ∷ kind.BusOwn (hart_id 1) line_0
    ∷ kind.Rmw (access 1 1 op.Amo unlabelled 0 (Some 2) (Some 4) (seen.Line 1)) line_0 2
    ∷ kind.Ask 0 (hart_id 0) line_16 false
    ∷ kind.Take (cluster_id 0) (Read line_16)
    ∷ kind.Take (cluster_id 0) (Data line_16 (content 0 0))
    ∷ kind.Install 0 (hart_id 0) line_16
    ∷ kind.Load (access 0 2 op.Load unlabelled 256 (Some 0) None (seen.Line 0)) 2
    ∷ kind.Evict (hart_id 1) line_0
    ∷ kind.Take (cluster_id 0) (WriteBack line_0 (content 4 2))
    ∷ kind.BusRead (hart_id 1) line_16
    ∷ kind.Load (access 1 2 op.Load unlabelled 256 (Some 0) None (seen.Line 0)) 2
    ∷ []

-- hart 0 prefetches a line, and hart 1 of another cluster stores to it: the copy of hart 0's cluster is invalidated
abbrev pub invalidating : List Kind
invalidating = kind.Alu (hart_id 0) 4096
    ∷ kind.Alu (hart_id 1) 4096
    ∷ kind.Hint (hart_id 0) 4100 (Some 2)
    ∷ kind.Store (access 1 2 op.Store unlabelled 0 None (Some 2) seen.Nothing)
    ∷ kind.Take (cluster_id 0) (Read line_0)
    ∷ kind.Ask 1 (hart_id 1) line_0 true
    ∷ kind.Take (cluster_id 0) (Data line_0 (content 0 0))
    ∷ kind.Install 2 (hart_id 0) line_0
    ∷ kind.Take (cluster_id 1) (ReadEx line_0)
    ∷ kind.Take (cluster_id 0) (Inval line_0 (cluster_id 1))
    ∷ kind.Take (cluster_id 0) (DataEx line_0 (content 0 0) 1)
    ∷ kind.Install 1 (hart_id 1) line_0
    ∷ kind.Commit (hart_id 1) 2 line_0 1
    ∷ kind.Take (cluster_id 0) (Ack line_0)
    ∷ []

-- a hart adds, fences, fails an SC, takes a lock word and gives it back, puts a byte and exits
abbrev pub locking : List Kind
locking = kind.Alu (hart_id 0) 4096
    ∷ kind.Fence (hart_id 0) 4100
    ∷ kind.ScFail (access 0 3 op.Cond unlabelled 0 None None seen.Nothing)
    ∷ kind.LockSend (hart_id 0) (LockAsk (hart_id 0) 4 (word_addr 65536) 1)
    ∷ kind.Take (cluster_id 0) (LockAsk (hart_id 0) 4 (word_addr 65536) 1)
    ∷ kind.Grant (access 0 4 op.Ask acquire 65536 (Some 0) (Some 1) (seen.Lock 0))
    ∷ kind.Take (cluster_id 0) (LockGrant (hart_id 0))
    ∷ kind.LockSend (hart_id 0) (Unlock (hart_id 0) 5 (word_addr 65536))
    ∷ kind.Free (cluster_id 0) (access 0 5 op.Unlock release 65536 (Some 1) (Some 0) (seen.Lock 1))
    ∷ kind.Take (cluster_id 0) (UnlockAck (hart_id 0) 1)
    ∷ kind.Put (hart_id 0) 4116 0
    ∷ kind.Alu (hart_id 0) 4120
    ∷ kind.Stop (hart_id 0) 4124 (Exited 0)
    ∷ []

-- a hart asks twice for a lock word: the second time it waits for ever
abbrev pub waiting : List Kind
waiting = kind.LockSend (hart_id 0) (LockAsk (hart_id 0) 1 (word_addr 65536) 1)
    ∷ kind.Take (cluster_id 0) (LockAsk (hart_id 0) 1 (word_addr 65536) 1)
    ∷ kind.Grant (access 0 1 op.Ask acquire 65536 (Some 0) (Some 1) (seen.Lock 0))
    ∷ kind.Take (cluster_id 0) (LockGrant (hart_id 0))
    ∷ kind.LockSend (hart_id 0) (LockAsk (hart_id 0) 2 (word_addr 65536) 1)
    ∷ kind.Take (cluster_id 0) (LockAsk (hart_id 0) 2 (word_addr 65536) 1)
    ∷ []

-- a hart finds no instruction
abbrev pub trapping : List Kind
trapping = kind.Stop (hart_id 0) 4096 (Trapped Fetch 4096)
    ∷ []
