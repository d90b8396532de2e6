-- Written images and logs, which are admissible.
use Rattle.std.specs.Prelude.{ℕ, List, [], ◌∷◌, length, Some, None}
use Rattle.dash_base.specs.Topology.{IsSimple}
use Rattle.dash_base.specs.declared.topology.Topology.{Topology}
use Rattle.elf_load.specs.Image.{ImageView}
use Rattle.dash_event.specs.Records.{records_of}
use Rattle.dash_event.specs.declared.access.Access.{Access}
use Rattle.dash_event.specs.declared.access.Op.TheVariants as op
use Rattle.dash_event.specs.declared.access.Seen.TheVariants.{Line, Own, Nothing}
use Rattle.dash_event.specs.declared.event.Event.{Event}
use Rattle.dash_event.specs.declared.event.Kind.{Kind}
use Rattle.dash_event.specs.declared.event.Kind.TheVariants.{Alu, Load, Store, Commit, Rmw}
use Rattle.dash_event.specs.Offered.{no_label, acquire_label, release_label}
use Rattle.flat_model.specs.Run.{IsSequentialRun}
use Rattle.flat_model.specs.Race.{IsProperlyLabelled}
use Rattle.dash_model.specs.Admissible.{IsAdmissible}

-- an image of one segment at 4096, which may be read and executed
abbrev pub code : List ℕ → ImageView
code bytes = record { entry = 4096; segments = record { vaddr = 4096; memsz = length bytes; flags = 5; bytes = bytes } ∷ [] }

-- sw a1, 64(zero); lb a2, 64(zero); lw a3, 64(zero)
abbrev pub forwarding_image : ImageView
forwarding_image = code (0x23 ∷ 0x20 ∷ 0xb0 ∷ 0x04 ∷ 0x03 ∷ 0x06 ∷ 0x00 ∷ 0x04 ∷ 0x83 ∷ 0x26 ∷ 0x00 ∷ 0x04 ∷ [])

-- its store
abbrev pub forwarded_store : Access
forwarded_store = record { hart = record { 0 = 0 }; number = 1; op = op.Store; labels = no_label; word = record { 0 = 64 }; mask = 15; read = None; written = Some 1; seen = Nothing }

-- its load of a byte, while the store is in the write buffer
abbrev pub forwarded_load : Access
forwarded_load = record { hart = record { 0 = 0 }; number = 2; op = op.Load; labels = no_label; word = record { 0 = 64 }; mask = 1; read = Some 1; written = None; seen = Own 1 }

-- its load of the word, after the store's commit
abbrev pub committed_load : Access
committed_load = record { hart = record { 0 = 0 }; number = 3; op = op.Load; labels = no_label; word = record { 0 = 64 }; mask = 15; read = Some 1; written = None; seen = Line 1 }

-- an event of the one cluster
abbrev pub event_at : ℕ → ℕ → Kind → Event
event_at stamp cluster kind = record { stamp = stamp; cluster = record { 0 = cluster }; kind = kind }

-- a log of it: the store, a load of the hart's own store, the store's commit, and a load of the version that it made
abbrev pub forwarding_log : List Event
forwarding_log =
    event_at 1 0 (Store forwarded_store)
    ∷ event_at 2 0 (Load forwarded_load 0)
    ∷ event_at 3 0 (Commit (record { 0 = 0 }) 1 (record { 0 = 4 }) 1)
    ∷ event_at 4 0 (Load committed_load 1)
    ∷ []

-- on a machine of one hart it is admissible
abbrev pub ForwardingIsAdmissible : Type 0
ForwardingIsAdmissible = (t : Topology) → IsSimple 1 1 8 t → IsAdmissible forwarding_image t forwarding_log

-- bne a0, zero, 12; sw a1, 64(zero); amoswap.w.rl zero, a1, (zero); lr.w.aq a2, (zero); beq a2, zero, -4; lw a3, 64(zero): hart 0 writes a message and sets the flag, and hart 1 waits for the flag and reads the message
abbrev pub message_image : ImageView
message_image = code (
    0x63 ∷ 0x16 ∷ 0x05 ∷ 0x00 ∷ 0x23 ∷ 0x20 ∷ 0xb0 ∷ 0x04 ∷ 0x2f ∷ 0x20 ∷ 0xb0 ∷ 0x0a
    ∷ 0x2f ∷ 0x26 ∷ 0x00 ∷ 0x14 ∷ 0xe3 ∷ 0x0e ∷ 0x06 ∷ 0xfe ∷ 0x83 ∷ 0x26 ∷ 0x00 ∷ 0x04 ∷ [])

-- the message is written
abbrev pub message_store : Access
message_store = record { hart = record { 0 = 0 }; number = 2; op = op.Store; labels = no_label; word = record { 0 = 64 }; mask = 15; read = None; written = Some 2; seen = Nothing }

-- the flag is set, a release
abbrev pub flag_release : Access
flag_release = record { hart = record { 0 = 0 }; number = 3; op = op.Amo; labels = release_label; word = record { 0 = 0 }; mask = 15; read = Some 0; written = Some 2; seen = Line 0 }

-- the flag is read, an acquire
abbrev pub flag_acquire : Access
flag_acquire = record { hart = record { 0 = 1 }; number = 2; op = op.Reserve; labels = acquire_label; word = record { 0 = 0 }; mask = 15; read = Some 2; written = None; seen = Line 1 }

-- the message is read
abbrev pub message_load : Access
message_load = record { hart = record { 0 = 1 }; number = 4; op = op.Load; labels = no_label; word = record { 0 = 64 }; mask = 15; read = Some 2; written = None; seen = Line 1 }

-- a log of it: the message and the flag of hart 0, in cluster 0, and then the flag and the message of hart 1, in cluster 1
abbrev pub message_log : List Event
message_log =
    event_at 1 0 (Alu (record { 0 = 0 }) 4096)
    ∷ event_at 2 0 (Store message_store)
    ∷ event_at 3 0 (Commit (record { 0 = 0 }) 2 (record { 0 = 4 }) 1)
    ∷ event_at 4 0 (Rmw flag_release (record { 0 = 0 }) 1)
    ∷ event_at 5 1 (Alu (record { 0 = 1 }) 4096)
    ∷ event_at 6 1 (Load flag_acquire 1)
    ∷ event_at 7 1 (Alu (record { 0 = 1 }) 4112)
    ∷ event_at 8 1 (Load message_load 1)
    ∷ []

-- on a machine of two clusters of one hart it is admissible
abbrev pub MessageIsAdmissible : Type 0
MessageIsAdmissible = (t : Topology) → IsSimple 2 1 8 t → IsAdmissible message_image t message_log

-- there the image is properly labelled
abbrev pub MessageIsProperlyLabelled : Type 0
MessageIsProperlyLabelled = (t : Topology) → IsSimple 2 1 8 t → IsProperlyLabelled message_image t

-- so the records of the log are a sequential run
abbrev pub MessageIsInOrder : Type 0
MessageIsInOrder = (t : Topology) → IsSimple 2 1 8 t → IsSequentialRun message_image t (records_of message_log)
