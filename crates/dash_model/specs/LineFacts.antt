-- What every run keeps of each line of memory: one token, an entry that knows where it is, an answer to each request, exact counts of acknowledgements, and an invalidation for whatever is stale.
use Rattle.std.specs.Prelude.{◌≡◌, ◌≢◌, ◌⊎◌, ℕ, ◌+◌, ◌≤◌, ◌<◌, ◌==◌, true, cond, Option, Some, List, [], ◌∷◌, length}
use Rattle.dash_base.specs.declared.id.ClusterId.{ClusterId}
use Rattle.dash_base.specs.declared.id.LineId.{LineId}
use Rattle.dash_base.specs.declared.line.Line.{Line}
use Rattle.dash_msg.specs.declared.msg.Msg.{Msg}
use Rattle.dash_msg.specs.declared.msg.Msg.TheVariants.{Read, ReadEx, FwdRead, FwdReadEx, Inval, WriteBack, SharingBack, Transfer, Data, DataEx, TransferAck}
use Rattle.dash_event.specs.declared.event.Event.{Event}
use Rattle.hart_core.specs.Access.{IsInMemory}
use Rattle.dash_model.specs.Maps.{weigh, member}
use Rattle.dash_model.specs.Config.{Config, line_id, lines, home_of, line_at}
use Rattle.dash_model.specs.Words.{word_in}
use Rattle.dash_model.specs.Log.{commits_of}
use Rattle.dash_model.specs.LineContent.{word_at}
use Rattle.dash_model.specs.Net.{Packet}
use Rattle.dash_model.specs.OnLine.{on, owned, came_own, clean, reads, datas, wants, brings, naks, gives_back, gains, invals, invals_at, acks_to, counts_to, shares, passes}
use Rattle.dash_model.specs.Cell.{NoCopy, Held, Asked, Poisoned, Came, Slot, Reads, Owns, Acks, NoAcks, Counting, Expects, Entry, SharedBy, Dirty, Cell, Home}
use Rattle.dash_model.specs.Machine.{Machine, Reaches}
use Rattle.dash_model.specs.History.{version_of}

-- line l at cluster c, at its home, and on its way
abbrev pub cell_at : ℕ → Machine → ℕ → Cell
cell_at l m c = (m.parts c).cells l

-- line l at its home
abbrev pub home_at : Config → ℕ → Machine → Home
home_at w l m = (m.parts (home_of w l)).homes l

-- a message is among these
abbrev pub IsOnItsWay : Packet → List Packet → Type 0
IsOnItsWay q [] = ⊥
IsOnItsWay q (p ∷ ps) = (q ≡ p) ⊎ IsOnItsWay q ps

-- a message that asks the home for a line, or tells it of one
abbrev pub IsForHome : Msg → Type 0
IsForHome (Read l) = Unit {0}
IsForHome (ReadEx l) = Unit {0}
IsForHome (WriteBack l d) = Unit {0}
IsForHome (SharingBack l d r) = Unit {0}
IsForHome (Transfer l r) = Unit {0}
IsForHome msg = ⊥

-- a message that the home alone sends
abbrev pub IsFromHome : Msg → Type 0
IsFromHome (FwdRead l r) = Unit {0}
IsFromHome (FwdReadEx l r) = Unit {0}
IsFromHome (Inval l r) = Unit {0}
IsFromHome (TransferAck l) = Unit {0}
IsFromHome msg = ⊥

-- what is for the home is on its way to the line's home, and what the home alone sends comes from there
pub record IsRouted (w : Config) (l : ℕ) (m : Machine) : Type 0 where
  pub to_home : (q : Packet) → IsOnItsWay q (on l m.net) → IsForHome q.msg → q.dst ≡ home_of w l
  pub from_home : (q : Packet) → IsOnItsWay q (on l m.net) → IsFromHome q.msg → q.src ≡ home_of w l

-- a weight, of what goes to cluster h alone
abbrev pub to_cluster : ℕ → (Packet → ℕ) → Packet → ℕ
to_cluster h weight q = cond (q.dst == h) (weight q) 0

-- where the token may be: in the home's memory, with an owner, in a slot that is to own the line, on its way to one, or on its way back from an owner to the home
pub data Holder : Type 0 where
  InMemory : Holder
  OwnerAt SlotAt ComingTo ReturningFrom : (cluster : ℕ) → Holder

-- how many tokens are there
abbrev pub tokens_at : Config → ℕ → Machine → Holder → ℕ
tokens_at w l m InMemory = clean (home_at w l m).entry
tokens_at w l m (OwnerAt c) = owned (cell_at l m c).copy
tokens_at w l m (SlotAt c) = came_own (cell_at l m c).slot
tokens_at w l m (ComingTo c) = weigh (brings c) (on l m.net)
tokens_at w l m (ReturningFrom c) = weigh (to_cluster (home_of w l) (gives_back c)) (on l m.net)

-- a content is the line's current one by the log: its version is the number of the line's commits, and each of its words is the opening word with all of those commits written over it
pub record IsCurrent (w : Config) (log : List Event) (l : ℕ) (d : Line) : Type 0 where
  pub version : d.version ≡ version_of log l
  pub words : (address : ℕ) → IsInMemory w.top address 4 → line_at w address ≡ l → word_in w address d ≡ word_at w.image log (line_id l) (length (commits_of log (line_id l))) address

-- exactly one place has the token, and its content is current
pub record Token (w : Config) (log : List Event) (l : ℕ) (m : Machine) : Type 0 where
  pub holder : Holder
  pub there : tokens_at w l m holder ≡ 1
  pub alone : (other : Holder) → other ≢ holder → tokens_at w l m other ≡ 0
  pub memory : clean (home_at w l m).entry ≡ 1 → IsCurrent w log l (home_at w l m).mem
  pub owner : (c : ℕ) (hs : List ℕ) (o : ℕ) (d : Line) → (cell_at l m c).copy ≡ Held hs (Some o) d → IsCurrent w log l d
  pub slot : (c n h : ℕ) (d : Line) → (cell_at l m c).slot ≡ Owns n h (Came d) → IsCurrent w log l d
  pub coming : (q : Packet) (k : LineId) (d : Line) (count : ℕ) → IsOnItsWay q (on l m.net) → q.msg ≡ DataEx k d count → IsCurrent w log l d
  pub returning : (q : Packet) (k : LineId) (d : Line) → IsOnItsWay q (on l m.net) → q.msg ≡ WriteBack k d → IsCurrent w log l d
  pub sharing : (q : Packet) (k : LineId) (d : Line) (r : ClusterId) → IsOnItsWay q (on l m.net) → q.msg ≡ SharingBack k d r → IsCurrent w log l d

-- the token is at cluster c, or on its way to it
abbrev pub tokens_for : ℕ → Machine → ℕ → ℕ
tokens_for l m c = owned (cell_at l m c).copy + came_own (cell_at l m c).slot + weigh (brings c) (on l m.net)

-- what an entry that is Dirty of cluster o means: the token is at o or on its way to it, or on its way from it to the home, or o passed it on to r, as a message to the home tells
pub data IsOwnedBy (w : Config) (l : ℕ) (m : Machine) (o : ℕ) : Type 0 where
  ThereOrComing : tokens_for l m o ≡ 1 → IsOwnedBy w l m o
  Returning : weigh (to_cluster (home_of w l) (gives_back o)) (on l m.net) ≡ 1 → IsOwnedBy w l m o
  Passed : (r : ℕ) → weigh (to_cluster (home_of w l) (passes o r)) (on l m.net) ≡ 1 → tokens_for l m r ≡ 1 → IsOwnedBy w l m o

-- the entry is Dirty exactly where the token is not in the home's memory, and names who has it
pub record EntryKnows (w : Config) (l : ℕ) (m : Machine) : Type 0 where
  pub clean_at_home : clean (home_at w l m).entry ≡ 1 → (c : ℕ) → (tokens_for l m c ≡ 0) × (weigh (gives_back c) (on l m.net) ≡ 0)
  pub names : (o : ℕ) → (home_at w l m).entry ≡ Dirty o → IsOwnedBy w l m o

-- whether a slot waits for an answer, and whether one to read, or one to own, does
abbrev pub waiting_slots : Slot → ℕ
waiting_slots (Reads n h Asked) = 1
waiting_slots (Reads n h Poisoned) = 1
waiting_slots (Owns n h Asked) = 1
waiting_slots (Owns n h Poisoned) = 1
waiting_slots s = 0

-- the slot is one to read
abbrev pub IsReading : Slot → Type 0
IsReading (Reads n h phase) = Unit {0}
IsReading s = ⊥

-- the slot is one to own
abbrev pub IsOwning : Slot → Type 0
IsOwning (Owns n h phase) = Unit {0}
IsOwning s = ⊥

-- each slot that waits has one message that asks for it or answers it, and there is no such message without its slot; a slot reads only where there is no copy
pub record OneAnswer (l : ℕ) (m : Machine) (c : ℕ) : Type 0 where
  pub one_each : weigh (reads c) (on l m.net) + weigh (datas c) (on l m.net) + weigh (wants c) (on l m.net) + weigh (brings c) (on l m.net) + weigh (naks c) (on l m.net) ≡ waiting_slots (cell_at l m c).slot
  pub to_read : 1 ≤ weigh (reads c) (on l m.net) + weigh (datas c) (on l m.net) → IsReading (cell_at l m c).slot
  pub to_own : 1 ≤ weigh (wants c) (on l m.net) + weigh (brings c) (on l m.net) → IsOwning (cell_at l m c).slot
  pub reading : IsReading (cell_at l m c).slot → (cell_at l m c).copy ≡ NoCopy

-- what counts for cluster c: invalidations and acknowledgements, and what tells the home that c has the line
abbrev pub counting_for : ℕ → Machine → ℕ → ℕ
counting_for l m c = weigh (invals c) (on l m.net) + weigh (acks_to c) (on l m.net) + weigh (gains c) (on l m.net)

-- with what came already this is the number expected, of which fewer came; where that isn't known yet, the number that is announced on its way; and without an entry there is neither
abbrev pub CountsAdd : Acks → ℕ → ℕ → Type 0
CountsAdd NoAcks counting announced = (counting ≡ 0) × (announced ≡ 0)
CountsAdd (Counting got owed) counting announced = got + counting ≡ announced
CountsAdd (Expects expected got owed) counting announced = (got + counting ≡ expected) × (got < expected) × (announced ≡ 0)

-- the counts of cluster c add up, and it has or gets the token where it knows the number
pub record CountIsExact (l : ℕ) (m : Machine) (c : ℕ) : Type 0 where
  pub adds : CountsAdd (cell_at l m c).acks (counting_for l m c) (weigh (counts_to c) (on l m.net))
  pub owns : (expected got : ℕ) (owed : List ℕ) → (cell_at l m c).acks ≡ Expects expected got owed → tokens_for l m c ≡ 1

-- an invalidation is on its way to cluster c
abbrev pub IsInvalidated : ℕ → Machine → ℕ → Type 0
IsInvalidated l m c = 1 ≤ weigh (invals_at c) (on l m.net)

-- what cluster c has of the line to read from is current, or an invalidation is on its way to c: its copy, what came to a slot, and what is on its way to one that waits for it
pub record StaleIsInvalidated (w : Config) (log : List Event) (l : ℕ) (m : Machine) (c : ℕ) : Type 0 where
  pub copy : (hs : List ℕ) (o : Option ℕ) (d : Line) → (cell_at l m c).copy ≡ Held hs o d → IsCurrent w log l d ⊎ IsInvalidated l m c
  pub slot : (n h : ℕ) (d : Line) → (cell_at l m c).slot ≡ Reads n h (Came d) → IsCurrent w log l d ⊎ IsInvalidated l m c
  pub coming : (n h : ℕ) (q : Packet) (k : LineId) (d : Line) → (cell_at l m c).slot ≡ Reads n h Asked → IsOnItsWay q (on l m.net) → q.dst ≡ c → q.msg ≡ Data k d → IsCurrent w log l d ⊎ IsInvalidated l m c

-- cluster c has something of the line to read from
pub data HasThing (l : ℕ) (m : Machine) (c : ℕ) : Type 0 where
  ByCopy : (cell_at l m c).copy ≢ NoCopy → HasThing l m c
  BySlot : (n h : ℕ) (d : Line) → (cell_at l m c).slot ≡ Reads n h (Came d) → HasThing l m c
  ByData : (n h : ℕ) → (cell_at l m c).slot ≡ Reads n h Asked → 1 ≤ weigh (datas c) (on l m.net) → HasThing l m c

-- the entry marks cluster c
abbrev pub IsMarked : ℕ → Entry → Type 0
IsMarked c (SharedBy cs) = member c cs ≡ true
IsMarked c e = ⊥

-- the home will not forget cluster c: it has or gets the token, it is marked, a message tells the home of its copy, or it is being invalidated
pub data IsCovered (w : Config) (l : ℕ) (m : Machine) (c : ℕ) : Type 0 where
  ByToken : tokens_for l m c ≡ 1 → IsCovered w l m c
  ByMark : IsMarked c (home_at w l m).entry → IsCovered w l m c
  BySharing : 1 ≤ weigh (shares c) (on l m.net) → IsCovered w l m c
  ByInval : IsInvalidated l m c → IsCovered w l m c

-- each invalidation names the cluster that the entry is Dirty of, which counts, and goes to another one
pub record OneEpoch (w : Config) (l : ℕ) (m : Machine) : Type 0 where
  pub entry : (q : Packet) (k : LineId) (r : ClusterId) → IsOnItsWay q (on l m.net) → q.msg ≡ Inval k r → (home_at w l m).entry ≡ Dirty r.0
  pub acks : (q : Packet) (k : LineId) (r : ClusterId) → IsOnItsWay q (on l m.net) → q.msg ≡ Inval k r → (cell_at l m r.0).acks ≢ NoAcks
  pub others : (q : Packet) (k : LineId) (r : ClusterId) → IsOnItsWay q (on l m.net) → q.msg ≡ Inval k r → q.dst ≢ r.0

-- a message carries this content
abbrev pub Carries : Msg → Line → Type 0
Carries (WriteBack l d) e = d ≡ e
Carries (SharingBack l d r) e = d ≡ e
Carries (Data l d) e = d ≡ e
Carries (DataEx l d count) e = d ≡ e
Carries msg e = ⊥

-- no content of the line is of a version that is yet to come: in the home's memory, in copies, in slots, and on its way
pub record NoneIsNewer (w : Config) (log : List Event) (l : ℕ) (m : Machine) : Type 0 where
  pub memory : (home_at w l m).mem.version ≤ version_of log l
  pub copies : (c : ℕ) (hs : List ℕ) (o : Option ℕ) (d : Line) → (cell_at l m c).copy ≡ Held hs o d → d.version ≤ version_of log l
  pub to_read : (c n h : ℕ) (d : Line) → (cell_at l m c).slot ≡ Reads n h (Came d) → d.version ≤ version_of log l
  pub to_own : (c n h : ℕ) (d : Line) → (cell_at l m c).slot ≡ Owns n h (Came d) → d.version ≤ version_of log l
  pub messages : (q : Packet) (d : Line) → IsOnItsWay q (on l m.net) → Carries q.msg d → d.version ≤ version_of log l

-- the facts of line l after a log
pub record LineFacts (w : Config) (log : List Event) (l : ℕ) (m : Machine) : Type 0 where
  pub token : Token w log l m
  pub entry : EntryKnows w l m
  pub routes : IsRouted w l m
  pub requests : (c : ℕ) → OneAnswer l m c
  pub counts : (c : ℕ) → CountIsExact l m c
  pub stale : (c : ℕ) → StaleIsInvalidated w log l m c
  pub coverage : (c : ℕ) → HasThing l m c → IsCovered w l m c
  pub one_epoch : OneEpoch w l m
  pub newest : NoneIsNewer w log l m

-- every run keeps them, of each line of memory
abbrev pub RunsKeepLines : Type 0
RunsKeepLines = (w : Config) (log : List Event) (m : Machine) (l : ℕ) → l < lines w → Reaches w log m → LineFacts w log l m
