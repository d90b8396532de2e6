-- Each row keeps the facts of its line, its coverage and its contents.
use Rattle.std.proofs.Common.{◌≡◌, ℕ, ◌≤◌, Some, List, [], ◌∷◌, ◌++◌, length, refl, ap, ap₂, ◌∙◌, arith}
use Rattle.std.proofs.lemmas.Bool.Decides.{nat_tests}
use Rattle.dash_base.specs.declared.line.Line.{Line}
use Rattle.dash_base.specs.declared.id.LineId.{LineId}
use Rattle.dash_base.specs.declared.id.ClusterId.{ClusterId}
use Rattle.dash_msg.specs.declared.classes.Class.TheVariants.{Request, Reply}
use Rattle.dash_msg.specs.declared.msg.Msg.{Msg}
use Rattle.dash_msg.specs.declared.msg.Msg.TheVariants.{Read, ReadEx, FwdRead, FwdReadEx, Inval, WriteBack, SharingBack, Transfer, Data, DataEx, Ack, TransferAck, Nak}
use Rattle.dash_model.specs.Maps.{weigh, without, with_member}
use Rattle.dash_model.specs.Config.{cluster_id}
use Rattle.dash_model.specs.Net.{Packet, parcel, head, tail, to}
use Rattle.dash_model.specs.Cell.{Held, Asked, Poisoned, Came, Refused, Slot, Reads, Owns, NoAcks, Uncached, SharedBy, Dirty}
use Rattle.dash_model.specs.LineEffect.{still}
use Rattle.dash_model.specs.Replies.{nak_slot, nak_acks}
use Rattle.dash_model.specs.Acts.{AskRead, AskOwn, Again, Install, Commit, Drop, BusRead, BusOwn, again_row, install_row, evict_row}
use Rattle.dash_model.specs.Requests.{give_read, give_own, invals_to}
use Rattle.dash_model.specs.OnLine.{clean, datas, brings_msg, counts_to_msg, brings, counts_to, naks, gives_back, leaves, gains}
use Rattle.dash_model.proofs.LineState.{State, Where, Acts, Takes, apply, after, MayAct}
use Rattle.dash_model.proofs.Weigh.{cut, sends, weigh-only}
use Rattle.dash_model.proofs.Bursts.{bursts, vbursts, invals_at-burst}
use Rattle.dash_model.proofs.Members.{member-with, member-still, member_self}
use Rattle.dash_model.proofs.Steps.{Keeps, KeepsBy, KeepsByTwo}
use Rattle.dash_model.proofs.Contents.{datas_weight_only, home_weighs, owner_current}
use Rattle.dash_model.proofs.Facts.{Place, AtHome, At, Back, Moving, Facts, Cover, came_off, datas_weight, NoneToRead, other}

brings_counts_msg : (x a b : ℕ) (m : Msg) → brings_msg x a b m ≡ 0 → counts_to_msg x a b m ≡ 0
brings_counts_msg x a b (DataEx l d n) e = grind (arith, nat_tests)
brings_counts_msg x a b _ e = refl

-- where no DataEx is on its way, no count is
pub brings_counts : (x : ℕ) (p : Packet) → brings x p ≡ 0 → counts_to x p ≡ 0
brings_counts x p e = brings_counts_msg x p.src p.dst p.msg e

module _ (w : Where) (s : State) (p : Place) (i c x : ℕ) where
  -- by what the slot has
  again_by : (b : Slot) → (s.cells c).slot ≡ b → Facts w.home s p x → Facts w.home s p c → Facts w.home (apply i c (again_row w.line w.home b (s.cells c) s.home) s.net s) p x
  again_by (Reads n t Refused) e k kc = grind (arith, nat_tests, sends)
  again_by (Owns n t Refused) e k kc = grind (arith, nat_tests, sends)
  again_by _ e k kc = grind (arith, nat_tests, sends)

  install_by : (b : Slot) → (s.cells c).slot ≡ b → Facts w.home s p x → Facts w.home s p c → Facts w.home (apply i c (install_row b (s.cells c) s.home) s.net s) p x
  install_by (Reads n t (Came d)) e k kc = grind (arith, nat_tests, sends)
  install_by (Owns n t (Came d)) e k kc = grind (arith, nat_tests, sends)
  install_by _ e k kc = grind (arith, nat_tests, sends)

  nak_by : (f u : ℕ) (l : LineId) (b : Slot) → (s.cells c).slot ≡ b → head f c Reply s.net ≡ Some (parcel f c (Nak l) u) → Facts w.home s p x → Facts w.home s p c
      → Facts w.home (apply i c (record { cell = record (s.cells c) { slot = nak_slot w.k b; acks = nak_acks w.k b (s.cells c).acks }; home = s.home; sent = [] }) (tail f c Reply s.net) s) p x
  nak_by f u l (Reads n t Asked) e first k kc =
      let less = cut f c Reply (parcel f c (Nak l) u) s.net first in
      record { requests = grind (arith, nat_tests, sends); tokens = grind (arith, nat_tests, sends); epoch = grind (arith, nat_tests, sends); counts = grind (arith, nat_tests, sends) }
  nak_by f u l (Reads n t Poisoned) e first k kc =
      let less = cut f c Reply (parcel f c (Nak l) u) s.net first in
      record { requests = grind (arith, nat_tests, sends); tokens = grind (arith, nat_tests, sends); epoch = grind (arith, nat_tests, sends); counts = grind (arith, nat_tests, sends) }
  nak_by f u l (Owns n t Asked) e first k kc =
      let less = cut f c Reply (parcel f c (Nak l) u) s.net first in
      let none = weigh-only (brings c) (counts_to c) (brings_counts c) s.net in
      record { requests = grind (arith, nat_tests, sends); tokens = grind (arith, nat_tests, sends); epoch = grind (arith, nat_tests, sends); counts = grind (arith, nat_tests, sends) }
  nak_by f u l _ e first k kc =
      let less = cut f c Reply (parcel f c (Nak l) u) s.net first in
      let more = less (naks c) in
      let all = kc.requests.all in
      grind (arith, nat_tests)

-- acts of a cluster
module _ (w : Where) (m : Line) (s : State) (p : Place) (i c : ℕ) where
  pub idle : Keeps w.home m s p (apply i c (still (s.cells c) s.home) s.net s) p
  idle = record {
    facts = λ x k. grind (arith, nat_tests, sends);
    covered = λ x k y. grind (arith, nat_tests, sends);
    contents = λ x k v. grind (arith, nat_tests, sends);
    reading = λ b z x k y. grind (arith, nat_tests, sends);
  }

  pub ask_read : (n t : ℕ) → MayAct (AskRead n t) (s.cells c) → KeepsBy w.home m s p (after w s (Acts i c (AskRead n t))) p c
  ask_read n t may = record {
    facts = λ x k kc. grind (arith, nat_tests, sends);
    covered = λ x k kc y. grind (arith, nat_tests, sends);
    contents = λ x k kc v vc. let none = weigh-only (datas c) (datas_weight (other m) c) (datas_weight_only (other m) c) s.net in grind (arith, nat_tests, sends);
    reading = λ b z x k kc vc y. let none = weigh-only (datas c) (datas_weight b c) (datas_weight_only b c) s.net in grind (arith, nat_tests, sends);
  }

  pub ask_own : (n t : ℕ) → MayAct (AskOwn n t) (s.cells c) → KeepsBy w.home m s p (after w s (Acts i c (AskOwn n t))) p c
  ask_own n t may = record {
    facts = λ x k kc. grind (arith, nat_tests, sends);
    covered = λ x k kc y. grind (arith, nat_tests, sends);
    contents = λ x k kc v vc. grind (arith, nat_tests, sends);
    reading = λ b z x k kc vc y. grind (arith, nat_tests, sends);
  }

  pub again : KeepsBy w.home m s p (after w s (Acts i c Again)) p c
  again = record {
    facts = λ x k kc. again_by w s p i c x (s.cells c).slot refl k kc;
    covered = λ x k kc y. grind (arith, nat_tests, sends);
    contents = λ x k kc v vc. let none = weigh-only (datas c) (datas_weight (other m) c) (datas_weight_only (other m) c) s.net in grind (arith, nat_tests, sends);
    reading = λ b z x k kc vc y. let none = weigh-only (datas c) (datas_weight b c) (datas_weight_only b c) s.net in grind (arith, nat_tests, sends);
  }

  pub install : KeepsBy w.home m s p (after w s (Acts i c Install)) p c
  install = record {
    facts = λ x k kc. install_by w s p i c x (s.cells c).slot refl k kc;
    covered = λ x k kc y. grind (arith, nat_tests, sends);
    contents = λ x k kc v vc. grind (arith, nat_tests, sends);
    reading = λ b z x k kc vc y. grind (arith, nat_tests, sends);
  }

  pub drop : (t : ℕ) → MayAct (Drop t) (s.cells c) → KeepsBy w.home m s p (after w s (Acts i c (Drop t))) p c
  drop t may = record {
    facts = λ x k kc. grind (arith, nat_tests, sends);
    covered = λ x k kc y. grind (arith, nat_tests, sends);
    contents = λ x k kc v vc. grind (arith, nat_tests, sends);
    reading = λ b z x k kc vc y. grind (arith, nat_tests, sends);
  }

  pub bus_read : (t : ℕ) → KeepsBy w.home m s p (after w s (Acts i c (BusRead t))) p c
  bus_read t = record {
    facts = λ x k kc. grind (arith, nat_tests, sends);
    covered = λ x k kc y. grind (arith, nat_tests, sends);
    contents = λ x k kc v vc. grind (arith, nat_tests, sends);
    reading = λ b z x k kc vc y. grind (arith, nat_tests, sends);
  }

  pub bus_own : (t : ℕ) → KeepsBy w.home m s p (after w s (Acts i c (BusOwn t))) p c
  bus_own t = record {
    facts = λ x k kc. grind (arith, nat_tests, sends);
    covered = λ x k kc y. grind (arith, nat_tests, sends);
    contents = λ x k kc v vc. grind (arith, nat_tests, sends);
    reading = λ b z x k kc vc y. grind (arith, nat_tests, sends);
  }

  -- of a commit, which makes another content
  pub commit_facts : (t x : ℕ) (d : Line) → Facts w.home s p x → Facts w.home s p c → Facts w.home (after w s (Acts i c (Commit t d))) p x
  commit_facts t x d k kc = grind (arith, nat_tests, sends)

  pub commit_cover : (t x : ℕ) (d : Line) → Facts w.home s p x → Facts w.home s p c → Cover s p x → Cover (after w s (Acts i c (Commit t d))) p x
  commit_cover t x d k kc y = grind (arith, nat_tests, sends)

  pub commit_reading : (t x : ℕ) (d : Line) (b : Line → ℕ) → NoneToRead b s x → NoneToRead b (after w s (Acts i c (Commit t d))) x
  commit_reading t x d b y = grind (arith, nat_tests, sends)

-- messages that come to a cluster
module _ (w : Where) (m : Line) (s : State) (p : Place) (i c f u : ℕ) (l : LineId) where
  pub data_comes : (d : Line) → head f c Reply s.net ≡ Some (parcel f c (Data l d) u) → KeepsBy w.home m s p (after w s (Takes i c f (Data l d))) p c
  data_comes d first =
      let less = cut f c Reply (parcel f c (Data l d) u) s.net first in
      record {
        facts = λ x k kc. grind (arith, nat_tests, sends);
        covered = λ x k kc y. grind (arith, nat_tests, sends);
        contents = λ x k kc v vc. grind (arith, nat_tests, sends);
        reading = λ b z x k kc vc y. grind (arith, nat_tests, sends);
      }

  pub ack : head f c Reply s.net ≡ Some (parcel f c (Ack l) u) → KeepsBy w.home m s p (after w s (Takes i c f (Ack l))) p c
  ack first =
      let less = cut f c Reply (parcel f c (Ack l) u) s.net first in
      record {
        facts = λ x k kc. grind (arith, nat_tests, sends);
        covered = λ x k kc y. grind (arith, nat_tests, sends);
        contents = λ x k kc v vc. grind (arith, nat_tests, sends);
        reading = λ b z x k kc vc y. grind (arith, nat_tests, sends);
      }

  pub transfer_ack : head f c Reply s.net ≡ Some (parcel f c (TransferAck l) u) → KeepsBy w.home m s p (after w s (Takes i c f (TransferAck l))) p c
  transfer_ack first =
      let less = cut f c Reply (parcel f c (TransferAck l) u) s.net first in
      record {
        facts = λ x k kc. grind (arith, nat_tests, sends);
        covered = λ x k kc y. grind (arith, nat_tests, sends);
        contents = λ x k kc v vc. grind (arith, nat_tests, sends);
        reading = λ b z x k kc vc y. grind (arith, nat_tests, sends);
      }

  pub inval : (r : ClusterId) → head f c Request s.net ≡ Some (parcel f c (Inval l r) u) → KeepsByTwo w.home m s p (after w s (Takes i c f (Inval l r))) p c r.0
  inval r first =
      let less = cut f c Request (parcel f c (Inval l r) u) s.net first in
      record {
        facts = λ x k kc kd. grind (arith, nat_tests, sends);
        covered = λ x k kc kd y. grind (arith, nat_tests, sends);
        contents = λ x k kc kd v vc vd. grind (arith, nat_tests, sends);
        reading = λ b z x k kc kd vc y. grind (arith, nat_tests, sends);
      }

  pub nak : head f c Reply s.net ≡ Some (parcel f c (Nak l) u) → KeepsBy w.home m s p (after w s (Takes i c f (Nak l))) p c
  nak first =
      let less = cut f c Reply (parcel f c (Nak l) u) s.net first in
      record {
        facts = λ x k kc. nak_by w s p i c x f u l (s.cells c).slot refl first k kc;
        covered = λ x k kc y. grind (arith, nat_tests, sends);
        contents = λ x k kc v vc. grind (arith, nat_tests, sends);
        reading = λ b z x k kc vc y. grind (arith, nat_tests, sends);
      }

  pub data_ex : (d : Line) (n : ℕ) → head f c Reply s.net ≡ Some (parcel f c (DataEx l d n) u) → KeepsBy w.home m s p (after w s (Takes i c f (DataEx l d n))) p c
  data_ex d n first =
      let less = cut f c Reply (parcel f c (DataEx l d n) u) s.net first in
      record {
        facts = λ x k kc. let none = weigh-only (brings c) (counts_to c) (brings_counts c) (tail f c Reply s.net) in grind (arith, nat_tests, sends);
        covered = λ x k kc y. grind (arith, nat_tests, sends);
        contents = λ x k kc v vc. grind (arith, nat_tests, sends);
        reading = λ b z x k kc vc y. grind (arith, nat_tests, sends);
      }

  -- a forward that is refused
  pub fwd_read_refused : (r : ClusterId) → head f c Request s.net ≡ Some (parcel f c (FwdRead l r) u) → KeepsBy w.home m s p (apply i c (record { cell = s.cells c; home = s.home; sent = to r.0 (Nak l) ∷ [] }) (tail f c Request s.net) s) p r.0
  fwd_read_refused r first =
      let less = cut f c Request (parcel f c (FwdRead l r) u) s.net first in
      record {
        facts = λ x k kc. grind (arith, nat_tests, sends);
        covered = λ x k kc y. grind (arith, nat_tests, sends);
        contents = λ x k kc v vc. grind (arith, nat_tests, sends);
        reading = λ b z x k kc vc y. grind (arith, nat_tests, sends);
      }

  pub fwd_read_ex_refused : (r : ClusterId) → head f c Request s.net ≡ Some (parcel f c (FwdReadEx l r) u) → KeepsBy w.home m s p (apply i c (record { cell = s.cells c; home = s.home; sent = to r.0 (Nak l) ∷ [] }) (tail f c Request s.net) s) p r.0
  fwd_read_ex_refused r first =
      let less = cut f c Request (parcel f c (FwdReadEx l r) u) s.net first in
      record {
        facts = λ x k kc. grind (arith, nat_tests, sends);
        covered = λ x k kc y. grind (arith, nat_tests, sends);
        contents = λ x k kc v vc. grind (arith, nat_tests, sends);
        reading = λ b z x k kc vc y. grind (arith, nat_tests, sends);
      }

-- an owner gives the line back, gives a copy, or gives the line on
module _ (w : Where) (m : Line) (s : State) (i c : ℕ) (hs : List ℕ) (o : ℕ) (d : Line) (owned : (s.cells c).copy ≡ Held hs (Some o) d) (clear : (s.cells c).acks ≡ NoAcks) where
  pub evict : KeepsBy w.home m s (At c) (apply i c (evict_row w.line w.home (Held hs (Some o) d) (s.cells c) s.home) s.net s) (Back c) c
  evict = record {
    facts = λ x k kc. grind (arith, nat_tests, sends);
    covered = λ x k kc y. grind (arith, nat_tests, sends);
    contents = λ x k kc v vc. grind (arith, nat_tests, sends);
    reading = λ b z x k kc vc y. grind (arith, nat_tests, sends);
  }

  pub fwd_read_given : (f u : ℕ) (l : LineId) (r : ClusterId) → head f c Request s.net ≡ Some (parcel f c (FwdRead l r) u) → KeepsByTwo w.home m s (At c) (apply i c (give_read l w.home r.0 (Held hs (Some o) d) NoAcks (s.cells c) s.home) (tail f c Request s.net) s) (Back c) c r.0
  fwd_read_given f u l r first =
      let less = cut f c Request (parcel f c (FwdRead l r) u) s.net first in
      record {
        facts = λ x k kc kd. grind (arith, nat_tests, sends);
        covered = λ x k kc kd y. grind (arith, nat_tests, sends);
        contents = λ x k kc kd v vc vd. grind (arith, nat_tests, sends);
        reading = λ b z x k kc kd vc y. let d0 : b d ≡ 0 = ap b (owner_current hs o d (s.cells c).copy m (came_off (s.cells c).slot m) owned vc.owner) ∙ z in grind (arith, nat_tests, sends);
      }

  pub fwd_read_ex_given : (f u : ℕ) (l : LineId) (r : ClusterId) → head f c Request s.net ≡ Some (parcel f c (FwdReadEx l r) u) → KeepsByTwo w.home m s (At c) (apply i c (give_own l w.home r.0 (Held hs (Some o) d) NoAcks (s.cells c) s.home) (tail f c Request s.net) s) (Moving c r.0) c r.0
  fwd_read_ex_given f u l r first =
      let less = cut f c Request (parcel f c (FwdReadEx l r) u) s.net first in
      record {
        facts = λ x k kc kd. let none = weigh-only (brings r.0) (counts_to r.0) (brings_counts r.0) s.net in grind (arith, nat_tests, sends);
        covered = λ x k kc kd y. grind (arith, nat_tests, sends);
        contents = λ x k kc kd v vc vd. grind (arith, nat_tests, sends);
        reading = λ b z x k kc kd vc y. grind (arith, nat_tests, sends);
      }

-- the home serves a request, or passes it on
module _ (w : Where) (m : Line) (s : State) (i f u : ℕ) (l : LineId) where
  pub read_uncached : head f w.home Request s.net ≡ Some (parcel f w.home (Read l) u) → s.home.entry ≡ Uncached → KeepsBy w.home m s AtHome (apply i w.home (record { cell = s.cells w.home; home = record s.home { entry = SharedBy (f ∷ []) }; sent = to f (Data l s.home.mem) ∷ [] }) (tail f w.home Request s.net) s) AtHome f
  unfolding with_member
  read_uncached first e =
      let less = cut f w.home Request (parcel f w.home (Read l) u) s.net first in
      let here = member-with f [] in
      record {
        facts = λ x k kc. grind (arith, nat_tests, sends);
        covered = λ x k kc y. grind (arith, nat_tests, sends);
        contents = λ x k kc v vc. grind (arith, nat_tests, sends);
        reading = λ b z x k kc vc y. let m0 : b s.home.mem ≡ 0 = home_weighs b m s.home.mem AtHome z refl vc.mem in grind (arith, nat_tests, sends);
      }

  pub read_shared : (cs : List ℕ) → head f w.home Request s.net ≡ Some (parcel f w.home (Read l) u) → s.home.entry ≡ SharedBy cs → KeepsBy w.home m s AtHome (apply i w.home (record { cell = s.cells w.home; home = record s.home { entry = SharedBy (with_member f cs) }; sent = to f (Data l s.home.mem) ∷ [] }) (tail f w.home Request s.net) s) AtHome f
  read_shared cs first e =
      let less = cut f w.home Request (parcel f w.home (Read l) u) s.net first in
      record {
        facts = λ x k kc. grind (arith, nat_tests, sends);
        covered = λ x k kc y. let here = member-with f cs in let there = member-still f x cs in grind (arith, nat_tests, sends);
        contents = λ x k kc v vc. grind (arith, nat_tests, sends);
        reading = λ b z x k kc vc y. let m0 : b s.home.mem ≡ 0 = home_weighs b m s.home.mem AtHome z refl vc.mem in grind (arith, nat_tests, sends);
      }

  pub read_dirty : (p : Place) (o : ℕ) → head f w.home Request s.net ≡ Some (parcel f w.home (Read l) u) → Keeps w.home m s p (apply i w.home (record { cell = s.cells w.home; home = s.home; sent = to o (FwdRead l (cluster_id f)) ∷ [] }) (tail f w.home Request s.net) s) p
  read_dirty p o first =
      let less = cut f w.home Request (parcel f w.home (Read l) u) s.net first in
      record {
        facts = λ x k. grind (arith, nat_tests, sends);
        covered = λ x k y. grind (arith, nat_tests, sends);
        contents = λ x k v. grind (arith, nat_tests, sends);
        reading = λ b z x k y. grind (arith, nat_tests, sends);
      }

  pub own_uncached : head f w.home Request s.net ≡ Some (parcel f w.home (ReadEx l) u) → s.home.entry ≡ Uncached → KeepsBy w.home m s AtHome (apply i w.home (record { cell = s.cells w.home; home = record s.home { entry = Dirty f }; sent = to f (DataEx l s.home.mem 0) ∷ [] }) (tail f w.home Request s.net) s) (At f) f
  own_uncached first e =
      let less = cut f w.home Request (parcel f w.home (ReadEx l) u) s.net first in
      record {
        facts = λ x k kc. let none = weigh-only (brings f) (counts_to f) (brings_counts f) s.net in grind (arith, nat_tests, sends);
        covered = λ x k kc y. grind (arith, nat_tests, sends);
        contents = λ x k kc v vc. grind (arith, nat_tests, sends);
        reading = λ b z x k kc vc y. grind (arith, nat_tests, sends);
      }

  pub own_shared : (cs : List ℕ) → head f w.home Request s.net ≡ Some (parcel f w.home (ReadEx l) u) → s.home.entry ≡ SharedBy cs → KeepsBy w.home m s AtHome (apply i w.home (record { cell = s.cells w.home; home = record s.home { entry = Dirty f }; sent = invals_to l f (without f cs) ++ (to f (DataEx l s.home.mem (length (without f cs))) ∷ []) }) (tail f w.home Request s.net) s) (At f) f
  own_shared cs first e =
      let less = cut f w.home Request (parcel f w.home (ReadEx l) u) s.net first in
      record {
        facts = λ x k kc. let none = weigh-only (brings f) (counts_to f) (brings_counts f) s.net in record { requests = grind (arith, nat_tests, bursts); tokens = grind (arith, nat_tests, bursts); epoch = grind (arith, nat_tests, bursts); counts = grind (arith, nat_tests, bursts) };
        covered = λ x k kc y. let told = invals_at-burst x l i w.home f cs in grind (arith, nat_tests, bursts);
        contents = λ x k kc v vc. grind (arith, nat_tests, vbursts);
        reading = λ b z x k kc vc y. grind (arith, nat_tests, vbursts);
      }

  pub own_dirty : (p : Place) (o : ℕ) → head f w.home Request s.net ≡ Some (parcel f w.home (ReadEx l) u) → Keeps w.home m s p (apply i w.home (record { cell = s.cells w.home; home = s.home; sent = to o (FwdReadEx l (cluster_id f)) ∷ [] }) (tail f w.home Request s.net) s) p
  own_dirty p o first =
      let less = cut f w.home Request (parcel f w.home (ReadEx l) u) s.net first in
      record {
        facts = λ x k. grind (arith, nat_tests, sends);
        covered = λ x k y. grind (arith, nat_tests, sends);
        contents = λ x k v. grind (arith, nat_tests, sends);
        reading = λ b z x k y. grind (arith, nat_tests, sends);
      }

-- the line comes back, or the home learns who has it
module _ (w : Where) (m : Line) (s : State) (i c f u : ℕ) (l : LineId) where
  pub write_back : (d : Line) → head f c Request s.net ≡ Some (parcel f c (WriteBack l d) u) → KeepsBy w.home m s (Back f) (apply i c (record { cell = s.cells c; home = record { mem = d; entry = Uncached }; sent = [] }) (tail f c Request s.net) s) AtHome f
  write_back d first =
      let less = cut f c Request (parcel f c (WriteBack l d) u) s.net first in
      record {
        facts = λ x k kc. grind (arith, nat_tests, sends);
        covered = λ x k kc y. grind (arith, nat_tests, sends);
        contents = λ x k kc v vc. grind (arith, nat_tests, sends);
        reading = λ b z x k kc vc y. grind (arith, nat_tests, sends);
      }

  pub sharing_back : (d : Line) (r : ClusterId) → head f c Request s.net ≡ Some (parcel f c (SharingBack l d r) u) → KeepsBy w.home m s (Back f) (apply i c (record { cell = s.cells c; home = record { mem = d; entry = SharedBy (with_member f (r.0 ∷ [])) }; sent = [] }) (tail f c Request s.net) s) AtHome f
  sharing_back d r first =
      let less = cut f c Request (parcel f c (SharingBack l d r) u) s.net first in
      record {
        facts = λ x k kc. grind (arith, nat_tests, sends);
        covered = λ x k kc y. let here = member-with f (r.0 ∷ []) in let there = member-still f r.0 (r.0 ∷ []) (member_self r.0) in grind (arith, nat_tests, sends);
        contents = λ x k kc v vc. grind (arith, nat_tests, sends);
        reading = λ b z x k kc vc y. grind (arith, nat_tests, sends);
      }

  pub transfer : (r : ClusterId) → head f c Request s.net ≡ Some (parcel f c (Transfer l r) u) → KeepsByTwo w.home m s (Moving f r.0) (apply i c (record { cell = s.cells c; home = record s.home { entry = Dirty r.0 }; sent = to r.0 (TransferAck l) ∷ [] }) (tail f c Request s.net) s) (At r.0) f r.0
  transfer r first =
      let less = cut f c Request (parcel f c (Transfer l r) u) s.net first in
      record {
        facts = λ x k kc kd. grind (arith, nat_tests, sends);
        covered = λ x k kc kd y. grind (arith, nat_tests, sends);
        contents = λ x k kc kd v vc vd. grind (arith, nat_tests, sends);
        reading = λ b z x k kc kd vc y. grind (arith, nat_tests, sends);
      }

-- the place, where a cluster has an owner whose line is not pending
place_owner_by : (w : Where) (s : State) (p : Place) (c : ℕ) (hs : List ℕ) (o : ℕ) (d : Line) → (s.cells c).copy ≡ Held hs (Some o) d
    → (s.cells c).acks ≡ NoAcks → Facts w.home s p c → p ≡ At c
place_owner_by w s AtHome c hs o d e a k = grind (arith, nat_tests)
place_owner_by w s (At q) c hs o d e a k = let f : q ≡ c = grind (arith, nat_tests) in ap At f
place_owner_by w s (Back q) c hs o d e a k = grind (arith, nat_tests)
place_owner_by w s (Moving q r) c hs o d e a k = grind (arith, nat_tests)

pub place_owner : (w : Where) (s : State) (p : Place) (c : ℕ) (hs : List ℕ) (o : ℕ) (d : Line) → (s.cells c).copy ≡ Held hs (Some o) d
    → (s.cells c).acks ≡ NoAcks → Facts w.home s p c → p ≡ At c
place_owner = place_owner_by

-- where those three messages come, the place is theirs
pub back_of : (w : Where) (s : State) (p : Place) (f : ℕ) → 1 ≤ weigh (gives_back f) s.net → Facts w.home s p f → p ≡ Back f
back_of w s AtHome f b k = grind (arith, nat_tests)
back_of w s (At o) f b k = grind (arith, nat_tests)
back_of w s (Back o) f b k = let e : o ≡ f = grind (arith, nat_tests) in ap Back e
back_of w s (Moving o r) f b k = grind (arith, nat_tests)

pub transfer_of : (w : Where) (s : State) (p : Place) (f r : ℕ) → 1 ≤ weigh (leaves f) s.net → 1 ≤ weigh (gains r) s.net → Facts w.home s p f
    → Facts w.home s p r → p ≡ Moving f r
transfer_of w s AtHome f r b g k kr = grind (arith, nat_tests)
transfer_of w s (At o) f r b g k kr = grind (arith, nat_tests)
transfer_of w s (Back o) f r b g k kr = grind (arith, nat_tests)
transfer_of w s (Moving o q) f r b g k kr =
    let e : o ≡ f = grind (arith, nat_tests) in
    let d : q ≡ r = grind (arith, nat_tests) in
    ap₂ Moving e d

pub clean_place : (w : Where) (s : State) (p : Place) (x : ℕ) → clean s.home.entry ≡ 1 → Facts w.home s p x → p ≡ AtHome
clean_place w s AtHome x e k = refl
clean_place w s (At o) x e k = grind (arith, nat_tests)
clean_place w s (Back o) x e k = grind (arith, nat_tests)
clean_place w s (Moving o r) x e k = grind (arith, nat_tests)
