-- Messages of a line that are taken: where a case applies the line turns as its row says, and else nothing changes.
use Rattle.std.proofs.Common.{◌≡◌, ℕ, true, false, Option, Some, None, List, [], refl, sym, ap, ◌∙◌, subst}
use Rattle.std.specs.Prelude.{unwrap_or}
use Rattle.dash_base.specs.declared.id.ClusterId.{ClusterId}
use Rattle.dash_base.specs.declared.id.LineId.{LineId}
use Rattle.dash_base.specs.declared.need.Need.TheVariants as needed
use Rattle.dash_msg.specs.declared.msg.Msg.{Msg}
use Rattle.dash_msg.specs.declared.msg.Msg.TheVariants.{Read, ReadEx, FwdRead, FwdReadEx, Inval, WriteBack, SharingBack, Transfer, LockAsk, Unlock, Data, DataEx, Ack, TransferAck, Nak, LockGrant, UnlockAck}
use Rattle.dash_msg.specs.declared.parcel.Sent.{Sent}
use Rattle.dash_event.specs.declared.event.Kind.TheVariants as kind
use Rattle.hart_core.specs.Opening.{opening_hart}
use Rattle.dash_model.specs.Config.{Config, home_of, first_prefetch}
use Rattle.dash_model.specs.Part.{Part}
use Rattle.dash_model.specs.LineEffect.{LineEffect}
use Rattle.dash_model.specs.LineRows.{take_row}
use Rattle.dash_model.specs.HartRows.{PartEffect, HartEffect, on_line, quiet}
use Rattle.dash_model.specs.Row.{line_msg_row, msg_row, msg_row_if, row}
use Rattle.dash_model.specs.Ranges.{applies}
use Rattle.dash_model.specs.Guard.{TakeFits, Guard}
use Rattle.unit_rows.specs.Shown.{PartsView, Shows}
use Rattle.unit_rows.specs.Rows.{Happens}
use Rattle.unit_rows.specs.Takes.{Takes}
use Rattle.unit_rows.proofs.Lines.{Turns, shows_line}

-- what became of the hart of an event that does no instruction: it doesn't matter
pub idle : Config → HartEffect
idle w = record { need = needed.Alu; next = opening_hart w.image w.top 0 }

-- the line of a message that has one
abbrev pub its_line : Msg → Option LineId
its_line (Read l) = Some l
its_line (ReadEx l) = Some l
its_line (FwdRead l r) = Some l
its_line (FwdReadEx l r) = Some l
its_line (Inval l r) = Some l
its_line (WriteBack l d) = Some l
its_line (SharingBack l d r) = Some l
its_line (Transfer l r) = Some l
its_line (Data l d) = Some l
its_line (DataEx l d n) = Some l
its_line (Ack l) = Some l
its_line (TransferAck l) = Some l
its_line (Nak l) = Some l
its_line m = None

one_line : (k l : LineId) → Some k ≡ Some l → k ≡ l
one_line k l e = ap (λ o. unwrap_or o k) e

-- its row is that of its line, and it is always taken
record OnItsLine (w : Config) (c f : ℕ) (l : LineId) (m : Msg) (d : HartEffect) (p : Part) : Type 0 where
  fits : TakeFits w c m d p
  is : msg_row w c f m d p ≡ line_msg_row w c f l m p

on_its_line : (w : Config) (c f : ℕ) (l : LineId) (m : Msg) (d : HartEffect) (p : Part) → its_line m ≡ Some l → OnItsLine w c f l m d p
on_its_line w c f l (Read k) d p e = record { fits = tt; is = ap (λ x. line_msg_row w c f x (Read k) p) (one_line k l e) }
on_its_line w c f l (ReadEx k) d p e = record { fits = tt; is = ap (λ x. line_msg_row w c f x (ReadEx k) p) (one_line k l e) }
on_its_line w c f l (FwdRead k r) d p e = record { fits = tt; is = ap (λ x. line_msg_row w c f x (FwdRead k r) p) (one_line k l e) }
on_its_line w c f l (FwdReadEx k r) d p e = record { fits = tt; is = ap (λ x. line_msg_row w c f x (FwdReadEx k r) p) (one_line k l e) }
on_its_line w c f l (Inval k r) d p e = record { fits = tt; is = ap (λ x. line_msg_row w c f x (Inval k r) p) (one_line k l e) }
on_its_line w c f l (WriteBack k x) d p e = record { fits = tt; is = ap (λ y. line_msg_row w c f y (WriteBack k x) p) (one_line k l e) }
on_its_line w c f l (SharingBack k x r) d p e = record { fits = tt; is = ap (λ y. line_msg_row w c f y (SharingBack k x r) p) (one_line k l e) }
on_its_line w c f l (Transfer k r) d p e = record { fits = tt; is = ap (λ x. line_msg_row w c f x (Transfer k r) p) (one_line k l e) }
on_its_line w c f l (LockAsk h n word v) d p e = absurd (cc)
on_its_line w c f l (Unlock h n word) d p e = absurd (cc)
on_its_line w c f l (Data k x) d p e = record { fits = tt; is = ap (λ y. line_msg_row w c f y (Data k x) p) (one_line k l e) }
on_its_line w c f l (DataEx k x n) d p e = record { fits = tt; is = ap (λ y. line_msg_row w c f y (DataEx k x n) p) (one_line k l e) }
on_its_line w c f l (Ack k) d p e = record { fits = tt; is = ap (λ x. line_msg_row w c f x (Ack k) p) (one_line k l e) }
on_its_line w c f l (TransferAck k) d p e = record { fits = tt; is = ap (λ x. line_msg_row w c f x (TransferAck k) p) (one_line k l e) }
on_its_line w c f l (Nak k) d p e = record { fits = tt; is = ap (λ x. line_msg_row w c f x (Nak k) p) (one_line k l e) }
on_its_line w c f l (LockGrant h) d p e = absurd (cc)
on_its_line w c f l (UnlockAck h old) d p e = absurd (cc)

-- the row of a message of a line, at the line
abbrev pub turned : Config → ℕ → ClusterId → Msg → LineId → Part → LineEffect
turned w c from m l p = take_row (first_prefetch w) (home_of w l.0) c from.0 m (p.cells l.0) (p.homes l.0)

-- what a message of a line is taken for on one part
pub record TakesOn (w : Config) (c : ℕ) (from : ClusterId) (m : Msg) (l : LineId) (v z : PartsView) (sent : List Sent) (p : Part) : Type 0 where
  pub applied : applies w c m p ≡ true
  pub turns : Turns w c v z p l.0 (turned w c from m l p)
  pub sent_is : (turned w c from m l p).sent ≡ sent

at_part : (w : Config) (c : ℕ) (from : ClusterId) (m : Msg) (l : LineId) (v z : PartsView) (sent : List Sent) (p : Part) → its_line m ≡ Some l → Shows w c v p → TakesOn w c from m l v z sent p → Happens w c (kind.Take from m) (idle w) z sent p
unfolding Guard row
at_part w c from m l v z sent p e shows on =
    let at = on_its_line w c from.0 l m (idle w) p e in
    let row_is : msg_row_if (applies w c m p) w c from.0 m (idle w) p ≡ on_line w l.0 (turned w c from m l p) p = ap (λ b. msg_row_if b w c from.0 m (idle w) p) on.applied ∙ at.is in
    record {
      guard = at.fits;
      shows = subst (λ (x : PartEffect). Shows w c z x.part) (sym row_is) (shows_line w c v z p l.0 (turned w c from m l p) shows on.turns);
      sent_is = ap (λ (x : PartEffect). x.sent) row_is ∙ on.sent_is;
    }

pub takes_line : (w : Config) (c : ℕ) (from : ClusterId) (m : Msg) (l : LineId) (v z : PartsView) (sent : List Sent) → its_line m ≡ Some l → ((p : Part) → Shows w c v p → TakesOn w c from m l v z sent p) → Takes w c from m v z sent
takes_line w c from m l v z sent e on = record {
  is_of = (refl, refl);
  does = record { done = idle w; happens = λ p shows. at_part w c from m l v z sent p e shows (on p shows) };
}

-- where its row changes nothing the message only leaves its lane
passes : (w : Config) (c : ℕ) (from : ClusterId) (m : Msg) (v : PartsView) (p : Part) → Shows w c v p → TakeFits w c m (idle w) p → msg_row_if (applies w c m p) w c from.0 m (idle w) p ≡ quiet p → Happens w c (kind.Take from m) (idle w) v [] p
unfolding Guard row
passes w c from m v p shows fits row_is = record {
  guard = fits;
  shows = subst (λ (x : PartEffect). Shows w c v x.part) (sym row_is) shows;
  sent_is = ap (λ (x : PartEffect). x.sent) row_is;
}

pub takes_still : (w : Config) (c : ℕ) (from : ClusterId) (m : Msg) (v : PartsView) → ((p : Part) → Shows w c v p → TakeFits w c m (idle w) p) → ((p : Part) → Shows w c v p → msg_row_if (applies w c m p) w c from.0 m (idle w) p ≡ quiet p) → Takes w c from m v v []
takes_still w c from m v fits stays = record {
  is_of = (refl, refl);
  does = record { done = idle w; happens = λ p shows. passes w c from m v p shows (fits p shows) (stays p shows) };
}

-- as where no case applies
pub takes_nothing : (w : Config) (c : ℕ) (from : ClusterId) (m : Msg) (v : PartsView) → ((p : Part) → Shows w c v p → TakeFits w c m (idle w) p) → ((p : Part) → Shows w c v p → applies w c m p ≡ false) → Takes w c from m v v []
takes_nothing w c from m v fits none = takes_still w c from m v fits (λ p shows. ap (λ b. msg_row_if b w c from.0 m (idle w) p) (none p shows))

pub takes_no_line : (w : Config) (c : ℕ) (from : ClusterId) (m : Msg) (l : LineId) (v : PartsView) → its_line m ≡ Some l → ((p : Part) → Shows w c v p → applies w c m p ≡ false) → Takes w c from m v v []
takes_no_line w c from m l v e none = takes_nothing w c from m v (λ p shows. (on_its_line w c from.0 l m (idle w) p e).fits) none

-- the same with other words for the new parts, and for what is sent
pub taken_as : (w : Config) (c : ℕ) (from : ClusterId) (m : Msg) (v z x : PartsView) (ss ts : List Sent) → x ≡ z → ts ≡ ss → Takes w c from m v z ss → Takes w c from m v x ts
taken_as w c from m v z x ss ts e f took = subst (λ y. Takes w c from m v y ts) (sym e) (subst (λ y. Takes w c from m v z y) (sym f) took)
