-- An event is found again by the words of its line, and so by its line.
use Rattle.std.proofs.Common.{◌≡◌, ℕ, Bool, true, false, List, [], ◌∷◌, Option, length, slice_index, codes, decimal, refl, ap, sym, ◌∙◌, arith}
use Rattle.std.specs.Str.{bytes_eq}
use Rattle.dash_base.specs.declared.end.End.{End}
use Rattle.dash_base.specs.declared.end.End.TheVariants.{Running, Exited, Trapped}
use Rattle.dash_base.specs.declared.end.Trap.{Trap}
use Rattle.dash_base.specs.declared.end.Trap.TheVariants as trap
use Rattle.dash_base.specs.declared.id.ClusterId.{ClusterId}
use Rattle.dash_base.specs.declared.id.HartId.{HartId}
use Rattle.dash_base.specs.declared.id.LineId.{LineId}
use Rattle.dash_base.specs.declared.id.WordAddr.{WordAddr}
use Rattle.dash_base.specs.declared.instr.Labels.{Labels}
use Rattle.dash_base.specs.declared.line.Line.{Line}
use Rattle.dash_event.specs.declared.access.Access.{Access}
use Rattle.dash_event.specs.declared.access.Op.{Op}
use Rattle.dash_event.specs.declared.access.Op.TheVariants as op
use Rattle.dash_event.specs.declared.access.Seen.{Seen}
use Rattle.dash_event.specs.declared.access.Seen.TheVariants as seen
use Rattle.dash_event.specs.declared.event.Event.{Event}
use Rattle.dash_event.specs.declared.event.Kind.{Kind}
use Rattle.dash_event.specs.declared.event.Kind.TheVariants as kind
use Rattle.dash_msg.specs.declared.msg.Msg.{Msg}
use Rattle.dash_msg.specs.declared.msg.Msg.TheVariants.{Read, ReadEx, FwdRead, FwdReadEx, Inval, WriteBack, SharingBack, Transfer, LockAsk, Unlock, Data, DataEx, Ack, TransferAck, Nak, LockGrant, UnlockAck}
use Rattle.trace_text.specs.AccessText.{op_text, labels_text}
use Rattle.trace_text.specs.AccessWords.{seen_of, behind_seen, access_of, behind_access}
use Rattle.trace_text.specs.EventWords.{end_of, retired_of, asked_of, cached_of, passed_of, kind_of, event_of}
use Rattle.trace_text.specs.Fits.{IsShort, FitsSeen, FitsAccess, FitsLine, FitsMsg, FitsEnd, FitsKind, FitsEvent}
use Rattle.trace_text.specs.LogText.{event_line, own_text}
use Rattle.trace_text.specs.MsgWords.{copy_of, copied_msg_of, sent_for_of, line_msg_of, msg_of}
use Rattle.trace_text.specs.Spelling.{cause_text}
use Rattle.trace_text.specs.Values.{value_of, number_of, hart_of, cluster_of, line_of, address_of, op_of, labels_of, cause_of}
use Rattle.trace_text.specs.Spelling.{hex}
use Rattle.trace_text.specs.Words.{first, behind, words}
use Rattle.trace_text.proofs.Digits.{short_again, long_again, hex_again, byte_again, mask_again, content_again, slot_again}
use Rattle.trace_text.proofs.Rows.{seen_words, access_words, copy_words, msg_words, end_words, kind_words, event_words, event_row}

-- equal arguments
two : {A B C : Type 0} (f : A → B → C) {a b : A} {c d : B} → a ≡ b → c ≡ d → f a c ≡ f b d
two f p q = cc

pub three : {A B C D : Type 0} (f : A → B → C → D) {a b : A} {c d : B} {g h : C} → a ≡ b → c ≡ d → g ≡ h → f a c g ≡ f b d h
three f p q r = cc

four : {A B C D E : Type 0} (f : A → B → C → D → E) {a b : A} {c d : B} {g h : C} {i j : D}
    → a ≡ b → c ≡ d → g ≡ h → i ≡ j → f a c g i ≡ f b d h j
four f p q r s = cc

hart_again : (h : HartId) → IsShort h.0 → hart_of (decimal h.0) ≡ h
hart_again h fits = ap (λ n. record { 0 = n }) (short_again h.0 fits)

cluster_again : (c : ClusterId) → IsShort c.0 → cluster_of (decimal c.0) ≡ c
cluster_again c fits = ap (λ n. record { 0 = n }) (short_again c.0 fits)

line_again : (l : LineId) → IsShort l.0 → line_of (decimal l.0) ≡ l
line_again l fits = ap (λ n. record { 0 = n }) (short_again l.0 fits)

address_again : (w : WordAddr) → IsShort w.0 → address_of (hex w.0) ≡ w
address_again w fits = ap (λ n. record { 0 = n }) (hex_again w.0 fits)

op_again : (o : Op) → op_of (op_text o) ≡ o
unfolding op_of
op_again op.Load = refl
op_again op.Store = refl
op_again op.Reserve = refl
op_again op.Cond = refl
op_again op.Amo = refl
op_again op.Ask = refl
op_again op.Unlock = refl

labels_by_bits : (aq rl : Bool) → labels_of (labels_text aq rl) ≡ record { aq = aq; rl = rl }
unfolding labels_of
labels_by_bits false false = refl
labels_by_bits true false = refl
labels_by_bits false true = refl
labels_by_bits true true = refl

cause_again : (t : Trap) → cause_of (cause_text t) ≡ t
unfolding cause_of
cause_again trap.Illegal = refl
cause_again trap.Misaligned = refl
cause_again trap.Unmapped = refl
cause_again trap.ReadOnly = refl
cause_again trap.Fetch = refl
cause_again trap.LockUse = refl
cause_again trap.BadCall = refl
cause_again trap.Break = refl

own_again : (own : Bool) → bytes_eq (own_text own) (codes "own") ≡ own
own_again true = refl
own_again false = refl

seen_again : (s : Seen) (ws : List (List ℕ)) → FitsSeen s → seen_of (seen_words s ws) ≡ s
unfolding seen_of
seen_again (seen.Line version) ws fits = ap seen.Line (long_again version fits)
seen_again (seen.Own number) ws fits = ap seen.Own (short_again number fits)
seen_again (seen.Lock count) ws fits = ap seen.Lock (long_again count fits)
seen_again seen.Nothing ws fits = refl

seen_passed : (s : Seen) (ws : List (List ℕ)) → behind_seen (seen_words s ws) ≡ ws
unfolding behind_seen
seen_passed (seen.Line version) ws = refl
seen_passed (seen.Own number) ws = refl
seen_passed (seen.Lock count) ws = refl
seen_passed seen.Nothing ws = refl

-- an access of equal fields
make : HartId → ℕ → Op → Labels → WordAddr → ℕ → Option ℕ → Option ℕ → Seen → Access
make hart number op labels word mask read written seen = record {
  hart = hart;
  number = number;
  op = op;
  labels = labels;
  word = word;
  mask = mask;
  read = read;
  written = written;
  seen = seen;
}

nine : {h i : HartId} {n m : ℕ} {o p : Op} {l k : Labels} {w v : WordAddr} {a b : ℕ} {r q : Option ℕ} {t u : Option ℕ} {s z : Seen}
    → h ≡ i → n ≡ m → o ≡ p → l ≡ k → w ≡ v → a ≡ b → r ≡ q → t ≡ u → s ≡ z
    → make h n o l w a r t s ≡ make i m p k v b q u z
nine e1 e2 e3 e4 e5 e6 e7 e8 e9 = cc

access_again : (a : Access) (ws : List (List ℕ)) → FitsAccess a → access_of (access_words a ws) ≡ a
unfolding access_of make
access_again a ws fits =
    nine (hart_again a.hart fits.hart) (short_again a.number fits.number) (op_again a.op) (labels_by_bits a.labels.aq a.labels.rl)
    (address_again a.word fits.word) (mask_again a.mask fits.mask) (content_again a.read fits.read) (content_again a.written fits.written)
    (seen_again a.seen ws fits.seen)

access_passed : (a : Access) (ws : List (List ℕ)) → behind_access (access_words a ws) ≡ ws
unfolding behind_access
access_passed a ws = seen_passed a.seen ws

four_words : (xs : List ℕ) → length xs ≡ 4 → slice_index xs 0 ∷ slice_index xs 1 ∷ slice_index xs 2 ∷ slice_index xs 3 ∷ [] ≡ xs
four_words (a ∷ b ∷ c ∷ d ∷ []) four = refl
four_words [] four = absurd (omega arith)
four_words (a ∷ []) four = absurd (omega arith)
four_words (a ∷ b ∷ []) four = absurd (omega arith)
four_words (a ∷ b ∷ c ∷ []) four = absurd (omega arith)
four_words (a ∷ b ∷ c ∷ d ∷ e ∷ xs) four = absurd (omega arith)

fill : ℕ → ℕ → ℕ → ℕ → List ℕ
fill a b c d = a ∷ b ∷ c ∷ d ∷ []

line : List ℕ → ℕ → Line
line ws version = record { words = ws; version = version }

copy_again : (d : Line) (ws : List (List ℕ)) → FitsLine d → copy_of (copy_words d ws) ≡ d
unfolding copy_of fill line
copy_again d ws fits =
    two line
    (four fill (hex_again _ (fits.words 0)) (hex_again _ (fits.words 1)) (hex_again _ (fits.words 2)) (hex_again _ (fits.words 3)) ∙ four_words d.words fits.four)
    (long_again d.version fits.version)

msg_again : (m : Msg) → FitsMsg m → msg_of (msg_words m) ≡ m
unfolding msg_of line_msg_of sent_for_of copied_msg_of
msg_again (Read line) fits = ap Read (line_again line fits)
msg_again (ReadEx line) fits = ap ReadEx (line_again line fits)
msg_again (FwdRead line to) fits = two FwdRead (line_again line fits.0) (cluster_again to fits.1)
msg_again (FwdReadEx line to) fits = two FwdReadEx (line_again line fits.0) (cluster_again to fits.1)
msg_again (Inval line to) fits = two Inval (line_again line fits.0) (cluster_again to fits.1)
msg_again (WriteBack line copy) fits = two WriteBack (line_again line fits.0) (copy_again copy [] fits.1)
msg_again (SharingBack line copy to) fits =
    three SharingBack (line_again line fits.0) (copy_again copy (decimal to.0 ∷ []) fits.1) (cluster_again to fits.2)
msg_again (Transfer line to) fits = two Transfer (line_again line fits.0) (cluster_again to fits.1)
msg_again (LockAsk hart number word value) fits =
    four LockAsk (hart_again hart fits.0) (short_again number fits.1) (address_again word fits.2) (hex_again value fits.3)
msg_again (Unlock hart number word) fits =
    three Unlock (hart_again hart fits.0) (short_again number fits.1) (address_again word fits.2)
msg_again (Data line copy) fits = two Data (line_again line fits.0) (copy_again copy [] fits.1)
msg_again (DataEx line copy count) fits =
    three DataEx (line_again line fits.0) (copy_again copy (decimal count ∷ []) fits.1) (short_again count fits.2)
msg_again (Ack line) fits = ap Ack (line_again line fits)
msg_again (TransferAck line) fits = ap TransferAck (line_again line fits)
msg_again (Nak line) fits = ap Nak (line_again line fits)
msg_again (LockGrant hart) fits = ap LockGrant (hart_again hart fits)
msg_again (UnlockAck hart old) fits = two UnlockAck (hart_again hart fits.0) (hex_again old fits.1)

end_again : (e : End) → FitsEnd e → end_of (end_words e) ≡ e
unfolding end_of
end_again (Exited code) fits = ap Exited (hex_again code fits)
end_again (Trapped cause value) fits = two Trapped (cause_again cause) (hex_again value fits)
end_again Running fits = refl

kind_again : (k : Kind) → FitsKind k → kind_of (kind_words k) ≡ k
unfolding kind_of passed_of cached_of asked_of retired_of
kind_again (kind.Alu hart pc) fits = two kind.Alu (hart_again hart fits.0) (hex_again pc fits.1)
kind_again (kind.Fence hart pc) fits = two kind.Fence (hart_again hart fits.0) (hex_again pc fits.1)
kind_again (kind.Hint hart pc slot) fits = three kind.Hint (hart_again hart fits.0) (hex_again pc fits.1) (slot_again slot fits.2)
kind_again (kind.Put hart pc byte) fits = three kind.Put (hart_again hart fits.0) (hex_again pc fits.1) (byte_again byte fits.2)
kind_again (kind.Stop hart pc end) fits = three kind.Stop (hart_again hart fits.0) (hex_again pc fits.1) (end_again end fits.2)
kind_again (kind.Load access level) fits =
    two kind.Load (access_again access (decimal level ∷ []) fits.0)
    (ap (λ ws. number_of (first ws)) (access_passed access (decimal level ∷ [])) ∙ short_again level fits.1)
kind_again (kind.Store access) fits = ap kind.Store (access_again access [] fits)
kind_again (kind.Commit hart number line version) fits =
    four kind.Commit (hart_again hart fits.0) (short_again number fits.1) (line_again line fits.2) (long_again version fits.3)
kind_again (kind.Rmw access line version) fits =
    let others : List (List ℕ) = decimal line.0 ∷ decimal version ∷ [] in
    three kind.Rmw (access_again access others fits.0)
    (ap (λ ws. line_of (first ws)) (access_passed access others) ∙ line_again line fits.1)
    (ap (λ ws. value_of 10 (first (behind ws))) (access_passed access others) ∙ long_again version fits.2)
kind_again (kind.ScFail access) fits = ap kind.ScFail (access_again access [] fits)
kind_again (kind.LockSend hart msg) fits = two kind.LockSend (hart_again hart fits.0) (msg_again msg fits.1)
kind_again (kind.BusRead hart line) fits = two kind.BusRead (hart_again hart fits.0) (line_again line fits.1)
kind_again (kind.BusOwn hart line) fits = two kind.BusOwn (hart_again hart fits.0) (line_again line fits.1)
kind_again (kind.Evict hart line) fits = two kind.Evict (hart_again hart fits.0) (line_again line fits.1)
kind_again (kind.Ask slot hart line own) fits =
    four kind.Ask (short_again slot fits.0) (hart_again hart fits.1) (line_again line fits.2) (own_again own)
kind_again (kind.Again slot line) fits = two kind.Again (short_again slot fits.0) (line_again line fits.1)
kind_again (kind.Install slot hart line) fits =
    three kind.Install (short_again slot fits.0) (hart_again hart fits.1) (line_again line fits.2)
kind_again (kind.Grant access) fits = ap kind.Grant (access_again access [] fits)
kind_again (kind.Free from access) fits = two kind.Free (cluster_again from fits.0) (access_again access [] fits.1)
kind_again (kind.Take from msg) fits = two kind.Take (cluster_again from fits.0) (msg_again msg fits.1)

unfoldable pub happened : ℕ → ClusterId → Kind → Event
happened stamp cluster kind = record { stamp = stamp; cluster = cluster; kind = kind }

-- by the words of its line
event_again : (e : Event) → FitsEvent e → event_of (event_words e) ≡ e
unfolding event_of happened
event_again e fits =
    three happened (long_again e.stamp fits.stamp) (cluster_again e.cluster fits.cluster) (kind_again e.kind fits.kind)

-- an event is found again by its line
pub line_tells : (e : Event) (line : List ℕ) → FitsEvent e → event_line e ≡ line → event_of (words line) ≡ e
line_tells e line fits is =
    ap (λ text. event_of (words text)) (sym is) ∙ ap event_of (event_row e fits).cut ∙ event_again e fits
