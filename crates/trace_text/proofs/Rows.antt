-- The words of a line are its name and its fields.
use Rattle.std.proofs.Common.{◌≡◌, ℕ, ◌^◌, ◌<◌, Bool, true, false, List, [], ◌∷◌, ◌++◌, codes, decimal, slice_index, refl, ap, ◌∙◌, append_assoc}
use Rattle.std.specs.Fmt.{digits}
use Rattle.dash_base.specs.declared.end.End.{End}
use Rattle.dash_base.specs.declared.end.End.TheVariants.{Running, Exited, Trapped}
use Rattle.dash_base.specs.declared.end.Trap.{Trap}
use Rattle.dash_base.specs.declared.end.Trap.TheVariants as trap
use Rattle.dash_base.specs.declared.line.Line.{Line}
use Rattle.dash_event.specs.declared.access.Access.{Access}
use Rattle.dash_event.specs.declared.access.Op.{Op}
use Rattle.dash_event.specs.declared.access.Op.TheVariants as op
use Rattle.dash_event.specs.declared.access.Seen.{Seen}
use Rattle.dash_event.specs.declared.access.Seen.TheVariants as seen
use Rattle.dash_event.specs.declared.event.Event.{Event}
use Rattle.dash_event.specs.declared.event.Kind.{Kind}
use Rattle.dash_event.specs.declared.event.Kind.TheVariants as kind
use Rattle.dash_msg.specs.declared.msg.Msg.{Msg}
use Rattle.dash_msg.specs.declared.msg.Msg.TheVariants.{Read, ReadEx, FwdRead, FwdReadEx, Inval, WriteBack, SharingBack, Transfer, LockAsk, Unlock, Data, DataEx, Ack, TransferAck, Nak, LockGrant, UnlockAck}
use Rattle.trace_text.specs.AccessText.{op_text, labels_text, seen_text, access_head, access_tail, access_text}
use Rattle.trace_text.specs.Fits.{FitsSeen, FitsAccess, FitsLine, FitsMsg, FitsEnd, FitsKind, FitsEvent}
use Rattle.trace_text.specs.LogText.{end_text, own_text, kind_text, event_line}
use Rattle.trace_text.specs.MsgText.{copy_text, msg_text}
use Rattle.trace_text.specs.Spelling.{hex, hex_byte, word_text, number_text, cause_text}
use Rattle.trace_text.specs.Words.{is_mark, words}
use Rattle.trace_text.proofs.Cuts.{is_word, word_then}
use Rattle.trace_text.proofs.OneLine.{ends_once, space_once, newline_once, word_once}
use Rattle.trace_text.proofs.Digits.{short_word, decimal_word, hex_word, byte_word, mask_word, content_word, slot_word}

-- the words of a text, the only newline of which is its last byte
pub record Row (text : List ℕ) (ws : List (List ℕ)) : Type 0 where
  pub cut : words text ≡ ws
  pub once : ends_once text ≡ true

-- what stands behind a word: a mark, and a text of these words
record Follows (mark : ℕ) (rest : List ℕ) (ws : List (List ℕ)) : Type 0 where
  ends : is_mark mark ≡ true
  cut : words rest ≡ ws
  once : ends_once (mark ∷ rest) ≡ true

at_space : (rest : List ℕ) (ws : List (List ℕ)) → Row rest ws → Follows 32 rest ws
at_space rest ws row = record { ends = refl; cut = row.cut; once = space_once rest ∙ row.once }

at_end : Follows 10 [] []
unfolding words
at_end = record { ends = refl; cut = refl; once = newline_once }

-- a word in front of others
then : (w : List ℕ) (mark : ℕ) (rest : List ℕ) (ws : List (List ℕ)) → is_word w ≡ true → Follows mark rest ws → Row (w ++ mark ∷ rest) (w ∷ ws)
then w mark rest ws word follows = record {
  cut = word_then w mark rest word follows.ends ∙ ap (λ vs. w ∷ vs) follows.cut;
  once = word_once w (mark ∷ rest) word ∙ follows.once;
}

-- a word and a space in front of other words
spaced : (w rest : List ℕ) (ws : List (List ℕ)) → is_word w ≡ true → Row rest ws → Row (w ++ 32 ∷ rest) (w ∷ ws)
spaced w rest ws word others = then w 32 rest ws word (at_space rest ws others)

-- a word and the newline
last : (w : List ℕ) → is_word w ≡ true → Row (w ++ 10 ∷ []) (w ∷ [])
last w word = then w 10 [] [] word at_end

op_word : (o : Op) → is_word (op_text o) ≡ true
unfolding is_word
op_word op.Load = refl
op_word op.Store = refl
op_word op.Reserve = refl
op_word op.Cond = refl
op_word op.Amo = refl
op_word op.Ask = refl
op_word op.Unlock = refl

labels_word : (aq rl : Bool) → is_word (labels_text aq rl) ≡ true
unfolding is_word
labels_word false false = refl
labels_word true false = refl
labels_word false true = refl
labels_word true true = refl

cause_word : (t : Trap) → is_word (cause_text t) ≡ true
unfolding is_word
cause_word trap.Illegal = refl
cause_word trap.Misaligned = refl
cause_word trap.Unmapped = refl
cause_word trap.ReadOnly = refl
cause_word trap.Fetch = refl
cause_word trap.LockUse = refl
cause_word trap.BadCall = refl
cause_word trap.Break = refl

own_word : (own : Bool) → is_word (own_text own) ≡ true
unfolding is_word
own_word true = refl
own_word false = refl

-- the words of what an access was shown, in front of others
abbrev pub seen_words : Seen → List (List ℕ) → List (List ℕ)
seen_words (seen.Line version) ws = codes "line" ∷ decimal version ∷ ws
seen_words (seen.Own number) ws = codes "own" ∷ decimal number ∷ ws
seen_words (seen.Lock count) ws = codes "lock" ∷ decimal count ∷ ws
seen_words seen.Nothing ws = codes "-" ∷ ws

-- those of an access
abbrev pub access_words : Access → List (List ℕ) → List (List ℕ)
access_words a ws =
    decimal a.hart.0 ∷ decimal a.number ∷ op_text a.op ∷ labels_text a.labels.aq a.labels.rl ∷ hex a.word.0 ∷ digits 16 false a.mask
    ∷ word_text a.read ∷ word_text a.written ∷ seen_words a.seen ws

seen_row : (s : Seen) (mark : ℕ) (rest : List ℕ) (ws : List (List ℕ)) → FitsSeen s → Follows mark rest ws
    → Row (seen_text s ++ mark ∷ rest) (seen_words s ws)
unfolding is_word
seen_row (seen.Line version) mark rest ws fits follows =
    spaced (codes "line") _ _ refl (then (decimal version) mark rest ws (decimal_word version fits) follows)
seen_row (seen.Own number) mark rest ws fits follows =
    spaced (codes "own") _ _ refl (then (decimal number) mark rest ws (short_word number fits) follows)
seen_row (seen.Lock count) mark rest ws fits follows =
    spaced (codes "lock") _ _ refl (then (decimal count) mark rest ws (decimal_word count fits) follows)
seen_row seen.Nothing mark rest ws fits follows = then (codes "-") mark rest ws refl follows

access_row : (a : Access) (mark : ℕ) (rest : List ℕ) (ws : List (List ℕ)) → FitsAccess a → Follows mark rest ws
    → Row (access_text a ++ mark ∷ rest) (access_words a ws)
unfolding access_text access_head access_tail
access_row a mark rest ws fits follows =
    simp append_assoc (
    spaced _ _ _ (short_word a.hart.0 fits.hart) (
    spaced _ _ _ (short_word a.number fits.number) (
    spaced _ _ _ (op_word a.op) (
    spaced _ _ _ (labels_word a.labels.aq a.labels.rl) (
    spaced _ _ _ (hex_word a.word.0 fits.word) (
    spaced _ _ _ (mask_word a.mask fits.mask) (
    spaced _ _ _ (content_word a.read fits.read) (
    spaced _ _ _ (content_word a.written fits.written) (
    seen_row a.seen mark rest ws fits.seen follows)))))))))

-- those of a line's content
abbrev pub copy_words : Line → List (List ℕ) → List (List ℕ)
copy_words d ws =
    hex (slice_index d.words 0) ∷ hex (slice_index d.words 1) ∷ hex (slice_index d.words 2) ∷ hex (slice_index d.words 3) ∷ decimal d.version ∷ ws

copy_row : (d : Line) (mark : ℕ) (rest : List ℕ) (ws : List (List ℕ)) → FitsLine d → Follows mark rest ws
    → Row (copy_text d ++ mark ∷ rest) (copy_words d ws)
unfolding copy_text
copy_row d mark rest ws fits follows =
    simp append_assoc (
    spaced _ _ _ (hex_word _ (fits.words 0)) (
    spaced _ _ _ (hex_word _ (fits.words 1)) (
    spaced _ _ _ (hex_word _ (fits.words 2)) (
    spaced _ _ _ (hex_word _ (fits.words 3)) (
    then (decimal d.version) mark rest ws (decimal_word d.version fits.version) follows)))))

-- those of a message, which ends its line
abbrev pub msg_words : Msg → List (List ℕ)
msg_words (Read line) = codes "read" ∷ decimal line.0 ∷ []
msg_words (ReadEx line) = codes "readex" ∷ decimal line.0 ∷ []
msg_words (FwdRead line to) = codes "fwdread" ∷ decimal line.0 ∷ decimal to.0 ∷ []
msg_words (FwdReadEx line to) = codes "fwdreadex" ∷ decimal line.0 ∷ decimal to.0 ∷ []
msg_words (Inval line to) = codes "inval" ∷ decimal line.0 ∷ decimal to.0 ∷ []
msg_words (WriteBack line copy) = codes "writeback" ∷ decimal line.0 ∷ copy_words copy []
msg_words (SharingBack line copy to) = codes "sharingback" ∷ decimal line.0 ∷ copy_words copy (decimal to.0 ∷ [])
msg_words (Transfer line to) = codes "transfer" ∷ decimal line.0 ∷ decimal to.0 ∷ []
msg_words (LockAsk hart number word value) = codes "lockask" ∷ decimal hart.0 ∷ decimal number ∷ hex word.0 ∷ hex value ∷ []
msg_words (Unlock hart number word) = codes "unlock" ∷ decimal hart.0 ∷ decimal number ∷ hex word.0 ∷ []
msg_words (Data line copy) = codes "data" ∷ decimal line.0 ∷ copy_words copy []
msg_words (DataEx line copy count) = codes "dataex" ∷ decimal line.0 ∷ copy_words copy (decimal count ∷ [])
msg_words (Ack line) = codes "ack" ∷ decimal line.0 ∷ []
msg_words (TransferAck line) = codes "transferack" ∷ decimal line.0 ∷ []
msg_words (Nak line) = codes "nak" ∷ decimal line.0 ∷ []
msg_words (LockGrant hart) = codes "lockgrant" ∷ decimal hart.0 ∷ []
msg_words (UnlockAck hart old) = codes "unlockack" ∷ decimal hart.0 ∷ hex old ∷ []

-- a name and one number
one_number : (name : List ℕ) (n : ℕ) → is_word name ≡ true → n < 2 ^ 32 → Row (name ++ 32 ∷ (decimal n ++ 10 ∷ [])) (name ∷ decimal n ∷ [])
one_number name n word fits = spaced name _ _ word (last (decimal n) (short_word n fits))

-- a name and two numbers
two_numbers : (name : List ℕ) (m n : ℕ) → is_word name ≡ true → m < 2 ^ 32 → n < 2 ^ 32
    → Row (name ++ 32 ∷ (decimal m ++ 32 ∷ (decimal n ++ 10 ∷ []))) (name ∷ decimal m ∷ decimal n ∷ [])
two_numbers name m n word m_fits n_fits = spaced name _ _ word (spaced _ _ _ (short_word m m_fits) (last (decimal n) (short_word n n_fits)))

msg_row : (m : Msg) → FitsMsg m → Row (msg_text m ++ 10 ∷ []) (msg_words m)
unfolding is_word
msg_row (Read line) fits = one_number (codes "read") line.0 refl fits
msg_row (ReadEx line) fits = one_number (codes "readex") line.0 refl fits
msg_row (FwdRead line to) fits = simp append_assoc (two_numbers (codes "fwdread") line.0 to.0 refl fits.0 fits.1)
msg_row (FwdReadEx line to) fits = simp append_assoc (two_numbers (codes "fwdreadex") line.0 to.0 refl fits.0 fits.1)
msg_row (Inval line to) fits = simp append_assoc (two_numbers (codes "inval") line.0 to.0 refl fits.0 fits.1)
msg_row (WriteBack line copy) fits =
    simp append_assoc (spaced (codes "writeback") _ _ refl (spaced _ _ _ (short_word line.0 fits.0) (copy_row copy 10 [] [] fits.1 at_end)))
msg_row (SharingBack line copy to) fits =
    simp append_assoc (spaced (codes "sharingback") _ _ refl (
    spaced _ _ _ (short_word line.0 fits.0) (copy_row copy 32 _ _ fits.1 (at_space _ _ (last (decimal to.0) (short_word to.0 fits.2))))))
msg_row (Transfer line to) fits = simp append_assoc (two_numbers (codes "transfer") line.0 to.0 refl fits.0 fits.1)
msg_row (LockAsk hart number word value) fits =
    simp append_assoc (spaced (codes "lockask") _ _ refl (
    spaced _ _ _ (short_word hart.0 fits.0) (
    spaced _ _ _ (short_word number fits.1) (
    spaced _ _ _ (hex_word word.0 fits.2) (last (hex value) (hex_word value fits.3))))))
msg_row (Unlock hart number word) fits =
    simp append_assoc (spaced (codes "unlock") _ _ refl (
    spaced _ _ _ (short_word hart.0 fits.0) (
    spaced _ _ _ (short_word number fits.1) (last (hex word.0) (hex_word word.0 fits.2)))))
msg_row (Data line copy) fits =
    simp append_assoc (spaced (codes "data") _ _ refl (spaced _ _ _ (short_word line.0 fits.0) (copy_row copy 10 [] [] fits.1 at_end)))
msg_row (DataEx line copy count) fits =
    simp append_assoc (spaced (codes "dataex") _ _ refl (
    spaced _ _ _ (short_word line.0 fits.0) (copy_row copy 32 _ _ fits.1 (at_space _ _ (last (decimal count) (short_word count fits.2))))))
msg_row (Ack line) fits = one_number (codes "ack") line.0 refl fits
msg_row (TransferAck line) fits = one_number (codes "transferack") line.0 refl fits
msg_row (Nak line) fits = one_number (codes "nak") line.0 refl fits
msg_row (LockGrant hart) fits = one_number (codes "lockgrant") hart.0 refl fits
msg_row (UnlockAck hart old) fits =
    simp append_assoc (spaced (codes "unlockack") _ _ refl (spaced _ _ _ (short_word hart.0 fits.0) (last (hex old) (hex_word old fits.1))))

-- those of how a hart ended
abbrev pub end_words : End → List (List ℕ)
end_words (Exited code) = codes "exit" ∷ hex code ∷ []
end_words (Trapped cause value) = codes "trap" ∷ cause_text cause ∷ hex value ∷ []
end_words Running = codes "running" ∷ []

end_row : (e : End) → FitsEnd e → Row (end_text e ++ 10 ∷ []) (end_words e)
unfolding is_word
end_row (Exited code) fits = spaced (codes "exit") _ _ refl (last (hex code) (hex_word code fits))
end_row (Trapped cause value) fits =
    simp append_assoc (spaced (codes "trap") _ _ refl (spaced _ _ _ (cause_word cause) (last (hex value) (hex_word value fits))))
end_row Running fits = last (codes "running") refl

-- those of what happened
abbrev pub kind_words : Kind → List (List ℕ)
kind_words (kind.Alu hart pc) = codes "alu" ∷ decimal hart.0 ∷ hex pc ∷ []
kind_words (kind.Fence hart pc) = codes "fence" ∷ decimal hart.0 ∷ hex pc ∷ []
kind_words (kind.Hint hart pc slot) = codes "hint" ∷ decimal hart.0 ∷ hex pc ∷ number_text slot ∷ []
kind_words (kind.Put hart pc byte) = codes "put" ∷ decimal hart.0 ∷ hex pc ∷ hex_byte byte ∷ []
kind_words (kind.Stop hart pc end) = codes "stop" ∷ decimal hart.0 ∷ hex pc ∷ end_words end
kind_words (kind.Load access level) = codes "load" ∷ access_words access (decimal level ∷ [])
kind_words (kind.Store access) = codes "store" ∷ access_words access []
kind_words (kind.Commit hart number line version) =
    codes "commit" ∷ decimal hart.0 ∷ decimal number ∷ decimal line.0 ∷ decimal version ∷ []
kind_words (kind.Rmw access line version) = codes "rmw" ∷ access_words access (decimal line.0 ∷ decimal version ∷ [])
kind_words (kind.ScFail access) = codes "scfail" ∷ access_words access []
kind_words (kind.LockSend hart msg) = codes "locksend" ∷ decimal hart.0 ∷ msg_words msg
kind_words (kind.BusRead hart line) = codes "busread" ∷ decimal hart.0 ∷ decimal line.0 ∷ []
kind_words (kind.BusOwn hart line) = codes "busown" ∷ decimal hart.0 ∷ decimal line.0 ∷ []
kind_words (kind.Evict hart line) = codes "evict" ∷ decimal hart.0 ∷ decimal line.0 ∷ []
kind_words (kind.Ask slot hart line own) = codes "ask" ∷ decimal slot ∷ decimal hart.0 ∷ decimal line.0 ∷ own_text own ∷ []
kind_words (kind.Again slot line) = codes "again" ∷ decimal slot ∷ decimal line.0 ∷ []
kind_words (kind.Install slot hart line) = codes "install" ∷ decimal slot ∷ decimal hart.0 ∷ decimal line.0 ∷ []
kind_words (kind.Grant access) = codes "grant" ∷ access_words access []
kind_words (kind.Free from access) = codes "free" ∷ decimal from.0 ∷ access_words access []
kind_words (kind.Take from msg) = codes "take" ∷ decimal from.0 ∷ msg_words msg

-- a name, a hart and an address in front of other words
at_pc_row : (name : List ℕ) (hart pc : ℕ) (rest : List ℕ) (ws : List (List ℕ)) → is_word name ≡ true → hart < 2 ^ 32 → pc < 2 ^ 32
    → Row rest ws → Row (name ++ 32 ∷ (decimal hart ++ 32 ∷ (hex pc ++ 32 ∷ rest))) (name ∷ decimal hart ∷ hex pc ∷ ws)
at_pc_row name hart pc rest ws word hart_fits pc_fits others =
    spaced name _ _ word (spaced _ _ _ (short_word hart hart_fits) (spaced _ _ _ (hex_word pc pc_fits) others))

kind_row : (k : Kind) → FitsKind k → Row (kind_text k ++ 10 ∷ []) (kind_words k)
unfolding is_word
kind_row (kind.Alu hart pc) fits =
    simp append_assoc (spaced (codes "alu") _ _ refl (spaced _ _ _ (short_word hart.0 fits.0) (last (hex pc) (hex_word pc fits.1))))
kind_row (kind.Fence hart pc) fits =
    simp append_assoc (spaced (codes "fence") _ _ refl (spaced _ _ _ (short_word hart.0 fits.0) (last (hex pc) (hex_word pc fits.1))))
kind_row (kind.Hint hart pc slot) fits =
    simp append_assoc (at_pc_row (codes "hint") hart.0 pc _ _ refl fits.0 fits.1 (last (number_text slot) (slot_word slot fits.2)))
kind_row (kind.Put hart pc byte) fits =
    simp append_assoc (at_pc_row (codes "put") hart.0 pc _ _ refl fits.0 fits.1 (last (hex_byte byte) (byte_word byte fits.2)))
kind_row (kind.Stop hart pc end) fits =
    simp append_assoc (at_pc_row (codes "stop") hart.0 pc _ _ refl fits.0 fits.1 (end_row end fits.2))
kind_row (kind.Load access level) fits =
    simp append_assoc (spaced (codes "load") _ _ refl (access_row access 32 _ _ fits.0 (at_space _ _ (last (decimal level) (short_word level fits.1)))))
kind_row (kind.Store access) fits = spaced (codes "store") _ _ refl (access_row access 10 [] [] fits at_end)
kind_row (kind.Commit hart number line version) fits =
    simp append_assoc (spaced (codes "commit") _ _ refl (
    spaced _ _ _ (short_word hart.0 fits.0) (
    spaced _ _ _ (short_word number fits.1) (
    spaced _ _ _ (short_word line.0 fits.2) (last (decimal version) (decimal_word version fits.3))))))
kind_row (kind.Rmw access line version) fits =
    simp append_assoc (spaced (codes "rmw") _ _ refl (access_row access 32 _ _ fits.0 (at_space _ _ (
    spaced _ _ _ (short_word line.0 fits.1) (last (decimal version) (decimal_word version fits.2))))))
kind_row (kind.ScFail access) fits = spaced (codes "scfail") _ _ refl (access_row access 10 [] [] fits at_end)
kind_row (kind.LockSend hart msg) fits =
    simp append_assoc (spaced (codes "locksend") _ _ refl (spaced _ _ _ (short_word hart.0 fits.0) (msg_row msg fits.1)))
kind_row (kind.BusRead hart line) fits = simp append_assoc (two_numbers (codes "busread") hart.0 line.0 refl fits.0 fits.1)
kind_row (kind.BusOwn hart line) fits = simp append_assoc (two_numbers (codes "busown") hart.0 line.0 refl fits.0 fits.1)
kind_row (kind.Evict hart line) fits = simp append_assoc (two_numbers (codes "evict") hart.0 line.0 refl fits.0 fits.1)
kind_row (kind.Ask slot hart line own) fits =
    simp append_assoc (spaced (codes "ask") _ _ refl (
    spaced _ _ _ (short_word slot fits.0) (
    spaced _ _ _ (short_word hart.0 fits.1) (
    spaced _ _ _ (short_word line.0 fits.2) (last (own_text own) (own_word own))))))
kind_row (kind.Again slot line) fits = simp append_assoc (two_numbers (codes "again") slot line.0 refl fits.0 fits.1)
kind_row (kind.Install slot hart line) fits =
    simp append_assoc (spaced (codes "install") _ _ refl (
    spaced _ _ _ (short_word slot fits.0) (
    spaced _ _ _ (short_word hart.0 fits.1) (last (decimal line.0) (short_word line.0 fits.2)))))
kind_row (kind.Grant access) fits = spaced (codes "grant") _ _ refl (access_row access 10 [] [] fits at_end)
kind_row (kind.Free from access) fits =
    simp append_assoc (spaced (codes "free") _ _ refl (spaced _ _ _ (short_word from.0 fits.0) (access_row access 10 [] [] fits.1 at_end)))
kind_row (kind.Take from msg) fits =
    simp append_assoc (spaced (codes "take") _ _ refl (spaced _ _ _ (short_word from.0 fits.0) (msg_row msg fits.1)))

-- those of a line
abbrev pub event_words : Event → List (List ℕ)
event_words e = decimal e.stamp ∷ decimal e.cluster.0 ∷ kind_words e.kind

pub event_row : (e : Event) → FitsEvent e → Row (event_line e) (event_words e)
unfolding event_line
event_row e fits =
    simp append_assoc (spaced _ _ _ (decimal_word e.stamp fits.stamp) (
    spaced _ _ _ (short_word e.cluster.0 fits.cluster) (kind_row e.kind fits.kind)))
