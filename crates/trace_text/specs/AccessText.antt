-- The text of an access.
use Rattle.std.specs.Prelude.{ℕ, Bool, true, false, List, ◌++◌, codes, decimal}
use Rattle.std.specs.Fmt.{digits}
use Rattle.dash_event.specs.declared.access.Access.{Access}
use Rattle.dash_event.specs.declared.access.Op.{Op}
use Rattle.dash_event.specs.declared.access.Op.TheVariants as op
use Rattle.dash_event.specs.declared.access.Seen.{Seen}
use Rattle.dash_event.specs.declared.access.Seen.TheVariants as seen
use Rattle.trace_text.specs.Spelling.{space, hex, word_text}

abbrev pub op_text : Op → List ℕ
op_text op.Load = codes "load"
op_text op.Store = codes "store"
op_text op.Reserve = codes "lr"
op_text op.Cond = codes "sc"
op_text op.Amo = codes "amo"
op_text op.Ask = codes "ask"
op_text op.Unlock = codes "unlock"

abbrev pub labels_text : Bool → Bool → List ℕ
labels_text false false = codes "-"
labels_text true false = codes "a"
labels_text false true = codes "r"
labels_text true true = codes "ar"

abbrev pub seen_text : Seen → List ℕ
seen_text (seen.Line version) = codes "line " ++ decimal version
seen_text (seen.Own number) = codes "own " ++ decimal number
seen_text (seen.Lock count) = codes "lock " ++ decimal count
seen_text seen.Nothing = codes "-"

-- its hart, number, operation and labels
unfoldable pub access_head : Access → List ℕ
access_head a =
    decimal a.hart.0 ++ space ++ decimal a.number ++ space ++ op_text a.op ++ space ++ labels_text a.labels.aq a.labels.rl ++ space

-- its word and mask, what it read and what it wrote
unfoldable pub access_tail : Access → List ℕ
access_tail a =
    hex a.word.0 ++ space ++ digits 16 false a.mask ++ space ++ word_text a.read ++ space ++ word_text a.written ++ space

-- an access: its hart, number, operation, labels, word, mask, what it read, what it wrote, and what it was shown
unfoldable pub access_text : Access → List ℕ
access_text a = access_head a ++ access_tail a ++ seen_text a.seen
