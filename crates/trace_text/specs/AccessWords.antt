-- The access that words stand for, if they stand for one.
use Rattle.std.specs.Prelude.{ℕ, ◌%◌, List, codes, if◌then◌else◌}
use Rattle.std.specs.Str.{bytes_eq}
use Rattle.dash_event.specs.declared.access.Access.{Access}
use Rattle.dash_event.specs.declared.access.Seen.{Seen}
use Rattle.dash_event.specs.declared.access.Seen.TheVariants as seen
use Rattle.trace_text.specs.Words.{first, behind}
use Rattle.trace_text.specs.Values.{value_of, number_of, hex_of, hart_of, address_of, content_of, op_of, labels_of}

-- what was shown: one word where nothing was, and else two
unfoldable pub seen_of : List (List ℕ) → Seen
seen_of ws =
    let name = first ws in
    let number = first (behind ws) in
    if bytes_eq name (codes "line") then seen.Line (value_of 10 number)
    else if bytes_eq name (codes "own") then seen.Own (number_of number)
    else if bytes_eq name (codes "lock") then seen.Lock (value_of 10 number)
    else seen.Nothing

-- the words behind it
unfoldable pub behind_seen : List (List ℕ) → List (List ℕ)
behind_seen ws =
    let name = first ws in
    if bytes_eq name (codes "line") then behind (behind ws)
    else if bytes_eq name (codes "own") then behind (behind ws)
    else if bytes_eq name (codes "lock") then behind (behind ws)
    else behind ws

-- the words from the operation's on, from the mask's on, and from those of what was shown on
abbrev pub from_op : List (List ℕ) → List (List ℕ)
from_op ws = behind (behind ws)

abbrev pub from_mask : List (List ℕ) → List (List ℕ)
from_mask ws = behind (behind (behind (from_op ws)))

abbrev pub from_seen : List (List ℕ) → List (List ℕ)
from_seen ws = behind (behind (behind (from_mask ws)))

-- an access, by its words in order
unfoldable pub access_of : List (List ℕ) → Access
access_of ws = record {
  hart = hart_of (first ws);
  number = number_of (first (behind ws));
  op = op_of (first (from_op ws));
  labels = labels_of (first (behind (from_op ws)));
  word = address_of (first (behind (behind (from_op ws))));
  mask = hex_of (first (from_mask ws)) % 16;
  read = content_of (first (behind (from_mask ws)));
  written = content_of (first (behind (behind (from_mask ws))));
  seen = seen_of (from_seen ws);
}

-- the words behind it
unfoldable pub behind_access : List (List ℕ) → List (List ℕ)
behind_access ws = behind_seen (from_seen ws)
