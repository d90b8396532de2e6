-- A host in memory, as contracts see it: which calls fail, and what each call leaves.
use Rattle.std.specs.Prelude.{ℕ, ◌+◌, List, ◌++◌, length, map, Bool, if◌then◌else◌, ◌||◌, ◌==◌, nat_lt, is_none, Option, Result, Ok, Err, string_bytes, String, Vec}
use Rattle.std.specs.BTreeMap.{BTreeMap, is_at}
use Rattle.std.specs.Cmp.Lexicographic.{slice_cmp}
use Rattle.std.specs.List.{list_any}
use Rattle.std.specs.Ordering.{nat_cmp}
use Rattle.std.specs.Map.{lookup}
use Rattle.dash_base.specs.Outside.{Printed, on, last_count}
use Rattle.dash_base.specs.declared.host.LoadFault.{LoadFault}
use Rattle.dash_base.specs.declared.host.LoadFault.TheVariants as fault
use Rattle.dash_base.specs.declared.host.Stream.{Stream}
use Rattle.dash_base.specs.declared.host.Stream.TheVariants as stream

-- files by their names, the numbers of the calls that fail, how many calls there were, the room of each stream, what was printed, and the counts of faults
pub record HostState : Type 0 where
  pub files : List (List ℕ × List ℕ)
  pub failing : List ℕ
  pub calls : ℕ
  pub room : ℕ
  pub printed : Printed
  pub load_faults : ℕ
  pub print_faults : ℕ

-- the files of a map, each with its name
abbrev pub files_of : {Y Z : Type 0} → BTreeMap (String Y) (Vec ℕ Z) → List (List ℕ × List ℕ)
files_of files = map (λ file. (string_bytes file.0, file.1.items)) files.entries

-- the bytes of the file of a name
abbrev pub file_at : List (List ℕ × List ℕ) → List ℕ → Option (List ℕ)
file_at files name = lookup (is_at (slice_cmp nat_cmp name)) files

-- whether the next call is one that is told to fail
abbrev pub is_told : HostState → Bool
is_told h = list_any (λ number. number == h.calls) h.failing

-- whether a load fails: it is told to, or there is no file of the name
abbrev pub fails_load : List ℕ → HostState → Bool
fails_load name h = is_told h || is_none (file_at h.files name)

-- whether a print fails: it is told to, or the stream has no room for the bytes
abbrev pub fails_print : Stream → List ℕ → HostState → Bool
fails_print to bytes h = is_told h || nat_lt h.room (length (on to h.printed) + length bytes)

-- one more of a count, which stays at its last value
abbrev pub one_more : ℕ → ℕ
one_more count = if nat_lt count last_count then count + 1 else count

-- what was printed, and these bytes after it on one stream
abbrev pub with_printed : Stream → List ℕ → Printed → Printed
with_printed stream.Out bytes printed = record printed { out = printed.out ++ bytes }
with_printed stream.Err bytes printed = record printed { err = printed.err ++ bytes }

-- a host after a load: one call more, and one fault more where it failed
abbrev pub after_load : {A : Type 0} → Result A LoadFault → HostState → HostState
after_load (Err fault.Failed) h = record h { calls = one_more h.calls; load_faults = one_more h.load_faults }
after_load _ h = record h { calls = one_more h.calls }

-- a host after a print: one call more, and all of the bytes, or none of them and one fault more
abbrev pub after_print : {A E : Type 0} → Stream → List ℕ → Result A E → HostState → HostState
after_print to bytes (Ok _) h = record h { calls = one_more h.calls; printed = with_printed to bytes h.printed }
after_print to bytes (Err _) h = record h { calls = one_more h.calls; print_faults = one_more h.print_faults }
