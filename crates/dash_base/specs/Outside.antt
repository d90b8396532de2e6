-- What contracts say of the outside: files, printed bytes, and counts of faults.
use Rattle.std.specs.Prelude.{◌≡◌, ℕ, ◌-◌, ◌^◌, ◌<◌, ◌≤◌, ◌⊎◌, List, ◌++◌, take, Option, option_map, IfSome, IsSomeAnd, Result, Ok, Err}
use Rattle.dash_base.specs.declared.host.LoadFault.{LoadFault}
use Rattle.dash_base.specs.declared.host.LoadFault.TheVariants as fault
use Rattle.dash_base.specs.declared.host.Stream.{Stream}
use Rattle.dash_base.specs.declared.host.Stream.TheVariants as stream

-- the bytes of each file that there is
abbrev pub Files : Type 0
Files = List ℕ → Option (List ℕ)

-- what was printed on each stream
pub record Printed : Type 0 where
  pub out : List ℕ
  pub err : List ℕ

abbrev pub on : Stream → Printed → List ℕ
on stream.Out printed = printed.out
on stream.Err printed = printed.err

-- what was printed on the other stream
abbrev pub beside : Stream → Printed → List ℕ
beside stream.Out printed = printed.err
beside stream.Err printed = printed.out

-- a stream gained just these bytes, and the other none
pub record Appends (to : Stream) (bytes : List ℕ) (old new : Printed) : Type 0 where
  pub same : on to new ≡ on to old ++ bytes
  pub others : beside to new ≡ beside to old

-- a stream gained a prefix of these bytes, and the other none
pub record AppendsPart (to : Stream) (bytes : List ℕ) (old new : Printed) : Type 0 where
  pub count : ℕ
  pub part : Appends to (take count bytes) old new

-- what is told afterwards was told before, and follows from it
abbrev pub Follows : (Printed → Printed → Type 0) → Option Printed → Option Printed → Type 0
Follows step old new = IfSome new (λ after. IsSomeAnd old (λ before. step before after))

-- the last value of a count of faults, at which it stays
abbrev pub last_count : ℕ
last_count = 2 ^ 64 - 1

-- a count rose, or stands at its last value
abbrev pub Rose : ℕ → ℕ → Type 0
Rose old new = (old < new) ⊎ (last_count ≤ old)

-- a load counts a fault where it answers `Failed`, and nothing else does
abbrev pub CountsLoad : {A : Type 0} → Result A LoadFault → ℕ → ℕ → Type 0
CountsLoad (Err fault.Failed) old new = Rose old new
CountsLoad _ old new = new ≡ old

-- a call that was made: a load of a name; a print of bytes on a stream that was answered Ok; or one that failed
pub data Call : Type 0 where
  load_of : List ℕ → Call
  print_on : Stream → List ℕ → Call
  failed_print_on : Stream → List ℕ → Call

-- a print, by its answer
abbrev pub print_call : {A E : Type 0} → Stream → List ℕ → Result A E → Call
print_call to bytes (Ok _) = print_on to bytes
print_call to bytes (Err _) = failed_print_on to bytes

-- the calls that are told of, and these after them
abbrev pub with_calls : Option (List Call) → List Call → Option (List Call)
with_calls told made = option_map (λ before. before ++ made) told
