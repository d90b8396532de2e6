-- What a record tells of its step: whose it is, what its hart is answered, and what becomes of words of memory and of lock words.
use Rattle.std.specs.Prelude.{ℕ, ◌==◌, Bool, true, false, not, ◌&&◌, if◌then◌else◌, Option, Some, None, unwrap_or}
use Rattle.dash_base.specs.Words.{merged}
use Rattle.dash_base.specs.declared.id.HartId.{HartId}
use Rattle.dash_event.specs.declared.access.Op.{Op}
use Rattle.dash_event.specs.declared.access.Op.TheVariants as op
use Rattle.dash_event.specs.declared.step_record.StepRecord.{StepRecord}
use Rattle.dash_event.specs.declared.step_record.StepRecord.TheVariants as step

-- the hart that a record is of
abbrev pub hart_of : StepRecord → HartId
hart_of (step.Access a) = a.hart
hart_of (step.Byte hart byte) = hart
hart_of (step.Stopped hart end) = hart
hart_of (step.Plain hart) = hart

-- what an access answers its hart: what it read; or, for an SC, 0 where it wrote and 1 where it did not
abbrev pub reply : Option ℕ → Option ℕ → ℕ
reply (Some read) written = read
reply None (Some written) = 0
reply None None = 1

abbrev pub answer_of : StepRecord → ℕ
answer_of (step.Access a) = reply a.read a.written
answer_of r = 0

-- whether an operation is one on memory, and not on a lock word
abbrev pub is_of_memory : Op → Bool
is_of_memory op.Ask = false
is_of_memory op.Unlock = false
is_of_memory kind = true

-- the word at an address of memory after a step: bytes that are written there replace those under their mask
abbrev pub written_over : ℕ → ℕ → Option ℕ → ℕ
written_over old mask None = old
written_over old mask (Some value) = merged old mask value

abbrev pub word_after : ℕ → StepRecord → ℕ → ℕ
word_after address (step.Access a) old =
    if is_of_memory a.op && (a.word.0 == address) then written_over old a.mask a.written else old
word_after address r old = old

-- the lock word at an address after a step
abbrev pub lock_after : ℕ → StepRecord → ℕ → ℕ
lock_after address (step.Access a) old =
    if not (is_of_memory a.op) && (a.word.0 == address) then unwrap_or a.written old else old
lock_after address r old = old
