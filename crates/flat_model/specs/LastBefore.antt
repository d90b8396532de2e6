-- The last access before a position that has a property, and what it leaves in memory and in lock words.
use Rattle.std.specs.Prelude.{◌≡◌, ◌⊎◌, ◌<◌, ℕ, true, false, List, Option, Some}
use Rattle.dash_base.specs.Words.{has_byte, byte_of_word}
use Rattle.elf_load.specs.Image.{ImageView, opening_word}
use Rattle.dash_event.specs.declared.access.Access.{Access}
use Rattle.dash_event.specs.declared.step_record.StepRecord.{StepRecord}
use Rattle.dash_event.specs.Effects.{is_of_memory}
use Rattle.flat_model.specs.Order.{IsAccessAt}

-- the last access before position i that has a property
pub record LastBefore (rs : List StepRecord) (i : ℕ) (P : Access → Type 0) : Type 0 where
  pub at : ℕ
  pub access : Access
  pub is_at : IsAccessAt rs at access
  pub before : at < i
  pub has : P access
  pub last : (j : ℕ) (b : Access) → IsAccessAt rs j b → P b → at < j → ¬ (j < i)

-- no access before position i has a property
pub record NoneBefore (rs : List StepRecord) (i : ℕ) (P : Access → Type 0) : Type 0 where
  pub none : (j : ℕ) (b : Access) → IsAccessAt rs j b → P b → ¬ (j < i)

-- an access writes byte k of the word at an address of memory
pub record WritesByte (address k : ℕ) (a : Access) : Type 0 where
  pub of_memory : is_of_memory a.op ≡ true
  pub same_word : a.word.0 ≡ address
  pub in_mask : has_byte a.mask k ≡ true
  pub value : ℕ
  pub written : a.written ≡ Some value

-- a byte of memory is what the last write of it before position i wrote, or the opening one where there is none
abbrev pub IsByteBefore : ImageView → List StepRecord → ℕ → ℕ → ℕ → ℕ → Type 0
IsByteBefore image rs i address k byte =
    ((w : LastBefore rs i (WritesByte address k)) × (byte ≡ byte_of_word k w.has.value))
    ⊎ (NoneBefore rs i (WritesByte address k) × (byte ≡ byte_of_word k (opening_word image address)))

-- an access of the lock word at an address
pub record IsLockAccess (address : ℕ) (a : Access) : Type 0 where
  pub of_lock : is_of_memory a.op ≡ false
  pub same_word : a.word.0 ≡ address

-- a lock word is what the last access of it before position i wrote, or 0 where there is none
abbrev pub IsLockBefore : List StepRecord → ℕ → ℕ → Option ℕ → Type 0
IsLockBefore rs i address word =
    ((l : LastBefore rs i (IsLockAccess address)) × (word ≡ l.access.written))
    ⊎ (NoneBefore rs i (IsLockAccess address) × (word ≡ Some 0))
