-- What stands before an SC that succeeds (RISC-V unprivileged manual, A extension, "Load-Reserved/Store-Conditional Instructions").
use Rattle.std.specs.Prelude.{◌≡◌, ◌≢◌, ◌<◌, ℕ, true, List, IsSome}
use Rattle.dash_event.specs.declared.access.Access.{Access}
use Rattle.dash_event.specs.declared.access.Op.TheVariants as op
use Rattle.dash_event.specs.declared.step_record.StepRecord.{StepRecord}
use Rattle.dash_event.specs.Effects.{is_of_memory}
use Rattle.flat_model.specs.Order.{IsAccessAt}

-- before position i stands an LR of the same hart and word, since which this hart did neither LR nor SC, and no other hart wrote the word
pub record IsReserved (rs : List StepRecord) (i : ℕ) (a : Access) : Type 0 where
  pub at : ℕ
  pub reserve : Access
  pub is_at : IsAccessAt rs at reserve
  pub before : at < i
  pub is_reserve : reserve.op ≡ op.Reserve
  pub same_hart : reserve.hart ≡ a.hart
  pub same_word : reserve.word ≡ a.word
  pub no_reserve : (j : ℕ) (b : Access) → IsAccessAt rs j b → at < j → j < i → b.hart ≡ a.hart → b.op ≢ op.Reserve
  pub no_cond : (j : ℕ) (b : Access) → IsAccessAt rs j b → at < j → j < i → b.hart ≡ a.hart → b.op ≢ op.Cond
  pub no_write : (j : ℕ) (b : Access) → IsAccessAt rs j b → at < j → j < i → b.hart ≢ a.hart → b.word ≡ a.word
      → is_of_memory b.op ≡ true → ¬ IsSome b.written
