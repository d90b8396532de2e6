-- The example runs, and that every event and every message is there.
use Rattle.dash_model.proofs.TableCells.{nearer}
use Rattle.dash_model.proofs.ExampleParts.{both}
use Rattle.std.proofs.Common.{◌≡◌, ℕ, zero, suc, ◌<◌, inl, inr, ◌&&◌, Bool, true, map, refl, arith}
use Rattle.std.specs.Prelude.{flat_map}
use Rattle.dash_model.specs.Maps.{member}
use Rattle.dash_model.specs.Examples.{ExampleRuns, event_number, message_in, all_kinds}
use Rattle.dash_model.proofs.ExampleInvalidating.{invalidating}
use Rattle.dash_model.proofs.ExampleLocking.{locking}
use Rattle.dash_model.proofs.ExampleMoving.{moving}
use Rattle.dash_model.proofs.ExampleSharing.{sharing}
use Rattle.dash_model.proofs.ExampleTrapping.{trapping}
use Rattle.dash_model.proofs.ExampleWaiting.{waiting}

-- a test that passes at each number below n
abbrev each : (ℕ → Bool) → ℕ → Bool
each f zero = true
each f (suc n) = f n && each f n

at_each : (f : ℕ → Bool) (n : ℕ) → each f n ≡ true → (k : ℕ) → k < n → f k ≡ true
at_each f zero e k h = absurd (omega arith)
at_each f (suc n) e k h =
    let b = both (f n) (each f n) e in elim (nearer k n h) [ inl l ↦ at_each f n b.1 k l | inr m ↦ rw m b.0 ]

pub example_runs : ExampleRuns
unfolding member
example_runs = record {
  a_line_moves = moving;
  a_cluster_shares = sharing;
  a_copy_is_invalidated = invalidating;
  a_lock_word_is_taken = locking;
  a_hart_waits = waiting;
  a_hart_traps = trapping;
  events = at_each (λ n. member n (map event_number all_kinds)) 20 refl;
  messages = at_each (λ n. member n (flat_map message_in all_kinds)) 17 refl;
}
