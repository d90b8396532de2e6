-- The labels of accesses: the aq and rl bits of the A extension, read as release consistency reads acquires and releases.
use Rattle.std.specs.Prelude.{◌≡◌, true, false, IsSome}
use Rattle.dash_event.specs.declared.access.Access.{Access}

-- it writes, and has the release bit
pub record IsRelease (a : Access) : Type 0 where
  pub writes : IsSome a.written
  pub release_bit : a.labels.rl ≡ true

-- it reads, and has the acquire bit
pub record IsAcquire (a : Access) : Type 0 where
  pub reads : IsSome a.read
  pub acquire_bit : a.labels.aq ≡ true

-- it has neither bit, also where it is an atomic operation
pub record IsOrdinary (a : Access) : Type 0 where
  pub no_acquire_bit : a.labels.aq ≡ false
  pub no_release_bit : a.labels.rl ≡ false
