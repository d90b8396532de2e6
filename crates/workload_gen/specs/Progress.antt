-- How far a hart of the workload has come: how many of its turns have stored, and where it stands in its critical section.
use Rattle.std.specs.Prelude.{◌≡◌, ℕ}

-- outside; inside that of counter k, with nothing loaded, with its value v loaded, with the sum v to be stored, and after the store
pub data Section : Type 0 where
  Outside : Section
  Holding : (k : ℕ) → Section
  Loaded : (k v : ℕ) → Section
  Summed : (k v : ℕ) → Section
  Stored : (k : ℕ) → Section

pub record Progress : Type 0 where
  pub done : ℕ
  pub section : Section

-- it is inside that of counter k
abbrev pub IsInside : ℕ → Section → Type 0
IsInside k Outside = ⊥
IsInside k (Holding c) = c ≡ k
IsInside k (Loaded c v) = c ≡ k
IsInside k (Summed c v) = c ≡ k
IsInside k (Stored c) = c ≡ k
