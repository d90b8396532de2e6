-- What written logs have in common: what stands at a position, and accesses that don't trap.
use Rattle.std.proofs.Common.{◌≡◌, ◌≢◌, ◌<◌, ◌≤◌, ℕ, zero, suc, Bool, true, false, List, [], ◌∷◌, Some, None, refl, subst, arith}
use Rattle.std.proofs.lemmas.Bool.Decides.{nat_tests}
use Rattle.std.specs.Prelude.{◌==◌, ◌&&◌, ◌%◌, not, if◌then◌else◌}
use Rattle.dash_base.specs.Topology.{IsSimple}
use Rattle.dash_base.specs.declared.end.Trap.TheVariants as trap
use Rattle.dash_base.specs.declared.topology.Topology.{Topology}
use Rattle.elf_load.specs.Image.{ImageView, is_writable}
use Rattle.hart_core.specs.HartState.{HartState}
use Rattle.hart_core.specs.Access.{in_locks, in_memory, access_trap}
use Rattle.dash_event.specs.Records.{accesses_in}
use Rattle.dash_event.specs.declared.access.Access.{Access}
use Rattle.dash_event.specs.declared.event.Event.{Event}
use Rattle.dash_event.specs.declared.event.Kind.{Kind}
use Rattle.dash_event.specs.declared.event.Kind.TheVariants as kind
use Rattle.dash_model.specs.Log.{IsEventAt, IsAccessEvent}
use Rattle.dash_model.specs.Coherent.{ServesLock}

-- what holds of each event of a log, by its position
abbrev pub Each : (ℕ → Kind → Type 0) → List Event → Type 0
Each P [] = Unit {0}
Each P (e ∷ es) = P 0 e.kind × Each (λ j. P (suc j)) es

pub each_at : (P : ℕ → Kind → Type 0) (log : List Event) → Each P log → (i : ℕ) (k : Kind) → IsEventAt log i k → P i k
each_at P [] all i k at = absurd cc
each_at P (e ∷ es) all zero k at = subst (P 0) (let same : e.kind ≡ k = cc in same) all.0
each_at P (e ∷ es) all (suc i) k at = each_at (λ j. P (suc j)) es all.1 i k at

-- what holds of an event's access, where it has one
abbrev pub OfAccess : (ℕ → Access → Type 0) → ℕ → Kind → Type 0
OfAccess Q i (kind.Load a level) = Q i a
OfAccess Q i (kind.Store a) = Q i a
OfAccess Q i (kind.Rmw a l v) = Q i a
OfAccess Q i (kind.ScFail a) = Q i a
OfAccess Q i (kind.Grant a) = Q i a
OfAccess Q i (kind.Free from a) = Q i a
OfAccess Q i k = Unit {0}

of_access : (Q : ℕ → Access → Type 0) (i : ℕ) (k : Kind) (a : Access) → OfAccess Q i k → accesses_in k ≡ a ∷ [] → Q i a
of_access Q i (kind.Load b level) a q is = subst (Q i) (let same : b ≡ a = cc in same) q
of_access Q i (kind.Store b) a q is = subst (Q i) (let same : b ≡ a = cc in same) q
of_access Q i (kind.Rmw b l v) a q is = subst (Q i) (let same : b ≡ a = cc in same) q
of_access Q i (kind.ScFail b) a q is = subst (Q i) (let same : b ≡ a = cc in same) q
of_access Q i (kind.Grant b) a q is = subst (Q i) (let same : b ≡ a = cc in same) q
of_access Q i (kind.Free from b) a q is = subst (Q i) (let same : b ≡ a = cc in same) q
of_access Q i k a q is = absurd cc

pub access_at : (Q : ℕ → Access → Type 0) (log : List Event) → Each (OfAccess Q) log → (i : ℕ) (a : Access) → IsAccessEvent log i a → Q i a
access_at Q log all i a e = of_access Q i e.kind a (each_at (OfAccess Q) log all i e.kind e.at) e.is

-- an event serves no lock word
abbrev pub ServesNone : ℕ → Kind → Type 0
ServesNone i k = (a : Access) → ServesLock k a → ⊥

-- an access that is aligned, low in memory and of no read-only bytes does not trap
module _ (clusters harts budget : ℕ) (t : Topology) (s : IsSimple clusters harts budget t) where
  pub outside_locks : (a : ℕ) → a < 65536 → in_locks t a ≡ false
  outside_locks a low = let b = s.base_is in let m = s.memory_is in grind (arith, nat_tests)

  inside_memory : (a size : ℕ) → a < 65536 → size ≤ 4 → in_memory t a size ≡ true
  inside_memory a size low small = let b = s.base_is in let m = s.memory_is in grind (arith, nat_tests)

  pub access_clear : (image : ImageView) (is_write : Bool) (a size : ℕ) → (a % size == 0) ≡ true → a < 65536 → size ≤ 4 → (is_write && not (is_writable image a size)) ≡ false
      → access_trap image t is_write a size ≡ None
  access_clear image is_write a size aligned low small writable =
      λ i. if not (aligned i) then Some trap.Misaligned else (if outside_locks a low i then Some trap.LockUse else (if not (inside_memory a size low small i) then Some trap.Unmapped else (if writable i then Some trap.ReadOnly else None)))

-- of two states of a hart another one sees nothing
pub hart_by : (h g : ℕ) → g ≢ h → (new old other : HartState) → (if g == h then new else other) ≡ (if g == h then old else other)
hart_by h g differ new old other = hart_on (g == h) refl
  where
    hart_on : (b : Bool) → (g == h) ≡ b → (if b then new else other) ≡ (if b then old else other)
    hart_on true e = absurd (let same : g ≡ h = grind (arith, nat_tests) in differ same)
    hart_on false e = refl
