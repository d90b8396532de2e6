-- What follows from a need: that it is possible, where its access lies, and whose record it makes.
use Rattle.std.proofs.Common.{◌≡◌, ℕ, ◌==◌, Bool, true, false, not, Option, Some, None, refl, arith}
use Rattle.dash_base.specs.declared.id.WordAddr.{WordAddr}
use Rattle.dash_base.specs.declared.ops.AmoOp.TheVariants.{Sc}
use Rattle.dash_base.specs.declared.topology.Topology.{Topology}
use Rattle.hart_core.specs.Access.{IsProper}
use Rattle.dash_base.specs.declared.need.Need.{Need}
use Rattle.dash_base.specs.declared.need.Need.TheVariants.{Load, Rmw, Ask}
use Rattle.flat_model.specs.State.{FlatState}
use Rattle.dash_event.specs.Offered.{offered}
use Rattle.flat_model.specs.Step.{IsPossible, MaySucceed, record_of}
use Rattle.dash_event.specs.Effects.{hart_of}
use Rattle.flat_model.specs.Driven.{is_reserved, succeeds_on}
use Rattle.flat_model.specs.Change.{FitsRecord, is_blocked}

may_succeed : (reserved : Option ℕ) (word : WordAddr) → MaySucceed reserved word Sc (is_reserved reserved word.0)
may_succeed None word = tt
may_succeed (Some reserved) word = grind arith

is_free : (n : ℕ) → not (n == 0) ≡ false → n ≡ 0
is_free n test = grind arith

pub possible : (s : FlatState) (h : ℕ) (need : Need) → is_blocked s need ≡ false → IsPossible s h need (succeeds_on s h need)
possible s h (Rmw word Sc operand labels) clear = may_succeed (s.reservations h) word
possible s h (Rmw word amo operand labels) clear = tt
possible s h (Ask word value) clear = is_free (s.locks word.0) clear
possible s h need clear = tt

pub own_record : (h number : ℕ) (need : Need) (old : ℕ) (succeeds : Bool)
    → h ≡ (hart_of (record_of h need (offered h number need old succeeds))).0
own_record h number (Rmw word Sc operand labels) old succeeds = refl
own_record h number (Rmw word amo operand labels) old succeeds = refl
own_record h number need old succeeds = refl

pub fits : (t : Topology) (h number : ℕ) (need : Need) (old : ℕ) (succeeds : Bool) → IsProper t need
    → FitsRecord t (record_of h need (offered h number need old succeeds))
fits t h number (Load word mask labels true) old succeeds proper = record { in_memory = λ _. proper; in_locks = λ e. absurd (cc) }
fits t h number (Load word mask labels false) old succeeds proper = record { in_memory = λ _. proper; in_locks = λ e. absurd (cc) }
fits t h number (Rmw word Sc operand labels) old succeeds proper = record { in_memory = λ _. proper; in_locks = λ e. absurd (cc) }
fits t h number (Rmw word amo operand labels) old succeeds proper = record { in_memory = λ _. proper; in_locks = λ e. absurd (cc) }
fits t h number need old succeeds proper = grind arith
