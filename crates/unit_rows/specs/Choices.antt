-- What a unit may do next, and which events do it.
use Rattle.std.specs.Prelude.{◌≡◌, ℕ}
use Rattle.dash_msg.specs.Classes.{class_of}
use Rattle.dash_msg.specs.declared.classes.Class.TheVariants.{Request}
use Rattle.dash_event.specs.declared.event.Kind.{Kind}
use Rattle.dash_event.specs.declared.event.Kind.TheVariants as kind
use Rattle.dash_model.specs.Config.{Config, lock_at}
use Rattle.unit_rows.specs.declared.choice.Choice.{Choice}
use Rattle.unit_rows.specs.declared.choice.Choice.TheVariants.{Step, Commit, BusRead, BusOwn, Evict, Ask, Again, Install, Grant, Take}
use Rattle.unit_rows.specs.Shown.{hart_at}

-- the event is one of the instruction of a hart
abbrev pub IsStepOf : ℕ → Kind → Type 0
IsStepOf h (kind.Alu g pc) = g.0 ≡ h
IsStepOf h (kind.Fence g pc) = g.0 ≡ h
IsStepOf h (kind.Hint g pc slot) = g.0 ≡ h
IsStepOf h (kind.Put g pc byte) = g.0 ≡ h
IsStepOf h (kind.Stop g pc end) = g.0 ≡ h
IsStepOf h (kind.Load a level) = a.hart.0 ≡ h
IsStepOf h (kind.Store a) = a.hart.0 ≡ h
IsStepOf h (kind.Rmw a line version) = a.hart.0 ≡ h
IsStepOf h (kind.ScFail a) = a.hart.0 ≡ h
IsStepOf h (kind.LockSend g msg) = g.0 ≡ h
IsStepOf h e = ⊥

-- the event does this choice at cluster c; an Unlock that may be freed is freed by the choice to take it
abbrev pub IsOf : Config → ℕ → Choice → Kind → Type 0
IsOf w c (Step k) e = IsStepOf (hart_at w c k) e
IsOf w c (Commit k) (kind.Commit g number line version) = g.0 ≡ hart_at w c k
IsOf w c (BusRead k l) (kind.BusRead g line) = (g.0 ≡ hart_at w c k) × (line ≡ l)
IsOf w c (BusOwn k l) (kind.BusOwn g line) = (g.0 ≡ hart_at w c k) × (line ≡ l)
IsOf w c (Evict k l) (kind.Evict g line) = (g.0 ≡ hart_at w c k) × (line ≡ l)
IsOf w c (Ask n) (kind.Ask slot g line own) = slot ≡ n
IsOf w c (Again n) (kind.Again slot line) = slot ≡ n
IsOf w c (Install n) (kind.Install slot g line) = slot ≡ n
IsOf w c (Grant i) (kind.Grant a) = lock_at w a.word.0 ≡ i
IsOf w c (Take f k) (kind.Take from msg) = (from ≡ f) × (class_of msg ≡ k)
IsOf w c (Take f k) (kind.Free from a) = (from ≡ f) × (k ≡ Request)
IsOf w c choice e = ⊥
