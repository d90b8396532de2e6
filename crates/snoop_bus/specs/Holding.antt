-- What the harts of a cluster have of one line: holders, an owner or none, and one copy.
use Rattle.std.specs.Prelude.{◌≡◌, ◌≢◌, ℕ, ◌<◌, ◌^◌, ◌==◌, Bool, true, false, Option, Some, None, bit_and, bit_or, if◌then◌else◌, refl}
use Rattle.std.specs.Int.{bit_at, bit_not, w32}
use Rattle.std.specs.Coded.{Coded, code_by, coded×, coded_ℕ, coded_option}
use Rattle.dash_base.specs.declared.line.Line.{Line}
use Rattle.cache_array.specs.View.{line_code}

-- the holders as bits by local hart, the owner as a local hart
pub record Holding : Type 0 where
  pub holders : ℕ
  pub owner : Option ℕ
  pub copy : Line

abbrev pub holding_code : Coded Holding
holding_code =
    code_by (ℕ × (Option ℕ × Line)) (coded× coded_ℕ (coded× (coded_option coded_ℕ) line_code)) (λ h. (h.holders, (h.owner, h.copy))) (λ p. record { holders = p.0; owner = p.1.0; copy = p.1.1 }) (λ _. refl)

-- whether a hart is among holders: its bit is set
unfoldable pub has_hart : ℕ → ℕ → Bool
has_hart holders hart = bit_at holders hart == 1

-- one hart as holders
unfoldable pub alone : ℕ → ℕ
alone hart = 2 ^ hart

-- holders, and one hart besides
unfoldable pub with_hart : ℕ → ℕ → ℕ
with_hart holders hart = bit_or holders (2 ^ hart)

-- holders but for one hart
unfoldable pub without_hart : ℕ → ℕ → ℕ
without_hart holders hart = bit_and holders (bit_not w32 (2 ^ hart))

-- whether a hart is the owner
abbrev pub is_owner : Option ℕ → ℕ → Bool
is_owner None hart = false
is_owner (Some owner) hart = owner == hart

-- the holders of a line, of which there are none where no hart has it
abbrev pub holders_in : Option Holding → ℕ
holders_in None = 0
holders_in (Some h) = h.holders

abbrev pub owner_in : Option Holding → Option ℕ
owner_in None = None
owner_in (Some h) = h.owner

abbrev pub copy_in : Option Holding → Option Line
copy_in None = None
copy_in (Some h) = Some h.copy

-- one hart more holds the line
abbrev pub joined_by : ℕ → Option Holding → Option Holding
joined_by hart None = None
joined_by hart (Some h) = Some (record h { holders = with_hart h.holders hart })

-- a hart is the only holder and the owner
abbrev pub owned_by : ℕ → Option Holding → Option Holding
owned_by hart None = None
owned_by hart (Some h) = Some (record { holders = alone hart; owner = Some hart; copy = h.copy })

-- a hart is the only holder of this copy, and the owner or not
abbrev pub held_by : ℕ → Line → Bool → Option Holding
held_by hart copy own = Some (record { holders = alone hart; owner = if own then Some hart else None; copy = copy })

-- the copy is this one
abbrev pub rewritten : Line → Option Holding → Option Holding
rewritten copy None = None
rewritten copy (Some h) = Some (record h { copy = copy })

-- a hart no longer holds the line; the last one to leave takes the copy with it
abbrev pub left_by : ℕ → Option Holding → Option Holding
left_by hart None = None
left_by hart (Some h) =
    if without_hart h.holders hart == 0 then None
    else Some (record { holders = without_hart h.holders hart; owner = if is_owner h.owner hart then None else h.owner; copy = h.copy })

-- no hart owns the line
abbrev pub disowned : Option Holding → Option Holding
disowned None = None
disowned (Some h) = Some (record h { owner = None })

-- some hart holds the line, holders are harts of the cluster, and the owner is a holder
pub record IsProperHolding (harts : ℕ) (h : Holding) : Type 0 where
  pub held : h.holders ≢ 0
  pub within : (hart : ℕ) → has_hart h.holders hart ≡ true → hart < harts
  pub owner : (hart : ℕ) → is_owner h.owner hart ≡ true → has_hart h.holders hart ≡ true

-- the same of a line that no hart may have
abbrev pub IsProper : ℕ → Option Holding → Type 0
IsProper harts None = Unit {0}
IsProper harts (Some h) = IsProperHolding harts h
