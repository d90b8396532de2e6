-- A home as contracts see it.
use Rattle.std.specs.Prelude.{◌≡◌, ℕ, zero, suc, ◌==◌, ◌&&◌, Bool, false, nat_lt, List, [], ◌∷◌, Option, Some, None, is_some, refl}
use Rattle.std.specs.Ordering.{nat_cmp}
use Rattle.std.specs.FinMap.{FinMap, get, insert, code}
use Rattle.std.specs.Coded.{Coded, code_by, coded×, coded_ℕ, coded_list}
use Rattle.dash_base.specs.Places.{home_among}
use Rattle.dash_base.specs.declared.line.Line.{Line}
use Rattle.dash_base.specs.declared.id.LineId.{LineId}
use Rattle.dash_base.specs.declared.id.ClusterId.{ClusterId}
use Rattle.dash_msg.specs.declared.msg.Msg.{Msg}
use Rattle.dash_msg.specs.declared.msg.Msg.TheVariants.{Read, ReadEx, WriteBack, SharingBack, Transfer}
use Rattle.dash_msg.specs.declared.parcel.Sent.{Sent}
use Rattle.directory.specs.declared.entry.EntryState.{EntryState}
use Rattle.directory.specs.declared.entry.EntryState.TheVariants.{Uncached, Shared, Dirty}
use Rattle.directory.specs.declared.home_line.HomeLine.{HomeLine}
use Rattle.directory.specs.Rows.{served, named}

-- the cluster, how many clusters and lines the machine has, and the lines whose home the cluster is
pub record HomeView : Type 0 where
  pub cluster : ℕ
  pub clusters : ℕ
  pub lines : ℕ
  pub kept : FinMap nat_cmp HomeLine

-- an entry is stored as the number of its case, and what it has
abbrev entry_pair : EntryState → ℕ × ℕ
entry_pair Uncached = (0, 0)
entry_pair (Shared s) = (1, s)
entry_pair (Dirty o) = (2, o.0)

-- an entry from both
abbrev entry_from : ℕ → ℕ → EntryState
entry_from zero n = Uncached
entry_from (suc zero) n = Shared n
entry_from (suc (suc k)) n = Dirty (record { 0 = n })

-- which gives the entry back
abbrev entry_back : (e : EntryState) → entry_from (entry_pair e).0 (entry_pair e).1 ≡ e
entry_back Uncached = refl
entry_back (Shared s) = refl
entry_back (Dirty o) = refl

-- so entries have a code
abbrev entry_code : Coded EntryState
entry_code = code_by (ℕ × ℕ) (coded× coded_ℕ coded_ℕ) entry_pair (λ p. entry_from p.0 p.1) entry_back

-- a content is stored as its words and its version
abbrev line_code : Coded Line
line_code =
    code_by (List ℕ × ℕ) (coded× (coded_list coded_ℕ) coded_ℕ) (λ c. (c.words, c.version)) (λ p. record { words = p.0; version = p.1 }) (λ _. refl)

-- what is kept of a line as its entry and its content
abbrev kept_code : Coded HomeLine
kept_code =
    code_by (EntryState × Line) (coded× entry_code line_code) (λ k. (k.entry, k.content)) (λ p. record { entry = p.0; content = p.1 }) (λ _. refl)

-- and a home as its four fields
abbrev pub home_code : Coded HomeView
home_code =
    code_by ((ℕ × ℕ) × (ℕ × FinMap nat_cmp HomeLine)) (coded× (coded× coded_ℕ coded_ℕ) (coded× coded_ℕ (code coded_ℕ kept_code))) (λ h. ((h.cluster, h.clusters), (h.lines, h.kept))) (λ p. record { cluster = p.0.0; clusters = p.0.1; lines = p.1.0; kept = p.1.1 }) (λ _. refl)

-- whether a line is one of memory and has this home
abbrev pub is_home : HomeView → ℕ → Bool
is_home h line = nat_lt line h.lines && (home_among h.clusters line == h.cluster)

-- what is kept of a line; of one that is not kept, an empty line
abbrev pub kept_in : Option HomeLine → HomeLine
kept_in None = record { entry = Uncached; content = record { words = 0 ∷ 0 ∷ 0 ∷ 0 ∷ []; version = 0 } }
kept_in (Some k) = k

-- what a home keeps of a line
unfoldable pub kept_at : HomeView → ℕ → HomeLine
kept_at h line = kept_in (get h.kept line)

-- the same home but for one line
unfoldable pub with_kept : HomeView → ℕ → HomeLine → HomeView
with_kept h line k = record h { kept = insert h.kept line k }

-- just the lines whose home the cluster is are kept
pub record IsWhole (h : HomeView) : Type 0 where
  pub each : (line : ℕ) → is_some (get h.kept line) ≡ is_home h line

-- the line of a message that is a home's to serve
abbrev pub line_of : Msg → Option LineId
line_of (Read l) = Some l
line_of (ReadEx l) = Some l
line_of (WriteBack l copy) = Some l
line_of (SharingBack l copy r) = Some l
line_of (Transfer l r) = Some l
line_of _ = None

-- whether the home is that of a line
abbrev pub is_home_of : HomeView → Option LineId → Bool
is_home_of h None = false
is_home_of h (Some l) = is_home h l.0

-- whether a message from a cluster is a home's to serve, and this home's, and the clusters are some of the machine's
abbrev pub is_served : HomeView → ClusterId → Msg → Bool
is_served h from msg = is_home_of h (line_of msg) && (nat_lt from.0 h.clusters && nat_lt (named from msg).0 h.clusters)

-- the home after it has served a message of a line
abbrev pub after_line : HomeView → ClusterId → Msg → Option LineId → HomeView
after_line h from msg None = h
after_line h from msg (Some l) = with_kept h l.0 (served h.clusters from msg (kept_at h l.0)).kept

-- the home after it has served a message
abbrev pub after_serve : HomeView → ClusterId → Msg → HomeView
after_serve h from msg = after_line h from msg (line_of msg)

-- what it sends as it serves a message of a line
abbrev pub sent_of_line : HomeView → ClusterId → Msg → Option LineId → List Sent
sent_of_line h from msg None = []
sent_of_line h from msg (Some l) = (served h.clusters from msg (kept_at h l.0)).sent

-- what it sends as it serves a message
abbrev pub sent_by : HomeView → ClusterId → Msg → List Sent
sent_by h from msg = sent_of_line h from msg (line_of msg)
