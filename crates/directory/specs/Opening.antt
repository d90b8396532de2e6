-- A home at the start of a run.
use Rattle.std.specs.Prelude.{◌≡◌, ℕ, ◌+◌, ◌*◌, ◌<◌, List, [], ◌∷◌, length, slice_index, Some, None, if◌then◌else◌}
use Rattle.std.specs.FinMap.{get}
use Rattle.dash_base.specs.declared.line.Line.{Line}
use Rattle.dash_base.specs.declared.topology.Topology.{Topology}
use Rattle.dash_base.specs.Places.{line_count, address_of}
use Rattle.elf_load.specs.Image.{ImageView, opening_word}
use Rattle.directory.specs.declared.entry.EntryState.TheVariants.{Uncached}
use Rattle.directory.specs.declared.home_line.HomeLine.{HomeLine}
use Rattle.directory.specs.View.{HomeView, is_home}

-- the four words from an address on, as the content of a line that nobody has written
unfoldable pub line_from : ImageView → ℕ → Line
line_from image a =
    record { words = opening_word image a ∷ opening_word image (a + 4) ∷ opening_word image (a + 8) ∷ opening_word image (a + 12) ∷ []; version = 0 }

-- the words of memory, from its lowest address on, are those of the image
abbrev pub AreOpeningWords : ImageView → Topology → List ℕ → Type 0
AreOpeningWords image t words = (i : ℕ) → i < length words → slice_index words i ≡ opening_word image (t.base + 4 * i)

-- a line that no cluster has a copy of, with the bytes of the image
abbrev pub opening_line : ImageView → Topology → ℕ → HomeLine
opening_line image t line = record { entry = Uncached; content = line_from image (address_of t line) }

-- the home of a cluster: just its lines are there, each as it is at the start
pub record IsOpening (t : Topology) (cluster : ℕ) (image : ImageView) (h : HomeView) : Type 0 where
  pub cluster_is : h.cluster ≡ cluster
  pub clusters_is : h.clusters ≡ t.clusters
  pub lines_is : h.lines ≡ line_count t
  pub kept_is : (line : ℕ) → get h.kept line ≡ if is_home h line then Some (opening_line image t line) else None
