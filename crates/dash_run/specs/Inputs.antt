-- The files that a request names, and what the host gives of them.
use Rattle.std.specs.Prelude.{◌≡◌, ℕ, ◌<◌, ◌≤◌, List, [], ◌∷◌, length, Option, Some, IfSome, IsSomeAnd}
use Rattle.dash_base.specs.Outside.{Files, Call, load_of}
use Rattle.dash_run.specs.CommandLine.{MachineWords, Sizes, File, Request}

-- a file by its name, and how many bytes it may have
pub record NamedFile : Type 0 where
  pub name : List ℕ
  pub limit : ℕ

-- an image file has at most so many bytes
abbrev pub image_limit : ℕ
image_limit = 33554432

-- and a topology file so many
abbrev pub topology_limit : ℕ
topology_limit = 65536

abbrev pub image_file : Request → NamedFile
image_file q = record { name = q.image; limit = image_limit }

abbrev pub topology_file : List ℕ → NamedFile
topology_file name = record { name = name; limit = topology_limit }

-- the file is one of those that are named
pub data IsFileOf (q : Request) : NamedFile → Type 0 where
  of_image : IsFileOf q (image_file q)
  of_topology : (name : List ℕ) → q.machine ≡ File name → IsFileOf q (topology_file name)

-- what a machine is made of: the first three keys of its topology, or the bytes of a topology file
pub data Source : Type 0 where
  Numbers : ℕ → ℕ → ℕ → Source
  Text : List ℕ → Source

-- what a run is made of: the bytes of an image's file, and a machine
pub record Inputs : Type 0 where
  pub image : List ℕ
  pub source : Source

-- the source that words name: their numbers, or the bytes of a file, of which something holds
abbrev pub IsSourceOf : (NamedFile → List ℕ → Type 0) → MachineWords → Source → Type 0
IsSourceOf is_file (Sizes c h b) source = source ≡ Numbers c h b
IsSourceOf is_file (File name) (Text bytes) = is_file (topology_file name) bytes
IsSourceOf is_file (File name) (Numbers c h b) = ⊥

-- the inputs that a request names, and of the bytes of each file something holds
pub record AreInputs (is_file : NamedFile → List ℕ → Type 0) (q : Request) (inputs : Inputs) : Type 0 where
  pub image : is_file (image_file q) inputs.image
  pub source : IsSourceOf is_file q.machine inputs.source

-- a file is within its limit, and has these bytes where files are told
pub record IsGiven (files : Option Files) (file : NamedFile) (bytes : List ℕ) : Type 0 where
  pub small : length bytes ≤ file.limit
  pub told : IfSome files (λ file_at. file_at file.name ≡ Some bytes)

-- it is larger than its limit
pub record IsTooLarge (files : Option Files) (file : NamedFile) (size : ℕ) : Type 0 where
  pub large : file.limit < size
  pub told : IfSome files (λ file_at. IsSomeAnd (file_at file.name) (λ bytes. length bytes ≡ size))

-- the host gave the inputs that a request names
abbrev pub AreGiven : Option Files → Request → Inputs → Type 0
AreGiven files q inputs = AreInputs (IsGiven files) q inputs

-- they are there
abbrev pub AreThere : Files → Request → Inputs → Type 0
AreThere file_at q inputs = AreInputs (λ file bytes. file_at file.name ≡ Some bytes) q inputs

-- each of them is within its limit
abbrev pub AreSmall : Request → Inputs → Type 0
AreSmall q inputs = AreInputs (λ file bytes. length bytes ≤ file.limit) q inputs

-- the loads of all files that are named: the image's comes first
abbrev pub machine_loads : MachineWords → List Call
machine_loads (Sizes c h b) = []
machine_loads (File name) = load_of name ∷ []

abbrev pub loads_of : Request → List Call
loads_of q = load_of q.image ∷ machine_loads q.machine

-- the loads up to that of a file; the host gave the files before it
pub data IsReached (files : Option Files) (q : Request) : NamedFile → List Call → Type 0 where
  image_first : IsReached files q (image_file q) (load_of q.image ∷ [])
  then_topology : (name bytes : List ℕ) → q.machine ≡ File name → IsGiven files (image_file q) bytes
      → IsReached files q (topology_file name) (load_of q.image ∷ load_of name ∷ [])

-- the loads of the image alone, or of all files
pub data IsLoading (q : Request) : List Call → Type 0 where
  image_alone : IsLoading q (load_of q.image ∷ [])
  all_files : IsLoading q (loads_of q)
