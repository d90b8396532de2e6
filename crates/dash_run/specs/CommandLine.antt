-- The forms of a command line that are served: `run IMAGE`; `run IMAGE TOPOLOGY` and `run IMAGE CLUSTERS HARTS BUDGET`, each with or without `--log` behind it; and `gen SEED`.
use Rattle.std.specs.Prelude.{◌≡◌, ℕ, ◌^◌, ◌<◌, ◌==◌, Bool, true, false, not, List, [], ◌∷◌, codes, decimal}

-- which machine is asked for: three numbers, the first three keys of a topology; or the name of a file with a topology
pub data MachineWords : Type 0 where
  Sizes : ℕ → ℕ → ℕ → MachineWords
  File : List ℕ → MachineWords

-- what is asked for: the name of an image's file, a machine, and whether the log is to be printed too
pub record Request : Type 0 where
  pub image : List ℕ
  pub machine : MachineWords
  pub log : Bool

-- a name is not empty and does not begin with `-`
abbrev pub is_name : List ℕ → Bool
is_name [] = false
is_name (c ∷ cs) = not (c == 45)

-- a word is the decimal spelling of a number of 32 bits
pub record IsNumber (word : List ℕ) (n : ℕ) : Type 0 where
  pub spelled : decimal n ≡ word
  pub small : n < 2 ^ 32

-- three words are the spellings of three numbers
pub record AreNumbers (clusters harts budget : List ℕ) (c h b : ℕ) : Type 0 where
  pub clusters_is : IsNumber clusters c
  pub harts_is : IsNumber harts h
  pub budget_is : IsNumber budget b

-- the machine of these numbers
abbrev pub AreSizes : List ℕ → List ℕ → List ℕ → MachineWords → Type 0
AreSizes clusters harts budget (Sizes c h b) = AreNumbers clusters harts budget c h b
AreSizes clusters harts budget (File name) = ⊥

-- `run IMAGE`, and what comes behind
pub record AsksRun (command image : List ℕ) (log : Bool) (q : Request) : Type 0 where
  pub is_run : command ≡ codes "run"
  pub has_name : is_name image ≡ true
  pub image_is : q.image ≡ image
  pub log_is : q.log ≡ log

-- `run IMAGE`: one cluster of one hart, 1,000,000 instructions
pub record AsksAlone (command image : List ℕ) (q : Request) : Type 0 where
  pub run : AsksRun command image false q
  pub machine_is : q.machine ≡ Sizes 1 1 1000000

-- `run IMAGE TOPOLOGY`, with the log or without it
pub record AsksFile (command image topology : List ℕ) (log : Bool) (q : Request) : Type 0 where
  pub run : AsksRun command image log q
  pub has_topology : is_name topology ≡ true
  pub machine_is : q.machine ≡ File topology

-- `run IMAGE CLUSTERS HARTS BUDGET`, with the log or without it
pub record AsksSizes (command image clusters harts budget : List ℕ) (log : Bool) (q : Request) : Type 0 where
  pub run : AsksRun command image log q
  pub machine_is : AreSizes clusters harts budget q.machine

-- the last word is `--log`
pub record IsLogged (flag : List ℕ) (asks : Type 0) : Type 0 where
  pub is_flag : flag ≡ codes "--log"
  pub asked : asks

-- what the words ask for
abbrev pub Asks : List (List ℕ) → Request → Type 0
Asks (command ∷ image ∷ []) q = AsksAlone command image q
Asks (command ∷ image ∷ topology ∷ []) q = AsksFile command image topology false q
Asks (command ∷ image ∷ topology ∷ flag ∷ []) q = IsLogged flag (AsksFile command image topology true q)
Asks (command ∷ image ∷ clusters ∷ harts ∷ budget ∷ []) q = AsksSizes command image clusters harts budget false q
Asks (command ∷ image ∷ clusters ∷ harts ∷ budget ∷ flag ∷ []) q = IsLogged flag (AsksSizes command image clusters harts budget true q)
Asks _ q = ⊥

-- `gen SEED`
pub record AsksSummary (command word : List ℕ) (seed : ℕ) : Type 0 where
  pub is_gen : command ≡ codes "gen"
  pub seed_is : IsNumber word seed

-- the seed that the words ask for
abbrev pub AsksSeed : List (List ℕ) → ℕ → Type 0
AsksSeed (command ∷ word ∷ []) seed = AsksSummary command word seed
AsksSeed _ seed = ⊥

-- they ask for no image
abbrev pub AsksNoImage : List (List ℕ) → Type 0
AsksNoImage words = (q : Request) → Asks words q → ⊥

-- they ask for no seed
abbrev pub AsksNoSeed : List (List ℕ) → Type 0
AsksNoSeed words = (seed : ℕ) → AsksSeed words seed → ⊥

-- the words ask for something: for the run of an image, or for that of a seed's workload
pub data IsAsked (words : List (List ℕ)) : Type 0 where
  for_image : (q : Request) → Asks words q → IsAsked words
  for_seed : (seed : ℕ) → AsksSeed words seed → IsAsked words

-- the words have no form that is served
abbrev pub IsUsageError : List (List ℕ) → Type 0
IsUsageError words = IsAsked words → ⊥
