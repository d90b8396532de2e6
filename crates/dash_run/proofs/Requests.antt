-- The words ask for one thing.
use Rattle.std.proofs.Common.{◌≡◌, ℕ, ◌<◌, Bool, true, false, codes, List, [], ◌∷◌, Option, Some, None, IfNone, sym, ◌∙◌, ap, arith}
use Rattle.std.proofs.lemmas.Fmt.{decimal_injective}
use Rattle.dash_base.specs.Outside.{Call}
use Rattle.dash_run.specs.CommandLine.{MachineWords, Sizes, File, Request, IsNumber, AreSizes, AsksRun, AsksFile, AsksSizes, IsLogged, Asks, AsksSeed, IsAsked, for_image, for_seed, AsksNoImage, AsksNoSeed, IsUsageError}
use Rattle.dash_run.specs.Outcome.{IsBegun, by_files, by_seed}

pub one_number : (word : List ℕ) (m n : ℕ) → IsNumber word m → IsNumber word n → m ≡ n
one_number word m n first second =
    let small_m = first.small in
    let small_n = second.small in
    decimal_injective m n (omega arith) (omega arith) (first.spelled ∙ sym second.spelled)

one_sizes : (clusters harts budget : List ℕ) (m n : MachineWords) → AreSizes clusters harts budget m → AreSizes clusters harts budget n → m ≡ n
one_sizes clusters harts budget (Sizes c h b) (Sizes d i e) first second = λ k.
    Sizes (one_number clusters c d first.clusters_is second.clusters_is k) (one_number harts h i first.harts_is second.harts_is k) (one_number budget b e first.budget_is second.budget_is k)
one_sizes clusters harts budget (Sizes c h b) (File name) first second = absurd second
one_sizes clusters harts budget (File name) n first second = absurd first

-- requests of the same first words, for one machine
one_run : (command image : List ℕ) (log : Bool) (q r : Request) → AsksRun command image log q → AsksRun command image log r → q.machine ≡ r.machine → q ≡ r
one_run command image log q r first second machine = λ i. record {
  image = (first.image_is ∙ sym second.image_is) i;
  machine = machine i;
  log = (first.log_is ∙ sym second.log_is) i;
}

one_file : (command image topology : List ℕ) (log : Bool) (q r : Request) → AsksFile command image topology log q → AsksFile command image topology log r → q ≡ r
one_file command image topology log q r first second = one_run command image log q r first.run second.run (first.machine_is ∙ sym second.machine_is)

one_with : (command image clusters harts budget : List ℕ) (log : Bool) (q r : Request)
    → AsksSizes command image clusters harts budget log q → AsksSizes command image clusters harts budget log r → q ≡ r
one_with command image clusters harts budget log q r first second =
    one_run command image log q r first.run second.run (one_sizes clusters harts budget q.machine r.machine first.machine_is second.machine_is)

pub one_request : (words : List (List ℕ)) (q r : Request) → Asks words q → Asks words r → q ≡ r
one_request [] q r first second = absurd first
one_request (a ∷ []) q r first second = absurd first
one_request (a ∷ b ∷ []) q r first second = one_run a b false q r first.run second.run (first.machine_is ∙ sym second.machine_is)
one_request (a ∷ b ∷ c ∷ []) q r first second = one_file a b c false q r first second
one_request (a ∷ b ∷ c ∷ d ∷ []) q r first second = one_file a b c true q r first.asked second.asked
one_request (a ∷ b ∷ c ∷ d ∷ e ∷ []) q r first second = one_with a b c d e false q r first second
one_request (a ∷ b ∷ c ∷ d ∷ e ∷ f ∷ []) q r first second = one_with a b c d e true q r first.asked second.asked
one_request (a ∷ b ∷ c ∷ d ∷ e ∷ f ∷ g ∷ more) q r first second = absurd first

pub one_seed : (words : List (List ℕ)) (s r : ℕ) → AsksSeed words s → AsksSeed words r → s ≡ r
one_seed [] s r first second = absurd first
one_seed (a ∷ []) s r first second = absurd first
one_seed (a ∷ b ∷ []) s r first second = one_number b s r first.seed_is second.seed_is
one_seed (a ∷ b ∷ c ∷ more) s r first second = absurd first

unequal : (m n : ℕ) → n < m → m ≡ n → ⊥
unequal m n less same = omega arith

first_of : List ℕ → ℕ
first_of [] = 0
first_of (c ∷ cs) = c

differ : codes "run" ≡ codes "gen" → ⊥
unfolding first_of
differ same = unequal 114 103 (omega arith) (ap first_of same)

-- words that ask for an image ask for no seed
pub not_both : (words : List (List ℕ)) (q : Request) (seed : ℕ) → Asks words q → AsksSeed words seed → ⊥
not_both [] q seed first second = second
not_both (a ∷ []) q seed first second = second
not_both (a ∷ b ∷ []) q seed first second = differ (sym first.run.is_run ∙ second.is_gen)
not_both (a ∷ b ∷ c ∷ more) q seed first second = second

-- words that ask for neither ask for nothing
none_asked : (words : List (List ℕ)) → AsksNoSeed words → AsksNoImage words → IsAsked words → ⊥
none_asked words no_seed no_image (for_image q asks) = no_image q asks
none_asked words no_seed no_image (for_seed seed asks) = no_seed seed asks

pub no_form_left : (words : List (List ℕ)) → AsksNoSeed words → AsksNoImage words → IsUsageError words
no_form_left words no_seed no_image = none_asked words no_seed no_image

-- a call that loads for something was asked for it
pub begun_asked : (words : List (List ℕ)) (loaded : List Call) → IsBegun words loaded → IsAsked words
begun_asked words _ (by_files q loaded asks loading) = for_image q asks
begun_asked words _ (by_seed seed asks) = for_seed seed asks

-- what is not asked for without the log isn't with it
pub none_logged : {A : Type 0} (r : Option A) (flag : List ℕ) (P : Request → Type 0) → IfNone r ((q : Request) → P q → ⊥) → IfNone r ((q : Request) → IsLogged flag (P q) → ⊥)
none_logged (Some a) flag P none = tt
none_logged None flag P none = λ q logged. none q logged.asked
