-- The inputs of a request: they are one, and each file is among them.
use Rattle.std.proofs.Common.{◌≡◌, ℕ, ◌<◌, List, ◌∷◌, length, Option, Some, None, IfSome, IsSomeAnd, sym, ◌∙◌, ap, subst, arith}
use Rattle.dash_base.specs.Outside.{Files, Call, load_of}
use Rattle.dash_run.specs.CommandLine.{MachineWords, Sizes, File, Request}
use Rattle.dash_run.specs.Inputs.{NamedFile, image_file, topology_file, IsFileOf, of_image, of_topology, Source, Numbers, Text, Inputs, IsSourceOf, AreInputs, IsGiven, IsTooLarge, AreGiven, AreThere, AreSmall, machine_loads, IsReached, image_first, then_topology, IsLoading, image_alone, all_files}
use Rattle.dash_run.proofs.Options.{some_injective}

one_source : (P Q : NamedFile → List ℕ → Type 0) → ((f : NamedFile) (a b : List ℕ) → P f a → Q f b → a ≡ b)
    → (m : MachineWords) (s u : Source) → IsSourceOf P m s → IsSourceOf Q m u → s ≡ u
one_source P Q same (Sizes c h b) s u first second = first ∙ sym second
one_source P Q same (File name) (Text a) (Text b) first second = ap Text (same (topology_file name) a b first second)
one_source P Q same (File name) (Text a) (Numbers c h b) first second = absurd second
one_source P Q same (File name) (Numbers c h b) u first second = absurd first

-- where the bytes of each file are one, so are the inputs
pub one_inputs : (P Q : NamedFile → List ℕ → Type 0) → ((f : NamedFile) (a b : List ℕ) → P f a → Q f b → a ≡ b)
    → (q : Request) (i j : Inputs) → AreInputs P q i → AreInputs Q q j → i ≡ j
one_inputs P Q same q i j first second = λ k. record {
  image = same (image_file q) i.image j.image first.image second.image k;
  source = one_source P Q same q.machine i.source j.source first.source second.source k;
}

both_source : (P Q : NamedFile → List ℕ → Type 0) (m : MachineWords) (s : Source) → IsSourceOf P m s → IsSourceOf Q m s → IsSourceOf (λ f b. P f b × Q f b) m s
both_source P Q (Sizes c h b) s first second = first
both_source P Q (File name) (Text a) first second = (first, second)
both_source P Q (File name) (Numbers c h b) first second = absurd first

-- two facts of each file
pub both_inputs : (P Q : NamedFile → List ℕ → Type 0) (q : Request) (i : Inputs) → AreInputs P q i → AreInputs Q q i → AreInputs (λ f b. P f b × Q f b) q i
both_inputs P Q q i first second = record {
  image = (first.image, second.image);
  source = both_source P Q q.machine i.source first.source second.source;
}

text_of : (P : NamedFile → List ℕ → Type 0) (name : List ℕ) (s : Source) → IsSourceOf P (File name) s → (b : List ℕ) × P (topology_file name) b
text_of P name (Text bytes) is = (bytes, is)
text_of P name (Numbers c h b) is = absurd is

-- the bytes of a file of a request
pub bytes_of : (P : NamedFile → List ℕ → Type 0) (q : Request) (i : Inputs) (f : NamedFile) → AreInputs P q i → IsFileOf q f → (b : List ℕ) × P f b
bytes_of P q i _ are of_image = (i.image, are.image)
bytes_of P q i _ are (of_topology name is) = text_of P name i.source (subst (λ m. IsSourceOf P m i.source) is are.source)

-- the file that was given is the one that the host tells
pub given_there : (files : Option Files) (file_at : Files) → files ≡ Some file_at
    → (f : NamedFile) (a b : List ℕ) → IsGiven files f a → file_at f.name ≡ Some b → a ≡ b
given_there files file_at told f a b given there =
    let given_told : file_at f.name ≡ Some a =
    (let from : Option Files → Type 0 = λ o. IfSome o (λ at. at f.name ≡ Some a) in subst from told given.told) in
    some_injective _ _ (sym given_told ∙ there)

size_of_some : (o : Option (List ℕ)) (bytes : List ℕ) (size : ℕ) → o ≡ Some bytes → IsSomeAnd o (λ b. length b ≡ size) → length bytes ≡ size
size_of_some (Some b) bytes size same is = ap length (sym (some_injective _ _ same)) ∙ is
size_of_some None bytes size same is = absurd is

-- and so is its size
pub large_there : (files : Option Files) (file_at : Files) (f : NamedFile) (bytes : List ℕ) (size : ℕ)
    → files ≡ Some file_at → file_at f.name ≡ Some bytes → IsTooLarge files f size → length bytes ≡ size
large_there files file_at f bytes size told there is =
    let said : IsSomeAnd (file_at f.name) (λ b. length b ≡ size) =
    (let from : Option Files → Type 0 = λ o. IfSome o (λ at. IsSomeAnd (at f.name) (λ b. length b ≡ size)) in subst from told is.told) in
    size_of_some (file_at f.name) bytes size there said

-- no file within its limit is too large
pub not_large : (files : Option Files) (file_at : Files) (q : Request) (i : Inputs) (f : NamedFile) (size : ℕ)
    → files ≡ Some file_at → AreThere file_at q i → AreSmall q i → IsFileOf q f → IsTooLarge files f size → ⊥
not_large files file_at q i f size told there small named is =
    let found = bytes_of _ q i f (both_inputs _ _ q i there small) named in
    let size_is = large_there files file_at f found.0 size told found.1.0 is in
    let above = is.large in
    let below = found.1.1 in
    omega arith

-- and one above its limit is not given
pub not_given : (files : Option Files) (file_at : Files) (q : Request) (i : Inputs) (f : NamedFile) (bytes : List ℕ)
    → files ≡ Some file_at → AreGiven files q i → IsFileOf q f → file_at f.name ≡ Some bytes → f.limit < length bytes → ⊥
not_given files file_at q i f bytes told given named there above =
    let found = bytes_of _ q i f given named in
    let same = given_there files file_at told f found.0 bytes found.1 there in
    let len = ap length same in
    let small = found.1.small in
    omega arith

-- a file that is reached is one of those that are named
pub reached_named : (files : Option Files) (q : Request) (f : NamedFile) (loaded : List Call) → IsReached files q f loaded → IsFileOf q f
reached_named files q _ _ image_first = of_image
reached_named files q _ _ (then_topology name bytes is given) = of_topology name is

-- and the loads up to it are the first ones, or all
pub reached_loading : (files : Option Files) (q : Request) (f : NamedFile) (loaded : List Call) → IsReached files q f loaded → IsLoading q loaded
reached_loading files q _ _ image_first = image_alone
reached_loading files q _ _ (then_topology name bytes is given) =
    subst (λ (calls : List Call). IsLoading q calls) (ap (λ m. load_of q.image ∷ machine_loads m) is) all_files
