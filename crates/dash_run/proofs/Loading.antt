-- The files of a request, from what loading each came to.
use Rattle.std.proofs.Common.{◌≡◌, ℕ, List, [], ◌∷◌, length, Option, Some, None, IfSome, IsSomeAnd, refl, ap, sym, ◌∙◌, subst}
use Rattle.dash_base.specs.Outside.{Files, Call, load_of, with_calls}
use Rattle.dash_run.proofs.Printing.{with_calls_twice}
use Rattle.dash_run.specs.CommandLine.{Sizes, File, Request}
use Rattle.dash_run.specs.Inputs.{NamedFile, image_file, topology_file, Numbers, Text, IsGiven, IsSourceOf, machine_loads, loads_of, image_first, then_topology, image_alone, all_files}
use Rattle.dash_run.specs.Outcome.{IsFaultLine}
use Rattle.dash_run.specs.Output.{HasInputs, HasFault, HasBegun}

-- what a host says of a file's size, at the size that it answered
pub told_size : {R : Type 0} (files : Option Files) (name : List ℕ) (answer : ℕ → R) (result : R) (size : ℕ)
    → IfSome files (λ told. (s : ℕ) → result ≡ answer s → IsSomeAnd (told name) (λ bytes. length bytes ≡ s))
    → result ≡ answer size → IfSome files (λ told. IsSomeAnd (told name) (λ bytes. length bytes ≡ size))
told_size (Some told) name answer result size says is = says size is
told_size None name answer result size says is = tt

-- a count that stood still before a fault
pub fault_before : (files : Option Files) (before mid after : ℕ) (file : NamedFile) (text : List ℕ) → mid ≡ before → IsFaultLine files mid after file text → IsFaultLine files before after file text
fault_before files before mid after file text same fault = subst (λ (n : ℕ). IsFaultLine files n after file text) same fault

-- the loads of a request for a file
pub file_loads : (q : Request) (name : List ℕ) → q.machine ≡ File name → load_of q.image ∷ load_of name ∷ [] ≡ loads_of q
file_loads q name is = ap (λ m. load_of q.image ∷ machine_loads m) (sym is)

-- the calls of both loads
pub both_loads : (first second : List ℕ) (old mid new : Option (List Call)) → mid ≡ with_calls old (load_of first ∷ []) → new ≡ with_calls mid (load_of second ∷ [])
    → new ≡ with_calls old (load_of first ∷ load_of second ∷ [])
both_loads first second old mid new one two = two ∙ ap (λ told. with_calls told (load_of second ∷ [])) one ∙ with_calls_twice old (load_of first ∷ []) (load_of second ∷ [])

-- the inputs of a request for three numbers
pub given_numbers : (files : Option Files) (before : ℕ) (old mid : Option (List Call)) (q : Request) (image : List ℕ) (c h b : ℕ)
    → q.machine ≡ Sizes c h b → IsGiven files (image_file q) image → mid ≡ with_calls old (load_of q.image ∷ [])
    → HasInputs files before before old mid q (record { image = image; source = Numbers c h b })
given_numbers files before old mid q image c h b is given made = record {
  given = record { image = given; source = subst (λ m. IsSourceOf (IsGiven files) m (Numbers c h b)) (sym is) refl };
  same = refl;
  made = made ∙ ap (λ m. with_calls old (load_of q.image ∷ machine_loads m)) (sym is);
}

-- those of a request for a file
pub given_text : (files : Option Files) (before after : ℕ) (old mid new : Option (List Call)) (q : Request) (image name bytes : List ℕ)
    → q.machine ≡ File name → IsGiven files (image_file q) image → mid ≡ with_calls old (load_of q.image ∷ []) → new ≡ with_calls mid (load_of name ∷ [])
    → IsGiven files (topology_file name) bytes → after ≡ before
    → HasInputs files before after old new q (record { image = image; source = Text bytes })
given_text files before after old mid new q image name bytes is given one two text same = record {
  given = record { image = given; source = subst (λ m. IsSourceOf (IsGiven files) m (Text bytes)) (sym is) text };
  same = same;
  made = both_loads q.image name old mid new one two ∙ ap (with_calls old) (file_loads q name is);
}

-- the image was not given
pub image_fault : (files : Option Files) (before after : ℕ) (old new : Option (List Call)) (q : Request) (text : List ℕ)
    → new ≡ with_calls old (load_of q.image ∷ []) → IsFaultLine files before after (image_file q) text → HasFault files before after old new q text
image_fault files before after old new q text made fault = record { file = image_file q; loaded = load_of q.image ∷ []; reached = image_first; fault = fault; made = made }

-- the image was given, and the topology not
pub topology_fault : (files : Option Files) (before after : ℕ) (old mid new : Option (List Call)) (q : Request) (image name text : List ℕ)
    → q.machine ≡ File name → IsGiven files (image_file q) image → mid ≡ with_calls old (load_of q.image ∷ []) → new ≡ with_calls mid (load_of name ∷ [])
    → IsFaultLine files before after (topology_file name) text → HasFault files before after old new q text
topology_fault files before after old mid new q image name text is given one two fault = record {
  file = topology_file name;
  loaded = load_of q.image ∷ load_of name ∷ [];
  reached = then_topology name image is given;
  fault = fault;
  made = both_loads q.image name old mid new one two;
}

-- there was no memory once the image was loaded
pub image_begun : (old new : Option (List Call)) (q : Request) → new ≡ with_calls old (load_of q.image ∷ []) → HasBegun q old new
image_begun old new q made = record { loaded = load_of q.image ∷ []; loading = image_alone; made = made }

-- and once the topology was
pub topology_begun : (old mid new : Option (List Call)) (q : Request) (name : List ℕ)
    → q.machine ≡ File name → mid ≡ with_calls old (load_of q.image ∷ []) → new ≡ with_calls mid (load_of name ∷ []) → HasBegun q old new
topology_begun old mid new q name is one two = record {
  loaded = loads_of q;
  loading = all_files;
  made = both_loads q.image name old mid new one two ∙ ap (with_calls old) (file_loads q name is);
}
