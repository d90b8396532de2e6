-- The files of a map by their names.
use Rattle.std.proofs.Common.{◌≡◌, List, [], ◌∷◌, ℕ, Bool, true, false, cond, Option, Some, option_map, map, string_bytes, String, Vec, nat_cmp, refl, ap, sym, ◌∙◌}
use Rattle.std.specs.BTreeMap.{BTreeMap, is_at, get_by_text}
use Rattle.std.specs.Cmp.Lexicographic.{slice_cmp}
use Rattle.std.specs.Map.{lookup}
use Rattle.dash_base.specs.MemoryHost.{HostState, files_of, file_at, is_told, fails_load}

mapped_choice : {X Y : Type 0} (f : X → Y) (test : Bool) (x : X) (rest : Option X) → option_map f (cond test (Some x) rest) ≡ cond test (Some (f x)) (option_map f rest)
mapped_choice f true x rest = refl
mapped_choice f false x rest = refl

file_at-entries : {Y Z : Type 0} (name : List ℕ) (es : List (String Y × Vec ℕ Z))
    → lookup (is_at (slice_cmp nat_cmp name)) (map (λ file. (string_bytes file.0, file.1.items)) es)
    ≡ option_map (λ bytes. bytes.items) (lookup (is_at (λ key. slice_cmp nat_cmp name (string_bytes key))) es)
file_at-entries name [] = refl
file_at-entries name (e ∷ es) =
    ap (λ rest. cond (is_at (slice_cmp nat_cmp name) (string_bytes e.0)) (Some e.1.items) rest) (file_at-entries name es)
    ∙ sym (mapped_choice (λ bytes. bytes.items) (is_at (slice_cmp nat_cmp name) (string_bytes e.0)) e.1 (lookup (is_at (λ key. slice_cmp nat_cmp name (string_bytes key))) es))

-- a file of a map is the bytes of its value at the name
pub file_at-files_of : {Y Z : Type 0} (files : BTreeMap (String Y) (Vec ℕ Z)) (name : List ℕ)
    → file_at (files_of files) name ≡ option_map (λ bytes. bytes.items) (get_by_text files name)
file_at-files_of files name = file_at-entries name files.entries

-- a load that is not told to fail, of a file that is there, does not fail
pub load_served : (h : HostState) (name bytes : List ℕ) → is_told h ≡ false → file_at h.files name ≡ Some bytes → fails_load name h ≡ false
load_served h name bytes told there = rw (told, there) refl
