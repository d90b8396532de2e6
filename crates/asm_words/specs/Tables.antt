-- The numbers that registers and sets of a fence have by their spellings.
use Rattle.std.specs.Prelude.{ℕ, suc, zero, Bool, List, Option, Some, None, if◌then◌else◌}
use Rattle.std.specs.Str.{bytes_eq}
use Rattle.rv32_text.specs.Names.{register, fence_set}

-- the greatest number below a limit that is spelled so
unfoldable pub found_below : (ℕ → List ℕ) → ℕ → List ℕ → Option ℕ
found_below spelling zero word = None
found_below spelling (suc n) word = if bytes_eq (spelling n) word then Some n else found_below spelling n word

-- the register of a name in the ABI
unfoldable pub register_of : List ℕ → Option ℕ
register_of word = found_below register 32 word

-- the set of a fence by its letters
unfoldable pub fence_set_of : List ℕ → Option ℕ
fence_set_of word = found_below fence_set 16 word
