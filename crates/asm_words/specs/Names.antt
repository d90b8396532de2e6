-- Which words can be names.
use Rattle.std.specs.Prelude.{ℕ, ◌==◌, ◌&&◌, ◌||◌, Bool, List, length, nat_le, nat_lt, slice_index}
use Rattle.std.specs.List.{list_all}
use Rattle.std.specs.Char.{is_ascii_alphabetic, is_ascii_alphanumeric}

abbrev pub starts_name : ℕ → Bool
starts_name c = is_ascii_alphabetic c || c == 95

abbrev pub continues_name : ℕ → Bool
continues_name c = is_ascii_alphanumeric c || c == 95

abbrev pub is_dotted : ℕ → Bool
is_dotted c = continues_name c || c == 46

-- a letter or `_`, then letters, digits and `_`, at most 32 in all
unfoldable pub is_name : List ℕ → Bool
is_name word = starts_name (slice_index word 0) && list_all continues_name word && nat_le (length word) 32

-- letters and digits, at least one
unfoldable pub is_plain : List ℕ → Bool
is_plain word = nat_lt 0 (length word) && list_all is_ascii_alphanumeric word

-- letters, digits, `_` and `.`, at least one: as a mnemonic or a directive is spelled
unfoldable pub is_keyword : List ℕ → Bool
is_keyword word = nat_lt 0 (length word) && list_all is_dotted word
