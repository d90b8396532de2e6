-- Words, their bytes, and masks of bytes.
use Rattle.std.specs.Prelude.{ℕ, ◌+◌, ◌*◌, ◌/◌, ◌%◌, ◌^◌, Bool, ◌==◌, if◌then◌else◌}

-- byte k of a word, the lowest being byte 0
abbrev pub byte_of_word : ℕ → ℕ → ℕ
byte_of_word k word = word / 2 ^ (8 * k) % 2 ^ 8

-- whether a mask has byte k
abbrev pub has_byte : ℕ → ℕ → Bool
has_byte mask k = mask / 2 ^ k % 2 == 1

-- byte k of `value` where the mask has it, else of `word`
abbrev pub merged_byte : ℕ → ℕ → ℕ → ℕ → ℕ
merged_byte k word mask value = if has_byte mask k then byte_of_word k value else byte_of_word k word

-- a word of four bytes, the lowest first
abbrev pub word_of_bytes : ℕ → ℕ → ℕ → ℕ → ℕ
word_of_bytes b0 b1 b2 b3 = b0 + b1 * 2 ^ 8 + b2 * 2 ^ 16 + b3 * 2 ^ 24

-- the bytes of `value` under a mask, written over a word
unfoldable pub merged : ℕ → ℕ → ℕ → ℕ
merged word mask value =
    word_of_bytes (merged_byte 0 word mask value) (merged_byte 1 word mask value) (merged_byte 2 word mask value) (merged_byte 3 word mask value)
