-- The bytes of a merged word.
use Rattle.std.proofs.Common.{◌≡◌, ℕ, zero, suc, ◌+◌, ◌*◌, ◌/◌, ◌%◌, ◌^◌, ◌<◌, Bool, true, false, ◌∙◌, ap, arith}
use Rattle.std.specs.Prelude.{if◌then◌else◌}
use Rattle.dash_base.specs.Words.{byte_of_word, has_byte, merged_byte, merged}
use Rattle.dash_event.specs.Offered.{all_bytes, bytes_under}

-- each byte of a word of four bytes
byte_0 : (a b c d : ℕ) → a < 256 → (a + b * 256 + c * 65536 + d * 16777216) / 1 % 256 ≡ a
byte_0 a b c d small = omega arith

byte_1 : (a b c d : ℕ) → a < 256 → b < 256 → (a + b * 256 + c * 65536 + d * 16777216) / 256 % 256 ≡ b
byte_1 a b c d small_a small_b = omega arith

byte_2 : (a b c d : ℕ) → a < 256 → b < 256 → c < 256 → (a + b * 256 + c * 65536 + d * 16777216) / 65536 % 256 ≡ c
byte_2 a b c d small_a small_b small_c = omega arith

byte_3 : (a b c d : ℕ) → a < 256 → b < 256 → c < 256 → d < 256 → (a + b * 256 + c * 65536 + d * 16777216) / 16777216 % 256 ≡ d
byte_3 a b c d small_a small_b small_c small_d = omega arith

small_byte : (k word : ℕ) → byte_of_word k word < 256
small_byte k word = omega arith

small_choice : (b : Bool) (x y : ℕ) → x < 256 → y < 256 → (if b then x else y) < 256
small_choice true x y p q = p
small_choice false x y p q = q

small_merged_byte : (k word mask value : ℕ) → merged_byte k word mask value < 256
small_merged_byte k word mask value = small_choice (has_byte mask k) (byte_of_word k value) (byte_of_word k word) (small_byte k value) (small_byte k word)

-- a byte of a merged word
pub byte-merged : (k word mask value : ℕ) → k < 4 → byte_of_word k (merged word mask value) ≡ merged_byte k word mask value
unfolding merged
byte-merged zero w m v below = byte_0 (merged_byte 0 w m v) (merged_byte 1 w m v) (merged_byte 2 w m v) (merged_byte 3 w m v) (small_merged_byte 0 w m v)
byte-merged (suc zero) w m v below = byte_1 (merged_byte 0 w m v) (merged_byte 1 w m v) (merged_byte 2 w m v) (merged_byte 3 w m v) (small_merged_byte 0 w m v) (small_merged_byte 1 w m v)
byte-merged (suc (suc zero)) w m v below = byte_2 (merged_byte 0 w m v) (merged_byte 1 w m v) (merged_byte 2 w m v) (merged_byte 3 w m v) (small_merged_byte 0 w m v) (small_merged_byte 1 w m v) (small_merged_byte 2 w m v)
byte-merged (suc (suc (suc zero))) w m v below = byte_3 (merged_byte 0 w m v) (merged_byte 1 w m v) (merged_byte 2 w m v) (merged_byte 3 w m v) (small_merged_byte 0 w m v) (small_merged_byte 1 w m v) (small_merged_byte 2 w m v) (small_merged_byte 3 w m v)
byte-merged (suc (suc (suc (suc k)))) w m v below = absurd (omega arith)

-- a byte under the mask is the value's, and one outside it stays
pub byte-merged_in : (k word mask value : ℕ) → k < 4 → has_byte mask k ≡ true → byte_of_word k (merged word mask value) ≡ byte_of_word k value
byte-merged_in k w m v below has = byte-merged k w m v below ∙ ap (λ b. if b then byte_of_word k v else byte_of_word k w) has

pub byte-merged_out : (k word mask value : ℕ) → k < 4 → has_byte mask k ≡ false → byte_of_word k (merged word mask value) ≡ byte_of_word k word
byte-merged_out k w m v below has = byte-merged k w m v below ∙ ap (λ b. if b then byte_of_word k v else byte_of_word k w) has

-- all bytes of a word make the word
four_bytes : (w : ℕ) → w < 4294967296 → w / 1 % 256 + w / 256 % 256 * 256 + w / 65536 % 256 * 65536 + w / 16777216 % 256 * 16777216 ≡ w
four_bytes w small = omega arith

pub bytes_under-all_bytes : (word : ℕ) → word < 2 ^ 32 → bytes_under all_bytes word ≡ word
unfolding merged
bytes_under-all_bytes word small = four_bytes word small
