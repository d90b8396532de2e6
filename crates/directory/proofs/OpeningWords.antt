-- The words of memory at the start of a run.
use Rattle.std.proofs.Common.{◌≡◌, ◌+◌, ◌*◌, ◌/◌, ◌<◌, ℕ, length, slice_index, arith}
use Rattle.std.proofs.lemmas.List.FromFn.{get_or-map-range_with_len, length-map-range_with_len}
use Rattle.elf_load.specs.Image.{ImageView, opening_word, opening_words, words_among}
use Rattle.elf_load.specs.declared.memory_map.MemoryMap.{MemoryMap}

pub opening_each : (image : ImageView) (m : MemoryMap) (i : ℕ) → i < length (opening_words image m)
    → slice_index (opening_words image m) i ≡ opening_word image (m.base + 4 * i)
unfolding words_among
opening_each image m i inside =
    let count : length (opening_words image m) ≡ m.size / 4 = length-map-range_with_len _ _ _ in
    get_or-map-range_with_len (λ i. opening_word image (m.base + 4 * i)) 0 (m.size / 4) i i 0 (omega (arith, count, inside)) (omega arith)
