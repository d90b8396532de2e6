-- The lists with which a program begins hold the opening state.
use Rattle.std.proofs.Common.{◌≡◌, ◌+◌, ◌*◌, ◌/◌, ◌<◌, ℕ, None, length, map, replicate, slice_index, ap, ◌∙◌, arith}
use Rattle.std.proofs.lemmas.Grind.{common_steps}
use Rattle.std.proofs.lemmas.List.FromFn.{get_or-map-range_with_len, length-map-range_with_len}
use Rattle.std.specs.List.{range_with_len}
use Rattle.dash_base.specs.declared.topology.Topology.{Topology}
use Rattle.elf_load.specs.Image.{ImageView, opening_word, opening_words, words_among}
use Rattle.elf_load.specs.declared.memory_map.MemoryMap.{MemoryMap}
use Rattle.hart_core.specs.Opening.{opening_hart}
use Rattle.dash_base.specs.Places.{hart_count}
use Rattle.flat_model.specs.State.{opening_state}
use Rattle.flat_model.specs.Represents.{MachineView, Represents}

pub opening_each : (image : ImageView) (m : MemoryMap) (i : ℕ) → i < length (opening_words image m)
    → slice_index (opening_words image m) i ≡ opening_word image (m.base + 4 * i)
unfolding words_among
opening_each image m i inside =
    let count : length (opening_words image m) ≡ m.size / 4 = length-map-range_with_len _ _ _ in
    get_or-map-range_with_len (λ i. opening_word image (m.base + 4 * i)) 0 (m.size / 4) i i 0 (omega (arith, count, inside)) (omega arith)

zero_each : (n i : ℕ) → i < n → slice_index (replicate n 0) i ≡ 0
zero_each n i inside = grind (arith, common_steps)

zero_count : (n : ℕ) → length {A = ℕ} (replicate n 0) ≡ n
zero_count n = grind (arith, common_steps)

pub opening_held : (image : ImageView) (t : Topology) (m : MachineView)
    → m.harts ≡ map (λ h. opening_hart image t h) (range_with_len 0 (hart_count t))
    → m.reservations ≡ map (λ h. None) (range_with_len 0 (hart_count t))
    → 4 * length m.memory ≡ t.memory
    → ((i : ℕ) → i < length m.memory → slice_index m.memory i ≡ opening_word image (t.base + 4 * i))
    → m.locks ≡ replicate t.locks 0
    → Represents t m (opening_state image t)
opening_held image t m harts reservations whole each locks = record {
  harts_are = harts;
  reservations_are = reservations;
  memory_whole = whole;
  memory_is = each;
  locks_whole = ap length locks ∙ zero_count t.locks;
  locks_are = λ i inside.
      let count : length m.locks ≡ t.locks = ap length locks ∙ zero_count t.locks in
      ap (λ xs. slice_index xs i) locks ∙ zero_each t.locks i (omega (arith, count, inside));
}
