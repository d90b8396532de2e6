-- The lemmas that the crates above use. Nothing else of these proofs is imported across crates.
pub use Rattle.cache_array.proofs.LineMaps.{get-empty_nat, get-insert_nat, get-remove_nat, same_nat_map}
pub use Rattle.cache_array.proofs.Lines.{copy_at-empty_array, copy_at-with_copy, copy_at-without_line, lines-empty_array, lines-with_copy, lines-without_line, one_per_index-empty_array, one_per_index-with_copy, one_per_index-without_line}
pub use Rattle.cache_array.proofs.Direct.{changed, direct-empty, direct-set, empty_clone, empty_places, its_index, no_index, no_place, set_back}
