-- The lemmas that the crates above use. Nothing else of these proofs is imported across crates.
pub use Rattle.cache_levels.proofs.Lines.{in_l1-after_read, in_l1-empty_levels, in_l1-with_level_copy, in_l1-without_level_line, l1_lines-after_read, l1_lines-empty_levels, l1_lines-with_level_copy, l1_lines-without_level_line, l2-after_read, l2-empty_levels, l2-with_level_copy, l2-without_level_line, part-after_read, part-empty_levels, part-with_level_copy, part-without_level_line}
pub use Rattle.cache_levels.proofs.Sets.{contains-insert_nat, contains-remove_nat, contains-retain_nat, same_nat_set}
