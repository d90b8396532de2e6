use Rattle.std.proofs.Common.{rules}
use Rattle.std.proofs.lemmas.List.Sorted.{IsNonDecreasingBy-from_sort_by_key}
use Rattle.elf_load.specs.declared.segment_table.Numbered.{Numbered}
use Rattle.elf_load.proofs.overlap.by_address.Goals as goal

pub returns-clause-order : goal.returns-clause-order
returns-clause-order c =
    IsNonDecreasingBy-from_sort_by_key (λ (s : Numbered). (s.header).p_vaddr) _ c.in_ok-sort_by_key.ensures.sorted (λ a r q k. search rules)
