-- A map by names, as contracts see it.
use Rattle.std.specs.Prelude.{ℕ, List, Option}
use Rattle.std.specs.BTreeMap.{BTreeMap, get_by}
use Rattle.std.specs.Cmp.Lexicographic.{slice_cmp}
use Rattle.std.specs.Ordering.{nat_cmp}
use Rattle.rv32_asm.specs.declared.labels.Definition.{Definition}
use denote.Ref.{Bor}

-- what a map has of a name
unfoldable pub in_tree : BTreeMap (Bor (List ℕ)) Definition → List ℕ → Option Definition
in_tree map name = get_by (λ k. slice_cmp nat_cmp name k.now) map
