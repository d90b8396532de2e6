use Rattle.std.proofs.Common.{◌≡◌, Bool, true, false, ap, sym, ◌∙◌, arith}
use Rattle.std.specs.Str.{bytes_eq}
use Rattle.std.proofs.lemmas.Map.Text.{btree_map_updates_str}
use Rattle.rv32_asm.specs.Tree.{in_tree}
use Rattle.rv32_asm.proofs.Adding.{add_step, no_definition, same_name}
use Rattle.rv32_asm.proofs.labels.Labels.add.Goals as goal

pub returns-in_ok-insert : goal.returns-in_ok-insert
unfolding in_tree
returns-in_ok-insert c = λ q.
    btree_map_updates_str c.args.name.now c.args.self.now.map c.insert.new.self _ c.in_ok-insert.ensures.updates q
    ∙ add_step (bytes_eq c.args.name.now q) (in_tree c.args.self.now.map q) c.args.definition
    (λ e. ap (in_tree c.args.self.now.map) (sym (same_name _ _ e)) ∙ no_definition _ (sym c.contains_key.ensures ∙ grind arith))
