use Rattle.std.proofs.Common.{◌≡◌, ◌++◌, List, [], ◌∷◌, Some, true, false, string_bytes, sym, ap, ◌∙◌, subst, append_assoc, arith}
use Rattle.std.proofs.lemmas.Grind.{common_steps}
use Rattle.std.specs.List.Sorted.{IsStrictlySortedBy}
use Rattle.std.specs.Map.{keys_of}
use Rattle.std.specs.String.{string_cmp}
use Rattle.toml.specs.View.{members_view}
use Rattle.toml.proofs.Views.{Entry}
use Rattle.topology.specs.Document.{is_key, least_unknown}
use Rattle.topology.proofs.LeastName.{all_known-push, first_is_least, least_unknown-known}
use Rattle.topology.proofs.members.first_unknown.Goals as goal

pub returns-then-not-is_key : goal.returns-then-not-is_key
returns-then-not-is_key c =
    let (done, whole, known) = c.loop-name.invariant in
    let e : Entry = (c.in-Some.name.now, c.in-Some._value.now) in
    let iter : c.loop-name.name-iterator ≡ e ∷ c.next.new.self = grind (arith, common_steps) in
    let all : c.args.table.now.entries ≡ done ++ e ∷ c.next.new.self = whole ∙ ap (λ t. done ++ t) iter in
    let tested : is_key c.as_str.result.now ≡ false = grind (arith, common_steps) in
    let unknown : is_key (string_bytes e.0) ≡ false = ap is_key (sym c.as_str.ensures.value) ∙ tested in
    let sorted = subst (λ (es : List Entry). IsStrictlySortedBy string_cmp (keys_of es)) all c.iter-name-items.ensures.ordered in
    ap Some c.as_str-then-not-is_key.ensures.value
    ∙ sym (first_is_least done c.next.new.self e known unknown sorted)
    ∙ ap (λ (es : List Entry). least_unknown (members_view es)) (sym all)

pub loop-name-preserved : goal.loop-name-preserved
loop-name-preserved c =
    let (done, whole, known) = c.loop-name.invariant in
    let e : Entry = (c.in-Some.name.now, c.in-Some._value.now) in
    let iter : c.loop-name.name-iterator ≡ e ∷ c.next.new.self = grind (arith, common_steps) in
    let tested : is_key c.as_str.result.now ≡ true = grind (arith, common_steps) in
    let here : is_key (string_bytes e.0) ≡ true = ap is_key (sym c.as_str.ensures.value) ∙ tested in
    (done ++ e ∷ [], whole ∙ ap (λ t. done ++ t) iter ∙ sym (append_assoc done (e ∷ []) c.next.new.self), all_known-push done e known here)

pub returns : goal.returns
returns c =
    let (done, whole, known) = c.loop-name.invariant in
    let iter : c.loop-name.name-iterator ≡ [] = grind (arith, common_steps) in
    sym (ap (λ (es : List Entry). least_unknown (members_view es)) (whole ∙ ap (λ t. done ++ t) iter) ∙ least_unknown-known done [] known)
