use Rattle.std.proofs.Common.{rules, ◌≡◌, ◌<◌, [], ◌∷◌, ◌++◌, sym, ◌∙◌, ap, subst, arith}
use Rattle.trace_merge.specs.MergedLogs.{AreLogs}
use Rattle.trace_merge.specs.Settled.{StartsSettled, last_stamp}
use Rattle.run_tests.proofs.Grown.{grown}
use Rattle.run_tests.proofs.logs.an_event_is_merged_once_no_cluster_can_write_one_before_it.Goals as goal

pub add-requires-clause-starts : goal.add-requires-clause-starts
add-requires-clause-starts g c = subst (StartsSettled (c.in_ok-from_slice.field-0.items ∷ c.in_ok-from_slice-2.field-0.items ∷ [])) (sym c.in_ok-merger.ensures.done) (c.nothing_starts.ensures _)

pub add-requires-2-clause-starts : goal.add-requires-2-clause-starts
add-requires-2-clause-starts g c =
    let near = c.in_ok-from_slice.field-0.items in
    let far = c.in_ok-from_slice-2.field-0.items in
    let later = c.in_ok-from_slice-3.field-0.items in
    let longer = c.in_ok-from_slice-4.field-0.items in
    let e = c.retires-4.result in
    let are : AreLogs (later ∷ longer ∷ []) = search rules in
    let same : near ≡ later = c.in_ok-from_slice.ensures.items ∙ sym c.in_ok-from_slice-3.ensures.items in
    let more : far ++ e ∷ [] ≡ longer = ap (λ l. l ++ e ∷ []) c.in_ok-from_slice-2.ensures.items ∙ sym c.in_ok-from_slice-4.ensures.items in
    let stamp = c.retires-far.ensures.stamp in
    let after = c.retires-4.ensures.stamp in
    let less : last_stamp far < e.stamp = subst (λ l. last_stamp l < e.stamp) (sym c.in_ok-from_slice-2.ensures.items) (omega arith) in
    c.settled_parts_stay.ensures (near ∷ far ∷ []) (later ∷ longer ∷ []) c.add.new.self.done are (grown near later far longer e same more less) c.in_ok-add.ensures.settled
