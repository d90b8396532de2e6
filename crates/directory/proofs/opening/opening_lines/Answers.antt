use Rattle.std.proofs.Common.{ℕ, ◌≡◌, ◌+◌, ◌-◌, ◌*◌, ◌/◌, length, map, ap, ◌++◌, ◌∷◌, [], sym, ◌∙◌, arith}
use Rattle.std.specs.Int.{div_ceil}
use Rattle.std.specs.List.{range_with_len}
use Rattle.std.proofs.lemmas.List.FromFn.{length-map-range_with_len, map-range_with_len_more}
use Rattle.directory.specs.declared.home_line.HomeLine.{HomeLine}
use Rattle.directory.specs.Opening.{opening_line}
use Rattle.directory.proofs.AtStart.{place_below, kept_lines}
use Rattle.directory.proofs.opening.opening_lines.Goals as goal

pub opening_line-requires-clause-line : goal.opening_line-requires-clause-line
opening_line-requires-clause-line c =
    let lines = c.line_count.ensures in
    let under = place_below (c.line_count.result - c.args.cluster.0) c.args.topology.now.clusters _ c.loop-place.place (omega (arith, c.requires)) c.div_ceil-count.ensures c.loop-place-test.true in
    omega (arith, under, lines)

pub loop-place-preserved : goal.loop-place-preserved
loop-place-preserved c =
    let f : ℕ → HomeLine = λ place. opening_line c.args.image.now c.args.topology.now (place * c.args.topology.now.clusters + c.args.cluster.0) in
    c.in_ok-push.ensures.items
    ∙ ap (λ xs. xs ++ c.opening_line.result ∷ []) c.loop-place.invariant
    ∙ ap (λ x. map f (range_with_len 0 c.loop-place.place) ++ x ∷ []) c.opening_line.ensures
    ∙ sym (map-range_with_len_more f 0 c.loop-place.place c.loop-place.place (omega arith))

pub returns-clause-each : goal.returns-clause-each
returns-clause-each c =
    let f : ℕ → HomeLine = λ place. opening_line c.args.image.now c.args.topology.now (place * c.args.topology.now.clusters + c.args.cluster.0) in
    let long = ap length c.loop-place.invariant ∙ length-map-range_with_len f 0 c.loop-place.place in
    c.loop-place.invariant ∙ ap (λ n. map f (range_with_len 0 n)) (sym long)

pub returns-clause-all : goal.returns-clause-all
returns-clause-all c =
    let f : ℕ → HomeLine = λ place. opening_line c.args.image.now c.args.topology.now (place * c.args.topology.now.clusters + c.args.cluster.0) in
    let long = ap length c.loop-place.invariant ∙ length-map-range_with_len f 0 c.loop-place.place in
    let all : c.loop-place.place ≡ c.div_ceil-count.result = omega (arith, c.loop-place.auto.place-end, c.loop-place-test.false) in
    kept_lines _ c.args.topology.now.clusters (c.args.topology.now.memory / 16) c.div_ceil-count.result _ c.requires c.args.topology.now.clusters_in_range.high
    (omega (arith, c.requires, c.args.topology.now.memory_in_range.low, c.args.topology.now.clusters_in_range.high))
    (omega (arith, c.args.topology.now.memory_in_range.high)) (c.div_ceil-count.ensures ∙ ap (λ n. div_ceil (n - c.args.cluster.0) c.args.topology.now.clusters) c.line_count.ensures) (long ∙ all)
