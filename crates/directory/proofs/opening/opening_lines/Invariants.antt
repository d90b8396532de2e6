use Rattle.std.proofs.Common.{◌≡◌, ◌+◌, ◌*◌, map}
use Rattle.std.specs.List.{range_with_len}
use Rattle.directory.specs.Opening.{opening_line}
use Rattle.directory.proofs.opening.opening_lines.Given as goal

-- the lines of the places so far
abbrev pub invariant-loop-place : goal.invariant-loop-place
invariant-loop-place l = l.kept.items ≡ map (λ place. opening_line l.image l.topology (place * l.topology.clusters + l.cluster.0)) (range_with_len 0 l.place)
