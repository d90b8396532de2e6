use Rattle.unit_rows.specs.Shown.{config, shown}
use Rattle.cluster_unit.specs.Serial.{ServesFront}
use Rattle.std.proofs.Common.{None, Some}
use Rattle.cluster_unit.proofs.SerialOnes.{none_yet, none_next, one_found, step_at, front_room, front_last}
use Rattle.cluster_unit.proofs.first_serial.first_for_instruction.Goals as goal

pub returns-in-Some : goal.returns-in-Some
returns-in-Some c = one_found (config c.args.site.now) c.args.site.now.cluster.0 (shown c.args.parts.now) (λ y p. ServesFront (config c.args.site.now) c.args.site.now.cluster.0 c.args.hart y p) 0 c.in-Some.choice (none_yet (config c.args.site.now) c.args.site.now.cluster.0 (shown c.args.parts.now) (λ y p. ServesFront (config c.args.site.now) c.args.site.now.cluster.0 c.args.hart y p)) (step_at (config c.args.site.now) c.args.site.now.cluster.0 c.args.hart (shown c.args.parts.now) (Some c.in-Some.choice) c.in-Some.ensures)

pub returns-in-Some-read_for_instruction : goal.returns-in-Some-read_for_instruction
returns-in-Some-read_for_instruction c = one_found (config c.args.site.now) c.args.site.now.cluster.0 (shown c.args.parts.now) (λ y p. ServesFront (config c.args.site.now) c.args.site.now.cluster.0 c.args.hart y p) 1 c.in-Some-read_for_instruction.choice (none_next (config c.args.site.now) c.args.site.now.cluster.0 (shown c.args.parts.now) (λ y p. ServesFront (config c.args.site.now) c.args.site.now.cluster.0 c.args.hart y p) 0 (none_yet (config c.args.site.now) c.args.site.now.cluster.0 (shown c.args.parts.now) (λ y p. ServesFront (config c.args.site.now) c.args.site.now.cluster.0 c.args.hart y p)) (step_at (config c.args.site.now) c.args.site.now.cluster.0 c.args.hart (shown c.args.parts.now) None c.in_default.ensures)) c.in-Some-read_for_instruction.ensures

pub returns-in-Some-own_for_instruction : goal.returns-in-Some-own_for_instruction
returns-in-Some-own_for_instruction c = one_found (config c.args.site.now) c.args.site.now.cluster.0 (shown c.args.parts.now) (λ y p. ServesFront (config c.args.site.now) c.args.site.now.cluster.0 c.args.hart y p) 2 c.in-Some-own_for_instruction.choice (none_next (config c.args.site.now) c.args.site.now.cluster.0 (shown c.args.parts.now) (λ y p. ServesFront (config c.args.site.now) c.args.site.now.cluster.0 c.args.hart y p) 1 (none_next (config c.args.site.now) c.args.site.now.cluster.0 (shown c.args.parts.now) (λ y p. ServesFront (config c.args.site.now) c.args.site.now.cluster.0 c.args.hart y p) 0 (none_yet (config c.args.site.now) c.args.site.now.cluster.0 (shown c.args.parts.now) (λ y p. ServesFront (config c.args.site.now) c.args.site.now.cluster.0 c.args.hart y p)) (step_at (config c.args.site.now) c.args.site.now.cluster.0 c.args.hart (shown c.args.parts.now) None c.in_default.ensures)) c.in_default-read_for_instruction.ensures) c.in-Some-own_for_instruction.ensures

pub returns-in-Some-find_room : goal.returns-in-Some-find_room
returns-in-Some-find_room c = one_found (config c.args.site.now) c.args.site.now.cluster.0 (shown c.args.parts.now) (λ y p. ServesFront (config c.args.site.now) c.args.site.now.cluster.0 c.args.hart y p) 3 c.in-Some-find_room.choice (none_next (config c.args.site.now) c.args.site.now.cluster.0 (shown c.args.parts.now) (λ y p. ServesFront (config c.args.site.now) c.args.site.now.cluster.0 c.args.hart y p) 2 (none_next (config c.args.site.now) c.args.site.now.cluster.0 (shown c.args.parts.now) (λ y p. ServesFront (config c.args.site.now) c.args.site.now.cluster.0 c.args.hart y p) 1 (none_next (config c.args.site.now) c.args.site.now.cluster.0 (shown c.args.parts.now) (λ y p. ServesFront (config c.args.site.now) c.args.site.now.cluster.0 c.args.hart y p) 0 (none_yet (config c.args.site.now) c.args.site.now.cluster.0 (shown c.args.parts.now) (λ y p. ServesFront (config c.args.site.now) c.args.site.now.cluster.0 c.args.hart y p)) (step_at (config c.args.site.now) c.args.site.now.cluster.0 c.args.hart (shown c.args.parts.now) None c.in_default.ensures)) c.in_default-read_for_instruction.ensures) c.in_default-own_for_instruction.ensures) (front_room (config c.args.site.now) c.args.site.now.cluster.0 c.args.hart (shown c.args.parts.now) (Some c.in-Some-find_room.choice) c.in-Some-find_room.ensures)

pub returns : goal.returns
returns c = front_last (config c.args.site.now) c.args.site.now.cluster.0 c.args.hart (shown c.args.parts.now) c.enabled-2.result (none_next (config c.args.site.now) c.args.site.now.cluster.0 (shown c.args.parts.now) (λ y p. ServesFront (config c.args.site.now) c.args.site.now.cluster.0 c.args.hart y p) 3 (none_next (config c.args.site.now) c.args.site.now.cluster.0 (shown c.args.parts.now) (λ y p. ServesFront (config c.args.site.now) c.args.site.now.cluster.0 c.args.hart y p) 2 (none_next (config c.args.site.now) c.args.site.now.cluster.0 (shown c.args.parts.now) (λ y p. ServesFront (config c.args.site.now) c.args.site.now.cluster.0 c.args.hart y p) 1 (none_next (config c.args.site.now) c.args.site.now.cluster.0 (shown c.args.parts.now) (λ y p. ServesFront (config c.args.site.now) c.args.site.now.cluster.0 c.args.hart y p) 0 (none_yet (config c.args.site.now) c.args.site.now.cluster.0 (shown c.args.parts.now) (λ y p. ServesFront (config c.args.site.now) c.args.site.now.cluster.0 c.args.hart y p)) (step_at (config c.args.site.now) c.args.site.now.cluster.0 c.args.hart (shown c.args.parts.now) None c.in_default.ensures)) c.in_default-read_for_instruction.ensures) c.in_default-own_for_instruction.ensures) (front_room (config c.args.site.now) c.args.site.now.cluster.0 c.args.hart (shown c.args.parts.now) None c.in_default-find_room.ensures)) c.enabled-2.ensures
