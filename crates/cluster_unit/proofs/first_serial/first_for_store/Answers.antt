use Rattle.unit_rows.specs.Shown.{config, shown}
use Rattle.cluster_unit.specs.Serial.{ServesStore}
use Rattle.std.proofs.Common.{None, Some}
use Rattle.cluster_unit.proofs.SerialOnes.{none_yet, none_next, none_at_1, one_found, commit_at, store_room, store_last}
use Rattle.cluster_unit.proofs.first_serial.first_for_store.Goals as goal

pub returns-in-Some : goal.returns-in-Some
returns-in-Some c = one_found (config c.args.site.now) c.args.site.now.cluster.0 (shown c.args.parts.now) (λ y p. ServesStore (config c.args.site.now) c.args.site.now.cluster.0 c.args.hart y p) 0 c.in-Some.choice (none_yet (config c.args.site.now) c.args.site.now.cluster.0 (shown c.args.parts.now) (λ y p. ServesStore (config c.args.site.now) c.args.site.now.cluster.0 c.args.hart y p)) (commit_at (config c.args.site.now) c.args.site.now.cluster.0 c.args.hart (shown c.args.parts.now) (Some c.in-Some.choice) c.in-Some.ensures)

pub returns-in-Some-own_for_store : goal.returns-in-Some-own_for_store
returns-in-Some-own_for_store c = one_found (config c.args.site.now) c.args.site.now.cluster.0 (shown c.args.parts.now) (λ y p. ServesStore (config c.args.site.now) c.args.site.now.cluster.0 c.args.hart y p) 2 c.in-Some-own_for_store.choice (none_at_1 (config c.args.site.now) c.args.site.now.cluster.0 c.args.hart (shown c.args.parts.now) (none_next (config c.args.site.now) c.args.site.now.cluster.0 (shown c.args.parts.now) (λ y p. ServesStore (config c.args.site.now) c.args.site.now.cluster.0 c.args.hart y p) 0 (none_yet (config c.args.site.now) c.args.site.now.cluster.0 (shown c.args.parts.now) (λ y p. ServesStore (config c.args.site.now) c.args.site.now.cluster.0 c.args.hart y p)) (commit_at (config c.args.site.now) c.args.site.now.cluster.0 c.args.hart (shown c.args.parts.now) None c.in_default.ensures))) c.in-Some-own_for_store.ensures

pub returns-in-Some-find_room : goal.returns-in-Some-find_room
returns-in-Some-find_room c = one_found (config c.args.site.now) c.args.site.now.cluster.0 (shown c.args.parts.now) (λ y p. ServesStore (config c.args.site.now) c.args.site.now.cluster.0 c.args.hart y p) 3 c.in-Some-find_room.choice (none_next (config c.args.site.now) c.args.site.now.cluster.0 (shown c.args.parts.now) (λ y p. ServesStore (config c.args.site.now) c.args.site.now.cluster.0 c.args.hart y p) 2 (none_at_1 (config c.args.site.now) c.args.site.now.cluster.0 c.args.hart (shown c.args.parts.now) (none_next (config c.args.site.now) c.args.site.now.cluster.0 (shown c.args.parts.now) (λ y p. ServesStore (config c.args.site.now) c.args.site.now.cluster.0 c.args.hart y p) 0 (none_yet (config c.args.site.now) c.args.site.now.cluster.0 (shown c.args.parts.now) (λ y p. ServesStore (config c.args.site.now) c.args.site.now.cluster.0 c.args.hart y p)) (commit_at (config c.args.site.now) c.args.site.now.cluster.0 c.args.hart (shown c.args.parts.now) None c.in_default.ensures))) c.in_default-own_for_store.ensures) (store_room (config c.args.site.now) c.args.site.now.cluster.0 c.args.hart (shown c.args.parts.now) (Some c.in-Some-find_room.choice) c.in-Some-find_room.ensures)

pub returns : goal.returns
returns c = store_last (config c.args.site.now) c.args.site.now.cluster.0 c.args.hart (shown c.args.parts.now) c.enabled-2.result (none_next (config c.args.site.now) c.args.site.now.cluster.0 (shown c.args.parts.now) (λ y p. ServesStore (config c.args.site.now) c.args.site.now.cluster.0 c.args.hart y p) 3 (none_next (config c.args.site.now) c.args.site.now.cluster.0 (shown c.args.parts.now) (λ y p. ServesStore (config c.args.site.now) c.args.site.now.cluster.0 c.args.hart y p) 2 (none_at_1 (config c.args.site.now) c.args.site.now.cluster.0 c.args.hart (shown c.args.parts.now) (none_next (config c.args.site.now) c.args.site.now.cluster.0 (shown c.args.parts.now) (λ y p. ServesStore (config c.args.site.now) c.args.site.now.cluster.0 c.args.hart y p) 0 (none_yet (config c.args.site.now) c.args.site.now.cluster.0 (shown c.args.parts.now) (λ y p. ServesStore (config c.args.site.now) c.args.site.now.cluster.0 c.args.hart y p)) (commit_at (config c.args.site.now) c.args.site.now.cluster.0 c.args.hart (shown c.args.parts.now) None c.in_default.ensures))) c.in_default-own_for_store.ensures) (store_room (config c.args.site.now) c.args.site.now.cluster.0 c.args.hart (shown c.args.parts.now) None c.in_default-find_room.ensures)) c.enabled-2.ensures
