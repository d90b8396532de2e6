-- One event more: where a row was done, the longer log is that of a local run too.
use Rattle.std.proofs.Common.{◌≡◌, ℕ, List, [], ◌∷◌, ◌++◌, map, refl, sym, ap, ap₂, ◌∙◌, subst}
use Rattle.std.proofs.lemmas.List.{map-append}
use Rattle.dash_msg.specs.declared.parcel.Sent.{Sent}
use Rattle.dash_event.specs.declared.event.Event.{Event}
use Rattle.dash_event.specs.declared.event.Kind.{Kind}
use Rattle.dash_model.specs.Config.{Config}
use Rattle.dash_model.specs.Net.{Packet, packet}
use Rattle.dash_model.specs.Part.{Part, opening_part}
use Rattle.dash_model.specs.Machine.{Step, event_of, taken, stamp_of, next_stamp, Steps}
use Rattle.dash_model.specs.LocalRun.{part_at}
use Rattle.dash_model.proofs.LawsOffered.{local_runs_grow}
use Rattle.unit_rows.specs.Shown.{PartsView, Shows}
use Rattle.unit_rows.specs.Rows.{Does}
use Rattle.unit_rows.specs.Local.{IsLocal, event_at}

-- the stamp of the last event shows in no part of the code
restamped : (w : Config) (c : ℕ) (v : PartsView) (p : Part) (stamp : ℕ) → Shows w c v p → Shows w c v (record p { last = stamp })
restamped w c v p stamp s = record { harts = s.harts; copies = s.copies; slots = s.slots; acks = s.acks; homes = s.homes; locks = s.locks }

pub local_more : (w : Config) (c : ℕ) (v z : PartsView) (log : List Event) (last : ℕ) (sent received : List Packet) (e : Kind) (ss : List Sent) (stamp u : ℕ)
    → IsLocal w c v log last sent received → Does w c e v z ss → stamp ≡ next_stamp last (stamp_of (taken c u e))
    → IsLocal w c z (log ++ event_at c stamp e ∷ []) stamp (sent ++ map (packet stamp c) ss) (received ++ taken c u e)
local_more w c v z log last sent received e ss stamp u k d is =
    let p = part_at w c (opening_part w) k.history in
    let h = d.happens p k.shows in
    let g : Step = record { event = event_at c stamp e; stamp = u; done = d.done } in
    let steps : Steps w c g p = record { cluster = refl; stamp = is ∙ ap (λ n. next_stamp n (stamp_of (taken c u e))) (sym k.last_is); guard = h.guard } in
    let grows = local_runs_grow w c (opening_part w) k.history g k.ran steps in
    record {
      history = k.history ++ g ∷ [];
      events = map-append event_of k.history (g ∷ []) ∙ ap (λ es. es ++ event_at c stamp e ∷ []) k.events;
      ran = grows.run;
      shows = subst (Shows w c z) (sym grows.part) (restamped w c z _ stamp h.shows);
      last_is = ap (λ (y : Part). y.last) grows.part;
      sent_is = grows.sent ∙ ap₂ (λ x y. x ++ map (packet stamp c) y) k.sent_is h.sent_is;
      received_is = grows.received ∙ ap (λ x. x ++ taken c u e) k.received_is;
    }
