-- After a run of the cluster by itself each hart whose lock instruction was sent can go on, and each store that waits is to a word of memory.
use Rattle.std.proofs.Common.{◌≡◌, ℕ, true, List, ◌∙◌, subst}
use Rattle.dash_event.specs.declared.event.Event.{Event}
use Rattle.hart_core.specs.HartState.{HartState, can_go_on}
use Rattle.dash_model.specs.Config.{Config}
use Rattle.dash_model.specs.Net.{Packet}
use Rattle.dash_model.specs.Part.{opening_part}
use Rattle.dash_model.specs.LocalRun.{part_at}
use Rattle.dash_model.specs.LocalHarts.{AreOfMemory, IsReady}
use Rattle.dash_model.proofs.LawsOffered.{local_runs_keep_harts}
use Rattle.unit_rows.specs.Shown.{PartsView, hart_at}
use Rattle.unit_rows.specs.Local.{IsLocal}
use Rattle.unit_rows.specs.LockWords.{AskersGoOn}
use Rattle.unit_rows.specs.AskFits.{StoresAreOfMemory}

ready : (w : Config) (c : ℕ) (v : PartsView) (log : List Event) (last : ℕ) (sent received : List Packet) (l : IsLocal w c v log last sent received) (k : ℕ) → IsReady w ((part_at w c (opening_part w) l.history).harts (hart_at w c k))
ready w c v log last sent received l k = local_runs_keep_harts w c l.history (hart_at w c k) l.ran

pub askers_go_on : (w : Config) (c : ℕ) (v : PartsView) (log : List Event) (last : ℕ) (sent received : List Packet) → IsLocal w c v log last sent received → AskersGoOn w v
askers_go_on w c v log last sent received l = record {
  goes = λ k d low asked.
      let s = l.shows.harts k d low in
      let next = (ready w c v log last sent received l k).next (s.asked ∙ asked) in
      subst (λ (h : HartState). can_go_on w.top h ≡ true) s.core next.needs.goes;
}

pub stores_are_of_memory : (w : Config) (c : ℕ) (v : PartsView) (log : List Event) (last : ℕ) (sent received : List Packet) → IsLocal w c v log last sent received → StoresAreOfMemory w v
stores_are_of_memory w c v log last sent received l = record {
  inside = λ k d low. subst (AreOfMemory w) (l.shows.harts k d low).buffer (ready w c v log last sent received l k).waiting;
}
