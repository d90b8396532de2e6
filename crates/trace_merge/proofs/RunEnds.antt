-- The records of a complete run are a complete sequential run: each hart that stands in the machine stands in it.
use Rattle.std.proofs.Common.{List, Some, ap, arith, false, inl, inr, length, nat_lt, refl, subst, sym, true, ℕ, ◌∙◌, ◌≡◌, ◌&&◌}
use Rattle.std.proofs.lemmas.Bool.Decides.{nat_tests}
use Rattle.dash_base.specs.Words.{byte_of_word}
use Rattle.dash_base.specs.declared.end.End.TheVariants.{Running}
use Rattle.dash_base.specs.declared.id.WordAddr.{WordAddr}
use Rattle.dash_base.specs.declared.need.Need.TheVariants as needed
use Rattle.dash_base.specs.declared.topology.Topology.{Topology}
use Rattle.dash_event.specs.Offered.{bare_access}
use Rattle.dash_event.specs.Records.{records_in, records_of}
use Rattle.dash_event.specs.declared.access.Access.{Access}
use Rattle.dash_event.specs.declared.access.Op.TheVariants as op
use Rattle.dash_event.specs.declared.event.Event.{Event}
use Rattle.dash_event.specs.declared.event.Kind.TheVariants as kind
use Rattle.elf_load.specs.Image.{ImageView}
use Rattle.flat_model.proofs.LawsOffered.{locks_at_end, memory_at_end}
use Rattle.flat_model.specs.Run.{IsFlatStopped, RunsTo}
use Rattle.flat_model.specs.State.{FlatState}
use Rattle.hart_core.specs.HartState.{HartState, can_go_on, is_running}
use Rattle.hart_core.specs.Meaning.{Needs}
use Rattle.dash_model.proofs.LawsOffered.{drained_harts_have_committed, locks_have_last_uses, runs_are_admissible, settled_runs_are_replayed, waiters_ask}
use Rattle.dash_model.specs.Admissible.{IsAdmissible}
use Rattle.dash_model.specs.Coherent.{IsCommittedBefore, ReadsLock, reads_first, reads_last}
use Rattle.dash_model.specs.Complete.{Ended, IsComplete, IsStopped, Spent, Waits, hart_at}
use Rattle.dash_model.specs.Config.{Config, is_lock, lock_home}
use Rattle.dash_model.specs.Log.{IsEventAt}
use Rattle.dash_model.specs.Machine.{Machine, Reaches}
use Rattle.dash_model.specs.RunEnds.{LastUse, Unused, Used, value_of}
use Rattle.trace_merge.proofs.Bytes.{all_agree}
use Rattle.trace_merge.proofs.Consoles.{console_is}
use Rattle.trace_merge.proofs.Facts.{event_within, store_accesses}
use Rattle.trace_merge.proofs.Law.{all_race_free, run_to_end}
use Rattle.trace_merge.proofs.Locks.{reads_agree}
use Rattle.trace_merge.proofs.Places.{upto_all}
use Rattle.trace_merge.proofs.Released.{steps}
use Rattle.trace_merge.specs.RunEnds.{CompleteRunsAreComplete}

-- ---- lock words

-- an access that would read this of the lock word next
abbrev next_read : WordAddr → ℕ → Access
next_read word value = record (bare_access 0 0 op.Ask word) { read = Some value }

reads_next : (log : List Event) (word : WordAddr) (value : ℕ) → LastUse log word value → ReadsLock log (length log) (next_read word value)
reads_next log word value (Unused never zero) = reads_first (λ j b k same low. never j b k same) (ap Some zero)
reads_next log word value (Used j b there same last written) =
    reads_last j b there same (event_within log j there.kind there.at) (λ k c x y low high. last k c x y low) (sym written)

lock_is : (image : ImageView) (t : Topology) (log : List Event) (f : IsAdmissible image t log) (s : FlatState) (word : WordAddr) (value : ℕ) → RunsTo image t (steps log (length log)) s → LastUse log word value → s.locks word.0 ≡ value
lock_is image t log f s word value runs last =
    let same : Some value ≡ Some (s.locks word.0) = reads_agree image t log f (length log) (next_read word value) (Some (s.locks word.0)) (reads_next log word value last) (locks_at_end image t (steps log (length log)) s runs word.0) in
    cc

-- ---- harts that stand

spent_rests : (t : Topology) (s : HartState) → s.end ≡ Running → s.retired ≡ t.budget → can_go_on t s ≡ false
spent_rests t s running all = let no : nat_lt s.retired t.budget ≡ false = grind (arith, nat_tests) in ap (λ e. is_running e && nat_lt s.retired t.budget) running ∙ no

module _ (w : Config) (log : List Event) (m : Machine) (r : Reaches w log m) (s : FlatState) (harts : (h : ℕ) → s.harts h ≡ (hart_at w h m).core) (locks : (word : WordAddr) → is_lock w word.0 ≡ true → s.locks word.0 ≡ value_of w m word) where
  stopped : (h : ℕ) → IsStopped w h m → IsFlatStopped w.image w.top s h
  stopped h (Ended ended) = inl (ap (can_go_on w.top) (harts h) ∙ ap (λ b. b && nat_lt (hart_at w h m).core.retired w.top.budget) ended)
  stopped h (Spent spent) = inl (ap (can_go_on w.top) (harts h) ∙ spent_rests w.top (hart_at w h m).core spent.running spent.all)
  stopped h (Waits waits) =
      let asks = waiters_ask w log m h waits.word r waits.inside waits.queued in
      let value : value_of w m asks.word ≡ ((m.parts (lock_home w waits.word)).locks waits.word).value = ap (λ i. ((m.parts (lock_home w i)).locks i).value) asks.at in
      inr (record {
        word = asks.word;
        value = asks.value;
        asks = subst (λ x. Needs w.image w.top x (needed.Ask asks.word asks.value)) (sym (harts h)) asks.needs;
        taken = λ zero. waits.taken (sym value ∙ sym (locks asks.word asks.lock) ∙ zero);
      })

-- ---- stores

-- each store of a complete run is committed
all_done : (w : Config) (log : List Event) (m : Machine) (f : IsAdmissible w.image w.top log) → Reaches w log m → IsComplete w m → (j : ℕ) (b : Access) → IsEventAt log j (kind.Store b) → IsCommittedBefore log b (length log)
all_done w log m f r complete j b at = drained_harts_have_committed w log m b.hart.0 j b r (complete.buffers b.hart.0 (store_accesses w.image w.top log f j b at).moves.in_range) at refl

pub complete_runs_are_complete : CompleteRunsAreComplete
complete_runs_are_complete w log m labelled r complete =
    let f = runs_are_admissible w log r.run in
    let run = run_to_end w.image w.top log f labelled in
    let harts : (h : ℕ) → run.state.harts h ≡ (hart_at w h m).core = λ h. ap (λ hs. hs h) run.harts ∙ settled_runs_are_replayed w log m f.harts r complete.lanes f.replay h in
    let locks : (word : WordAddr) → is_lock w word.0 ≡ true → run.state.locks word.0 ≡ value_of w m word = λ word lock. lock_is w.image w.top log f run.state word (value_of w m word) run.runs (locks_have_last_uses w log m word r lock) in
    let runs : RunsTo w.image w.top (records_of log) run.state = subst (λ rs. RunsTo w.image w.top rs run.state) (upto_all records_in log) run.runs in
    record {
      state = run.state;
      complete = record { runs = runs; stopped = λ h below. stopped w log m r run.state harts locks h (complete.harts h below) };
      harts = harts;
      locks = locks;
      memory = λ address k small. memory_at_end w.image w.top (records_of log) run.state runs address k small;
      contents = λ word k small. all_agree w.image w.top log f word k (byte_of_word k (run.state.memory word.0)) (all_done w log m f r complete) (all_race_free w.image w.top log f labelled) small (memory_at_end w.image w.top (steps log (length log)) run.state run.runs word.0 k small);
      console = console_is w.image w.top log run.state runs;
    }
