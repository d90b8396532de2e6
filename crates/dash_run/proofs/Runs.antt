-- What a run of the machine leaves: its console, its state, its exit status.
use Rattle.std.proofs.Common.{◌≡◌, ℕ, ◌<◌, List, [], ◌∷◌, ◌++◌, map, refl, sym, ◌∙◌, ap, subst, arith, append_assoc, append-nil, mul-pos}
use Rattle.dash_base.specs.declared.end.End.TheVariants.{Running}
use Rattle.dash_event.specs.declared.event.Event.{Event}
use Rattle.dash_event.specs.declared.event.Kind.{Kind}
use Rattle.dash_event.specs.declared.event.Kind.TheVariants as kind
use Rattle.dash_event.specs.Records.{bytes_in, console_of}
use Rattle.hart_core.specs.HartState.{is_running}
use Rattle.dash_model.specs.Config.{Config, all_harts}
use Rattle.dash_model.specs.Machine.{Machine, Step, event_of, puts, after, opening, state_after, Reaches}
use Rattle.dash_model.specs.Complete.{hart_at, IsWaiting, IsStopped, Ended, Spent, Waits, IsComplete, IsCompleteRun, IsStatus, AfterTrap, AfterBudget, AfterWait, AfterAll}

-- ---- the console

puts_is : (k : Kind) → puts k ≡ bytes_in k
puts_is (kind.Put h pc byte) = refl
puts_is k = refl

console_after : (w : Config) (m : Machine) (gs : List Step) → (state_after w m gs).console ≡ m.console ++ console_of (map event_of gs)
console_after w m [] = sym (append-nil m.console)
console_after w m (g ∷ gs) =
    console_after w (after w m g) gs
    ∙ ap (λ bs. (m.console ++ bs) ++ console_of (map event_of gs)) (puts_is g.event.kind)
    ∙ append_assoc m.console (bytes_in g.event.kind) (console_of (map event_of gs))

pub console_is : (w : Config) (log : List Event) (m : Machine) → Reaches w log m → m.console ≡ console_of log
console_is w log m reaches =
    ap (λ (x : Machine). x.console) reaches.state ∙ console_after w (opening w) reaches.run.steps ∙ ap console_of reaches.run.events

-- ---- complete runs

-- a hart that is left waits
left_one : (w : Config) (h : ℕ) (m : Machine) → IsStopped w h m → (hart_at w h m).core.end ≡ Running → (hart_at w h m).core.retired < w.top.budget → IsWaiting w h m
left_one w h m (Ended ended) running left = let runs : is_running Running ≡ is_running (hart_at w h m).core.end = ap is_running (sym running) in absurd cc
left_one w h m (Spent spent) running left = let all = spent.all in absurd (omega arith)
left_one w h m (Waits waits) running left = waits

pub left_waits : (w : Config) (m : Machine) → IsComplete w m → (h : ℕ) → h < all_harts w
    → (hart_at w h m).core.end ≡ Running → (hart_at w h m).core.retired < w.top.budget → IsWaiting w h m
left_waits w m complete h inside running left = left_one w h m (complete.harts h inside) running left

-- a run without events leaves the machine as it opens, where hart 0 has not stopped
state_of_none : (w : Config) (m : Machine) (gs : List Step) → map event_of gs ≡ [] → state_after w m gs ≡ m
state_of_none w m [] none = refl
state_of_none w m (g ∷ gs) none = absurd cc

opening_goes_on : (w : Config) → IsStopped w 0 (opening w) → ⊥
opening_goes_on w (Ended ended) = absurd cc
opening_goes_on w (Spent spent) = let all = spent.all in let some = w.top.budget_in_range.low in omega arith
opening_goes_on w (Waits waits) = waits.taken refl

pub not_empty : (w : Config) → IsCompleteRun w [] → ⊥
not_empty w run =
    let opens : run.end ≡ opening w = run.reaches.state ∙ state_of_none w (opening w) run.reaches.run.steps run.reaches.run.events in
    let clusters : 0 < w.top.clusters = (let some = w.top.clusters_in_range.low in omega arith) in
    let harts : 0 < w.top.harts = (let some = w.top.harts_in_range.low in omega arith) in
    let inside : 0 < all_harts w = mul-pos clusters harts in
    opening_goes_on w (subst (λ (m : Machine). IsStopped w 0 m) opens (run.complete.harts 0 inside))

-- ---- the exit status of a complete run is one

pub one_status : (w : Config) (m : Machine) (s r : ℕ) → IsStatus w m s → IsStatus w m r → s ≡ r
one_status w m _ _ (AfterTrap a) (AfterTrap b) = refl
one_status w m _ _ (AfterTrap a) (AfterBudget never b) = absurd (never a)
one_status w m _ _ (AfterTrap a) (AfterWait never none b) = absurd (never a)
one_status w m _ _ (AfterTrap a) (AfterAll never none left) = absurd (never a)
one_status w m _ _ (AfterBudget never a) (AfterTrap b) = absurd (never b)
one_status w m _ _ (AfterBudget never a) (AfterBudget none b) = refl
one_status w m _ _ (AfterBudget never a) (AfterWait some none b) = absurd (none a)
one_status w m _ _ (AfterBudget never a) (AfterAll some none left) = absurd (none a)
one_status w m _ _ (AfterWait never none a) (AfterTrap b) = absurd (never b)
one_status w m _ _ (AfterWait never none a) (AfterBudget some b) = absurd (none b)
one_status w m _ _ (AfterWait never none a) (AfterWait some left b) = refl
one_status w m _ _ (AfterWait never none a) (AfterAll some left last) = absurd (last a)
one_status w m _ _ (AfterAll never none left) (AfterTrap b) = absurd (never b)
one_status w m _ _ (AfterAll never none left) (AfterBudget some b) = absurd (none b)
one_status w m _ _ (AfterAll never none left) (AfterWait some last b) = absurd (left b)
one_status w m _ _ (AfterAll never none left) (AfterAll some last more) = refl
