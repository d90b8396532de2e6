-- Commits by their positions: who makes them, of which version they are, and which store each writes.
use Rattle.std.proofs.Common.{List, None, Some, [], ap, ap₂, arith, false, if◌then◌else◌, length, map, refl, slice_get, subst, sym, true, ℕ, ◌&&◌, ◌++◌, ◌+◌, ◌<◌, ◌==◌, ◌∙◌, ◌∷◌, ◌≡◌, ◌≤◌}
use Rattle.std.proofs.lemmas.Bool.Decides.{nat_tests}
use Rattle.std.proofs.lemmas.Grind.{flat_map-append}
use Rattle.std.proofs.lemmas.List.{append_assoc, length-append}
use Rattle.dash_base.specs.declared.id.HartId.{HartId}
use Rattle.dash_base.specs.declared.id.LineId.{LineId}
use Rattle.dash_event.specs.declared.access.Access.{Access}
use Rattle.dash_event.specs.declared.event.Event.{Event}
use Rattle.dash_event.specs.declared.event.Kind.{Kind}
use Rattle.dash_event.specs.declared.event.Kind.TheVariants as kind
use Rattle.dash_model.specs.Cell.{Copy, Held, NoCopy}
use Rattle.dash_model.specs.Config.{Config, cluster_of, hart_id, line_at, line_id, lines}
use Rattle.dash_model.specs.Guard.{Guard}
use Rattle.dash_model.specs.HartGuards.{CommitFits, RmwFits, number_of}
use Rattle.dash_model.specs.HartRows.{HartEffect}
use Rattle.dash_model.specs.History.{version_of}
use Rattle.dash_model.specs.LineContent.{store_in, store_of}
use Rattle.dash_model.specs.Log.{Commits, IsEventAt, commit_in, commits_of}
use Rattle.dash_model.specs.Machine.{IsRun, Machine, Reaches, event_of}
use Rattle.dash_model.specs.Maps.{member}
use Rattle.dash_model.specs.Part.{Part}
use Rattle.dash_model.specs.Words.{content, held_by, in_m}
use Rattle.dash_model.proofs.Buffers.{number_is}
use Rattle.dash_model.proofs.Happened.{happened}
use Rattle.dash_model.proofs.Numbered.{commit_numbered, current_version, first_line, next_version, rmw_numbered}
use Rattle.dash_model.proofs.Reached.{each_reached}
use Rattle.dash_model.proofs.Stores.{AllStored, IsListed, store_kept, stores_in, stores_more}
use Rattle.dash_model.proofs.Tests.{both, same}

-- who commits is in state M
pub commits_in_m : (w : Config) (c : ℕ) (e : Kind) (d : HartEffect) (p : Part) (t : HartId) (l x : ℕ) → Guard w c e d p → Commits e t (line_id l) x → in_m t.0 (p.cells l).copy ≡ true
unfolding Guard
commits_in_m w c (kind.Commit g n k v) d p t l x can is = subst (λ (z : LineId). in_m t.0 (p.cells z.0).copy ≡ true) is.1 (subst (λ (z : HartId). in_m z.0 (p.cells k.0).copy ≡ true) is.0 can.owner)
commits_in_m w c (kind.Rmw a k v) d p t l x can is = subst (λ (z : LineId). in_m t.0 (p.cells z.0).copy ≡ true) is.1 (subst (λ (z : HartId). in_m z.0 (p.cells k.0).copy ≡ true) is.0 can.owner)
commits_in_m w c _ d p t l x can is = absurd is

-- beside a hart in state M there is no other holder
pub only_holder : (t h : ℕ) (k : Copy) → in_m t k ≡ true → held_by h k ≡ true → t ≡ h
unfolding member
only_holder t h (Held (x ∷ []) (Some o) d) e f = grind (arith, nat_tests)
only_holder t h (Held (x ∷ []) None d) e f = absurd (cc)
only_holder t h (Held [] o d) e f = absurd (cc)
only_holder t h (Held (x ∷ y ∷ ys) o d) e f = absurd (cc)
only_holder t h NoCopy e f = absurd (cc)

next_by : (w : Config) (before rest : List Event) (e : Event) (k : Kind) (t : HartId) (l x : ℕ) → e.kind ≡ k → IsRun w (before ++ (e ∷ rest)) → Commits k t (line_id l) x → x ≡ version_of before l + 1
next_by w before rest e (kind.Commit g n k v) t l x is run of = sym of.2 ∙ commit_numbered w before rest e g n k v run is ∙ ap (λ (z : LineId). version_of before z.0 + 1) of.1
next_by w before rest e (kind.Rmw a k v) t l x is run of = sym of.2 ∙ (rmw_numbered w before rest e a k v run is).0 ∙ ap (λ (z : LineId). version_of before z.0 + 1) of.1
next_by w before rest e _ t l x is run of = absurd of

-- a commit of the next version
pub commit_makes_next : (w : Config) (before rest : List Event) (e : Event) (t : HartId) (l x : ℕ) → IsRun w (before ++ (e ∷ rest)) → Commits e.kind t (line_id l) x → x ≡ version_of before l + 1
commit_makes_next w before rest e t l x run is = next_by w before rest e e.kind t l x refl run is

-- a commit counts one
equal : (a b : ℕ) → a ≡ b → (a == b) ≡ true
equal a b e = grind (arith, nat_tests)

commit_one : (k : Kind) (t : HartId) (l x : ℕ) → Commits k t (line_id l) x → length (commit_in (line_id l) k) ≡ 1
commit_one (kind.Commit g n k v) t l x is = let same : (k.0 == l) ≡ true = equal k.0 l (ap (λ (z : LineId). z.0) is.1) in ap (λ b. length (if b then kind.Commit g n k v ∷ [] else [])) same
commit_one (kind.Rmw a k v) t l x is = let same : (k.0 == l) ≡ true = equal k.0 l (ap (λ (z : LineId). z.0) is.1) in ap (λ b. length (if b then kind.Rmw a k v ∷ [] else [])) same
commit_one _ t l x is = absurd is

versions_add : (xs ys : List Event) (l : ℕ) → version_of (xs ++ ys) l ≡ version_of xs l + version_of ys l
versions_add xs ys l = ap length (flat_map-append (λ e. commit_in (line_id l) e.kind) xs ys) ∙ length-append (commits_of xs (line_id l)) (commits_of ys (line_id l))

version_first : (e : Event) (es : List Event) (l : ℕ) → version_of (e ∷ es) l ≡ length (commit_in (line_id l) e.kind) + version_of es l
version_first e es l = length-append (commit_in (line_id l) e.kind) (commits_of es (line_id l))

-- a commit of a log is of no version above that of the log
pub commit_at_most : (w : Config) (log : List Event) (j : ℕ) (k : Kind) (t : HartId) (l x : ℕ) → IsRun w log → IsEventAt log j k → Commits k t (line_id l) x → x ≤ version_of log l
commit_at_most w log j k t l x run at is =
    let y = happened w log j k run at in
    let rest = map event_of y.follow in
    let of : Commits y.step.event.kind t (line_id l) x = subst (λ z. Commits z t (line_id l) x) (sym y.is) is in
    let next = commit_makes_next w y.before rest y.step.event t l x (subst (λ es. IsRun w es) y.whole run) of in
    let one = commit_one y.step.event.kind t l x of in
    let first = version_first y.step.event rest l in
    let whole : version_of log l ≡ version_of y.before l + version_of (y.step.event ∷ rest) l = ap (λ es. version_of es l) y.whole ∙ versions_add y.before (y.step.event ∷ rest) l in
    omega arith

-- the store of a hart and number is the one that the log has
stored_now : (before : List Event) (e : Event) (b : Access) → e.kind ≡ kind.Store b → stores_in before b.hart.0 b.number ≡ [] → store_of (before ++ e ∷ []) (hart_id b.hart.0) b.number ≡ Some b
stored_now before e b is none =
    let both_same : (b.hart.0 == b.hart.0) && (b.number == b.number) ≡ true = both (b.hart.0 == b.hart.0) (b.number == b.number) (same b.hart.0) (same b.number) in
    let one : store_in (hart_id b.hart.0) b.number e.kind ≡ b ∷ [] = ap (store_in (hart_id b.hart.0) b.number) is ∙ ap (λ i. if i then b ∷ [] else []) both_same in
    let all : stores_in (before ++ e ∷ []) b.hart.0 b.number ≡ b ∷ [] = stores_more before e b.hart.0 b.number ∙ ap₂ (λ xs ys. xs ++ ys) none one in
    ap (λ xs. slice_get xs 0) all

store_next : (w : Config) (c : ℕ) (d : HartEffect) (p : Part) (b : Access) → Guard w c (kind.Store b) d p → (cluster_of w b.hart.0 ≡ c) × ((p.harts b.hart.0).core.retired < b.number)
unfolding Guard
store_next w c d p b can =
    let number = number_is b.hart.0 (number_of b.hart.0 p) d.need b b.word b.mask can.value 0 false can.next.need_is can.access.made in
    (can.next.mine, omega arith)

pub store_is : (w : Config) (log : List Event) (j : ℕ) (b : Access) → IsRun w log → IsEventAt log j (kind.Store b) → store_of log (hart_id b.hart.0) b.number ≡ Some b
store_is w log j b run at =
    let y = happened w log j (kind.Store b) run at in
    let c = y.step.event.cluster.0 in
    let next = store_next w c y.step.done (y.state.parts c) b (subst (λ z. Guard w c z y.step.done (y.state.parts c)) y.is y.can.steps.guard) in
    let listed = subst (λ z. IsListed w y.before b.hart.0 ((y.state.parts z).harts b.hart.0)) next.0 ((each_reached w y.before y.state 0 (first_line w) y.reached).listed b.hart.0) in
    let rest = map event_of y.follow in
    let now = stored_now y.before y.step.event b y.is (listed.none b.number next.1) in
    let whole : (y.before ++ y.step.event ∷ []) ++ rest ≡ log = append_assoc y.before (y.step.event ∷ []) rest ∙ sym y.whole in
    subst (λ es. store_of es (hart_id b.hart.0) b.number ≡ Some b) whole (store_kept (y.before ++ y.step.event ∷ []) rest b.hart.0 b.number b now)

commit_guard : (w : Config) (c : ℕ) (d : HartEffect) (p : Part) (h : HartId) (n : ℕ) (k : LineId) (v : ℕ) → Guard w c (kind.Commit h n k v) d p → CommitFits w c h.0 n k.0 v p
unfolding Guard
commit_guard w c d p h n k v can = can

pub rmw_guard : (w : Config) (c : ℕ) (d : HartEffect) (p : Part) (a : Access) (k : LineId) (v : ℕ) → Guard w c (kind.Rmw a k v) d p → RmwFits w c a k.0 v d p
unfolding Guard
rmw_guard w c d p a k v can = can

-- the line of a commit is that of the word of its store
pub commit_line_is : (w : Config) (log : List Event) (j i : ℕ) (h : HartId) (n : ℕ) (k : LineId) (v : ℕ) (b : Access) → IsRun w log → IsEventAt log j (kind.Commit h n k v) → IsEventAt log i (kind.Store b) → b.hart ≡ h → b.number ≡ n → line_at w b.word.0 ≡ k.0
commit_line_is w log j i h n k v b run at stored hart number =
    let y = happened w log j (kind.Commit h n k v) run at in
    let c = y.step.event.cluster.0 in
    let fits = commit_guard w c y.step.done (y.state.parts c) h n k v (subst (λ z. Guard w c z y.step.done (y.state.parts c)) y.is y.can.steps.guard) in
    let listed = subst (λ z. IsListed w y.before h.0 ((y.state.parts z).harts h.0)) fits.mine ((each_reached w y.before y.state 0 (first_line w) y.reached).listed h.0) in
    let first = (subst (AllStored w y.before h.0) fits.buffer listed.waiting).0 in
    let later = y.step.event ∷ map event_of y.follow in
    let found : store_of log (hart_id h.0) fits.oldest.number ≡ Some first.access = subst (λ es. store_of es (hart_id h.0) fits.oldest.number ≡ Some first.access) (sym y.whole) (store_kept y.before later h.0 fits.oldest.number first.access first.found) in
    let mine : store_of log (hart_id h.0) fits.oldest.number ≡ Some b = subst (λ z. store_of log (hart_id h.0) z ≡ Some b) (number ∙ fits.number_is) (subst (λ (z : HartId). store_of log (hart_id z.0) b.number ≡ Some b) hart (store_is w log i b run stored)) in
    let same_store : first.access ≡ b = cc in
    ap (λ (z : Access). line_at w z.word.0) (sym same_store) ∙ ap (λ z. line_at w z.word.0) first.entry ∙ fits.line

pub rmw_line_is : (w : Config) (log : List Event) (j : ℕ) (a : Access) (k : LineId) (v : ℕ) → IsRun w log → IsEventAt log j (kind.Rmw a k v) → line_at w a.word.0 ≡ k.0
rmw_line_is w log j a k v run at =
    let y = happened w log j (kind.Rmw a k v) run at in
    let c = y.step.event.cluster.0 in
    (rmw_guard w c y.step.done (y.state.parts c) a k v (subst (λ z. Guard w c z y.step.done (y.state.parts c)) y.is y.can.steps.guard)).line

-- at its state a commit makes the next version
pub commits_next : (w : Config) (log : List Event) (m : Machine) (c : ℕ) (e : Kind) (d : HartEffect) (t : HartId) (l x : ℕ) → Reaches w log m → Guard w c e d (m.parts c) → l < lines w → Commits e t (line_id l) x → x ≡ version_of log l + 1
commits_next w log m c (kind.Commit h n k v) d t l x r can low is =
    let fits = commit_guard w c d (m.parts c) h n k v can in
    let same_line = ap (λ (z : LineId). z.0) is.1 in
    let current = current_version w log m c h.0 k.0 (subst (λ z. z < lines w) (sym same_line) low) r fits.owner in
    sym is.2 ∙ next_version w log k.0 v (content ((m.parts c).cells k.0).copy).version r.run fits.version_is current ∙ ap (λ z. version_of log z + 1) same_line
commits_next w log m c (kind.Rmw a k v) d t l x r can low is =
    let fits = rmw_guard w c d (m.parts c) a k v can in
    let same_line = ap (λ (z : LineId). z.0) is.1 in
    let current = current_version w log m c a.hart.0 k.0 (subst (λ z. z < lines w) (sym same_line) low) r fits.owner in
    sym is.2 ∙ next_version w log k.0 v (content ((m.parts c).cells k.0).copy).version r.run fits.version_is current ∙ ap (λ z. version_of log z + 1) same_line
commits_next w log m c _ d t l x r can low is = absurd is
