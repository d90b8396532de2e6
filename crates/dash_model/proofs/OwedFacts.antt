-- In every run each cluster's entry of a line counts as the log does, and owes to whom the log does.
use Rattle.std.proofs.Common.{◌≡◌, ◌≢◌, ℕ, ◌+◌, ◌<◌, ◌==◌, ◌||◌, Bool, true, false, cond, nat_lt, if◌then◌else◌, List, [], ◌∷◌, ◌++◌, refl, sym, ap, ◌∙◌, subst, arith}
use Rattle.std.proofs.lemmas.List.Sums.{sum_by_push}
use Rattle.dash_base.specs.declared.id.ClusterId.{ClusterId}
use Rattle.dash_base.specs.declared.id.HartId.{HartId}
use Rattle.dash_base.specs.declared.id.LineId.{LineId}
use Rattle.dash_base.specs.declared.line.Line.{Line}
use Rattle.dash_base.specs.Places.{cluster_of as hart_cluster}
use Rattle.dash_msg.specs.declared.msg.Msg.{Msg}
use Rattle.dash_msg.specs.declared.msg.Msg.TheVariants.{DataEx}
use Rattle.dash_event.specs.declared.event.Event.{Event}
use Rattle.dash_event.specs.declared.event.Kind.{Kind}
use Rattle.dash_event.specs.declared.event.Kind.TheVariants as kind
use Rattle.dash_model.specs.Maps.{member, with_member}
use Rattle.dash_model.specs.Config.{Config, cluster_id, line_id, hart_id, lines, cluster_of}
use Rattle.dash_model.specs.Cell.{Acks, NoAcks, Counting, Expects, Cell}
use Rattle.dash_model.specs.Part.{Part}
use Rattle.dash_model.specs.Acts.{owe}
use Rattle.dash_model.specs.Replies.{counted}
use Rattle.dash_model.specs.HartRows.{HartEffect}
use Rattle.dash_model.specs.Guard.{Guard}
use Rattle.dash_model.specs.Log.{Commits}
use Rattle.dash_model.specs.Owed.{announced_by, acknowledged_by, taken_in, taken, IsDue}
use Rattle.dash_model.specs.Machine.{Machine, Step, part_after, CanHappen, Reaches}
use Rattle.dash_model.specs.LineFacts.{cell_at, CountsAdd}
use Rattle.dash_model.specs.OwedFacts.{owed_to, CountsAre, RunsOweAsLogged}
use Rattle.dash_model.proofs.Tests.{same, is_same, not_same, differ}
use Rattle.dash_model.proofs.InRuns.{in_runs}
use Rattle.dash_model.proofs.Reached.{each_reached}
use Rattle.dash_model.proofs.LineFacts.{runs_keep_lines}
use Rattle.dash_model.proofs.OwedSince.{CommittedSince, Gives, since_stays, since_was, since_commit, since_gone}
use Rattle.dash_model.proofs.Alone.{Alone}
use Rattle.dash_model.proofs.OwedEntry.{IsSilent, Entered, Stays, Begins, Ends, Owes, Counts, Told}
use Rattle.dash_model.proofs.OwedStep.{CellStep, cell_step}

-- the counts of an entry, without the bound
abbrev pub SumsAre : Acks → ℕ → ℕ → Type 0
SumsAre NoAcks announced came = came ≡ announced
SumsAre (Counting got owed) announced came = came ≡ announced + got
SumsAre (Expects expected got owed) announced came = came + expected ≡ announced + got

sums_same : (a : Acks) (x y i j : ℕ) → i ≡ 0 → j ≡ 0 → SumsAre a x y → SumsAre a (x + i) (y + j)
sums_same NoAcks x y i j e f k = omega arith
sums_same (Counting g o) x y i j e f k = omega arith
sums_same (Expects n g o) x y i j e f k = omega arith

sums_owe : (h : ℕ) (a : Acks) (x y i j : ℕ) → i ≡ 0 → j ≡ 0 → SumsAre a x y → SumsAre (owe h a) (x + i) (y + j)
sums_owe h NoAcks x y i j e f k = omega arith
sums_owe h (Counting g o) x y i j e f k = omega arith
sums_owe h (Expects n g o) x y i j e f k = omega arith

sums_counted_if : (n g : ℕ) (o : List ℕ) (x y : ℕ) (b : Bool) → (g + 1 == n) ≡ b → y + n ≡ x + g → SumsAre (cond b NoAcks (Expects n (g + 1) o)) x (y + 1)
sums_counted_if n g o x y true e k = let z = is_same (g + 1) n e in omega arith
sums_counted_if n g o x y false e k = omega arith

sums_counted : (a : Acks) (x y i j : ℕ) → i ≡ 0 → j ≡ 1 → a ≢ NoAcks → SumsAre a x y → SumsAre (counted a) (x + i) (y + j)
sums_counted NoAcks x y i j e f n k = absurd (n refl)
sums_counted (Counting g o) x y i j e f n k = omega arith
sums_counted (Expects m g o) x y i j e f n k =
    let z = sums_counted_if m g o x y (g + 1 == m) refl k in
    let xs : x ≡ x + i = omega arith in
    let ys : y + 1 ≡ y + j = omega arith in
    subst (λ z. SumsAre (counted (Expects m g o)) z (y + j)) xs (subst (λ z. SumsAre (counted (Expects m g o)) x z) ys z)

sums_told_if : (n g : ℕ) (o : List ℕ) (x y i j : ℕ) (b : Bool) → (g == n) ≡ b → i ≡ n → j ≡ 0 → y ≡ x + g → SumsAre (cond b NoAcks (Expects n g o)) (x + i) (y + j)
sums_told_if n g o x y i j true e s t k = let z = is_same g n e in omega arith
sums_told_if n g o x y i j false e s t k = omega arith

if_same : (l n : ℕ) → (if l == l then n else 0) ≡ n
if_same l n = ap (λ b. if b then n else 0) (same l)

abbrev announced_in : ℕ → Kind → ℕ
announced_in l e = taken_in (announced_by (line_id l)) e

abbrev came_in : ℕ → Kind → ℕ
came_in l e = taken_in (acknowledged_by (line_id l)) e

sums_step : (w : Config) (c l : ℕ) (e : Kind) (a b : Acks) (x y : ℕ) → Entered w c l e a b → SumsAre a x y → SumsAre b (x + announced_in l e) (y + came_in l e)
sums_step w c l e a b x y (Stays same q) k = subst (λ z. SumsAre z (x + announced_in l e) (y + came_in l e)) (sym same) (sums_same a x y (announced_in l e) (came_in l e) q.announces q.acknowledges k)
sums_step w c l e a b x y (Begins from to q) k =
    let was : y ≡ x = subst (λ z. SumsAre z x y) from k in
    let i = q.announces in
    let j = q.acknowledges in
    subst (λ z. SumsAre z (x + announced_in l e) (y + came_in l e)) (sym to) (omega arith)
sums_step w c l e a b x y (Ends o from to q) k =
    let was : y ≡ x + 0 = subst (λ z. SumsAre z x y) from k in
    let i = q.announces in
    let j = q.acknowledges in
    subst (λ z. SumsAre z (x + announced_in l e) (y + came_in l e)) (sym to) (omega arith)
sums_step w c l e a b x y (Owes h v mine is only i j takes told to) k = subst (λ z. SumsAre z (x + announced_in l e) (y + came_in l e)) (sym to) (sums_owe h.0 a x y (announced_in l e) (came_in l e) i j k)
sums_step w c l e a b x y (Counts f m is off i j some to) k =
    subst (λ z. SumsAre z (x + announced_in l e) (y + came_in l e)) (sym to) (sums_counted a x y (announced_in l e) (came_in l e) (ap (announced_in l) is ∙ i) (ap (came_in l) is ∙ j) some k)
sums_step w c l e a b x y (Told f d n g o is from to) k =
    let was : y ≡ x + g = subst (λ z. SumsAre z x y) from k in
    subst (λ z. SumsAre z (x + announced_in l e) (y + came_in l e)) (sym to) (sums_told_if n g o x y (announced_in l e) (came_in l e) (g == n) refl (ap (announced_in l) is ∙ if_same l n) (ap (came_in l) is) was)

-- members
or_same : (b : Bool) (c d : Bool) → c ≡ b → c || d ≡ b || (c || d)
or_same true c d e = ap (λ x. x || d) e
or_same false c d e = refl

or_swap : (a b c : Bool) → a || (b || c) ≡ b || (a || c)
or_swap true true c = refl
or_swap true false c = refl
or_swap false true c = refl
or_swap false false c = refl

with_if : (h x y : ℕ) (ys : List ℕ) (i j : Bool) → (y == x) ≡ i → member h (with_member x ys) ≡ (x == h) || member h ys → member h (cond i (y ∷ ys) (cond j (x ∷ y ∷ ys) (y ∷ with_member x ys))) ≡ (x == h) || member h (y ∷ ys)
unfolding member
with_if h x y ys true j e ih = or_same (x == h) (y == h) (member h ys) (ap (λ z. z == h) (is_same y x e))
with_if h x y ys false true e ih = refl
with_if h x y ys false false e ih = ap (λ z. (y == h) || z) ih ∙ or_swap (y == h) (x == h) (member h ys)

pub member_with : (h x : ℕ) (xs : List ℕ) → member h (with_member x xs) ≡ (x == h) || member h xs
unfolding with_member member
member_with h x [] = refl
member_with h x (y ∷ ys) = with_if h x y ys (y == x) (nat_lt x y) refl (member_with h x ys)

-- who is owed
pub record OwesHart (w : Config) (log : List Event) (l c : ℕ) (o : List ℕ) (h : ℕ) : Type 0 where
  pub mine : member h o ≡ true → cluster_of w h ≡ c
  pub to_log : member h o ≡ true → CommittedSince w.top log (hart_id h) (line_id l)
  pub from_log : cluster_of w h ≡ c → CommittedSince w.top log (hart_id h) (line_id l) → member h o ≡ true

abbrev pub OwesSince : Config → List Event → ℕ → ℕ → Acks → Type 0
OwesSince w log l c NoAcks = Unit {0}
OwesSince w log l c (Counting g o) = o ≡ []
OwesSince w log l c (Expects n g o) = (h : ℕ) → OwesHart w log l c o h

-- an event that neither commits the line at cluster c nor gives it to c
record IsIdle (w : Config) (e : Event) (l c : ℕ) : Type 0 where
  pub commits : (h : ℕ) → cluster_of w h ≡ c → (v : ℕ) → Commits e.kind (hart_id h) (line_id l) v → ⊥
  pub gives : (h : ℕ) → cluster_of w h ≡ c → Gives e (hart_cluster w.top (hart_id h)) (line_id l) → ⊥

hart_idle : (w : Config) (log : List Event) (e : Event) (l c : ℕ) (o : List ℕ) (h : ℕ) → IsIdle w e l c → OwesHart w log l c o h → OwesHart w (log ++ e ∷ []) l c o h
hart_idle w log e l c o h q k = record {
  mine = k.mine;
  to_log = λ i. since_stays w.top log e (hart_id h) (line_id l) (q.gives h (k.mine i)) (k.to_log i);
  from_log = λ m s. k.from_log m (since_was w.top log e (hart_id h) (line_id l) (q.commits h m) s);
}

owes_idle : (w : Config) (log : List Event) (e : Event) (l c : ℕ) (a : Acks) → IsIdle w e l c → OwesSince w log l c a → OwesSince w (log ++ e ∷ []) l c a
owes_idle w log e l c NoAcks q k = tt
owes_idle w log e l c (Counting g o) q k = k
owes_idle w log e l c (Expects n g o) q k = λ h. hart_idle w log e l c o h q (k h)

silent_idle : (w : Config) (e : Event) (l c : ℕ) → IsSilent l e.kind → IsIdle w e l c
silent_idle w e l c q = record { commits = λ h m v x. q.commits (hart_id h) v x; gives = λ h m g. q.gives g.from g.copy g.count g.takes }

-- a commit
hart_commits : (w : Config) (log : List Event) (e : Event) (l c : ℕ) (o : List ℕ) (t : HartId) (v : ℕ) (h : ℕ) (b : Bool) → (t.0 == h) ≡ b → cluster_of w t.0 ≡ c → Commits e.kind t (line_id l) v → ((g : HartId) (u : ℕ) → Commits e.kind g (line_id l) u → g ≡ t) → ((f : ClusterId) (m : Msg) → e.kind ≡ kind.Take f m → ⊥) → OwesHart w log l c o h → OwesHart w (log ++ e ∷ []) l c (with_member t.0 o) h
hart_commits w log e l c o t v h true i mine is only takes k =
    let s : t.0 ≡ h = is_same t.0 h i in
    let hart : t ≡ hart_id h = (λ j. record { 0 = s j }) in
    let in_it : member h (with_member t.0 o) ≡ true = member_with h t.0 o ∙ ap (λ b. b || member h o) i in
    record {
      mine = λ x. subst (λ y. cluster_of w y ≡ c) s mine;
      to_log = λ x. since_commit w.top log e (hart_id h) (line_id l) v (subst (λ y. Commits e.kind y (line_id l) v) hart is);
      from_log = λ m x. in_it;
    }
hart_commits w log e l c o t v h false i mine is only takes k =
    let n = not_same t.0 h i in
    let same_member : member h (with_member t.0 o) ≡ member h o = member_with h t.0 o ∙ ap (λ b. b || member h o) i in
    record {
      mine = λ x. k.mine (sym same_member ∙ x);
      to_log = λ x. since_stays w.top log e (hart_id h) (line_id l) (λ g. takes g.from (DataEx (line_id l) g.copy g.count) g.takes) (k.to_log (sym same_member ∙ x));
      from_log = λ m x. same_member ∙ k.from_log m (since_was w.top log e (hart_id h) (line_id l) (λ u y. n (sym (ap (λ (z : HartId). z.0) (only (hart_id h) u y)))) x);
    }

owes_commit : (w : Config) (log : List Event) (e : Event) (l c : ℕ) (t : HartId) (v : ℕ) (a : Acks) → cluster_of w t.0 ≡ c → Commits e.kind t (line_id l) v → ((g : HartId) (u : ℕ) → Commits e.kind g (line_id l) u → g ≡ t) → ((f : ClusterId) (m : Msg) → e.kind ≡ kind.Take f m → ⊥) → ((g : ℕ) (o : List ℕ) → a ≡ Counting g o → ⊥) → OwesSince w log l c a → OwesSince w (log ++ e ∷ []) l c (owe t.0 a)
owes_commit w log e l c t v NoAcks mine is only takes told k = tt
owes_commit w log e l c t v (Counting g o) mine is only takes told k = absurd (told g o refl)
owes_commit w log e l c t v (Expects n g o) mine is only takes told k = λ h. hart_commits w log e l c o t v h (t.0 == h) refl mine is only takes (k h)

-- an acknowledgement
owes_if : (w : Config) (log : List Event) (l c n g : ℕ) (o : List ℕ) (b : Bool) → ((h : ℕ) → OwesHart w log l c o h) → OwesSince w log l c (cond b NoAcks (Expects n g o))
owes_if w log l c n g o true k = tt
owes_if w log l c n g o false k = k

owes_counted : (w : Config) (log : List Event) (l c : ℕ) (a : Acks) → OwesSince w log l c a → OwesSince w log l c (counted a)
owes_counted w log l c NoAcks k = tt
owes_counted w log l c (Counting g o) k = k
owes_counted w log l c (Expects n g o) k = owes_if w log l c n (g + 1) o (g + 1 == n) k

-- no commit takes a message
no_commit : (e : Kind) (f : ClusterId) (m : Msg) → e ≡ kind.Take f m → (h : HartId) (k : LineId) (v : ℕ) → Commits e h k v → ⊥
no_commit e f m is h k v x = subst (λ y. Commits y h k v) is x

-- what brings the line
no_member : (h : ℕ) → member h [] ≡ true → ⊥
unfolding member
no_member h e = absurd (cc)

hart_told : (w : Config) (log : List Event) (e : Event) (l c : ℕ) (f : ClusterId) (d : Line) (n : ℕ) (h : ℕ) → e.cluster.0 ≡ c → e.kind ≡ kind.Take f (DataEx (line_id l) d n) → OwesHart w (log ++ e ∷ []) l c [] h
hart_told w log e l c f d n h at is = record {
  mine = λ x. absurd (no_member h x);
  to_log = λ x. absurd (no_member h x);
  from_log = λ m s. absurd (since_gone w.top log e (hart_id h) (line_id l) (λ v x. no_commit e.kind f (DataEx (line_id l) d n) is (hart_id h) (line_id l) v x) (record { in_cluster = (let q : e.cluster.0 ≡ cluster_of w h = at ∙ sym m in λ i. record { 0 = q i }); from = f; copy = d; count = n; takes = is }) s);
}

owes_step : (w : Config) (log : List Event) (e : Event) (l c : ℕ) (a b : Acks) → e.cluster.0 ≡ c → Entered w c l e.kind a b → OwesSince w log l c a → OwesSince w (log ++ e ∷ []) l c b
owes_step w log e l c a b at (Stays same q) k = subst (OwesSince w (log ++ e ∷ []) l c) (sym same) (owes_idle w log e l c a (silent_idle w e l c q) k)
owes_step w log e l c a b at (Begins from to q) k = subst (OwesSince w (log ++ e ∷ []) l c) (sym to) refl
owes_step w log e l c a b at (Ends o from to q) k = subst (OwesSince w (log ++ e ∷ []) l c) (sym to) tt
owes_step w log e l c a b at (Owes h v mine is only i j takes told to) k = subst (OwesSince w (log ++ e ∷ []) l c) (sym to) (owes_commit w log e l c h v a mine is only takes told k)
owes_step w log e l c a b at (Counts f m is off i j some to) k =
    subst (OwesSince w (log ++ e ∷ []) l c) (sym to) (owes_counted w (log ++ e ∷ []) l c a (owes_idle w log e l c a (record { commits = λ h y v x. no_commit e.kind f m is (hart_id h) (line_id l) v x; gives = λ h y g. off g.copy g.count (let z : kind.Take f m ≡ kind.Take g.from (DataEx (line_id l) g.copy g.count) = sym is ∙ g.takes in cc) }) k))
owes_step w log e l c a b at (Told f d n g o is from to) k =
    let none : o ≡ [] = subst (OwesSince w log l c) from k in
    subst (OwesSince w (log ++ e ∷ []) l c) (sym to) (owes_if w (log ++ e ∷ []) l c n g o (g == n) (subst (λ z. (h : ℕ) → OwesHart w (log ++ e ∷ []) l c z h) (sym none) (λ h. hart_told w log e l c f d n h at is)))

-- the line at a cluster after a log
pub record Agrees (w : Config) (log : List Event) (l c : ℕ) (a : Cell) : Type 0 where
  pub sums : SumsAre a.acks (taken (announced_by (line_id l)) (cluster_id c) log) (taken (acknowledged_by (line_id l)) (cluster_id c) log)
  pub owes : OwesSince w log l c a.acks
  pub alone : Alone a

taken_more : (weight : Msg → ℕ) (c : ℕ) (log : List Event) (e : Event) → taken weight (cluster_id c) (log ++ e ∷ []) ≡ taken weight (cluster_id c) log + (if e.cluster.0 == c then taken_in weight e.kind else 0)
taken_more weight c log e = sum_by_push (λ (x : Event). if x.cluster.0 == c then taken_in weight x.kind else 0) log e

taken_own : (weight : Msg → ℕ) (c : ℕ) (log : List Event) (e : Event) → e.cluster.0 ≡ c → taken weight (cluster_id c) (log ++ e ∷ []) ≡ taken weight (cluster_id c) log + taken_in weight e.kind
taken_own weight c log e at = taken_more weight c log e ∙ ap (λ b. taken weight (cluster_id c) log + (if b then taken_in weight e.kind else 0)) (ap (λ y. y == c) at ∙ same c)

taken_other : (weight : Msg → ℕ) (c : ℕ) (log : List Event) (e : Event) → e.cluster.0 ≢ c → taken weight (cluster_id c) (log ++ e ∷ []) ≡ taken weight (cluster_id c) log + 0
taken_other weight c log e off = taken_more weight c log e ∙ ap (λ b. taken weight (cluster_id c) log + (if b then taken_in weight e.kind else 0)) (differ e.cluster.0 c off)

-- a commit is one of its cluster's harts
commits_mine : (w : Config) (c : ℕ) (e : Kind) (d : HartEffect) (p : Part) → Guard w c e d p → (h : HartId) (k : LineId) (v : ℕ) → Commits e h k v → cluster_of w h.0 ≡ c
unfolding Guard
commits_mine w c (kind.Commit g n j u) d p can h k v x = subst (λ (y : HartId). cluster_of w y.0 ≡ c) x.0 can.mine
commits_mine w c (kind.Rmw a j u) d p can h k v x = subst (λ (y : HartId). cluster_of w y.0 ≡ c) x.0 can.next.mine
commits_mine w c _ d p can h k v x = absurd x

agrees_own : (w : Config) (log : List Event) (e : Event) (l c : ℕ) (a b : Cell) → e.cluster.0 ≡ c → CellStep w c l e.kind a b → Agrees w log l c a → Agrees w (log ++ e ∷ []) l c b
agrees_own w log e l c a b at s k = record {
  sums = subst (λ x. SumsAre b.acks x (taken (acknowledged_by (line_id l)) (cluster_id c) (log ++ e ∷ []))) (sym (taken_own (announced_by (line_id l)) c log e at)) (subst (λ y. SumsAre b.acks (taken (announced_by (line_id l)) (cluster_id c) log + announced_in l e.kind) y) (sym (taken_own (acknowledged_by (line_id l)) c log e at)) (sums_step w c l e.kind a.acks b.acks _ _ s.entered k.sums));
  owes = owes_step w log e l c a.acks b.acks at s.entered k.owes;
  alone = s.alone;
}

agrees_other : (w : Config) (log : List Event) (e : Event) (d : HartEffect) (p : Part) (l c : ℕ) (a : Cell) → e.cluster.0 ≢ c → Guard w e.cluster.0 e.kind d p → Agrees w log l c a → Agrees w (log ++ e ∷ []) l c a
agrees_other w log e d p l c a off can k = record {
  sums = subst (λ x. SumsAre a.acks x (taken (acknowledged_by (line_id l)) (cluster_id c) (log ++ e ∷ []))) (sym (taken_other (announced_by (line_id l)) c log e off)) (subst (λ y. SumsAre a.acks (taken (announced_by (line_id l)) (cluster_id c) log + 0) y) (sym (taken_other (acknowledged_by (line_id l)) c log e off)) (sums_same a.acks _ _ 0 0 refl refl k.sums));
  owes = owes_idle w log e l c a.acks (record {
    commits = λ h mine v x. off (sym (commits_mine w e.cluster.0 e.kind d p can (hart_id h) (line_id l) v x) ∙ mine);
    gives = λ h mine g. off (ap (λ (y : ClusterId). y.0) g.in_cluster ∙ mine);
  }) k.owes;
  alone = k.alone;
}

agrees_if : (w : Config) (log : List Event) (m : Machine) (g : Step) (l c : ℕ) (v : Line) (b : Bool) → (c == g.event.cluster.0) ≡ b → l < lines w → CanHappen w m g → Reaches w log m → Agrees w log l c (cell_at l m c) → Agrees w (log ++ g.event ∷ []) l c ((cond b (part_after w g.event.cluster.0 g (m.parts g.event.cluster.0)) (m.parts c)).cells l)
agrees_if w log m g l c v true is low can r k =
    let s : c ≡ g.event.cluster.0 = is_same c g.event.cluster.0 is in
    let known = each_reached w log m l low r in
    let there : Agrees w log l g.event.cluster.0 (cell_at l m g.event.cluster.0) = subst (λ y. Agrees w log l y (cell_at l m y)) s k in
    subst (λ y. Agrees w (log ++ g.event ∷ []) l y ((part_after w g.event.cluster.0 g (m.parts g.event.cluster.0)).cells l)) (sym s) (agrees_own w log g.event l g.event.cluster.0 (cell_at l m g.event.cluster.0) ((part_after w g.event.cluster.0 g (m.parts g.event.cluster.0)).cells l) refl (cell_step w l known.content m g.event.cluster.0 g.stamp g.event.kind g.done low can.steps.guard can.head known.holds there.alone) there)
agrees_if w log m g l c v false is low can r k = agrees_other w log g.event g.done (m.parts g.event.cluster.0) l c (cell_at l m c) (λ e. not_same c g.event.cluster.0 is (sym e)) can.steps.guard k

pub agrees : (w : Config) (log : List Event) (m : Machine) (l c : ℕ) → l < lines w → Reaches w log m → Agrees w log l c (cell_at l m c)
agrees w log m l c low r =
    in_runs w (λ es n. Agrees w es l c (cell_at l n c)) (record { sums = refl; owes = tt; alone = omega arith }) (λ es n g reached can k. agrees_if w es n g l c (each_reached w es n l low reached).content (c == g.event.cluster.0) refl low can reached k) log m r

-- the law
sums_counts : (a : Acks) (x y n d : ℕ) → CountsAdd a n d → SumsAre a x y → CountsAre a x y
sums_counts NoAcks x y n d f k = k
sums_counts (Counting g o) x y n d f k = k
sums_counts (Expects m g o) x y n d f k = (f.1, k)

its_harts : (w : Config) (log : List Event) (l c : ℕ) (a : Acks) (h : ℕ) → OwesSince w log l c a → member h (owed_to a) ≡ true → cluster_of w h ≡ c
its_harts w log l c NoAcks h k i = absurd (no_member h i)
its_harts w log l c (Counting g o) h k i = absurd (no_member h (subst (λ z. member h z ≡ true) k i))
its_harts w log l c (Expects n g o) h k i = (k h).mine i

from_entry : (w : Config) (log : List Event) (l c : ℕ) (a : Acks) (x y h : ℕ) → CountsAre a x y → OwesSince w log l c a → member h (owed_to a) ≡ true → (y < x) × CommittedSince w.top log (hart_id h) (line_id l)
from_entry w log l c NoAcks x y h s k i = absurd (no_member h i)
from_entry w log l c (Counting g o) x y h s k i = absurd (no_member h (subst (λ z. member h z ≡ true) k i))
from_entry w log l c (Expects n g o) x y h s k i = (let f = s.0 in let e = s.1 in omega arith, (k h).to_log i)

to_entry : (w : Config) (log : List Event) (l c : ℕ) (a : Acks) (x y h : ℕ) → CountsAre a x y → OwesSince w log l c a → cluster_of w h ≡ c → y < x → CommittedSince w.top log (hart_id h) (line_id l) → member h (owed_to a) ≡ true
to_entry w log l c NoAcks x y h s k mine due since = absurd (omega arith)
to_entry w log l c (Counting g o) x y h s k mine due since = absurd (omega arith)
to_entry w log l c (Expects n g o) x y h s k mine due since = (k h).from_log mine since

pub runs_owe_as_logged : RunsOweAsLogged
runs_owe_as_logged w log m l c low r =
    let k = agrees w log m l c low r in
    let a = (cell_at l m c).acks in
    let counts = sums_counts a _ _ _ _ ((runs_keep_lines w log m l low r).counts c).adds k.sums in
    record {
      counts = counts;
      its_harts = λ h i. its_harts w log l c a h k.owes i;
      from_entry = λ h i.
          let f = from_entry w log l c a _ _ h counts k.owes i in
          let mine = its_harts w log l c a h k.owes i in
          record { due = subst (λ y. IsDue log (cluster_id y) (line_id l)) (sym mine) f.0; at = f.1.at; version = f.1.version; commit = f.1.commit; since = f.1.since };
      to_entry = λ h mine o. to_entry w log l c a _ _ h counts k.owes mine (subst (λ y. IsDue log (cluster_id y) (line_id l)) mine o.due) (record { at = o.at; version = o.version; commit = o.commit; since = o.since });
    }
