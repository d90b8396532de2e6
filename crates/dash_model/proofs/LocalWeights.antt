-- Where a cluster runs by itself, and takes messages from clusters of the machine alone, its entries stay in bounds, and it has nothing of lines that are not of memory. So each event by which it settles lowers its weight beside that of its messages.
use Rattle.std.proofs.Common.{◌≡◌, ℕ, ◌+◌, ◌≤◌, ◌<◌, ◌==◌, Bool, true, false, cond, List, [], ◌∷◌, ◌++◌, refl, sym, ap, ◌∙◌, subst, arith}
use Rattle.dash_base.specs.declared.id.LineId.{LineId}
use Rattle.dash_msg.specs.declared.msg.Msg.{Msg}
use Rattle.dash_msg.specs.declared.msg.Msg.TheVariants.{Read, ReadEx, FwdRead, FwdReadEx, Inval, WriteBack, SharingBack, Transfer, Data, DataEx, Ack, TransferAck, Nak}
use Rattle.dash_msg.specs.declared.parcel.Sent.{Sent}
use Rattle.dash_event.specs.declared.event.Kind.{Kind}
use Rattle.dash_event.specs.declared.event.Kind.TheVariants as kind
use Rattle.write_buffer.specs.declared.entry.Entry.{Entry as Stored}
use Rattle.dash_model.specs.Config.{Config, line_id, lines, home_of, first_prefetch}
use Rattle.dash_model.specs.Net.{Packet}
use Rattle.dash_model.specs.Cell.{Home}
use Rattle.dash_model.specs.Part.{Part, opening_part}
use Rattle.dash_model.specs.Acts.{act_row}
use Rattle.dash_model.specs.HartRows.{HartEffect}
use Rattle.dash_model.specs.Wants.{HeadIn}
use Rattle.dash_model.specs.Ranges.{has_line, has_cluster, at_home, in_range, has_space, applies}
use Rattle.dash_model.specs.Guard.{Guard}
use Rattle.dash_model.specs.Row.{msg_row_if, row}
use Rattle.dash_model.specs.OnLine.{is_of}
use Rattle.dash_model.specs.Machine.{Step, taken, part_after, Steps}
use Rattle.dash_model.specs.LocalRun.{IsLocalRun, part_at, packets_taken, received_in}
use Rattle.dash_model.specs.LocalHarts.{AreOfMemory, IsReady}
use Rattle.dash_model.specs.LocalWeights.{ComeFrom, LocalWeightsFall}
use Rattle.dash_model.specs.Weight.{part_weight}
use Rattle.dash_model.proofs.Tests.{is_same, is_below, both_left, both_right}
use Rattle.dash_model.proofs.RowsAlong.{home_act}
use Rattle.dash_model.proofs.EntryBounds.{EntryBounded, SharesIn, take_entry}
use Rattle.dash_model.proofs.Views.{View, Still, Does, IsNoTake, view}
use Rattle.dash_model.proofs.Taken.{take_off_if, take_on_if}
use Rattle.dash_model.proofs.Nowhere.{IsEmpty, OldestInside, inside_line, row_off}
use Rattle.dash_model.proofs.Weights.{sent_weight}
use Rattle.dash_model.proofs.Lowers.{IsNeat, low_line, low_home, taken_weight, event_lowers, packets_weight, takes_weight}
use Rattle.dash_model.proofs.LocalHarts.{event_ready, opening_ready}

at_line : (w : Config) (k : LineId) (l : ℕ) → (k.0 == l) ≡ true → k.0 < lines w → l < lines w
at_line w k l same low = subst (λ x. x < lines w) (is_same k.0 l same) low

-- a message in range is of a line of memory, and the cluster that it names is one of the machine
of_memory : (w : Config) (c l : ℕ) (m : Msg) → is_of l m ≡ true → in_range w c m ≡ true → l < lines w
of_memory w c l (Read k) o i = at_line w k l o (low_home w c k i)
of_memory w c l (ReadEx k) o i = at_line w k l o (low_home w c k i)
of_memory w c l (FwdRead k r) o i = at_line w k l o (low_line w k (both_left (has_line w k) (has_cluster w r) i))
of_memory w c l (FwdReadEx k r) o i = at_line w k l o (low_line w k (both_left (has_line w k) (has_cluster w r) i))
of_memory w c l (Inval k r) o i = at_line w k l o (low_line w k (both_left (has_line w k) (has_cluster w r) i))
of_memory w c l (WriteBack k x) o i = at_line w k l o (low_home w c k i)
of_memory w c l (SharingBack k x r) o i = at_line w k l o (low_home w c k (both_left (at_home w c k) (has_cluster w r) i))
of_memory w c l (Transfer k r) o i = at_line w k l o (low_home w c k (both_left (at_home w c k) (has_cluster w r) i))
of_memory w c l (Data k x) o i = at_line w k l o (low_line w k i)
of_memory w c l (DataEx k x n) o i = at_line w k l o (low_line w k i)
of_memory w c l (Ack k) o i = at_line w k l o (low_line w k i)
of_memory w c l (TransferAck k) o i = at_line w k l o (low_line w k i)
of_memory w c l (Nak k) o i = at_line w k l o (low_line w k i)
of_memory w c l _ o i = absurd (cc)

shares_in : (w : Config) (c : ℕ) (m : Msg) → in_range w c m ≡ true → SharesIn w.top.clusters m
shares_in w c (SharingBack k x r) i = is_below r.0 w.top.clusters (both_right (at_home w c k) (has_cluster w r) i)
shares_in w c _ i = tt

-- a message that is taken
entry_taken : (w : Config) (c f : ℕ) (m : Msg) (d : HartEffect) (p : Part) (l : ℕ) (b : Bool) → is_of l m ≡ b → in_range w c m ≡ true → f < w.top.clusters → EntryBounded w.top.clusters (p.homes l).entry
    → EntryBounded w.top.clusters ((msg_row_if true w c f m d p).part.homes l).entry
entry_taken w c f m d p l true o i from e = subst (λ (x : Home). EntryBounded w.top.clusters x.entry) (sym (take_on_if w c f m d p l true refl o).homes) (take_entry w.top.clusters (first_prefetch w) (home_of w l) c f m (p.cells l) (p.homes l) from (shares_in w c m i) e)
entry_taken w c f m d p l false o i from e = subst (λ (x : Home). EntryBounded w.top.clusters x.entry) (sym (take_off_if w c f m d p l true o).homes) e

cell_taken : (w : Config) (c f : ℕ) (m : Msg) (d : HartEffect) (p : Part) (l : ℕ) (b : Bool) → is_of l m ≡ b → in_range w c m ≡ true → lines w ≤ l → IsEmpty (p.cells l)
    → IsEmpty ((msg_row_if true w c f m d p).part.cells l)
cell_taken w c f m d p l true o i out e = absurd (let low = of_memory w c l m o i in omega arith)
cell_taken w c f m d p l false o i out e = subst IsEmpty (sym (take_off_if w c f m d p l true o).cells) e

take_neat : (w : Config) (c f : ℕ) (m : Msg) (d : HartEffect) (p : Part) (b : Bool) → applies w c m p ≡ b → f < w.top.clusters → IsNeat w c p → IsNeat w c (msg_row_if b w c f m d p).part
take_neat w c f m d p true can from neat =
    let range = both_left (in_range w c m) (has_space w c m p) can in
    record {
      entries = λ l low home. entry_taken w c f m d p l (is_of l m) refl range from (neat.entries l low home);
      beyond = λ l out. cell_taken w c f m d p l (is_of l m) refl range out (neat.beyond l out);
    }
take_neat w c f m d p false can from neat = neat

-- each event but Take leaves the homes of lines
home_stays : (k l : ℕ) (f : ℕ → Home) (x : Home) (i : Bool) → (l == k) ≡ i → x ≡ f k → cond i x (f l) ≡ f l
home_stays k l f x true e h = h ∙ sym (ap f (is_same l k e))
home_stays k l f x false e h = refl

homes_stay : (w : Config) (e : Kind) (p q : Part) (ss : List Sent) → View w e p q ss → (l : ℕ) → q.homes l ≡ p.homes l
homes_stay w e p q ss (Still s) l = s.homes l
homes_stay w e p q ss (Does k a d) l = d.homes l ∙ home_stays k l p.homes (act_row (line_id k) (home_of w k) a (p.cells k) (p.homes k)).home (l == k) refl (home_act (line_id k) (home_of w k) a (p.cells k) (p.homes k))

other_neat : (w : Config) (c : ℕ) (e : Kind) (d : HartEffect) (p : Part) → IsNoTake e → Guard w c e d p → OldestInside w c p → IsNeat w c p → IsNeat w c (row w c e d p).part
other_neat w c e d p idle can oldest neat = record {
  entries = λ l low home. subst (λ (x : Home). EntryBounded w.top.clusters x.entry) (sym (homes_stay w e p (row w c e d p).part (row w c e d p).sent (view w c e d p idle can) l)) (neat.entries l low home);
  beyond = λ l out. (row_off w c e d p l out idle can oldest (neat.beyond l out)).cell;
}

event_neat : (w : Config) (c u : ℕ) (e : Kind) (d : HartEffect) (p : Part) → Guard w c e d p → ComeFrom w.top.clusters (taken c u e) → OldestInside w c p → IsNeat w c p → IsNeat w c (row w c e d p).part
unfolding row
event_neat w c u (kind.Take f m) d p can come oldest neat = take_neat w c f.0 m d p (applies w c m p) refl come.0 neat
event_neat w c u e d p can come oldest neat = other_neat w c e d p tt can oldest neat

-- what local runs keep
record IsKept (w : Config) (c : ℕ) (p : Part) : Type 0 where
  neat : IsNeat w c p
  ready : (h : ℕ) → IsReady w (p.harts h)

oldest_ready : (w : Config) (l : ℕ) (ss : List Stored) → AreOfMemory w ss → HeadIn w l ss → l < lines w
oldest_ready w l [] k e = absurd e
oldest_ready w l (s ∷ ss) k e = subst (λ z. z < lines w) e (inside_line w s.word.0 k.0)

kept_step : (w : Config) (c : ℕ) (p : Part) (g : Step) → Steps w c g p → ComeFrom w.top.clusters (packets_taken c g) → IsKept w c p → IsKept w c (part_after w c g p)
kept_step w c p g s come k =
    let oldest : OldestInside w c p = λ h l mine e. oldest_ready w l (p.harts h).buffer (k.ready h).waiting e in
    let neat = event_neat w c g.stamp g.event.kind g.done p s.guard come oldest k.neat in
    record {
      neat = record { entries = neat.entries; beyond = neat.beyond };
      ready = λ h. event_ready w c g.event.kind g.done p h s.guard (k.ready h);
    }

come_both : (n : ℕ) (xs ys : List Packet) → ComeFrom n (xs ++ ys) → ComeFrom n xs × ComeFrom n ys
come_both n [] ys k = (tt, k)
come_both n (x ∷ xs) ys k = let rest = come_both n xs ys k.1 in ((k.0, rest.0), rest.1)

kept_along : (w : Config) (c : ℕ) (p : Part) (gs : List Step) → IsLocalRun w c p gs → ComeFrom w.top.clusters (received_in c gs) → IsKept w c p → IsKept w c (part_at w c p gs)
unfolding received_in
kept_along w c p [] r come k = k
kept_along w c p (g ∷ gs) r come k =
    let both = come_both w.top.clusters (packets_taken c g) (received_in c gs) come in
    kept_along w c (part_after w c g p) gs r.1 both.1 (kept_step w c p g r.0 both.0 k)

opening_kept : (w : Config) (c : ℕ) → IsKept w c (opening_part w)
opening_kept w c = record { neat = record { entries = λ l low home. tt; beyond = λ l out. (refl, refl) }; ready = opening_ready w }

pub local_weights_fall : LocalWeightsFall
local_weights_fall w c gs g r come s settles =
    let n = w.top.clusters in
    let p = part_at w c (opening_part w) gs in
    let k = kept_along w c (opening_part w) gs r come (opening_kept w c) in
    let ss = (row w c g.event.kind g.done p).sent in
    let d = event_lowers w c g.event.kind g.done p k.neat w.top.clusters_in_range.low s.guard settles in
    let falls : sent_weight n ss + part_weight w (part_after w c g p) < taken_weight n g.event.kind + part_weight w p = d.less in
    let sends = packets_weight n g.event.stamp c ss in
    let takes = takes_weight n c g.stamp g.event.kind in
    omega arith
