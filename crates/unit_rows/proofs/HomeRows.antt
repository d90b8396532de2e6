-- A message that a home serves: its row is what the home makes of its line.
use Rattle.std.proofs.Common.{◌≡◌, ℕ, zero, suc, ◌+◌, ◌<◌, ◌==◌, ◌&&◌, ◌||◌, Bool, true, false, cond, not, Some, List, [], ◌∷◌, ◌++◌, length, map, refl, sym, ap, ap₂, ◌∙◌, arith}
use Rattle.std.specs.Prelude.{filter}
use Rattle.std.specs.List.{range_with_len}
use Rattle.std.proofs.lemmas.Bool.Decides.{nat_tests}
use Rattle.std.proofs.lemmas.List.{length-map}
use Rattle.dash_base.specs.declared.id.ClusterId.{ClusterId}
use Rattle.dash_base.specs.declared.id.LineId.{LineId}
use Rattle.dash_base.specs.declared.line.Line.{Line}
use Rattle.dash_msg.specs.declared.msg.Msg.{Msg}
use Rattle.dash_msg.specs.declared.msg.Msg.TheVariants.{Read, ReadEx, FwdRead, FwdReadEx, Inval, WriteBack, SharingBack, Transfer, LockAsk, Unlock, Data, DataEx, Ack, TransferAck, Nak, LockGrant, UnlockAck}
use Rattle.dash_msg.specs.declared.parcel.Sent.{Sent}
use Rattle.directory.specs.declared.entry.EntryState.{EntryState}
use Rattle.directory.specs.declared.entry.EntryState.TheVariants as entry
use Rattle.directory.specs.declared.home_line.HomeLine.{HomeLine}
use Rattle.directory.specs.Sharers.{is_sharer, only, with_sharer, sharers_but}
use Rattle.directory.specs.Rows.{Served, named, served, invalidations, cluster_id, send}
use Rattle.directory.specs.Rows as dir
use Rattle.directory.specs.View.{line_of}
use Rattle.directory.proofs.LawsOffered.{sharers_are_sets}
use Rattle.dash_model.specs.Maps.{with_member, without}
use Rattle.dash_model.specs.Config.{Config}
use Rattle.dash_model.specs.Net.{to}
use Rattle.dash_model.specs.Cell.{Cell, SharedBy, Dirty}
use Rattle.dash_model.specs.LineEffect.{LineEffect, still}
use Rattle.dash_model.specs.LineRows.{take_row}
use Rattle.dash_model.specs.Requests.{read_row, own_row, invals_to, is_dirty_of, write_back_row, sharing_back_row, transfer_row}
use Rattle.unit_rows.specs.Lists.{picked}
use Rattle.unit_rows.specs.Shown.{entry_by, home_by}
use Rattle.unit_rows.proofs.Same.{test_same}
use Rattle.unit_rows.proofs.Lists.{picked-same, picked-alone, with_member-picked, without-picked}

-- sharers as bits, and as a list
abbrev pub sharer_list : Config → ℕ → List ℕ
sharer_list w s = picked (is_sharer s) 0 w.top.clusters

only_list : (w : Config) (f : ℕ) → f < w.top.clusters → sharer_list w (only f) ≡ f ∷ []
only_list w f low = picked-alone (is_sharer (only f)) f 0 w.top.clusters (omega arith) (omega arith) (λ i a b. sharers_are_sets.alone f i)

with_list : (w : Config) (s f : ℕ) → f < w.top.clusters → sharer_list w (with_sharer s f) ≡ with_member f (sharer_list w s)
with_list w s f low =
    picked-same (is_sharer (with_sharer s f)) (λ i. (i == f) || is_sharer s i) 0 w.top.clusters (λ i a b. sharers_are_sets.joined s f i)
    ∙ sym (with_member-picked (is_sharer s) f 0 w.top.clusters (omega arith) (omega arith))

either_way : (a b : Bool) → a || b ≡ b || a
either_way true true = refl
either_way true false = refl
either_way false true = refl
either_way false false = refl

pair_list : (w : Config) (f r : ℕ) → f < w.top.clusters → r < w.top.clusters → sharer_list w (with_sharer (only f) r) ≡ with_member f (r ∷ [])
pair_list w f r low high =
    picked-same (is_sharer (with_sharer (only f) r)) (λ i. (i == f) || (i == r)) 0 w.top.clusters (λ i a b. sharers_are_sets.joined (only f) r i ∙ ap (λ t. (i == r) || t) (sharers_are_sets.alone f i) ∙ either_way (i == r) (i == f))
    ∙ sym (with_member-picked (λ i. i == r) f 0 w.top.clusters (omega arith) (omega arith))
    ∙ ap (with_member f) (picked-alone (λ i. i == r) r 0 w.top.clusters (omega arith) (omega arith) (λ i a b. refl))

-- the sharers but one
filter_step : (q : ℕ → Bool) (from : ℕ) (xs ys : List ℕ) → xs ≡ ys → cond (q from) (from ∷ xs) xs ≡ cond (q from) (from ∷ ys) ys
filter_step q from xs ys e = ap (λ zs. cond (q from) (from ∷ zs) zs) e

picked_range : (q : ℕ → Bool) (from n : ℕ) → filter q (range_with_len from n) ≡ picked q from n
unfolding picked
picked_range q from zero = refl
picked_range q from (suc n) = filter_step q from (filter q (range_with_len (from + 1) n)) (picked q (from + 1) n) (picked_range q (from + 1) n)

both_ways : (a b : Bool) → a && b ≡ b && a
both_ways true true = refl
both_ways true false = refl
both_ways false true = refl
both_ways false false = refl

but_list : (w : Config) (s f : ℕ) → sharers_but w.top.clusters s f ≡ without f (sharer_list w s)
unfolding sharers_but
but_list w s f =
    picked_range (λ i. not (i == f) && is_sharer s i) 0 w.top.clusters
    ∙ picked-same (λ i. not (i == f) && is_sharer s i) (λ i. is_sharer s i && not (i == f)) 0 w.top.clusters (λ i a b. both_ways (not (i == f)) (is_sharer s i))
    ∙ sym (without-picked f (is_sharer s) 0 w.top.clusters)

-- what a home makes of a line, as what a row makes of it
abbrev pub effect_by : Config → Cell → Served → LineEffect
effect_by w a s = record { cell = a; home = home_by w s.kept; sent = s.sent }

shared_effect : Cell → Line → List Sent → List ℕ → LineEffect
shared_effect a d sent cs = record { cell = a; home = record { mem = d; entry = SharedBy cs }; sent = sent }

read_agrees : (w : Config) (l : LineId) (f : ClusterId) (a : Cell) (e : EntryState) (d : Line) → f.0 < w.top.clusters → read_row l f.0 (entry_by w e) a (home_by w (record { entry = e; content = d })) ≡ effect_by w a (dir.read_row l f e (record { entry = e; content = d }))
unfolding shared_effect
read_agrees w l f a entry.Uncached d low = ap (shared_effect a d (send f (Data l d) ∷ [])) (sym (only_list w f.0 low))
read_agrees w l f a (entry.Shared s) d low = ap (shared_effect a d (send f (Data l d) ∷ [])) (sym (with_list w s f.0 low))
read_agrees w l f a (entry.Dirty o) d low = refl

told : LineId → ℕ → Line → List Sent → ℕ → List Sent
told l f d is n = is ++ (to f (DataEx l d n) ∷ [])

invals_same : (w : Config) (l : LineId) (f : ClusterId) (s : ℕ) → invals_to l f.0 (without f.0 (sharer_list w s)) ≡ invalidations w.top.clusters l f s
unfolding invals_to
invals_same w l f s = ap (map (λ c. send (cluster_id c) (Inval l f))) (sym (but_list w s f.0))

count_same : (w : Config) (l : LineId) (f : ClusterId) (s : ℕ) → length (without f.0 (sharer_list w s)) ≡ length (invalidations w.top.clusters l f s)
count_same w l f s = ap length (sym (but_list w s f.0)) ∙ sym (length-map (sharers_but w.top.clusters s f.0) (λ c. send (cluster_id c) (Inval l f)))

own_agrees : (w : Config) (l : LineId) (f : ClusterId) (a : Cell) (e : EntryState) (d : Line) → own_row l f.0 (entry_by w e) a (home_by w (record { entry = e; content = d })) ≡ effect_by w a (dir.read_ex_row w.top.clusters l f e (record { entry = e; content = d }))
unfolding told
own_agrees w l f a entry.Uncached d = refl
own_agrees w l f a (entry.Shared s) d =
    ap (λ ss. record { cell = a; home = record { mem = d; entry = Dirty f.0 }; sent = ss }) (ap₂ (told l f.0 d) (invals_same w l f s) (count_same w l f s))
own_agrees w l f a (entry.Dirty o) d = refl

-- whether the entry names the owner
other_way : (a b : ℕ) → (a == b) ≡ (b == a)
other_way a b = grind (arith, nat_tests)

owner_same : (w : Config) (f : ClusterId) (e : EntryState) → is_dirty_of f.0 (entry_by w e) ≡ dir.is_owner e f
owner_same w f entry.Uncached = refl
owner_same w f (entry.Shared s) = refl
owner_same w f (entry.Dirty o) = other_way f.0 o.0

back_if : (w : Config) (a : Cell) (k : HomeLine) (d : Line) (b : Bool) → write_back_row d b a (home_by w k) ≡ effect_by w a (cond b (record { kept = record { entry = entry.Uncached; content = d }; sent = [] }) (dir.still k))
back_if w a k d true = refl
back_if w a k d false = refl

sharing_if : (w : Config) (f : ClusterId) (r : ClusterId) (a : Cell) (k : HomeLine) (d : Line) (b : Bool) → f.0 < w.top.clusters → r.0 < w.top.clusters → sharing_back_row f.0 d r.0 b a (home_by w k) ≡ effect_by w a (cond b (record { kept = record { entry = entry.Shared (with_sharer (only f.0) r.0); content = d }; sent = [] }) (dir.still k))
unfolding shared_effect
sharing_if w f r a k d true low high = ap (shared_effect a d []) (sym (pair_list w f.0 r.0 low high))
sharing_if w f r a k d false low high = refl

transfer_if : (w : Config) (l : LineId) (r : ClusterId) (a : Cell) (k : HomeLine) (b : Bool) → transfer_row l r.0 b a (home_by w k) ≡ effect_by w a (cond b (dir.enter k (entry.Dirty r) (send r (TransferAck l) ∷ [])) (dir.still k))
transfer_if w l r a k true = refl
transfer_if w l r a k false = refl

here : (w : Config) (c : ℕ) (f : ClusterId) (e : EntryState) → (c == c) && is_dirty_of f.0 (entry_by w e) ≡ dir.is_owner e f
here w c f e = ap (λ b. b && is_dirty_of f.0 (entry_by w e)) (test_same c) ∙ owner_same w f e

-- each message that a home serves, at its home
pub agrees : (w : Config) (c k : ℕ) (f : ClusterId) (m : Msg) (l : LineId) (a : Cell) (h : HomeLine) → line_of m ≡ Some l → f.0 < w.top.clusters → (named f m).0 < w.top.clusters → take_row k c c f.0 m a (home_by w h) ≡ effect_by w a (served w.top.clusters f m h)
agrees w c k f (Read x) l a h e low high = ap (λ b. cond b (read_row x f.0 (entry_by w h.entry) a (home_by w h)) (still a (home_by w h))) (test_same c) ∙ read_agrees w x f a h.entry h.content low
agrees w c k f (ReadEx x) l a h e low high = ap (λ b. cond b (own_row x f.0 (entry_by w h.entry) a (home_by w h)) (still a (home_by w h))) (test_same c) ∙ own_agrees w x f a h.entry h.content
agrees w c k f (WriteBack x d) l a h e low high = ap (λ b. write_back_row d b a (home_by w h)) (here w c f h.entry) ∙ back_if w a h d (dir.is_owner h.entry f)
agrees w c k f (SharingBack x d r) l a h e low high = ap (λ b. sharing_back_row f.0 d r.0 b a (home_by w h)) (here w c f h.entry) ∙ sharing_if w f r a h d (dir.is_owner h.entry f) low high
agrees w c k f (Transfer x r) l a h e low high = ap (λ b. transfer_row x r.0 b a (home_by w h)) (here w c f h.entry) ∙ transfer_if w x r a h (dir.is_owner h.entry f)
agrees w c k f (FwdRead x r) l a h e low high = absurd (cc)
agrees w c k f (FwdReadEx x r) l a h e low high = absurd (cc)
agrees w c k f (Inval x r) l a h e low high = absurd (cc)
agrees w c k f (LockAsk g n x y) l a h e low high = absurd (cc)
agrees w c k f (Unlock g n x) l a h e low high = absurd (cc)
agrees w c k f (Data x d) l a h e low high = absurd (cc)
agrees w c k f (DataEx x d n) l a h e low high = absurd (cc)
agrees w c k f (Ack x) l a h e low high = absurd (cc)
agrees w c k f (TransferAck x) l a h e low high = absurd (cc)
agrees w c k f (Nak x) l a h e low high = absurd (cc)
agrees w c k f (LockGrant g) l a h e low high = absurd (cc)
agrees w c k f (UnlockAck g x) l a h e low high = absurd (cc)
