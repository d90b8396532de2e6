-- The whole list: a cluster's own choices, and then those to take a message.
use Rattle.std.proofs.Common.{◌≡◌, ◌⊎◌, ℕ, ◌<◌, ◌≤◌, false, List, [], ◌++◌, length, slice_index_or, refl, sym, subst, inl, inr, arith}
use Rattle.std.proofs.lemmas.List.Elements.{Contains-append_left, Contains-append_right, Contains-append_cases, All-contains}
use Rattle.std.specs.List.{Contains}
use Rattle.std.specs.Prelude.{Vec}
use Rattle.std.specs.Vec.{with_items}
use Rattle.dash_base.specs.declared.id.ClusterId.{ClusterId}
use Rattle.dash_msg.specs.declared.classes.Class.{Class}
use Rattle.mesh_lanes.specs.View.{InletView}
use Rattle.dash_model.specs.Part.{Part}
use Rattle.unit_rows.specs.declared.choice.Choice.{Choice}
use Rattle.unit_rows.specs.declared.choice.Choice.TheVariants as choice
use Rattle.unit_rows.specs.Shown.{PartsView}
use Rattle.unit_rows.specs.Rows.{Enabled}
use Rattle.cluster_unit.specs.Enabling.{Can, is_take}
use Rattle.cluster_unit.specs.View.{CoreView}
use Rattle.cluster_unit.specs.Ends.{Looked}
use Rattle.cluster_unit.specs.Takes.{takes_of}
use Rattle.cluster_unit.specs.Order.{IsBefore, AreInOrder}
use Rattle.cluster_unit.specs.Lists.{ListsOwn}
use Rattle.cluster_unit.specs.Core.{IsAt, IsCore}
use Rattle.cluster_unit.specs.Turns.{spent}
use Rattle.cluster_unit.specs.Choosing.{Shown, MayDo, Lists, Rests}
use Rattle.cluster_unit.proofs.Cores.{shows_at, core_kept, ends_back}
use Rattle.cluster_unit.proofs.TakesListed.{IsTakeOf, takes_just, takes_whole, takes_ordered, order_append, before_each, before_take, none_there}

pub own_may : (b : CoreView) (x : Choice) (p : Part) → is_take x ≡ false → Enabled b.config b.cluster x p → MayDo b x p
own_may b (choice.Take f k) p own able = absurd (cc)
own_may b (choice.Step k) p own able = able
own_may b (choice.Commit k) p own able = able
own_may b (choice.BusRead k l) p own able = able
own_may b (choice.BusOwn k l) p own able = able
own_may b (choice.Evict k l) p own able = able
own_may b (choice.Ask n) p own able = able
own_may b (choice.Again n) p own able = able
own_may b (choice.Install n) p own able = able
own_may b (choice.Grant i) p own able = able

-- whether a choice takes a message, and what that says of it
pub data Kinds (b : CoreView) (x : Choice) (p : Part) : Type 0 where
  Own : is_take x ≡ false → Enabled b.config b.cluster x p → Kinds b x p
  Takes : (f : ClusterId) (k : Class) → x ≡ choice.Take f k → Shown b f k → Kinds b x p

pub kinds : (b : CoreView) (x : Choice) (p : Part) → MayDo b x p → Kinds b x p
kinds b (choice.Take f k) p may = Takes f k refl may
kinds b (choice.Step k) p may = Own refl may
kinds b (choice.Commit k) p may = Own refl may
kinds b (choice.BusRead k l) p may = Own refl may
kinds b (choice.BusOwn k l) p may = Own refl may
kinds b (choice.Evict k l) p may = Own refl may
kinds b (choice.Ask n) p may = Own refl may
kinds b (choice.Again n) p may = Own refl may
kinds b (choice.Install n) p may = Own refl may
kinds b (choice.Grant i) p may = Own refl may

-- a list has just the enabled choices of the cluster's own, in their order, as they are where the log leads to
pub record ListsAt (a : CoreView) (own : List Choice) : Type 0 where
  pub just : (x : Choice) (p : Part) → IsAt a p → Contains own x → (is_take x ≡ false) × Enabled a.config a.cluster x p
  pub none_takes : (i : ℕ) (d : Choice) → i < length own → is_take (slice_index_or own i d) ≡ false
  pub whole : (x : Choice) (p : Part) → IsAt a p → is_take x ≡ false → Enabled a.config a.cluster x p → Contains own x
  pub ordered : (p : Part) → IsAt a p → AreInOrder a.config a.cluster p own

pub lists_at : (v : PartsView) (last : ℕ) (a : CoreView) (capacity : ℕ) (own : List Choice) → IsCore v last a capacity → ListsOwn a.config a.cluster v own → ListsAt a own
lists_at v last a capacity own k lists = record {
  just = λ x p at there. (All-contains (λ y. is_take y ≡ false) own x lists.own there, All-contains (Can a.config a.cluster v) own x lists.just there p (shows_at v last a capacity p k at));
  none_takes = λ i d low. lists.own i d low;
  whole = λ x p at none able. lists.whole x p (shows_at v last a capacity p k at) none able;
  ordered = λ p at. lists.ordered p (shows_at v last a capacity p k at);
}

-- at rest there is none
pub none_at : (a : CoreView) → Rests a → ListsAt a []
none_at a rests = record {
  just = λ x p at there. absurd (none_there x there);
  none_takes = λ i d low. absurd (grind arith);
  whole = λ x p at none able. absurd (rests x p at none able);
  ordered = λ p at. tt;
}

-- where no choice is listed, it rests
pub rests_where_none : (a b : CoreView) (choices : List Choice) → Lists a b choices → length choices ≡ 0 → Rests b
rests_where_none a b choices lists empty x p at own able = let t = lists.whole x p at (own_may b x p own able) in let low = t.1 in grind arith

-- and still does where a turn was used
pub rests_spent : (a : CoreView) → Rests a → Rests (spent a)
rests_spent a rests x p at own able = rests x p (record { history = at.history; events = at.events; ran = at.ran; part = at.part }) own able

pub listed : (a : CoreView) (inlets : List InletView) (own choices : List Choice) → ListsAt a own → Looked a.inlets inlets
    → choices ≡ own ++ takes_of inlets a.config.top.clusters → Lists a (record a { inlets = inlets }) choices
listed a inlets own choices lists looked is = record {
  same = refl;
  looked = looked;
  just = λ x p there at. just_by x p at (Contains-append_cases own (takes_of inlets n) x (subst (λ cs. Contains cs x) is there));
  whole = λ x p at may. subst (λ cs. Contains cs x) (sym is) (whole_by x p at (kinds b x p may));
  ordered = λ p at. subst (AreInOrder a.config a.cluster p) (sym is)
      (order_append a.config a.cluster p own (takes_of inlets n) (lists.ordered p (back p at)) (takes_ordered a.config a.cluster p inlets n)
      (λ i d low. before_each a.config a.cluster p (slice_index_or own i d) (takes_of inlets n)
      (λ y there. let t = takes_just inlets n y there in subst (IsBefore a.config a.cluster p (slice_index_or own i d)) (sym t.is) (before_take a.config a.cluster p (slice_index_or own i d) t.from t.class (lists.none_takes i d low)))));
}
  where
    n : ℕ
    n = a.config.top.clusters

    b : CoreView
    b = record a { inlets = inlets }

    back : (p : Part) → IsAt b p → IsAt a p
    back p at = record { history = at.history; events = at.events; ran = at.ran; part = at.part }

    take_may : (x : Choice) (p : Part) → IsTakeOf inlets n x → MayDo b x p
    take_may x p t = subst (λ y. MayDo b y p) (sym t.is) (record { low = t.below; some = t.shows })

    just_by : (x : Choice) (p : Part) → IsAt b p → Contains own x ⊎ Contains (takes_of inlets n) x → MayDo b x p
    just_by x p at (inl there) = let j = lists.just x p (back p at) there in own_may b x p j.0 j.1
    just_by x p at (inr there) = take_may x p (takes_just inlets n x there)

    whole_by : (x : Choice) (p : Part) → IsAt b p → Kinds b x p → Contains (own ++ takes_of inlets n) x
    whole_by x p at (Own none able) = Contains-append_left own (takes_of inlets n) x (lists.whole x p (back p at) none able)
    whole_by x p at (Takes f j x_is shows) =
        subst (Contains (own ++ takes_of inlets n)) (sym x_is)
        (Contains-append_right own (takes_of inlets n) (choice.Take f j) (takes_whole inlets n f.0 j shows.low shows.some))

-- and the core keeps what it keeps
pub core_listed : {Z : Type 0} (v : PartsView) (last : ℕ) (a : CoreView) (capacity : ℕ) (ins : Vec InletView Z) (lent inlets : List InletView) → IsCore v last a capacity → lent ≡ a.inlets → length lent ≡ ins.len → Looked lent inlets
    → IsCore v last (record a { inlets = (with_items ins inlets).items }) capacity
core_listed v last a capacity ins lent inlets k is len looked =
    let now : Looked a.inlets inlets = subst (λ xs. Looked xs inlets) is looked in
    rw (ends_back ins lent inlets len looked.count) (core_kept v last a capacity a.reserved inlets k (let e : a.reserved ≤ a.reserved = grind arith in e) now.count now.received)

pub listed_back : {Z : Type 0} (a : CoreView) (ins : Vec InletView Z) (lent inlets : List InletView) (own choices : List Choice) → ListsAt a own → lent ≡ a.inlets → length lent ≡ ins.len → Looked lent inlets
    → choices ≡ own ++ takes_of inlets a.config.top.clusters → Lists a (record a { inlets = (with_items ins inlets).items }) choices
listed_back a ins lent inlets own choices lists is len looked choices_is =
    rw (ends_back ins lent inlets len looked.count) (listed a inlets own choices lists (subst (λ xs. Looked xs inlets) is looked) choices_is)
