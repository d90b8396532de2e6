-- The first choice by which a cluster settles, as a search finds it.
use Rattle.std.proofs.Common.{◌≡◌, ◌⊎◌, inl, inr, ℕ, ◌+◌, ◌<◌, ◌≤◌, true, false, Option, None, Some, List, length, slice_index_or, slice_get, refl, sym, ap, ◌∙◌, subst, arith}
use Rattle.std.proofs.lemmas.Bool.{cases_lt}
use Rattle.std.specs.Prelude.{Vec}
use Rattle.std.specs.Vec.{with_items}
use Rattle.dash_base.specs.declared.id.LineId.{LineId}
use Rattle.dash_base.specs.declared.id.ClusterId.{ClusterId}
use Rattle.dash_msg.specs.declared.classes.Class.{Class}
use Rattle.dash_msg.specs.declared.classes.Class.TheVariants.{Request, Reply}
use Rattle.mesh_lanes.specs.View.{InletView}
use Rattle.queue_lock.specs.View.{waiting}
use Rattle.remote_cache.specs.View.{count}
use Rattle.dash_model.specs.Config.{Config, cluster_id, line_id}
use Rattle.dash_model.specs.Part.{Part}
use Rattle.unit_rows.specs.declared.choice.Choice.{Choice}
use Rattle.unit_rows.specs.declared.choice.Choice.TheVariants as choice
use Rattle.unit_rows.specs.Shown.{PartsView, Shows, AreSized}
use Rattle.unit_rows.specs.Rows.{Enabled, Can, Cannot}
use Rattle.cluster_unit.specs.Enabling.{is_take}
use Rattle.cluster_unit.specs.View.{CoreView}
use Rattle.cluster_unit.specs.Ends.{place, knows, Looked}
use Rattle.cluster_unit.specs.Core.{IsAt, IsCore}
use Rattle.cluster_unit.specs.Choosing.{Shown, MayDo}
use Rattle.cluster_unit.specs.Settling.{IsSettling, SettlesBefore, IsFirstToSettle, FirstToSettle}
use Rattle.cluster_unit.specs.Searching.{IsFirstClass, FirstTake, FirstOf, CannotSettle, IsWay, IsFirstLine, FirstHart, IsFirstOwn, FirstOwn, FirstAfter}
use Rattle.cluster_unit.specs.Victims.{IsRising, HasVictims}
use Rattle.cluster_unit.proofs.Cores.{shows_at, ends_back}
use Rattle.cluster_unit.proofs.InTheWay.{rises_slowly}
use Rattle.cluster_unit.proofs.InRange.{below_limit}
use Rattle.cluster_unit.proofs.LockListing.{no_grant}
use Rattle.cluster_unit.proofs.Listed.{Kinds, Own, Takes, kinds, own_may}

-- one number more
pub so_far : (P : ℕ → Type 0) (n : ℕ) → ((i : ℕ) → i < n → P i) → P n → (i : ℕ) → i < n + 1 → P i
so_far P n before now i low = by_last (cases_lt i n)
  where
    by_last : (i < n) ⊎ (n ≤ i) → P i
    by_last (inl less) = before i less
    by_last (inr more) = subst P (let e : n ≡ i = omega (arith, low, more) in e) now

module _ (w : Config) (c : ℕ) (v : PartsView) (sized : AreSized w c v) where
  pub no_word : (n : ℕ) → w.top.locks ≤ n → ((i : ℕ) → i < n → Cannot w c v (choice.Grant i)) → (i : ℕ) → Cannot w c v (choice.Grant i)
  no_word n all before i p shows able = let low : i < w.top.locks = below_limit w c v sized 8 (choice.Grant i) p shows refl able refl in before i (omega (arith, low, all)) p shows able

  pub no_slot : (n : ℕ) → count v.slots ≤ n → ((i : ℕ) → i < n → Cannot w c v (choice.Install i)) → (i : ℕ) → Cannot w c v (choice.Install i)
  no_slot n all before i p shows able = let low : i < count v.slots = below_limit w c v sized 7 (choice.Install i) p shows refl able refl in before i (omega (arith, low, all)) p shows able

  pub no_hart : (n : ℕ) → w.top.harts ≤ n → ((h : ℕ) → h < n → (m : LineId) → CannotSettle w c v (choice.Evict h m)) → (h : ℕ) (m : LineId) → CannotSettle w c v (choice.Evict h m)
  no_hart n all before h m p shows able way = let low : h < w.top.harts = below_limit w c v sized 4 (choice.Evict h m) p shows refl able refl in before h (omega (arith, low, all)) m p shows able way

  pub none_waits : waiting v.locks ≡ 0 → (i : ℕ) → Cannot w c v (choice.Grant i)
  none_waits none i p shows able = no_grant w c v p (choice.Grant i) sized none shows able refl

-- of harts and lines
module _ (w : Config) (c k : ℕ) (v : PartsView) (ls : List ℕ) (whole : HasVictims w c v k ls) where
  pub none_of_next : (n x : ℕ) → x ≡ slice_index_or ls n 0 → ((i : ℕ) → i < n → CannotSettle w c v (choice.Evict k (line_id (slice_index_or ls i 0)))) → CannotSettle w c v (choice.Evict k (line_id x))
      → (i : ℕ) → i < n + 1 → CannotSettle w c v (choice.Evict k (line_id (slice_index_or ls i 0)))
  none_of_next n x is before now = so_far (λ i. CannotSettle w c v (choice.Evict k (line_id (slice_index_or ls i 0)))) n before (subst (λ y. CannotSettle w c v (choice.Evict k (line_id y))) is now)

  pub none_of_lines : (n : ℕ) → length ls ≤ n → ((i : ℕ) → i < n → CannotSettle w c v (choice.Evict k (line_id (slice_index_or ls i 0)))) → (m : LineId) → CannotSettle w c v (choice.Evict k m)
  none_of_lines n all before m p shows able way =
      let there = whole m p shows able in
      let low = there.low in
      subst (λ i. CannotSettle w c v (choice.Evict k (line_id i))) there.is (before there.place (omega (arith, low, all))) p shows able way

  lower : IsRising ls → (n i : ℕ) → i < length ls → slice_index_or ls i 0 < slice_index_or ls n 0 → (i < n) ⊎ (n ≤ i) → i < n
  lower rising n i low less (inl under) = under
  lower rising n i low less (inr over) = absurd (let up = rises_slowly ls rising n i over low in omega (arith, less, up))

  pub first_of_lines : IsRising ls → (n x : ℕ) → n < length ls → x ≡ slice_index_or ls n 0 → Can w c v (choice.Evict k (line_id x)) → IsWay w c v k x
      → ((i : ℕ) → i < n → CannotSettle w c v (choice.Evict k (line_id (slice_index_or ls i 0)))) → IsFirstLine w c v k (choice.Evict k (line_id x))
  first_of_lines rising n x low is can way before = record {
    line = line_id x;
    is = refl;
    can = can;
    way = way;
    before = λ m less p shows able on_way.
        let there = whole m p shows able in
        let e = there.is in
        let under = lower rising n there.place there.low (omega (arith, less, is, e)) (cases_lt there.place n) in
        subst (λ i. CannotSettle w c v (choice.Evict k (line_id i))) e (before there.place under) p shows able on_way;
  }

-- all kinds together
module _ (w : Config) (c : ℕ) (v : PartsView) where
  before_word : (n : ℕ) (y : Choice) (p : Part) → ((i : ℕ) → i < n → Cannot w c v (choice.Grant i)) → Shows w c v p → is_take y ≡ false → Enabled w c y p → IsSettling w c y p → SettlesBefore w c p y (choice.Grant n) → ⊥
  before_word n (choice.Take f k) p before shows own able way sooner = absurd (cc)
  before_word n (choice.Grant i) p before shows own able way (inl less) = omega (arith, less)
  before_word n (choice.Grant i) p before shows own able way (inr (e, inl less)) = before i less p shows able
  before_word n (choice.Grant i) p before shows own able way (inr (e, inr same)) = same.1
  before_word n (choice.Install i) p before shows own able way (inl less) = omega (arith, less)
  before_word n (choice.Install i) p before shows own able way (inr same) = let e = same.0 in omega (arith, e)
  before_word n (choice.Evict h m) p before shows own able way (inl less) = omega (arith, less)
  before_word n (choice.Evict h m) p before shows own able way (inr same) = let e = same.0 in omega (arith, e)
  before_word n y p before shows own able way sooner = absurd way

  first_word : (n : ℕ) → Can w c v (choice.Grant n) → ((i : ℕ) → i < n → Cannot w c v (choice.Grant i)) → IsFirstOwn w c v (choice.Grant n)
  first_word n can before = record { own = refl; can = can; settles = λ p shows. tt; first = λ y p shows own able way sooner. before_word n y p before shows own able way sooner }

  pub own_word : (x : Choice) → FirstOf w c v (λ i. choice.Grant i) (Some x) → IsFirstOwn w c v x
  own_word x found = subst (IsFirstOwn w c v) (sym found.is) (first_word found.number found.can found.before)

  module _ (no_words : (i : ℕ) → Cannot w c v (choice.Grant i)) where
    before_slot : (n : ℕ) (y : Choice) (p : Part) → ((i : ℕ) → i < n → Cannot w c v (choice.Install i)) → Shows w c v p → is_take y ≡ false → Enabled w c y p → IsSettling w c y p → SettlesBefore w c p y (choice.Install n) → ⊥
    before_slot n (choice.Take f k) p before shows own able way sooner = absurd (cc)
    before_slot n (choice.Grant i) p before shows own able way sooner = no_words i p shows able
    before_slot n (choice.Install i) p before shows own able way (inl less) = omega (arith, less)
    before_slot n (choice.Install i) p before shows own able way (inr (e, inl less)) = before i less p shows able
    before_slot n (choice.Install i) p before shows own able way (inr (e, inr same)) = same.1
    before_slot n (choice.Evict h m) p before shows own able way (inl less) = omega (arith, less)
    before_slot n (choice.Evict h m) p before shows own able way (inr same) = let e = same.0 in omega (arith, e)
    before_slot n y p before shows own able way sooner = absurd way

    first_slot : (n : ℕ) → Can w c v (choice.Install n) → ((i : ℕ) → i < n → Cannot w c v (choice.Install i)) → IsFirstOwn w c v (choice.Install n)
    first_slot n can before = record { own = refl; can = can; settles = λ p shows. tt; first = λ y p shows own able way sooner. before_slot n y p before shows own able way sooner }

    pub own_slot : (x : Choice) → FirstOf w c v (λ n. choice.Install n) (Some x) → IsFirstOwn w c v x
    own_slot x found = subst (IsFirstOwn w c v) (sym found.is) (first_slot found.number found.can found.before)

    module _ (no_slots : (i : ℕ) → Cannot w c v (choice.Install i)) where
      before_line : (k : ℕ) (l : LineId) (y : Choice) (p : Part) → ((h : ℕ) (m : LineId) → h < k → CannotSettle w c v (choice.Evict h m)) → ((m : LineId) → m.0 < l.0 → CannotSettle w c v (choice.Evict k m))
          → Shows w c v p → is_take y ≡ false → Enabled w c y p → IsSettling w c y p → SettlesBefore w c p y (choice.Evict k l) → ⊥
      before_line k l (choice.Take f j) p harts lines shows own able way sooner = absurd (cc)
      before_line k l (choice.Grant i) p harts lines shows own able way sooner = no_words i p shows able
      before_line k l (choice.Install i) p harts lines shows own able way sooner = no_slots i p shows able
      before_line k l (choice.Evict h m) p harts lines shows own able way (inl less) = omega (arith, less)
      before_line k l (choice.Evict h m) p harts lines shows own able way (inr (e, inl less)) = harts h m less p shows able way
      before_line k l (choice.Evict h m) p harts lines shows own able way (inr (e, inr (same, less))) =
          subst (λ g. CannotSettle w c v (choice.Evict g m)) (sym same) (lines m less) p shows able way
      before_line k l y p harts lines shows own able way sooner = absurd way

      first_line : (k : ℕ) (l : LineId) → Can w c v (choice.Evict k l) → IsWay w c v k l.0 → ((h : ℕ) (m : LineId) → h < k → CannotSettle w c v (choice.Evict h m)) → ((m : LineId) → m.0 < l.0 → CannotSettle w c v (choice.Evict k m)) → IsFirstOwn w c v (choice.Evict k l)
      first_line k l can way harts lines = record { own = refl; can = can; settles = λ p shows. way p shows; first = λ y p shows own able on_way sooner. before_line k l y p harts lines shows own able on_way sooner }

      none_own : ((h : ℕ) (m : LineId) → CannotSettle w c v (choice.Evict h m)) → (y : Choice) → is_take y ≡ false → CannotSettle w c v y
      none_own harts (choice.Take f j) own p shows able way = absurd (cc)
      none_own harts (choice.Grant i) own p shows able way = no_words i p shows able
      none_own harts (choice.Install i) own p shows able way = no_slots i p shows able
      none_own harts (choice.Evict h m) own p shows able way = harts h m p shows able way
      none_own harts y own p shows able way = absurd way

      pub own_line : (found : Option Choice) → FirstHart w c v found → FirstOwn w c v found
      own_line None harts = none_own harts
      own_line (Some x) found = subst (IsFirstOwn w c v) (sym found.first.is) (first_line found.hart found.first.line found.first.can found.first.way found.before found.first.before)

-- nothing stands before the first kind
not_later : {A : Type 0} (n : ℕ) → 1 < n → (n < 1) ⊎ ((n ≡ 1) × A) → ⊥
not_later n over (inl less) = omega (arith, over, less)
not_later n over (inr same) = let e = same.0 in omega (arith, over, e)

-- from the parts to the core
module _ (v : PartsView) (last : ℕ) (a : CoreView) (capacity : ℕ) (inlets : List InletView) (core : IsCore v last a capacity) where
  abbrev pub seen : CoreView
  seen = record a { inlets = inlets }

  shown : (p : Part) → IsAt seen p → Shows a.config a.cluster v p
  shown p at = shows_at v last a capacity p core (record { history = at.history; events = at.events; ran = at.ran; part = at.part })

  no_take : FirstTake inlets a.config.top.clusters None → (f : ClusterId) (k : Class) → Shown seen f k → ⊥
  no_take none f k shows = let e : true ≡ false = sym shows.some ∙ none f.0 k shows.low in absurd (cc)

  none_to_do : FirstTake inlets a.config.top.clusters None → FirstOwn a.config a.cluster v None → (y : Choice) (p : Part) → IsAt seen p → MayDo seen y p → IsSettling a.config a.cluster y p → ⊥
  none_to_do takes others y p at may way = by_kind (kinds seen y p may)
    where
      by_kind : Kinds seen y p → ⊥
      by_kind (Own own able) = others y own p (shown p at) able way
      by_kind (Takes f k is shows) = no_take takes f k shows

  first_own : (x : Choice) (p : Part) → FirstTake inlets a.config.top.clusters None → IsFirstOwn a.config a.cluster v x → IsAt seen p → IsFirstToSettle seen x p
  first_own x p takes found at = record {
    may = own_may seen x p found.own (found.can p (shown p at));
    settles = found.settles p (shown p at);
    first = λ y may way sooner. by_kind y way sooner (kinds seen y p may);
  }
    where
      by_kind : (y : Choice) → IsSettling a.config a.cluster y p → SettlesBefore a.config a.cluster p y x → Kinds seen y p → ⊥
      by_kind y way sooner (Own own able) = found.first y p (shown p at) own able way sooner
      by_kind y way sooner (Takes f k is shows) = no_take takes f k shows

  before_take : (f : ℕ) (k : Class) (y : Choice) (p : Part) → IsFirstClass inlets f k → ((g : ℕ) (j : Class) → g < f → knows (slice_get inlets (place g j)) ≡ false) → MayDo seen y p → SettlesBefore a.config a.cluster p y (choice.Take (cluster_id f) k) → ⊥
  before_take f k (choice.Take g j) p one before may (inl less) = omega (arith, less)
  before_take f k (choice.Take g j) p one before may (inr (e, inl less)) = let t : true ≡ false = sym may.some ∙ before g.0 j less in absurd (cc)
  before_take f Reply (choice.Take g Request) p one before may (inr (e, inr (same, sooner))) = let t : true ≡ false = sym may.some ∙ ap (λ n. knows (slice_get inlets (place n Request))) same ∙ one.before refl in absurd (cc)
  before_take f Request (choice.Take g Request) p one before may (inr (e, inr (same, sooner))) = absurd sooner
  before_take f Request (choice.Take g Reply) p one before may (inr (e, inr (same, sooner))) = absurd sooner
  before_take f Reply (choice.Take g Reply) p one before may (inr (e, inr (same, sooner))) = absurd sooner
  before_take f k (choice.Step h) p one before may sooner = not_later 5 (omega arith) sooner
  before_take f k (choice.Commit h) p one before may sooner = not_later 5 (omega arith) sooner
  before_take f k (choice.BusRead h l) p one before may sooner = not_later 5 (omega arith) sooner
  before_take f k (choice.BusOwn h l) p one before may sooner = not_later 5 (omega arith) sooner
  before_take f k (choice.Evict h l) p one before may sooner = not_later 4 (omega arith) sooner
  before_take f k (choice.Ask n) p one before may sooner = not_later 5 (omega arith) sooner
  before_take f k (choice.Again n) p one before may sooner = not_later 5 (omega arith) sooner
  before_take f k (choice.Install n) p one before may sooner = not_later 3 (omega arith) sooner
  before_take f k (choice.Grant i) p one before may sooner = not_later 2 (omega arith) sooner

  first_shown : (f : ℕ) (k : Class) (p : Part) → f < a.config.top.clusters → IsFirstClass inlets f k → ((g : ℕ) (j : Class) → g < f → knows (slice_get inlets (place g j)) ≡ false) → IsFirstToSettle seen (choice.Take (cluster_id f) k) p
  first_shown f k p low one before = record {
    may = record { low = low; some = one.shows };
    settles = tt;
    first = λ y may way sooner. before_take f k y p one before may sooner;
  }

  pub first_to_settle : (take found : Option Choice) → FirstTake inlets a.config.top.clusters take → FirstAfter a.config a.cluster v take found → FirstToSettle seen found
  first_to_settle None None takes others = none_to_do takes others
  first_to_settle None (Some x) takes others = λ p at. first_own x p takes others at
  first_to_settle (Some x) found takes is =
      subst (FirstToSettle seen) (sym is) (λ p at. subst (λ y. IsFirstToSettle seen y p) (sym takes.is) (first_shown takes.from takes.class p takes.below takes.first takes.before))

  -- the ends come back
  pub first_back : {Z : Type 0} (ins : Vec InletView Z) (lent : List InletView) (take found : Option Choice) → lent ≡ a.inlets → length lent ≡ ins.len → Looked lent inlets → FirstTake inlets a.config.top.clusters take → FirstAfter a.config a.cluster v take found
      → FirstToSettle (record a { inlets = (with_items ins inlets).items }) found
  first_back ins lent take found is len looked takes after = subst (λ xs. FirstToSettle (record a { inlets = xs }) found) (sym (ends_back ins lent inlets len looked.count)) (first_to_settle take found takes after)
