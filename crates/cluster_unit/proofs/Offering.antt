-- Lists of choices that grow by one.
use Rattle.std.proofs.Common.{◌≡◌, ◌⊎◌, inl, inr, ℕ, ◌+◌, ◌<◌, ◌≤◌, false, List, [], ◌∷◌, ◌++◌, refl, sym, ap, subst, arith}
use Rattle.std.specs.List.{All, Contains}
use Rattle.std.proofs.lemmas.Bool.{cases_lt}
use Rattle.std.proofs.lemmas.List.Elements.{All-nil, All-head, All-tail, All-push, All-weaker, Contains-append_left, Contains-push}
use Rattle.dash_model.specs.Config.{Config}
use Rattle.dash_model.specs.Part.{Part}
use Rattle.unit_rows.specs.declared.choice.Choice.{Choice}
use Rattle.unit_rows.specs.declared.choice.Choice.TheVariants as choice
use Rattle.unit_rows.specs.Shown.{PartsView, Shows}
use Rattle.unit_rows.specs.Rows.{Enabled}
use Rattle.cluster_unit.specs.declared.by_number.ByNumber.{ByNumber}
use Rattle.cluster_unit.specs.declared.by_number.ByNumber.TheVariants as number
use Rattle.cluster_unit.specs.Enabling.{Can, is_take}
use Rattle.cluster_unit.specs.Order.{kind_place, number_in, IsBefore, IsBeforeAll, AreInOrder}
use Rattle.cluster_unit.specs.Listing.{Offers, PutIn, LeftOut, HasListed, IsBelow, choice_of, place_of}

before_all : (w : Config) (c : ℕ) (p : Part) (y x : Choice) (zs : List Choice) → IsBeforeAll w c p y zs → IsBefore w c p y x → IsBeforeAll w c p y (zs ++ x ∷ [])
before_all w c p y x [] all one = (one, tt)
before_all w c p y x (z ∷ zs) all one = (all.0, before_all w c p y x zs all.1 one)

in_order : (w : Config) (c : ℕ) (p : Part) (x : Choice) (ys : List Choice) → AreInOrder w c p ys → All (λ y. IsBefore w c p y x) ys → AreInOrder w c p (ys ++ x ∷ [])
in_order w c p x [] o all = (tt, tt)
in_order w c p x (y ∷ ys) o all =
    (before_all w c p y x ys o.0 (All-head (λ z. IsBefore w c p z x) y ys all), in_order w c p x ys o.1 (All-tail (λ z. IsBefore w c p z x) y ys all))

in_one_more : (D : Choice → Type 0) (x y : Choice) (old : List Choice) → D y ⊎ (y ≡ x) → (D y → Contains old y) → Contains (old ++ x ∷ []) y
in_one_more D x y old (inl d) had = Contains-append_left old (x ∷ []) y (had d)
in_one_more D x y old (inr e) had = subst (λ z. Contains (old ++ x ∷ []) z) (sym e) (Contains-push old x)

in_same : (D : Choice → Type 0) (w : Config) (c : ℕ) (p : Part) (x y : Choice) (old : List Choice) → D y ⊎ (y ≡ x) → (D y → Contains old y) → (Enabled w c x p → ⊥) → Enabled w c y p → Contains old y
in_same D w c p x y old (inl d) had cannot able = had d
in_same D w c p x y old (inr e) had cannot able = absurd (cannot (subst (λ z. Enabled w c z p) e able))

-- what ranges have
no_kind : (y : Choice) → IsBelow 1 0 y → ⊥
no_kind y (inr e) = let low = e.1 in omega (arith, low)
no_kind (choice.Step k) (inl e) = omega (arith, e)
no_kind (choice.Commit k) (inl e) = omega (arith, e)
no_kind (choice.BusRead k l) (inl e) = omega (arith, e)
no_kind (choice.BusOwn k l) (inl e) = omega (arith, e)
no_kind (choice.Evict k l) (inl e) = omega (arith, e)
no_kind (choice.Ask n) (inl e) = omega (arith, e)
no_kind (choice.Again n) (inl e) = omega (arith, e)
no_kind (choice.Install n) (inl e) = omega (arith, e)
no_kind (choice.Grant i) (inl e) = omega (arith, e)
no_kind (choice.Take f k) (inl e) = omega (arith, e)

kind_over : (r n : ℕ) (y : Choice) → IsBelow r n y → IsBelow (r + 1) 0 y
kind_over r n y (inl e) = inl (omega (arith, e))
kind_over r n y (inr e) = let same = e.0 in inl (omega (arith, same))

kind_at : (r n : ℕ) (y : Choice) → (kind_place y < r) ⊎ (r ≤ kind_place y) → kind_place y < r + 1 → (kind_place y ≡ r → number_in y < n) → IsBelow r n y
kind_at r n y (inl less) e low = inl less
kind_at r n y (inr more) e low = let same : kind_place y ≡ r = omega (arith, more, e) in inr (same, low same)

kind_back : (r n : ℕ) (y : Choice) → IsBelow (r + 1) 0 y → (kind_place y ≡ r → number_in y < n) → IsBelow r n y
kind_back r n y (inl e) low = kind_at r n y (cases_lt (kind_place y) r) e low
kind_back r n y (inr e) low = let below = e.1 in absurd (omega (arith, below))

pub number_over : (r n : ℕ) (y : Choice) → IsBelow r n y → IsBelow r (n + 1) y
number_over r n y (inl e) = inl e
number_over r n y (inr e) = let below = e.1 in inr (e.0, omega (arith, below))

number_at : (r n : ℕ) (x y : Choice) → (number_in y < n) ⊎ (n ≤ number_in y) → kind_place y ≡ r → number_in y < n + 1 → ((z : Choice) → kind_place z ≡ r → number_in z ≡ n → z ≡ x) → IsBelow r n y ⊎ (y ≡ x)
number_at r n x y (inl less) kind e alone = inl (inr (kind, less))
number_at r n x y (inr more) kind e alone = inr (alone y kind (omega (arith, more, e)))

number_back : (r n : ℕ) (x y : Choice) → IsBelow r (n + 1) y → ((z : Choice) → kind_place z ≡ r → number_in z ≡ n → z ≡ x) → IsBelow r n y ⊎ (y ≡ x)
number_back r n x y (inl e) alone = inl (inl e)
number_back r n x y (inr e) alone = number_at r n x y (cases_lt (number_in y) n) e.0 e.1 alone

-- the choice of a kind that goes by one number
place_is : (kind : ByNumber) (n : ℕ) → kind_place (choice_of kind n) ≡ place_of kind
place_is number.Step n = refl
place_is number.Commit n = refl
place_is number.Ask n = refl
place_is number.Again n = refl
place_is number.Install n = refl

number_is : (kind : ByNumber) (n : ℕ) → number_in (choice_of kind n) ≡ n
number_is number.Step n = refl
number_is number.Commit n = refl
number_is number.Ask n = refl
number_is number.Again n = refl
number_is number.Install n = refl

pub is_own : (kind : ByNumber) (n : ℕ) → is_take (choice_of kind n) ≡ false
is_own number.Step n = refl
is_own number.Commit n = refl
is_own number.Ask n = refl
is_own number.Again n = refl
is_own number.Install n = refl

is_alone : (kind : ByNumber) (n : ℕ) (y : Choice) → kind_place y ≡ place_of kind → number_in y ≡ n → y ≡ choice_of kind n
is_alone number.Step n (choice.Step k) e f = ap choice.Step f
is_alone number.Commit n (choice.Commit k) e f = ap choice.Commit f
is_alone number.Ask n (choice.Ask k) e f = ap choice.Ask f
is_alone number.Again n (choice.Again k) e f = ap choice.Again f
is_alone number.Install n (choice.Install k) e f = ap choice.Install f
is_alone kind n y e f = absurd (omega (arith, e))

pub is_before : (w : Config) (c : ℕ) (p : Part) (r n : ℕ) (x y : Choice) → kind_place x ≡ r → number_in x ≡ n → IsBelow r n y → IsBefore w c p y x
is_before w c p r n x y kind is (inl e) = inl (omega (arith, e, kind))
is_before w c p r n x y kind is (inr e) = let same = e.0 in let less = e.1 in inr (omega (arith, same, kind), inl (omega (arith, less, is)))

module _ (w : Config) (c : ℕ) (v : PartsView) where
  -- a choice is offered, and the range grows by it
  pub one_more : (D E : Choice → Type 0) (x : Choice) (old new : List Choice) → HasListed w c v D old → Offers w c v x old new
      → ((y : Choice) → D y → E y) → E x → ((y : Choice) (p : Part) → Shows w c v p → is_take y ≡ false → Enabled w c y p → E y → D y ⊎ (y ≡ x)) → ((y : Choice) (p : Part) → Shows w c v p → D y → IsBefore w c p y x)
      → HasListed w c v E new
  one_more D E x old new had (PutIn can is) wider here rest before = subst (λ ys. HasListed w c v E ys) (sym is) (record {
    just = All-push (Can w c v) old x had.just can;
    within = All-push E old x (All-weaker D E wider old had.within) here;
    whole = λ y p shows own able e. in_one_more D x y old (rest y p shows own able e) (had.whole y p shows own able);
    ordered = λ p shows. in_order w c p x old (had.ordered p shows) (All-weaker D (λ y. IsBefore w c p y x) (λ y d. before y p shows d) old had.within);
  })
  one_more D E x old new had (LeftOut cannot is) wider here rest before = subst (λ ys. HasListed w c v E ys) (sym is) (record {
    just = had.just;
    within = All-weaker D E wider old had.within;
    whole = λ y p shows own able e. in_same D w c p x y old (rest y p shows own able e) (had.whole y p shows own able) (cannot p shows) able;
    ordered = had.ordered;
  })

  -- the same list, of another range
  pub regraded : (D E : Choice → Type 0) (xs : List Choice) → HasListed w c v D xs → ((y : Choice) → D y → E y) → ((y : Choice) (p : Part) → Shows w c v p → is_take y ≡ false → Enabled w c y p → E y → D y) → HasListed w c v E xs
  regraded D E xs had wider rest = record {
    just = had.just;
    within = All-weaker D E wider xs had.within;
    whole = λ y p shows own able e. had.whole y p shows own able (rest y p shows own able e);
    ordered = had.ordered;
  }

  -- none so far
  pub none_listed : HasListed w c v (IsBelow 1 0) []
  none_listed = record {
    just = All-nil (Can w c v);
    within = All-nil (IsBelow 1 0);
    whole = λ y p shows own able e. absurd (no_kind y e);
    ordered = λ p shows. tt;
  }

  -- all of a kind
  pub next_kind : (r n : ℕ) (xs : List Choice) → HasListed w c v (IsBelow r n) xs → ((y : Choice) (p : Part) → Shows w c v p → is_take y ≡ false → Enabled w c y p → kind_place y ≡ r → number_in y < n) → HasListed w c v (IsBelow (r + 1) 0) xs
  next_kind r n xs had low = regraded (IsBelow r n) (IsBelow (r + 1) 0) xs had (λ y d. kind_over r n y d) (λ y p shows own able e. kind_back r n y e (low y p shows own able))

  -- a choice that is alone at its place
  pub one_alone : (r n : ℕ) (x : Choice) (old new : List Choice) → kind_place x ≡ r → number_in x ≡ n → ((y : Choice) → kind_place y ≡ r → number_in y ≡ n → y ≡ x) → HasListed w c v (IsBelow r n) old → Offers w c v x old new → HasListed w c v (IsBelow r (n + 1)) new
  one_alone r n x old new kind is alone had offers =
      one_more (IsBelow r n) (IsBelow r (n + 1)) x old new had offers (λ y d. number_over r n y d) (inr (kind, omega (arith, is))) (λ y p shows own able e. number_back r n x y e alone) (λ y p shows d. is_before w c p r n x y kind is d)

  pub one_numbered : (kind : ByNumber) (n : ℕ) (x : Choice) (old new : List Choice) → x ≡ choice_of kind n → HasListed w c v (IsBelow (place_of kind) n) old → Offers w c v x old new → HasListed w c v (IsBelow (place_of kind) (n + 1)) new
  one_numbered kind n x old new is had offers =
      one_alone (place_of kind) n (choice_of kind n) old new (place_is kind n) (number_is kind n) (is_alone kind n) had (subst (λ z. Offers w c v z old new) is offers)
