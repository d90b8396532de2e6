-- One place has the token of a line, and messages go to the home, or come from it, as their kinds do.
use Rattle.std.proofs.Common.{◌≡◌, ◌≢◌, ◌⊎◌, ℕ, ◌+◌, ◌≤◌, ◌==◌, cond, List, [], ◌∷◌, refl, ap, ◌∙◌, inl, inr, arith}
use Rattle.std.proofs.lemmas.Bool.Decides.{nat_tests}
use Rattle.dash_msg.specs.declared.msg.Msg.{Msg}
use Rattle.dash_msg.specs.declared.msg.Msg.TheVariants.{Read, ReadEx, FwdRead, FwdReadEx, Inval, WriteBack, SharingBack, Transfer, TransferAck}
use Rattle.dash_model.specs.Maps.{weigh}
use Rattle.dash_model.specs.Config.{Config, home_of}
use Rattle.dash_model.specs.Net.{Packet}
use Rattle.dash_model.specs.OnLine.{one, on, gives_back, gives_back_msg, passes_msg}
use Rattle.dash_model.specs.Machine.{Machine}
use Rattle.dash_model.specs.LineFacts.{IsOnItsWay, IsForHome, IsFromHome, to_cluster, Holder, InMemory, OwnerAt, SlotAt, ComingTo, ReturningFrom, tokens_at, tokens_for}
use Rattle.dash_model.proofs.Facts.{Place, AtHome, At, Back, Moving, Facts, misrouted, misrouted_msg, returns}
use Rattle.dash_model.proofs.Along.{along, same_or_not}

-- a message that is on its way weighs
pub weigh_at : (w : Packet → ℕ) (net : List Packet) (q : Packet) → IsOnItsWay q net → w q ≤ weigh w net
unfolding weigh
weigh_at w [] q i = absurd i
weigh_at w (p ∷ ps) q (inl e) = let f : w q ≡ w p = ap w e in omega arith
weigh_at w (p ∷ ps) q (inr i) = let ih = weigh_at w ps q i in omega arith

-- what is for the home goes there, and what it alone sends comes from there
pub routed : (h : ℕ) (q : Packet) (m : Msg) → misrouted_msg h q.src q.dst m ≡ 0 → IsForHome m → q.dst ≡ h
routed h q (Read l) e f = grind (arith, nat_tests)
routed h q (ReadEx l) e f = grind (arith, nat_tests)
routed h q (WriteBack l d) e f = grind (arith, nat_tests)
routed h q (SharingBack l d r) e f = grind (arith, nat_tests)
routed h q (Transfer l r) e f = grind (arith, nat_tests)
routed h q _ e f = absurd f

pub sent_home : (h : ℕ) (q : Packet) (m : Msg) → misrouted_msg h q.src q.dst m ≡ 0 → IsFromHome m → q.src ≡ h
sent_home h q (FwdRead l r) e f = grind (arith, nat_tests)
sent_home h q (FwdReadEx l r) e f = grind (arith, nat_tests)
sent_home h q (Inval l r) e f = grind (arith, nat_tests)
sent_home h q (TransferAck l) e f = grind (arith, nat_tests)
sent_home h q _ e f = absurd f

pub not_astray : (h : ℕ) (net : List Packet) (q : Packet) → weigh (misrouted h) net ≡ 0 → IsOnItsWay q net → misrouted h q ≡ 0
not_astray h net q none at = let some = weigh_at (misrouted h) net q at in omega arith

-- so what weighs of it weighs the same to there
pub all_home : (h : ℕ) (weight : Packet → ℕ) → ((q : Packet) → misrouted h q ≡ 0 → to_cluster h weight q ≡ weight q) → (net : List Packet) → weigh (misrouted h) net ≡ 0 → weigh (to_cluster h weight) net ≡ weigh weight net
unfolding weigh
all_home h weight f [] none = refl
all_home h weight f (q ∷ qs) none =
    let here = f q (omega arith) in
    let there = all_home h weight f qs (omega arith) in
    omega arith

back_home : (h c a b : ℕ) (m : Msg) → misrouted_msg h a b m ≡ 0 → cond (b == h) (gives_back_msg c a b m) 0 ≡ gives_back_msg c a b m
back_home h c a b (WriteBack l d) e = grind (arith, nat_tests)
back_home h c a b (SharingBack l d r) e = grind (arith, nat_tests)
back_home h c a b _ e = grind arith

pub pass_home : (h o r a b : ℕ) (m : Msg) → misrouted_msg h a b m ≡ 0 → cond (b == h) (passes_msg o r a b m) 0 ≡ passes_msg o r a b m
pass_home h o r a b (Transfer l x) e = grind (arith, nat_tests)
pass_home h o r a b _ e = grind arith

pub returning : (w : Config) (l : ℕ) (m : Machine) (p : Place) → ((x : ℕ) → Facts (home_of w l) (along w l m) p x) → (c : ℕ) → tokens_at w l m (ReturningFrom c) ≡ returns p c
returning w l m p k c = all_home (home_of w l) (gives_back c) (λ q e. back_home (home_of w l) c q.src q.dst q.msg e) (on l m.net) (k 0).requests.routed ∙ (k c).tokens.back

pub one_self : (o : ℕ) → one o o ≡ 1
one_self o = grind (arith, nat_tests)

pub one_not : (o c : ℕ) → c ≢ o → one o c ≡ 0
one_not o c n = grind (arith, nat_tests)

-- where the token is
at_one : (a b c : ℕ) → a + b + c ≡ 1 → ((a ≡ 1) × (b ≡ 0) × (c ≡ 0)) ⊎ (((a ≡ 0) × (b ≡ 1) × (c ≡ 0)) ⊎ ((a ≡ 0) × (b ≡ 0) × (c ≡ 1)))
at_one a b c e = grind arith

pub record OneToken (w : Config) (l : ℕ) (m : Machine) : Type 0 where
  pub holder : Holder
  pub there : tokens_at w l m holder ≡ 1
  pub alone : (g : Holder) → g ≢ holder → tokens_at w l m g ≡ 0

module _ (w : Config) (l : ℕ) (m : Machine) where
  -- for cluster o: no other holder has it, where none of the three of o but g does
  others : (o : ℕ) → ((c : ℕ) → tokens_for l m c ≡ one o c) → tokens_at w l m InMemory ≡ 0 → ((c : ℕ) → tokens_at w l m (ReturningFrom c) ≡ 0)
      → (g : Holder) → (OwnerAt o ≢ g → tokens_at w l m (OwnerAt o) ≡ 0) → (SlotAt o ≢ g → tokens_at w l m (SlotAt o) ≡ 0) → (ComingTo o ≢ g → tokens_at w l m (ComingTo o) ≡ 0)
      → (h : Holder) → h ≢ g → tokens_at w l m h ≡ 0
  others o f z r g a b c InMemory n = z
  others o f z r g a b c (ReturningFrom x) n = r x
  others o f z r g a b c (OwnerAt x) n = elim (same_or_not x o) [ inl e ↦ ap (λ y. tokens_at w l m (OwnerAt y)) e ∙ a (λ q. n (ap OwnerAt e ∙ q)) | inr d ↦ (let e = f x ∙ one_not o x d in omega arith) ]
  others o f z r g a b c (SlotAt x) n = elim (same_or_not x o) [ inl e ↦ ap (λ y. tokens_at w l m (SlotAt y)) e ∙ b (λ q. n (ap SlotAt e ∙ q)) | inr d ↦ (let e = f x ∙ one_not o x d in omega arith) ]
  others o f z r g a b c (ComingTo x) n = elim (same_or_not x o) [ inl e ↦ ap (λ y. tokens_at w l m (ComingTo y)) e ∙ c (λ q. n (ap ComingTo e ∙ q)) | inr d ↦ (let e = f x ∙ one_not o x d in omega arith) ]

  for_cluster : (o : ℕ) → ((c : ℕ) → tokens_for l m c ≡ one o c) → tokens_at w l m InMemory ≡ 0 → ((c : ℕ) → tokens_at w l m (ReturningFrom c) ≡ 0) → OneToken w l m
  for_cluster o f z r = elim (at_one (tokens_at w l m (OwnerAt o)) (tokens_at w l m (SlotAt o)) (tokens_at w l m (ComingTo o)) (f o ∙ one_self o)) [
    | inl e ↦ record { holder = OwnerAt o; there = e.0; alone = others o f z r (OwnerAt o) (λ n. absurd (n refl)) (λ _. e.1) (λ _. e.2) }
    | inr (inl e) ↦ record { holder = SlotAt o; there = e.1; alone = others o f z r (SlotAt o) (λ _. e.0) (λ n. absurd (n refl)) (λ _. e.2) }
    | inr (inr e) ↦ record { holder = ComingTo o; there = e.2; alone = others o f z r (ComingTo o) (λ _. e.0) (λ _. e.1) (λ n. absurd (n refl)) }
  ]

  -- for no cluster
  for_none : ((c : ℕ) → tokens_for l m c ≡ 0) → (g : Holder) → (InMemory ≢ g → tokens_at w l m InMemory ≡ 0) → ((c : ℕ) → ReturningFrom c ≢ g → tokens_at w l m (ReturningFrom c) ≡ 0)
      → (h : Holder) → h ≢ g → tokens_at w l m h ≡ 0
  for_none f g z r InMemory n = z n
  for_none f g z r (ReturningFrom c) n = r c n
  for_none f g z r (OwnerAt c) n = let e = f c in omega arith
  for_none f g z r (SlotAt c) n = let e = f c in omega arith
  for_none f g z r (ComingTo c) n = let e = f c in omega arith

  pub one_token : (p : Place) → ((x : ℕ) → Facts (home_of w l) (along w l m) p x) → OneToken w l m
  one_token AtHome k = record { holder = InMemory; there = (k 0).tokens.home; alone = for_none (λ c. (k c).tokens.token) InMemory (λ n. absurd (n refl)) (λ c n. returning w l m AtHome k c) }
  one_token (At o) k = for_cluster o (λ c. (k c).tokens.token) (k 0).tokens.home (returning w l m (At o) k)
  one_token (Back o) k = record { holder = ReturningFrom o; there = returning w l m (Back o) k o ∙ one_self o; alone = for_none (λ c. (k c).tokens.token) (ReturningFrom o) (λ n. (k 0).tokens.home) (λ c n. returning w l m (Back o) k c ∙ one_not o c (λ e. n (ap ReturningFrom e))) }
  one_token (Moving q o) k = for_cluster o (λ c. (k c).tokens.token) (k 0).tokens.home (returning w l m (Moving q o) k)
