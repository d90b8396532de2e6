-- What each call of a unit keeps: it is the same unit, with the same ends.
use Rattle.std.proofs.Common.{◌≡◌, ◌≢◌, ℕ, suc, ◌-◌, ◌+◌, ◌<◌, ◌==◌, ◌&&◌, Bool, true, false, List, [], ◌∷◌, length, slice_index_or, slice_set, nat_lt, refl, sym, ap, ◌∙◌, subst, arith}
use Rattle.std.proofs.lemmas.Bool.Decides.{nat_tests}
use Rattle.std.proofs.lemmas.List.{get_or-set_same, get_or-set_other}
use Rattle.arbiter.specs.declared.arbitration.Plan.{Plan}
use Rattle.std.specs.Prelude.{Option}
use Rattle.mesh_lanes.specs.View.{OutletView, InletView}
use Rattle.unit_rows.specs.declared.choice.Choice.{Choice}
use Rattle.unit_rows.specs.declared.choice.Choice.TheVariants.{Grant, Take}
use Rattle.cluster_unit.specs.declared.turn.Turn.{Turn}
use Rattle.cluster_unit.specs.declared.turn.Turn.TheVariants.{Did, Idle}
use Rattle.cluster_unit.specs.View.{CoreView}
use Rattle.cluster_unit.specs.Ends.{Looked}
use Rattle.cluster_unit.specs.Turns.{spent, Happened, OthersStay}
use Rattle.cluster_unit.specs.Choosing.{Performed, Chose}
use Rattle.cluster_unit.specs.Picking.{Turned, counted}
use Rattle.cluster_unit.specs.Reserving.{Reserved}
use Rattle.cluster_unit.specs.Settling.{Settles, Settled}
use Rattle.cluster_unit.specs.Serial.{Stepped}
use Rattle.round_run.specs.Units.{UnitView, IsSame, NoneToGrant}
use Rattle.round_run.specs.Rounds.{DidTurns}
use Rattle.round_run.proofs.Eaches.{at_or_not}

-- the same unit, with one turn less
pub record UsesTurn (a b : CoreView) : Type 0 where
  pub same : IsSame a b
  pub reserved : b.reserved ≡ a.reserved - 1

again : (a : CoreView) → IsSame a a
again a = record { config = refl; cluster = refl; outlets = λ j x. refl; inlets = λ j x. refl }

pub same_joins : (a b c : CoreView) → IsSame a b → IsSame b c → IsSame a c
same_joins a b c f g = record {
  config = g.config ∙ f.config;
  cluster = g.cluster ∙ f.cluster;
  outlets = λ j x. g.outlets j x ∙ f.outlets j x;
  inlets = λ j x. g.inlets j x ∙ f.inlets j x;
}

-- the lanes of inlets that were looked at
same_looked : (a b : CoreView) → b ≡ record a { inlets = b.inlets } → Looked a.inlets b.inlets → IsSame a b
same_looked a b same looked = record {
  config = ap (λ (z : CoreView). z.config) same;
  cluster = ap (λ (z : CoreView). z.cluster) same;
  outlets = λ j x. ap (λ (z : CoreView). (slice_index_or z.outlets j x).lane) same;
  inlets = looked.lane;
}

pub uses_spent : (a b : CoreView) → b ≡ spent a → UsesTurn a b
uses_spent a b is = subst (UsesTurn a) (sym is) (record { same = record { config = refl; cluster = refl; outlets = λ j x. refl; inlets = λ j x. refl }; reserved = refl })

uses_happened : (x : Choice) (a b : CoreView) → Happened x a b → ((j : ℕ) (y : InletView) → (slice_index_or b.inlets j y).lane ≡ (slice_index_or a.inlets j y).lane) → UsesTurn a b
uses_happened x a b h inlets = record { same = record { config = h.config; cluster = h.cluster; outlets = h.outlets.1; inlets = inlets }; reserved = h.reserved }

others_lanes : (at : ℕ) (old new : List InletView) → OthersStay at old new → (j : ℕ) (y : InletView) → (slice_index_or new j y).lane ≡ (slice_index_or old j y).lane
others_lanes at old new o j y = at_or_not (λ n. (slice_index_or new n y).lane ≡ (slice_index_or old n y).lane) at j (at == j) refl (o.lane y) (λ far. ap (λ (z : InletView). z.lane) (o.others j y (λ e. far (sym e))))

did_not : Did ≡ Idle → ⊥
did_not e = cc

-- a choice that was done
pub uses_performed : (x : Choice) (a b : CoreView) → Performed x Did a b → UsesTurn a b
uses_performed (Take from k) a b p = by_range (nat_lt from.0 a.config.top.clusters) refl
  where
    by_range : (r : Bool) → nat_lt from.0 a.config.top.clusters ≡ r → UsesTurn a b
    by_range true e = let got = p.0 (grind (arith, nat_tests)) in uses_happened _ a b got.happened (others_lanes _ a.inlets b.inlets got.others)
    by_range false e = absurd (did_not (p.1 (grind (arith, nat_tests))).0)
uses_performed x a b p = uses_happened x a b p.0 (λ j y. ap (λ l. (slice_index_or l j y).lane) p.1)

-- a turn
uses_chose : (n : ℕ) (xs : List Choice) (t : Turn) (a b : CoreView) → Chose n xs t a b → UsesTurn a b
uses_chose n xs t a b h = let l = h.lists in after (same_looked a h.listed l.same l.looked) (ap (λ (z : CoreView). z.reserved) l.same) (by_list xs h)
  where
    after : IsSame a h.listed → h.listed.reserved ≡ a.reserved → UsesTurn h.listed b → UsesTurn a b
    after same reserved u = record { same = same_joins a h.listed b same u.same; reserved = u.reserved ∙ ap (λ m. m - 1) reserved }

    by_list : (ys : List Choice) (k : Chose n ys t a b) → UsesTurn k.listed b
    by_list [] k = uses_spent k.listed b (k.none refl).1
    by_list (y ∷ ys) k = uses_performed _ k.listed b (k.one y (let s : 0 < suc (length ys) = omega arith in s)).1

pub uses_turned : (plan : Option Plan) (rotate : ℕ) (xs : List Choice) (t : Turn) (a b : CoreView) → Turned plan rotate xs t a b → UsesTurn a b
uses_turned plan rotate xs t a b h = uses_chose h.number xs t a b h.chose

-- a step by which it settles
pub uses_settles : (t : Turn) (a b : CoreView) → Settles t a b → UsesTurn a b
uses_settles t a b h = after (same_looked a h.seen h.same h.looked) (ap (λ (z : CoreView). z.reserved) h.same) (by_turn t h.settled)
  where
    after : IsSame a h.seen → h.seen.reserved ≡ a.reserved → UsesTurn h.seen b → UsesTurn a b
    after same reserved u = record { same = same_joins a h.seen b same u.same; reserved = u.reserved ∙ ap (λ m. m - 1) reserved }

    by_turn : (s : Turn) → Settled s h.seen b → UsesTurn h.seen b
    by_turn Did s = uses_performed s.choice h.seen b s.done
    by_turn Idle s = uses_spent h.seen b s.1

-- where it had none to do, no lock word can be granted
pub none_granted : (a b : CoreView) → Settles Idle a b → NoneToGrant b
none_granted a b h = subst NoneToGrant (sym h.settled.1) (λ i p at able. h.settled.0 (Grant i) p (record { history = at.history; events = at.events; ran = at.ran; part = at.part }) able tt)

-- a step of a hart alone
pub uses_stepped : (k : ℕ) (t : Turn) (a b : CoreView) → Stepped k t a b → UsesTurn a b
uses_stepped k Did a b h = uses_performed h.choice a b h.done
uses_stepped k Idle a b h = uses_spent a b h.1

-- memory that was taken
pub same_reserved : (a b : CoreView) → Reserved a b → IsSame a b
same_reserved a b r = record {
  config = r.config;
  cluster = r.cluster;
  outlets = λ j x. ap (λ (z : OutletView). z.lane) (r.outlets.others j x);
  inlets = λ j x. ap (λ l. (slice_index_or l j x).lane) r.inlets;
}

-- a fact of all elements below one, and of what it became
pub upto : {U : Type 0} (P : U → Type 0) (us : List U) (i : ℕ) (v : U) → i < length us → ((c : ℕ) (d : U) → c < i → P (slice_index_or us c d)) → P v → (c : ℕ) (d : U) → c < i + 1 → P (slice_index_or (slice_set us i v) c d)
upto P us i v low below here c d inside =
    at_or_not (λ n. n < i + 1 → P (slice_index_or (slice_set us i v) n d)) i c (i == c) refl
    (λ _. subst P (sym (get_or-set_same us i v d low)) here)
    (λ far less. subst P (sym (get_or-set_other us i c v d (λ e. far (sym e)))) (below c d (let apart : i ≢ c = far in grind arith)))
    inside

-- both of two
pub both : (a b : Bool) → (a && b) ≡ true → (a ≡ true) × (b ≡ true)
both true b h = (refl, h)
both false b h = absurd (cc)

-- a turn more, of so many
pub one_turn : (n : ℕ) (a b c : UnitView) → DidTurns n a b → UsesTurn b.core c.core → c.turns ≡ counted b.turns → c.steps ≡ b.steps → c.ahead ≡ b.ahead → DidTurns (n + 1) a c
one_turn n a b c f u turns steps ahead = record {
  same = same_joins a.core b.core c.core f.same u.same;
  turns = (let t = f.turns in let more = turns in grind arith);
  steps = steps ∙ f.steps;
  ahead = ahead ∙ f.ahead;
}

pub no_turns : (a : UnitView) → DidTurns 0 a a
no_turns a = record { same = again a.core; turns = grind arith; steps = refl; ahead = refl }
