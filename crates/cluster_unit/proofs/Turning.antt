-- One turn of a unit: what is picked of what is listed, and that it is done.
use Rattle.std.proofs.Common.{◌≡◌, ℕ, ◌%◌, ◌<◌, true, false, Option, None, Some, IfSome, IfNone, option_map, List, [], ◌∷◌, length, slice_index_or, refl, sym, ap, ◌∙◌, subst, arith}
use Rattle.std.proofs.lemmas.List.{get_or_default}
use Rattle.std.specs.List.{Contains}
use Rattle.dash_base.specs.declared.id.ClusterId.{ClusterId}
use Rattle.dash_msg.specs.declared.classes.Class.{Class}
use Rattle.arbiter.specs.declared.arbitration.Plan.{Plan}
use Rattle.arbiter.specs.declared.arbitration.Plan.TheVariants.{Unknown, Retire, At}
use Rattle.arbiter.specs.Picks.{Follows}
use Rattle.dash_model.specs.Part.{Part, opening_part}
use Rattle.dash_model.specs.LocalRun.{part_at}
use Rattle.unit_rows.specs.declared.choice.Choice.{Choice}
use Rattle.unit_rows.specs.declared.choice.Choice.TheVariants as choice
use Rattle.unit_rows.specs.Rows.{Enabled}
use Rattle.cluster_unit.specs.declared.turn.Turn.{Turn}
use Rattle.cluster_unit.specs.declared.turn.Turn.TheVariants.{Did, Idle}
use Rattle.cluster_unit.specs.View.{CoreView}
use Rattle.cluster_unit.specs.Core.{HasRun, IsAt}
use Rattle.cluster_unit.specs.Turns.{spent, Acted, TookFrom}
use Rattle.cluster_unit.specs.Choosing.{Shown, MayDo, Lists, Performed}
use Rattle.cluster_unit.specs.Picking.{IsPicked, Turned}

-- where a core is
pub at_run : (a : CoreView) → (r : HasRun a) → IsAt a (part_at a.config a.cluster (opening_part a.config) r.history)
at_run a r = record { history = r.history; events = r.events; ran = r.ran; part = refl }

-- what may be done is done
acted_did : (x : Choice) (t : Turn) (a b : CoreView) (p : Part) → IsAt a p → Enabled a.config a.cluster x p → Acted x t a b → (t ≡ Did) × Acted x Did a b
acted_did x Did a b p at able acts = (refl, acts)
acted_did x Idle a b p at able acts = absurd (acts.0 p at able)

took_did : (from : ClusterId) (k : Class) (t : Turn) (a b : CoreView) → Shown a from k → TookFrom from k t a b → (t ≡ Did) × TookFrom from k Did a b
took_did from k Did a b shows took = (refl, took)
took_did from k Idle a b shows took = absurd (let e : true ≡ false = sym shows.some ∙ took.before in cc)

pub performed_did : (x : Choice) (t : Turn) (a b : CoreView) (p : Part) → IsAt a p → MayDo a x p → Performed x t a b → (t ≡ Did) × Performed x Did a b
performed_did (choice.Take f k) t a b p at may done = let d = took_did f k t a b may (done.0 may.low) in (d.0, ((λ low. d.1), (λ past. absurd (let l = may.low in grind arith))))
performed_did (choice.Step k) t a b p at may done = acted_did (choice.Step k) t a b p at may done
performed_did (choice.Commit k) t a b p at may done = acted_did (choice.Commit k) t a b p at may done
performed_did (choice.BusRead k l) t a b p at may done = acted_did (choice.BusRead k l) t a b p at may done
performed_did (choice.BusOwn k l) t a b p at may done = acted_did (choice.BusOwn k l) t a b p at may done
performed_did (choice.Evict k l) t a b p at may done = acted_did (choice.Evict k l) t a b p at may done
performed_did (choice.Ask n) t a b p at may done = acted_did (choice.Ask n) t a b p at may done
performed_did (choice.Again n) t a b p at may done = acted_did (choice.Again n) t a b p at may done
performed_did (choice.Install n) t a b p at may done = acted_did (choice.Install n) t a b p at may done
performed_did (choice.Grant i) t a b p at may done = acted_did (choice.Grant i) t a b p at may done

-- the number that a chooser answers is the one that is picked
by_plan : (plan : Plan) (n i : ℕ) → i < n → Follows plan n (Some i) → (r : ℕ) → IsPicked (Some plan) r n i
by_plan Unknown n i low follows r = low
by_plan Retire n i low follows r = absurd (cc)
by_plan (At k) n i low follows r = cc

by_none : (plan : Plan) (n i : ℕ) → i < n → Follows plan n None → i ≡ 0 → (r : ℕ) → IsPicked (Some plan) r n i
by_none Unknown n i low follows first r = low
by_none Retire n i low follows first r = first
by_none (At k) n i low follows first r = absurd (cc)

pub picked : {X : Type 0} (plan : X → Plan) (old new : Option X) (r s n i : ℕ) (A B : Type 0) → i < n → IfNone old ((i ≡ r % n) × A × B)
    → IfSome old (λ b. IfSome new (λ c. Follows (plan b) n (Some i) × (s ≡ r))) → IfSome old (λ b. IfNone new (Follows (plan b) n None × (i ≡ 0) × (s ≡ 1)))
    → IsPicked (option_map plan old) r n i
picked plan None new r s n i A B low rotates picks retires = rotates.0
picked plan (Some b) (Some c) r s n i A B low rotates picks retires = by_plan (plan b) n i low picks.0 r
picked plan (Some b) None r s n i A B low rotates picks retires = by_none (plan b) n i low retires.0 retires.1 r

empty_of : (choices : List Choice) → length choices ≡ 0 → choices ≡ []
empty_of [] e = refl
empty_of (x ∷ xs) e = absurd (cc)

-- there was nothing to do
pub turned_none : (plan : Option Plan) (rotate : ℕ) (choices : List Choice) (a listed b : CoreView) → Lists a listed choices → length choices ≡ 0 → b ≡ spent listed → Turned plan rotate choices Idle a b
turned_none plan rotate choices a listed b lists none is = record {
  number = 0;
  picked = λ some. absurd (grind arith);
  chose = record { listed = listed; lists = lists; none = λ e. (refl, is); one = λ x some. absurd (grind arith) };
}

-- what was picked is done
pub turned_one : (plan : Option Plan) (rotate : ℕ) (choices : List Choice) (t : Turn) (a listed b : CoreView) (n number : ℕ) (x : Choice) → Lists a listed choices → HasRun listed → n ≡ length choices → number < n → IsPicked plan rotate n number
    → x ≡ slice_index_or choices number x → Performed x t listed b → Turned plan rotate choices t a b
turned_one plan rotate choices t a listed b n number x lists run many below picks is done =
    let low : number < length choices = subst (λ m. number < m) many below in
    let there : Contains choices x = (number, low, sym is) in
    let at = at_run listed run in
    let did = performed_did x t listed b (part_at listed.config listed.cluster (opening_part listed.config) run.history) at (lists.just x (part_at listed.config listed.cluster (opening_part listed.config) run.history) there at) done in
    record {
      number = number;
      picked = λ some. subst (λ m. IsPicked plan rotate m number) many picks;
      chose = record {
        listed = listed;
        lists = lists;
        none = λ e. absurd (let z : length choices ≡ 0 = ap (λ (cs : List Choice). length cs) e in grind arith);
        one = λ d some. (did.0, subst (λ y. Performed y Did listed b) (is ∙ get_or_default choices number x d low) did.1);
      };
    }

-- so the turn was not idle
pub none_idle : (choices : List Choice) (t : Turn) (a listed b : CoreView) (n number : ℕ) (x : Choice) → Lists a listed choices → HasRun listed → n ≡ length choices → number < n
    → x ≡ slice_index_or choices number x → Performed x t listed b → t ≡ Idle → ⊥
none_idle choices t a listed b n number x lists run many below is done idle =
    let low : number < length choices = subst (λ m. number < m) many below in
    let there : Contains choices x = (number, low, sym is) in
    let at = at_run listed run in
    let did = performed_did x t listed b (part_at listed.config listed.cluster (opening_part listed.config) run.history) at (lists.just x (part_at listed.config listed.cluster (opening_part listed.config) run.history) there at) done in
    let e : Did ≡ Idle = sym did.0 ∙ idle in cc
