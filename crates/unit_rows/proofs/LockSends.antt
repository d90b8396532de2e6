-- Instructions that take or give back a lock word: the row of sending their messages, and when none is sent.
use Rattle.std.proofs.Common.{◌≡◌, ℕ, ◌+◌, ◌<◌, Bool, true, false, not, [], ◌∷◌, slice_index_or, refl, sym, ap, ◌∙◌, subst}
use Rattle.dash_base.specs.declared.id.ClusterId.{ClusterId}
use Rattle.dash_base.specs.declared.id.HartId.{HartId}
use Rattle.dash_base.specs.declared.id.WordAddr.{WordAddr}
use Rattle.dash_base.specs.declared.need.Need.{Need}
use Rattle.dash_base.specs.declared.need.Need.TheVariants as needed
use Rattle.dash_msg.specs.declared.msg.Msg.{Msg}
use Rattle.dash_msg.specs.declared.msg.Msg.TheVariants.{LockAsk, Unlock}
use Rattle.dash_event.specs.declared.event.Kind.TheVariants as kind
use Rattle.fence_release.specs.Conditions.{is_drained}
use Rattle.hart_core.specs.Meaning.{Needs}
use Rattle.dash_model.specs.Config.{Config, cluster_of, lock_at, lock_home}
use Rattle.dash_model.specs.Net.{to}
use Rattle.dash_model.specs.Part.{Part}
use Rattle.dash_model.specs.HartRows.{lock_target}
use Rattle.dash_model.specs.HartGuards.{Drained, LockSends}
use Rattle.dash_model.specs.HartRows.{change}
use Rattle.dash_model.specs.Guard.{Guard}
use Rattle.dash_model.specs.Row.{row}
use Rattle.unit_rows.specs.declared.choice.Choice.TheVariants.{Step}
use Rattle.unit_rows.specs.declared.parts.Local.{Local}
use Rattle.unit_rows.specs.Shown.{PartsView, hart_at, Shows, AreSized}
use Rattle.unit_rows.specs.Steps.{HartNeeds, changed_local}
use Rattle.unit_rows.specs.Rows.{DoesChoice, Cannot}
use Rattle.unit_rows.proofs.Harts.{shows_change}
use Rattle.unit_rows.proofs.Drained.{drained_shown, drained_back}
use Rattle.unit_rows.proofs.Retiring.{effect, part_needs, shown_by, same_local, number_there, cluster-hart_at}
use Rattle.unit_rows.proofs.StepTold.{step_told}

-- what the lemma on both messages takes of one: its need, what it is on a part, and where it goes
record IsMessage (w : Config) (c k : ℕ) (g : HartId) (m : Msg) (need : Need) (t : ClusterId) (v : PartsView) (x : Local) : Type 0 where
  pub needs : HartNeeds w v k need
  pub sends : (p : Part) → Shows w c v p → LockSends g.0 m need p
  pub target : t.0 ≡ lock_target w m

send_from : (w : Config) (c k : ℕ) (g : HartId) (m : Msg) (need : Need) (t : ClusterId) (v : PartsView) (x : Local) → IsMessage w c k g m need t v x → g.0 ≡ hart_at w c k → k < w.top.harts → AreSized w c v → x ≡ slice_index_or v.locals k x → x.asked ≡ false
    → DoesChoice w c (Step k) (kind.LockSend g m) v (changed_local v k (record x { asked = true })) (record { to = t; msg = m } ∷ [])
unfolding Guard row
send_from w c k g m need t v x a e low sized is unsent = record {
  is_of = e;
  does = record {
    done = effect need x.core;
    happens = λ p s.
        let hart = shown_by w c v k x p low s (sym is) in
        record {
          guard = record {
            mine = ap (cluster_of w) e ∙ cluster-hart_at w c k low;
            need = need;
            needs = subst (λ i. Needs w.image w.top (p.harts i).core need) (sym e) (part_needs w c v k need x p low s a.needs);
            unsent = ap (λ i. (p.harts i).asked) e ∙ hart.asked ∙ unsent;
            sends = a.sends p s;
          };
          shows = subst (λ i. Shows w c (changed_local v k (record x { asked = true })) (change i (record (p.harts i) { asked = true }) p)) (sym e)
              (shows_change w c v p k (record x { asked = true }) (record (p.harts (hart_at w c k)) { asked = true }) low sized.locals s (record { core = hart.core; reserved = hart.reserved; buffer = hart.buffer; asked = refl; l1 = hart.l1 }));
          sent_is = ap (λ n. to n m ∷ []) (sym a.target);
        };
  };
}

-- the same, where the hart was read twice
does_send : (w : Config) (c k : ℕ) (g : HartId) (m : Msg) (need : Need) (t : ClusterId) (v : PartsView) (x y : Local) → IsMessage w c k g m need t v x → g.0 ≡ hart_at w c k → k < w.top.harts → AreSized w c v → x ≡ slice_index_or v.locals k x → y ≡ slice_index_or v.locals k y → x.asked ≡ false
    → DoesChoice w c (Step k) (kind.LockSend g m) v (changed_local v k (record y { asked = true })) (record { to = t; msg = m } ∷ [])
does_send w c k g m need t v x y a e low sized is as_well unsent =
    subst (λ (z : Local). DoesChoice w c (Step k) (kind.LockSend g m) v (changed_local v k (record z { asked = true })) (record { to = t; msg = m } ∷ [])) (same_local v k x y (subst (λ n. k < n) (sym sized.locals) low) is as_well) (send_from w c k g m need t v x a e low sized is unsent)

pub does_ask : (w : Config) (c k n value : ℕ) (g : HartId) (word : WordAddr) (t : ClusterId) (v : PartsView) (x y : Local) → g.0 ≡ hart_at w c k → k < w.top.harts → AreSized w c v → HartNeeds w v k (needed.Ask word value)
    → x ≡ slice_index_or v.locals k x → y ≡ slice_index_or v.locals k y → x.asked ≡ false → n ≡ x.core.retired + 1 → t.0 ≡ lock_home w (lock_at w word.0)
    → DoesChoice w c (Step k) (kind.LockSend g (LockAsk g n word value)) v (changed_local v k (record y { asked = true })) (record { to = t; msg = LockAsk g n word value } ∷ [])
does_ask w c k n value g word t v x y e low sized needs is as_well unsent number target =
    does_send w c k g (LockAsk g n word value) (needed.Ask word value) t v x y (record {
      needs = needs;
      sends = λ p s. ap (λ i. LockAsk g i word value) (number ∙ number_there w c k g.0 v x p e low s is);
      target = target;
    }) e low sized is as_well unsent

pub does_unlock : (w : Config) (c k n : ℕ) (g : HartId) (word : WordAddr) (t : ClusterId) (v : PartsView) (x y : Local) → g.0 ≡ hart_at w c k → k < w.top.harts → AreSized w c v → HartNeeds w v k (needed.Unlock word)
    → x ≡ slice_index_or v.locals k x → y ≡ slice_index_or v.locals k y → x.asked ≡ false → is_drained k x.buffer v.acks ≡ true → n ≡ x.core.retired + 1 → t.0 ≡ lock_home w (lock_at w word.0)
    → DoesChoice w c (Step k) (kind.LockSend g (Unlock g n word)) v (changed_local v k (record y { asked = true })) (record { to = t; msg = Unlock g n word } ∷ [])
does_unlock w c k n g word t v x y e low sized needs is as_well unsent drained number target =
    does_send w c k g (Unlock g n word) (needed.Unlock word) t v x y (record {
      needs = needs;
      sends = λ p s. (ap (λ i. Unlock g i word) (number ∙ number_there w c k g.0 v x p e low s is), subst (λ i. Drained i p) (sym e) (drained_shown w c k v x p low s (shown_by w c v k x p low s (sym is)) drained));
      target = target;
    }) e low sized is as_well unsent

-- none is sent twice
pub ask_cannot : (w : Config) (c k value : ℕ) (word : WordAddr) (v : PartsView) (x : Local) → k < w.top.harts → x ≡ slice_index_or v.locals k x → HartNeeds w v k (needed.Ask word value) → x.asked ≡ true → Cannot w c v (Step k)
ask_cannot w c k value word v x low is n sent p s e =
    let told = step_told w c k (needed.Ask word value) p e.event e.done e.is_of e.guard (part_needs w c v k (needed.Ask word value) x p low s n) in
    let same = (shown_by w c v k x p low s (sym is)).asked in
    cc

pub unlock_cannot : (w : Config) (c k : ℕ) (word : WordAddr) (v : PartsView) (x : Local) → k < w.top.harts → x ≡ slice_index_or v.locals k x → HartNeeds w v k (needed.Unlock word) → x.asked ≡ true → Cannot w c v (Step k)
unlock_cannot w c k word v x low is n sent p s e =
    let told = (step_told w c k (needed.Unlock word) p e.event e.done e.is_of e.guard (part_needs w c v k (needed.Unlock word) x p low s n)).0 in
    let same = (shown_by w c v k x p low s (sym is)).asked in
    cc

-- and no Unlock by a hart that isn't drained
pub undrained_cannot : (w : Config) (c k : ℕ) (word : WordAddr) (v : PartsView) (x : Local) → k < w.top.harts → x ≡ slice_index_or v.locals k x → HartNeeds w v k (needed.Unlock word) → is_drained k x.buffer v.acks ≡ false → Cannot w c v (Step k)
undrained_cannot w c k word v x low is n undrained p s e =
    let told = (step_told w c k (needed.Unlock word) p e.event e.done e.is_of e.guard (part_needs w c v k (needed.Unlock word) x p low s n)).1 in
    let back = drained_back w c k v x p low s (shown_by w c v k x p low s (sym is)) told in
    cc

-- what the code's test tells
pub flipped : (b : Bool) → not b ≡ true → b ≡ false
flipped true e = absurd (cc)
flipped false e = refl

pub flipped_back : (b : Bool) → not b ≡ false → b ≡ true
flipped_back true e = refl
flipped_back false e = absurd (cc)
