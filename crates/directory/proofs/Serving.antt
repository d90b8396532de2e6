-- What serving a message of a line is to the whole home.
use Rattle.std.proofs.Common.{◌≡◌, ◌<◌, ℕ, ◌/◌, true, List, length, get_or, set, Option, Some, Bool, ◌&&◌, arith, sym, ap, ◌∙◌}
use Rattle.std.proofs.lemmas.Bool.Decides.{nat_tests}
use Rattle.dash_base.specs.declared.id.LineId.{LineId}
use Rattle.dash_base.specs.declared.id.ClusterId.{ClusterId}
use Rattle.dash_msg.specs.declared.msg.Msg.{Msg}
use Rattle.directory.specs.declared.home_line.HomeLine.{HomeLine}
use Rattle.directory.specs.Rows.{served}
use Rattle.directory.specs.View.{HomeView, is_home, kept_at, line_of, is_home_of, is_served, after_line, after_serve, sent_of_line, sent_by}
use Rattle.directory.specs.Kept.{AreKept}
use Rattle.directory.proofs.Places.{home_of, place_low, kept_at_place, with_kept_place}

left : (a b : Bool) → (a && b) ≡ true → a ≡ true
left a b e = grind (arith, nat_tests)

-- a message that is served here is of a line of this home
pub is_for_home : (h : HomeView) (from : ClusterId) (msg : Msg) → is_served h from msg ≡ true → is_home_of h (line_of msg) ≡ true
is_for_home h from msg ok = left _ _ ok

module _ (c k lines : ℕ) (ks : List HomeLine) (kept : AreKept c k lines ks) (h : HomeView) (view : home_of c k lines ks ≡ h)
    (from : ClusterId) (msg : Msg) (o : Option LineId) (l : LineId) (told : o ≡ line_of msg) (some : o ≡ Some l) (home : is_home_of h (line_of msg) ≡ true) where
  line_is : line_of msg ≡ Some l
  line_is = sym told ∙ some

  here : is_home (home_of c k lines ks) l.0 ≡ true
  here = sym (ap (is_home_of (home_of c k lines ks)) line_is) ∙ ap (λ v. is_home_of v (line_of msg)) view ∙ home

  pub place_of_line : l.0 / k < length ks
  place_of_line = place_low c k lines ks kept l.0 here

  was : (old : HomeLine) → old ≡ get_or ks (l.0 / k) old → old ≡ kept_at (home_of c k lines ks) l.0
  was old at = at ∙ sym (kept_at_place c k lines ks kept l.0 old here)

  pub sent_is : (old : HomeLine) → old ≡ get_or ks (l.0 / k) old → (served k from msg old).sent ≡ sent_by h from msg
  sent_is old at =
      ap (λ x. (served k from msg x).sent) (was old at) ∙ sym (ap (sent_of_line (home_of c k lines ks) from msg) line_is)
      ∙ ap (λ v. sent_by v from msg) view

  pub after_is : (old new : HomeLine) → old ≡ get_or ks (l.0 / k) old → new ≡ (served k from msg old).kept → home_of c k lines (set ks (l.0 / k) new) ≡ after_serve h from msg
  after_is old new at is =
      ap (λ x. home_of c k lines (set ks (l.0 / k) x)) (is ∙ ap (λ x. (served k from msg x).kept) (was old at))
      ∙ with_kept_place c k lines ks kept l.0 _ here
      ∙ sym (ap (after_line (home_of c k lines ks) from msg) line_is)
      ∙ ap (λ v. after_serve v from msg) view
