-- What the parts have left to settle is what the part has that they show.
use Rattle.std.proofs.Common.{◌≡◌, ◌≢◌, ℕ, ◌+◌, ◌*◌, ◌<◌, Bool, true, false, List, [], length, if◌then◌else◌, refl, sym, ap, ap₂, ◌∙◌, subst, arith}
use Rattle.std.proofs.lemmas.Bool.Decides.{nat_tests}
use Rattle.std.proofs.lemmas.List.{length-map}
use Rattle.dash_base.specs.Places.{home_among}
use Rattle.queue_lock.specs.View.{is_own, lock_at}
use Rattle.dash_model.specs.Config.{Config, lines, lock_home}
use Rattle.dash_model.specs.Cell.{Copy, Slot}
use Rattle.dash_model.specs.Part.{Part, Lock}
use Rattle.dash_model.specs.Weight.{slot_weight, copy_weight, cell_weight, part_weight}
use Rattle.dash_model.proofs.LawsOffered.{total_same}
use Rattle.unit_rows.specs.Shown.{PartsView, Shows, AreSized, waiter_by}
use Rattle.unit_rows.specs.Left.{line_left, word_left, weight_left}

module _ (w : Config) (c : ℕ) (v : PartsView) (p : Part) (shows : Shows w c v p) (sized : AreSized w c v) (elsewhere : (i : ℕ) → c ≢ lock_home w i → (p.locks i).queue ≡ []) where
  of_line : (l : ℕ) → line_left w c v l ≡ cell_weight (p.cells l)
  of_line l = ap₂ (λ (s : Slot) (x : Copy). slot_weight s + copy_weight x) (sym (shows.slots l)) (sym (shows.copies l))

  -- whether the word is of this home
  of_word_by : (i : ℕ) (b : Bool) → i < w.top.locks → is_own v.locks i ≡ b → word_left v i ≡ 2 * length (p.locks i).queue
  of_word_by i true low own =
      ap (λ (x : Bool). 2 * (if x then length (lock_at v.locks i).queue else 0)) own
      ∙ ap (λ n. 2 * n) (sym (length-map (lock_at v.locks i).queue waiter_by))
      ∙ ap (λ (x : Lock). 2 * length x.queue) (sym (shows.locks i own))
  of_word_by i false low other =
      let below : i < v.locks.locks = subst (λ n. i < n) (sym sized.lock_words) low in
      let among : home_among v.locks.clusters i ≡ lock_home w i = ap (λ n. home_among n i) sized.lock_clusters in
      let far : c ≢ lock_home w i = λ e. (let same : home_among v.locks.clusters i ≡ v.locks.cluster = among ∙ sym e ∙ sym sized.lock_cluster in grind (arith, nat_tests)) in
      ap (λ (x : Bool). 2 * (if x then length (lock_at v.locks i).queue else 0)) other
      ∙ ap (λ (x : List _). 2 * length x) (sym (elsewhere i far))

  pub left_is : weight_left w c v ≡ part_weight w p
  unfolding weight_left
  left_is = ap₂ (λ m n. m + n) (total_same (line_left w c v) (λ l. cell_weight (p.cells l)) (lines w) (λ l low. of_line l)) (total_same (word_left v) (λ i. 2 * length (p.locks i).queue) w.top.locks (λ i low. of_word_by i (is_own v.locks i) low refl))
