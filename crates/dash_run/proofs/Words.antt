-- Words from their elements, and words that differ.
use Rattle.std.specs.Str.{bytes_eq}
use Rattle.std.proofs.lemmas.Slice.Eq.{bytes_eq-Decides}
use Rattle.std.proofs.Common.{◌≡◌, true, false, ℕ, ◌<◌, ◌≤◌, List, [], ◌∷◌, length, get_or, map, sym, ◌∙◌, ap, arith}

pub two_mapped : {A B : Type 0} (f : A → B) (ws : List A) (a b : A) (x y : B) → 2 ≤ length ws → length ws < 3
    → a ≡ get_or ws 0 a → b ≡ get_or ws 1 b → x ≡ f a → y ≡ f b → map f ws ≡ x ∷ y ∷ []
two_mapped f [] a b x y low high a_at b_at x_is y_is = absurd (omega arith)
two_mapped f (p ∷ []) a b x y low high a_at b_at x_is y_is = absurd (omega arith)
two_mapped f (p ∷ q ∷ []) a b x y low high a_at b_at x_is y_is =
    λ i. sym (x_is ∙ ap f a_at) i ∷ sym (y_is ∙ ap f b_at) i ∷ []
two_mapped f (p ∷ q ∷ r ∷ ws) a b x y low high a_at b_at x_is y_is = absurd (omega arith)

pub three_mapped : {A B : Type 0} (g : A → B) (ws : List A) (a b c : A) (u v w : B) → 3 ≤ length ws → length ws < 4
    → a ≡ get_or ws 0 a → b ≡ get_or ws 1 b → c ≡ get_or ws 2 c
    → u ≡ g a → v ≡ g b → w ≡ g c → map g ws ≡ u ∷ v ∷ w ∷ []
three_mapped g [] a b c u v w low high a_at b_at c_at u_is v_is w_is = absurd (omega arith)
three_mapped g (k1 ∷ []) a b c u v w low high a_at b_at c_at u_is v_is w_is = absurd (omega arith)
three_mapped g (k1 ∷ k2 ∷ []) a b c u v w low high a_at b_at c_at u_is v_is w_is = absurd (omega arith)
three_mapped g (k1 ∷ k2 ∷ k3 ∷ []) a b c u v w low high a_at b_at c_at u_is v_is w_is =
    λ i. sym (u_is ∙ ap g a_at) i ∷ sym (v_is ∙ ap g b_at) i ∷ sym (w_is ∙ ap g c_at) i ∷ []
three_mapped g (k1 ∷ k2 ∷ k3 ∷ k4 ∷ ks) a b c u v w low high a_at b_at c_at u_is v_is w_is = absurd (omega arith)

pub four_mapped : {A B : Type 0} (g : A → B) (ws : List A) (a b c d : A) (u v w x : B) → 4 ≤ length ws → length ws < 5
    → a ≡ get_or ws 0 a → b ≡ get_or ws 1 b → c ≡ get_or ws 2 c → d ≡ get_or ws 3 d
    → u ≡ g a → v ≡ g b → w ≡ g c → x ≡ g d → map g ws ≡ u ∷ v ∷ w ∷ x ∷ []
four_mapped g [] a b c d u v w x low high a_at b_at c_at d_at u_is v_is w_is x_is = absurd (omega arith)
four_mapped g (k1 ∷ []) a b c d u v w x low high a_at b_at c_at d_at u_is v_is w_is x_is = absurd (omega arith)
four_mapped g (k1 ∷ k2 ∷ []) a b c d u v w x low high a_at b_at c_at d_at u_is v_is w_is x_is = absurd (omega arith)
four_mapped g (k1 ∷ k2 ∷ k3 ∷ []) a b c d u v w x low high a_at b_at c_at d_at u_is v_is w_is x_is = absurd (omega arith)
four_mapped g (k1 ∷ k2 ∷ k3 ∷ k4 ∷ []) a b c d u v w x low high a_at b_at c_at d_at u_is v_is w_is x_is =
    λ i. sym (u_is ∙ ap g a_at) i ∷ sym (v_is ∙ ap g b_at) i ∷ sym (w_is ∙ ap g c_at) i ∷ sym (x_is ∙ ap g d_at) i ∷ []
four_mapped g (k1 ∷ k2 ∷ k3 ∷ k4 ∷ k5 ∷ ks) a b c d u v w x low high a_at b_at c_at d_at u_is v_is w_is x_is = absurd (omega arith)

pub five_mapped : {A B : Type 0} (f : A → B) (ws : List A) (a b c d e : A) (x y z u v : B) → 5 ≤ length ws → length ws < 6
    → a ≡ get_or ws 0 a → b ≡ get_or ws 1 b → c ≡ get_or ws 2 c → d ≡ get_or ws 3 d → e ≡ get_or ws 4 e
    → x ≡ f a → y ≡ f b → z ≡ f c → u ≡ f d → v ≡ f e → map f ws ≡ x ∷ y ∷ z ∷ u ∷ v ∷ []
five_mapped f [] a b c d e x y z u v low high a_at b_at c_at d_at e_at x_is y_is z_is u_is v_is = absurd (omega arith)
five_mapped f (p ∷ []) a b c d e x y z u v low high a_at b_at c_at d_at e_at x_is y_is z_is u_is v_is = absurd (omega arith)
five_mapped f (p ∷ q ∷ []) a b c d e x y z u v low high a_at b_at c_at d_at e_at x_is y_is z_is u_is v_is = absurd (omega arith)
five_mapped f (p ∷ q ∷ r ∷ []) a b c d e x y z u v low high a_at b_at c_at d_at e_at x_is y_is z_is u_is v_is = absurd (omega arith)
five_mapped f (p ∷ q ∷ r ∷ s ∷ []) a b c d e x y z u v low high a_at b_at c_at d_at e_at x_is y_is z_is u_is v_is = absurd (omega arith)
five_mapped f (p ∷ q ∷ r ∷ s ∷ t ∷ []) a b c d e x y z u v low high a_at b_at c_at d_at e_at x_is y_is z_is u_is v_is =
    λ i. sym (x_is ∙ ap f a_at) i ∷ sym (y_is ∙ ap f b_at) i ∷ sym (z_is ∙ ap f c_at) i ∷ sym (u_is ∙ ap f d_at) i ∷ sym (v_is ∙ ap f e_at) i ∷ []
five_mapped f (p ∷ q ∷ r ∷ s ∷ t ∷ o ∷ ws) a b c d e x y z u v low high a_at b_at c_at d_at e_at x_is y_is z_is u_is v_is = absurd (omega arith)

pub six_mapped : {A B : Type 0} (g : A → B) (ws : List A) (a b c d e f : A) (u v w x y z : B) → 6 ≤ length ws → length ws < 7
    → a ≡ get_or ws 0 a → b ≡ get_or ws 1 b → c ≡ get_or ws 2 c → d ≡ get_or ws 3 d → e ≡ get_or ws 4 e → f ≡ get_or ws 5 f
    → u ≡ g a → v ≡ g b → w ≡ g c → x ≡ g d → y ≡ g e → z ≡ g f → map g ws ≡ u ∷ v ∷ w ∷ x ∷ y ∷ z ∷ []
six_mapped g [] a b c d e f u v w x y z low high a_at b_at c_at d_at e_at f_at u_is v_is w_is x_is y_is z_is = absurd (omega arith)
six_mapped g (k1 ∷ []) a b c d e f u v w x y z low high a_at b_at c_at d_at e_at f_at u_is v_is w_is x_is y_is z_is = absurd (omega arith)
six_mapped g (k1 ∷ k2 ∷ []) a b c d e f u v w x y z low high a_at b_at c_at d_at e_at f_at u_is v_is w_is x_is y_is z_is = absurd (omega arith)
six_mapped g (k1 ∷ k2 ∷ k3 ∷ []) a b c d e f u v w x y z low high a_at b_at c_at d_at e_at f_at u_is v_is w_is x_is y_is z_is = absurd (omega arith)
six_mapped g (k1 ∷ k2 ∷ k3 ∷ k4 ∷ []) a b c d e f u v w x y z low high a_at b_at c_at d_at e_at f_at u_is v_is w_is x_is y_is z_is = absurd (omega arith)
six_mapped g (k1 ∷ k2 ∷ k3 ∷ k4 ∷ k5 ∷ []) a b c d e f u v w x y z low high a_at b_at c_at d_at e_at f_at u_is v_is w_is x_is y_is z_is = absurd (omega arith)
six_mapped g (k1 ∷ k2 ∷ k3 ∷ k4 ∷ k5 ∷ k6 ∷ []) a b c d e f u v w x y z low high a_at b_at c_at d_at e_at f_at u_is v_is w_is x_is y_is z_is =
    λ i. sym (u_is ∙ ap g a_at) i ∷ sym (v_is ∙ ap g b_at) i ∷ sym (w_is ∙ ap g c_at) i ∷ sym (x_is ∙ ap g d_at) i ∷ sym (y_is ∙ ap g e_at) i ∷ sym (z_is ∙ ap g f_at) i ∷ []
six_mapped g (k1 ∷ k2 ∷ k3 ∷ k4 ∷ k5 ∷ k6 ∷ k7 ∷ ks) a b c d e f u v w x y z low high a_at b_at c_at d_at e_at f_at u_is v_is w_is x_is y_is z_is = absurd (omega arith)

pub not_equal : (xs ys : List ℕ) → bytes_eq xs ys ≡ false → xs ≡ ys → ⊥
not_equal xs ys differ same =
    let equal : bytes_eq xs ys ≡ true = (bytes_eq-Decides xs ys).1 same in let both : true ≡ false = sym equal ∙ differ in cc
