-- The elements of a list of segments, and what a search finds among them.
use Rattle.std.proofs.Common.{◌≡◌, ◌≤◌, ◌<◌, Bool, true, false, cond, ◌||◌, ◌⊎◌, inl, inr, List, [], ◌∷◌, Option, Some, None, find, refl, sym, ◌∙◌, ap, arith}
use Rattle.std.specs.List.{list_any, All}
use Rattle.std.proofs.lemmas.List.Elements.{All-nil, All-cons}
use Rattle.elf_load.specs.Table.{Among, Rising}
use Rattle.elf_load.specs.declared.segment_table.Numbered.{Numbered}

found_in : (b : Bool) (p : Numbered → Bool) (y : Numbered) (ys : List Numbered) (x : Numbered) → p y ≡ b → cond b (Some y) (find p ys) ≡ Some x
    → (find p ys ≡ Some x → Among x ys × (p x ≡ true)) → ((x ≡ y) ⊎ Among x ys) × (p x ≡ true)
found_in true p y ys x t e rest = let same : x ≡ y = cc in (inl same, ap p same ∙ t)
found_in false p y ys x t e rest = let later = rest e in (inr later.0, later.1)

-- what is found is an element that passes
pub find_some : (p : Numbered → Bool) (xs : List Numbered) (x : Numbered) → find p xs ≡ Some x → Among x xs × (p x ≡ true)
find_some p [] x e = absurd cc
find_some p (y ∷ ys) x e = found_in (p y) p y ys x refl e (find_some p ys x)

not_found : (b : Bool) (x : Numbered) (o : Option Numbered) → cond b (Some x) o ≡ None → (b ≡ false) × (o ≡ None)
not_found true x o e = absurd cc
not_found false x o e = (refl, e)

-- where nothing is found, no element passes
pub find_none : (p : Numbered → Bool) (xs : List Numbered) (y : Numbered) → find p xs ≡ None → Among y xs → p y ≡ true → ⊥
find_none p [] y e among t = among
find_none p (x ∷ xs) y e (inl same) t =
    let fails : p x ≡ false = (not_found (p x) x (find p xs) e).0 in let passes : p x ≡ true = sym (ap p same) ∙ t in absurd cc
find_none p (x ∷ xs) y e (inr later) t = find_none p xs y (not_found (p x) x (find p xs) e).1 later t

least_in : (b : Bool) (p : Numbered → Bool) (z : Numbered) (zs : List Numbered) (x y : Numbered) → p z ≡ b → Rising (z ∷ zs) → cond b (Some z) (find p zs) ≡ Some x
    → (y ≡ z) ⊎ Among y zs → p y ≡ true → (find p zs ≡ Some x → Among y zs → x.number ≤ y.number) → x.number ≤ y.number
least_in true p z zs x y t rising e (inl same) ty rest =
    let found : z ≡ x = cc in let one : x.number ≡ y.number = ap (λ s. s.number) (sym found ∙ sym same) in omega arith
least_in true p z zs x y t rising e (inr later) ty rest =
    let found : z ≡ x = cc in let one : z.number ≡ x.number = ap (λ s. s.number) found in let above : z.number < y.number = rising.0 y later in omega arith
least_in false p z zs x y t rising e (inl same) ty rest =
    let passes : p z ≡ true = sym (ap p same) ∙ ty in absurd cc
least_in false p z zs x y t rising e (inr later) ty rest = rest e later

-- where numbers rise, what is found has the least number of all that pass
pub find_least : (p : Numbered → Bool) (xs : List Numbered) (x y : Numbered) → Rising xs → find p xs ≡ Some x → Among y xs → p y ≡ true → x.number ≤ y.number
find_least p [] x y rising e among t = absurd among
find_least p (z ∷ zs) x y rising e among t =
    least_in (p z) p z zs x y refl rising e among t (λ f later. find_least p zs x y rising.1 f later t)

or_later : (a b : Bool) → b ≡ true → (a || b) ≡ true
or_later true b e = refl
or_later false b e = e

-- one element that passes is enough
pub any_at : (p : Numbered → Bool) (xs : List Numbered) (y : Numbered) → Among y xs → p y ≡ true → list_any p xs ≡ true
any_at p [] y among t = absurd among
any_at p (x ∷ xs) y (inl same) t = ap (λ b. b || list_any p xs) (sym (ap p same) ∙ t)
any_at p (x ∷ xs) y (inr later) t = or_later (p x) (list_any p xs) (any_at p xs y later t)

-- an element that passes
pub record Passing (p : Numbered → Bool) (xs : List Numbered) : Type 0 where
  pub element : Numbered
  pub among : Among element xs
  pub passes : p element ≡ true

passing_in : (b : Bool) (p : Numbered → Bool) (x : Numbered) (xs : List Numbered) → p x ≡ b → (b || list_any p xs) ≡ true → (list_any p xs ≡ true → Passing p xs) → Passing p (x ∷ xs)
passing_in true p x xs t e rest = record { element = x; among = inl refl; passes = t }
passing_in false p x xs t e rest = let later = rest e in record { element = later.element; among = inr later.among; passes = later.passes }

pub any_passing : (p : Numbered → Bool) (xs : List Numbered) → list_any p xs ≡ true → Passing p xs
any_passing p [] e = absurd cc
any_passing p (x ∷ xs) e = passing_in (p x) p x xs refl e (any_passing p xs)

-- what holds of the elements holds at each place
pub all_among : (P : Numbered → Type 0) (xs : List Numbered) → ((x : Numbered) → Among x xs → P x) → All P xs
all_among P [] each = All-nil P
all_among P (x ∷ xs) each = All-cons P x xs (each x (inl refl)) (all_among P xs (λ y later. each y (inr later)))
