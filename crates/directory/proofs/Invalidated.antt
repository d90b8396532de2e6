-- The invalidations to the clusters below a number, one cluster after the other.
use Rattle.std.proofs.Common.{◌≡◌, ℕ, ◌+◌, Bool, true, false, not, ◌&&◌, cond, [], ◌∷◌, ◌++◌, map, append-nil, filter, refl, sym, ap, ◌∙◌, arith}
use Rattle.std.specs.Prelude.{◌==◌}
use Rattle.std.specs.List.{range_with_len}
use Rattle.std.proofs.lemmas.List.{map-append, map-id}
use Rattle.std.proofs.lemmas.List.Elements.{filter-append}
use Rattle.std.proofs.lemmas.List.FromFn.{map-range_with_len_more}
use Rattle.dash_base.specs.declared.id.LineId.{LineId}
use Rattle.dash_base.specs.declared.id.ClusterId.{ClusterId}
use Rattle.dash_msg.specs.declared.msg.Msg.TheVariants.{Inval}
use Rattle.directory.specs.Sharers.{is_sharer, sharers_but}
use Rattle.directory.specs.Rows.{cluster_id, send, invalidations}

-- whether a cluster is a sharer, and not the one that becomes the owner
abbrev pub is_told : ℕ → ℕ → ℕ → Bool
is_told s f cluster = not (cluster == f) && is_sharer s cluster

range_more : (n : ℕ) → range_with_len 0 (n + 1) ≡ range_with_len 0 n ++ n ∷ []
range_more n =
    sym (map-id (range_with_len 0 (n + 1))) ∙ map-range_with_len_more (λ c. c) 0 n n (omega arith)
    ∙ ap (λ xs. xs ++ n ∷ []) (map-id (range_with_len 0 n))

sharers_but-more : (n s f : ℕ) → sharers_but (n + 1) s f ≡ sharers_but n s f ++ cond (is_told s f n) (n ∷ []) []
unfolding sharers_but
sharers_but-more n s f =
    ap (filter (is_told s f)) (range_more n) ∙ filter-append (is_told s f) (range_with_len 0 n) (n ∷ [])

sharers_but-zero : (s f : ℕ) → sharers_but 0 s f ≡ []
unfolding sharers_but
sharers_but-zero s f = refl

pub invalidations-zero : (l : LineId) (f : ClusterId) (s : ℕ) → invalidations 0 l f s ≡ []
invalidations-zero l f s = ap (map (λ c. send (cluster_id c) (Inval l f))) (sharers_but-zero s f.0)

more : (n : ℕ) (l : LineId) (f : ClusterId) (s : ℕ) (t : Bool) → is_told s f.0 n ≡ t → invalidations (n + 1) l f s ≡ invalidations n l f s ++ map (λ c. send (cluster_id c) (Inval l f)) (cond t (n ∷ []) [])
more n l f s t e =
    ap (map (λ c. send (cluster_id c) (Inval l f))) (sharers_but-more n s f.0 ∙ ap (λ b. sharers_but n s f.0 ++ cond b (n ∷ []) []) e)
    ∙ map-append (λ c. send (cluster_id c) (Inval l f)) (sharers_but n s f.0) (cond t (n ∷ []) [])

-- one more, to a cluster that is told
pub invalidations-told : (n : ℕ) (l : LineId) (f : ClusterId) (s : ℕ) → is_told s f.0 n ≡ true → invalidations (n + 1) l f s ≡ invalidations n l f s ++ send (cluster_id n) (Inval l f) ∷ []
invalidations-told n l f s e = more n l f s true e

-- and none to another
pub invalidations-other : (n : ℕ) (l : LineId) (f : ClusterId) (s : ℕ) → is_told s f.0 n ≡ false → invalidations (n + 1) l f s ≡ invalidations n l f s
invalidations-other n l f s e = more n l f s false e ∙ append-nil (invalidations n l f s)
