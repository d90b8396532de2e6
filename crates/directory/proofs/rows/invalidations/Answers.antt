use Rattle.std.proofs.Common.{ℕ, ◌+◌, ◌≡◌, ◌≤◌, ◌++◌, ◌∷◌, [], true, false, List, length, sym, ap, ◌∙◌, arith, length-append}
use Rattle.std.proofs.lemmas.Bool.Decides.{nat_tests}
use Rattle.dash_msg.specs.declared.msg.Msg.TheVariants.{Inval}
use Rattle.dash_msg.specs.declared.parcel.Sent.{Sent}
use Rattle.directory.specs.Rows.{cluster_id, send}
use Rattle.directory.proofs.Invalidated.{is_told, invalidations-zero, invalidations-told, invalidations-other}
use Rattle.directory.proofs.rows.invalidations.Goals as goal
use Rattle.directory.proofs.rows.invalidations.Goals.{then-cluster-owner+then-is_sharer, else-cluster-owner, else-cluster-owner-via-then-cluster-owner+else-is_sharer, else-cluster-owner-via-else-cluster-owner}

longer : (xs ys : List Sent) (s : Sent) (n : ℕ) → ys ≡ xs ++ s ∷ [] → length xs ≤ n → length ys ≤ n + 1
longer xs ys s n more low = grind (arith, more, length-append xs (s ∷ []))

shorter : (xs ys : List Sent) (n : ℕ) → ys ≡ xs → length xs ≤ n → length ys ≤ n + 1
shorter xs ys n same low = grind (arith, same)

pub loop-cluster-init : goal.loop-cluster-init
loop-cluster-init c =
    (c.new-burst.ensures ∙ sym (invalidations-zero c.args.line c.args.owner c.args.sharers), omega (arith, ap length c.new-burst.ensures))

pub loop-cluster-preserved : goal.loop-cluster-preserved
loop-cluster-preserved c =
    let old = c.loop-cluster.invariant in
    let n = c.loop-cluster.cluster in
    let s = c.args.sharers in
    let f = c.args.owner in
    elim c.if-cluster-owner.branch [
      | then-cluster-owner+then-is_sharer w ↦
          let told : is_told s f.0 n ≡ true = grind (arith, nat_tests, w.if-cluster-owner.true, w.if-is_sharer.true, w.is_sharer.ensures) in
          let more = ap (λ b. b.items) w.burst-is ∙ w.push.ensures.items in
          (more ∙ ap (λ xs. xs ++ send (cluster_id n) (Inval c.args.line f) ∷ []) old.0 ∙ sym (invalidations-told n c.args.line f s told), longer _ _ _ n more old.1)
      | else-cluster-owner w ↦
          let same = ap (λ b. b.items) w.burst-is in
          elim w.else-cluster-owner.branch [
            | else-cluster-owner-via-then-cluster-owner+else-is_sharer v ↦
                let told : is_told s f.0 n ≡ false = grind (arith, nat_tests, v.if-is_sharer.false, v.is_sharer.ensures) in
                (same ∙ old.0 ∙ sym (invalidations-other n c.args.line f s told), shorter _ _ n same old.1)
            | else-cluster-owner-via-else-cluster-owner v ↦
                let told : is_told s f.0 n ≡ false = grind (arith, nat_tests, v.if-cluster-owner.false) in
                (same ∙ old.0 ∙ sym (invalidations-other n c.args.line f s told), shorter _ _ n same old.1)
          ]
    ]
