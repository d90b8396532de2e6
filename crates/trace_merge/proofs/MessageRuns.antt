-- What holds along every sequential run of the written message passing: where its harts stand, and what each access is.
use Rattle.std.proofs.Common.{◌≡◌, ◌⊎◌, inl, inr, ◌<◌, ℕ, zero, suc, ◌+◌, List, [], ◌∷◌, ◌++◌, length, Some, None, sym, ◌∙◌, ap, subst, arith, slice_get}
use Rattle.std.proofs.lemmas.Option.{slice_get_within}
use Rattle.dash_event.specs.declared.access.Access.{Access}
use Rattle.dash_event.specs.declared.step_record.StepRecord.{StepRecord}
use Rattle.dash_event.specs.declared.step_record.StepRecord.TheVariants as step
use Rattle.hart_core.specs.HartState.{HartState, reg}
use Rattle.flat_model.specs.Labels.{IsRelease, IsAcquire, IsOrdinary}
use Rattle.flat_model.specs.State.{FlatState}
use Rattle.flat_model.specs.Order.{IsAccessAt}
use Rattle.trace_merge.proofs.Places.{InEither, in_either, in_left, at_end}

-- hart 0 set the flag
pub record IsReleased (rs : List StepRecord) : Type 0 where
  pub at : ℕ
  pub release : Access
  pub is_at : IsAccessAt rs at release
  pub of_writer : release.hart.0 ≡ 0
  pub of_flag : release.word.0 ≡ 0
  pub third : release.number ≡ 3
  pub is_release : IsRelease release

-- hart g read the flag after that
pub record IsAcquired (rs : List StepRecord) (g : ℕ) : Type 0 where
  pub released : IsReleased rs
  pub at : ℕ
  pub acquire : Access
  pub is_at : IsAccessAt rs at acquire
  pub after : released.at < at
  pub of_hart : acquire.hart.0 ≡ g
  pub of_flag : acquire.word.0 ≡ 0
  pub is_acquire : IsAcquire acquire

-- an access is the store of the message, one of the flag, or a load of the message after the flag
pub data IsKnown (rs : List StepRecord) (i : ℕ) (a : Access) : Type 0 where
  known_store : a.hart.0 ≡ 0 → a.word.0 ≡ 64 → a.number ≡ 2 → IsKnown rs i a
  known_flag : a.word.0 ≡ 0 → (IsOrdinary a → ⊥) → IsKnown rs i a
  known_load : a.word.0 ≡ 64 → a.written ≡ None → (c : IsAcquired rs a.hart.0) → c.at < i → IsKnown rs i a

-- where hart g stands
pub data IsHartAt (rs : List StepRecord) (g : ℕ) (h : HartState) : Type 0 where
  skips : h.pc ≡ 4096 → reg h 10 ≡ g → h.retired ≡ 0 → IsHartAt rs g h
  stores : h.pc ≡ 4100 → g ≡ 0 → h.retired ≡ 1 → IsHartAt rs g h
  releases : h.pc ≡ 4104 → g ≡ 0 → h.retired ≡ 2 → IsHartAt rs g h
  acquires : h.pc ≡ 4108 → IsHartAt rs g h
  tests : h.pc ≡ 4112 → (reg h 12 ≡ 0) ⊎ IsAcquired rs g → IsHartAt rs g h
  loads : h.pc ≡ 4116 → IsAcquired rs g → IsHartAt rs g h
  stops : h.pc ≡ 4120 → IsHartAt rs g h

pub record IsHart (rs : List StepRecord) (g : ℕ) (h : HartState) : Type 0 where
  pub size : length h.registers ≡ 32
  pub zero_register : reg h 0 ≡ 0
  pub stands : IsHartAt rs g h

-- the flag is clear, or was set
abbrev pub IsFlag : List StepRecord → ℕ → Type 0
IsFlag rs flag = (flag ≡ 0) ⊎ IsReleased rs

pub record Holds (rs : List StepRecord) (s : FlatState) : Type 0 where
  pub harts : (g : ℕ) → g < 2 → IsHart rs g (s.harts g)
  pub flag : IsFlag rs (s.memory 0)
  pub known : (i : ℕ) (a : Access) → IsAccessAt rs i a → IsKnown rs i a

-- all of it stays as the run goes on
module _ (rs : List StepRecord) (r : StepRecord) where
  pub released_later : IsReleased rs → IsReleased (rs ++ r ∷ [])
  released_later p = record {
    at = p.at;
    release = p.release;
    is_at = in_left rs (r ∷ []) p.at (step.Access p.release) p.is_at;
    of_writer = p.of_writer;
    of_flag = p.of_flag;
    third = p.third;
    is_release = p.is_release;
  }

  pub acquired_later : (g : ℕ) → IsAcquired rs g → IsAcquired (rs ++ r ∷ []) g
  unfolding released_later
  acquired_later g c = record {
    released = released_later c.released;
    at = c.at;
    acquire = c.acquire;
    is_at = in_left rs (r ∷ []) c.at (step.Access c.acquire) c.is_at;
    after = c.after;
    of_hart = c.of_hart;
    of_flag = c.of_flag;
    is_acquire = c.is_acquire;
  }

  pub known_later : (i : ℕ) (a : Access) → IsKnown rs i a → IsKnown (rs ++ r ∷ []) i a
  unfolding acquired_later
  known_later i a (known_store h w n) = known_store h w n
  known_later i a (known_flag w labelled) = known_flag w labelled
  known_later i a (known_load w reads c before) = known_load w reads (acquired_later a.hart.0 c) before

  pub hart_later : (g : ℕ) (h : HartState) → IsHart rs g h → IsHart (rs ++ r ∷ []) g h
  hart_later g h i = record { size = i.size; zero_register = i.zero_register; stands = stands_later i.stands }
    where
      stands_later : IsHartAt rs g h → IsHartAt (rs ++ r ∷ []) g h
      stands_later (skips pc number retired) = skips pc number retired
      stands_later (stores pc first retired) = stores pc first retired
      stands_later (releases pc first retired) = releases pc first retired
      stands_later (acquires pc) = acquires pc
      stands_later (tests pc (inl clear)) = tests pc (inl clear)
      stands_later (tests pc (inr c)) = tests pc (inr (acquired_later g c))
      stands_later (loads pc c) = loads pc (acquired_later g c)
      stands_later (stops pc) = stops pc

  pub flag_later : (flag : ℕ) → IsFlag rs flag → IsFlag (rs ++ r ∷ []) flag
  flag_later flag (inl clear) = inl clear
  flag_later flag (inr p) = inr (released_later p)

  -- the last access sets the flag, reads it, or loads the message
  pub released_now : (a : Access) → r ≡ step.Access a → a.hart.0 ≡ 0 → a.word.0 ≡ 0 → a.number ≡ 3 → IsRelease a → IsReleased (rs ++ r ∷ [])
  released_now a is writer flag third release =
      record { at = length rs; release = a; is_at = at_end rs r ∙ ap Some is; of_writer = writer; of_flag = flag; third = third; is_release = release }

  pub acquired_now : (g : ℕ) (a : Access) → r ≡ step.Access a → IsReleased rs → a.hart.0 ≡ g → a.word.0 ≡ 0 → IsAcquire a → IsAcquired (rs ++ r ∷ []) g
  unfolding released_later
  acquired_now g a is p hart flag acquire = record {
    released = released_later p;
    at = length rs;
    acquire = a;
    is_at = at_end rs r ∙ ap Some is;
    after = slice_get_within rs p.at (step.Access p.release) p.is_at;
    of_hart = hart;
    of_flag = flag;
    is_acquire = acquire;
  }

  pub loaded_now : (a : Access) → a.word.0 ≡ 64 → a.written ≡ None → IsAcquired rs a.hart.0 → IsKnown (rs ++ r ∷ []) (length rs) a
  unfolding acquired_later
  loaded_now a word reads c = known_load word reads (acquired_later a.hart.0 c) (slice_get_within rs c.at (step.Access c.acquire) c.is_at)

  -- an access of the longer list is one of the shorter, or the last
  pub known_all : ((i : ℕ) (a : Access) → IsAccessAt rs i a → IsKnown rs i a) → ((a : Access) → r ≡ step.Access a → IsKnown (rs ++ r ∷ []) (length rs) a)
      → (i : ℕ) (a : Access) → IsAccessAt (rs ++ r ∷ []) i a → IsKnown (rs ++ r ∷ []) i a
  known_all known last i a at = by_place (in_either rs (r ∷ []) i (step.Access a) at)
    where
      by_place : InEither rs (r ∷ []) i (step.Access a) → IsKnown (rs ++ r ∷ []) i a
      by_place (inl before) = known_later i a (known i a before)
      by_place (inr end) = at_last end.0 end.1 end.2
        where
          at_last : (q : ℕ) → i ≡ length rs + q → slice_get (r ∷ []) q ≡ Some (step.Access a) → IsKnown (rs ++ r ∷ []) i a
          at_last zero place is = let e : i ≡ length rs = omega arith in subst (λ m. IsKnown (rs ++ r ∷ []) m a) (sym e) (last a (let x : r ≡ step.Access a = cc in x))
          at_last (suc q) place is = absurd cc
