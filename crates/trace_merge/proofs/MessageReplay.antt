-- The written message passing, replayed: each hart's instructions are those of the image.
use Rattle.std.proofs.Common.{◌≡◌, ◌≢◌, inl, inr, ◌<◌, ℕ, zero, suc, ◌+◌, Bool, true, false, refl, sym, ap, arith, ◌∙◌}
use Rattle.std.proofs.lemmas.Bool.Decides.{nat_tests}
use Rattle.std.specs.Prelude.{◌==◌, ◌*◌, nat_lt, if◌then◌else◌}
use Rattle.dash_base.specs.Topology.{IsSimple}
use Rattle.dash_base.specs.Words.{merged}
use Rattle.dash_base.specs.declared.id.HartId.{HartId}
use Rattle.dash_base.specs.declared.ops.AmoOp.TheVariants.{Swap}
use Rattle.dash_base.specs.declared.topology.Topology.{Topology}
use Rattle.hart_core.specs.HartState.{HartState}
use Rattle.hart_core.specs.Access.{placed}
use Rattle.hart_core.specs.Opening.{opening_hart}
use Rattle.dash_base.specs.Places.{hart_count}
use Rattle.hart_core.specs.Meaning.{performed, instr_need}
use Rattle.hart_core.specs.declared.found.Found.TheVariants.{This}
use Rattle.dash_base.specs.declared.need.Need.TheVariants as needed
use Rattle.dash_event.specs.declared.event.Kind.{Kind}
use Rattle.dash_event.specs.Offered.{no_label, acquire_label, release_label}
use Rattle.dash_model.specs.Replay.{Harts, MovesAt, Accesses, Replays, IsReplay}
use Rattle.trace_merge.specs.WrittenLogs.{message_image, message_store, flag_release, flag_acquire, message_load, message_log}
use Rattle.trace_merge.proofs.Written.{Each, each_at, hart_by}
use Rattle.trace_merge.proofs.MessageCode.{skip, write, release, acquire, again, read, skip_found, write_found, release_found, acquire_found, again_found, read_found, write_need, release_need, acquire_need, read_need}

abbrev hart_0 : HartId
hart_0 = record { 0 = 0 }

abbrev hart_1 : HartId
hart_1 = record { 0 = 1 }

module _ (t : Topology) (s : IsSimple 2 1 8 t) where
  -- hart 0 after each of its instructions, and hart 1
  abbrev pub writer : ℕ → HartState
  writer zero = opening_hart message_image t 0
  writer (suc zero) = performed (opening_hart message_image t 0) skip 0
  writer (suc (suc zero)) = performed (performed (opening_hart message_image t 0) skip 0) write 0
  writer i = performed (performed (performed (opening_hart message_image t 0) skip 0) write 0) release 0

  abbrev pub reader : ℕ → HartState
  reader zero = opening_hart message_image t 1
  reader (suc zero) = performed (opening_hart message_image t 1) skip 0
  reader (suc (suc zero)) = performed (performed (opening_hart message_image t 1) skip 0) acquire 2
  reader (suc (suc (suc zero))) = performed (performed (performed (opening_hart message_image t 1) skip 0) acquire 2) again 0
  reader i = performed (performed (performed (performed (opening_hart message_image t 1) skip 0) acquire 2) again 0) read 2

  -- how many instructions of each stand before a position
  abbrev pub writer_at : ℕ → ℕ
  writer_at zero = 0
  writer_at (suc zero) = 1
  writer_at (suc (suc zero)) = 2
  writer_at (suc (suc (suc zero))) = 2
  writer_at i = 3

  abbrev pub reader_at : ℕ → ℕ
  reader_at zero = 0
  reader_at (suc zero) = 0
  reader_at (suc (suc zero)) = 0
  reader_at (suc (suc (suc zero))) = 0
  reader_at (suc (suc (suc (suc zero)))) = 0
  reader_at (suc (suc (suc (suc (suc zero))))) = 1
  reader_at (suc (suc (suc (suc (suc (suc zero)))))) = 2
  reader_at (suc (suc (suc (suc (suc (suc (suc zero))))))) = 3
  reader_at i = 4

  abbrev pub harts : ℕ → Harts
  harts i g = if g == 0 then writer (writer_at i) else (if g == 1 then reader (reader_at i) else opening_hart message_image t g)

  count : 1 < hart_count t
  count = let c = s.clusters_is in let h = s.harts_is in let e : hart_count t ≡ 2 * 1 = (λ i. c i * h i) in omega arith

  pub in_range : (h : ℕ) → h < 2 → h < hart_count t
  in_range h small = let c = count in omega arith

  -- what hart 0 writes is how many harts there are
  two : hart_count t ≡ 2
  two = λ i. s.clusters_is i * s.harts_is i

  write_two : instr_need message_image t (writer 1) write ≡ needed.Store (record { 0 = 64 }) 15 2
  unfolding skip
  write_two = write_need t s (writer 1) refl ∙ (λ i. needed.Store (record { 0 = 64 }) 15 (placed 0 4 (two i)))

  release_two : instr_need message_image t (writer 2) release ≡ needed.Rmw (record { 0 = 0 }) Swap 2 release_label
  unfolding skip write
  release_two = release_need t s (writer 2) refl ∙ (λ i. needed.Rmw (record { 0 = 0 }) Swap (two i) release_label)

  writer_others : (i j n g : ℕ) → g ≢ 0 → (if g == 0 then writer j else (if g == 1 then reader n else opening_hart message_image t g)) ≡ (if g == 0 then writer i else (if g == 1 then reader n else opening_hart message_image t g))
  writer_others i j n g differ = hart_by 0 g differ (writer j) (writer i) (if g == 1 then reader n else opening_hart message_image t g)

  reader_others : (i j n g : ℕ) → g ≢ 1 → (if g == 0 then writer n else (if g == 1 then reader j else opening_hart message_image t g)) ≡ (if g == 0 then writer n else (if g == 1 then reader i else opening_hart message_image t g))
  reader_others i j n g differ = ap (λ x. if g == 0 then writer n else x) (hart_by 1 g differ (reader j) (reader i) (opening_hart message_image t g))

  writer_skips : MovesAt message_image t (harts 0) (harts 1) hart_0 4096 needed.Alu
  unfolding skip
  writer_skips = record {
    moves = record {
      in_range = in_range 0 (omega arith);
      does = record { goes = ap (nat_lt 0) s.budget_is; found = This skip; is_found = skip_found; needs = refl; after = refl };
      others = writer_others 0 1 0;
    };
    pc_is = refl;
  }

  writes : Accesses message_image t (harts 1) (harts 2) message_store
  unfolding skip write
  writes = record {
    need = needed.Store (record { 0 = 64 }) 15 2;
    moves = record {
      in_range = in_range 0 (omega arith);
      does = record { goes = ap (nat_lt 1) s.budget_is; found = This write; is_found = write_found; needs = sym write_two; after = refl };
      others = writer_others 1 2 0;
    };
    content = 0;
    succeeds = true;
    is_offered = refl;
  }

  releases : Accesses message_image t (harts 3) (harts 4) flag_release
  unfolding skip write release merged
  releases = record {
    need = needed.Rmw (record { 0 = 0 }) Swap 2 release_label;
    moves = record {
      in_range = in_range 0 (omega arith);
      does = record { goes = ap (nat_lt 2) s.budget_is; found = This release; is_found = release_found; needs = sym release_two; after = refl };
      others = writer_others 2 3 0;
    };
    content = 0;
    succeeds = true;
    is_offered = refl;
  }

  reader_skips : MovesAt message_image t (harts 4) (harts 5) hart_1 4096 needed.Alu
  unfolding skip
  reader_skips = record {
    moves = record {
      in_range = in_range 1 (omega arith);
      does = record { goes = ap (nat_lt 0) s.budget_is; found = This skip; is_found = skip_found; needs = refl; after = refl };
      others = reader_others 0 1 3;
    };
    pc_is = refl;
  }

  acquires : Accesses message_image t (harts 5) (harts 6) flag_acquire
  unfolding skip acquire merged
  acquires = record {
    need = needed.Load (record { 0 = 0 }) 15 acquire_label true;
    moves = record {
      in_range = in_range 1 (omega arith);
      does = record { goes = ap (nat_lt 1) s.budget_is; found = This acquire; is_found = acquire_found; needs = sym (acquire_need t s (reader 1) refl); after = refl };
      others = reader_others 1 2 3;
    };
    content = 2;
    succeeds = true;
    is_offered = refl;
  }

  reader_goes_on : MovesAt message_image t (harts 6) (harts 7) hart_1 4112 needed.Alu
  unfolding skip acquire again
  reader_goes_on = record {
    moves = record {
      in_range = in_range 1 (omega arith);
      does = record { goes = ap (nat_lt 2) s.budget_is; found = This again; is_found = again_found; needs = refl; after = refl };
      others = reader_others 2 3 3;
    };
    pc_is = refl;
  }

  reads : Accesses message_image t (harts 7) (harts 8) message_load
  unfolding skip acquire again read merged
  reads = record {
    need = needed.Load (record { 0 = 64 }) 15 no_label false;
    moves = record {
      in_range = in_range 1 (omega arith);
      does = record { goes = ap (nat_lt 3) s.budget_is; found = This read; is_found = read_found; needs = sym (read_need t s (reader 3) refl); after = refl };
      others = reader_others 3 4 3;
    };
    content = 2;
    succeeds = true;
    is_offered = refl;
  }

  -- what each event does to the harts
  abbrev Moves : ℕ → Kind → Type 0
  Moves i k = Replays message_image t (harts i) k (harts (i + 1))

  moves : Each Moves message_log
  moves =
      (writer_skips, ((writes, refl, refl), (record { in_range = in_range 0 (omega arith); stays = λ g. refl }, ((releases, inl refl), (reader_skips, ((acquires, inr (refl, record { version = 1; is = refl; in_caches = inl refl })), (reader_goes_on, ((reads, inl (refl, inl (record { version = 1; is = refl; in_caches = inl refl }))), tt))))))))

  pub replay : IsReplay message_image t message_log harts
  replay = record { opens = λ h. opens_by h (h == 0) (h == 1) refl refl; moves = each_at Moves message_log moves }
    where
      opens_by : (h : ℕ) (b c : Bool) → (h == 0) ≡ b → (h == 1) ≡ c → (if b then opening_hart message_image t 0 else (if c then opening_hart message_image t 1 else opening_hart message_image t h)) ≡ opening_hart message_image t h
      opens_by h true c e e' = let z : 0 ≡ h = grind (arith, nat_tests) in ap (opening_hart message_image t) z
      opens_by h false true e e' = let z : 1 ≡ h = grind (arith, nat_tests) in ap (opening_hart message_image t) z
      opens_by h false false e e' = refl
