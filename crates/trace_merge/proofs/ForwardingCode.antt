-- The written log of one hart, replayed: its instructions are those of the image.
use Rattle.std.proofs.Common.{◌≡◌, ◌≢◌, inl, inr, ◌<◌, ℕ, zero, suc, ◌+◌, Bool, true, false, refl, sym, ap, arith}
use Rattle.std.proofs.lemmas.Bool.Decides.{nat_tests}
use Rattle.std.specs.Prelude.{◌==◌, ◌*◌, nat_lt, if◌then◌else◌, pos}
use Rattle.dash_base.specs.Topology.{IsSimple}
use Rattle.dash_base.specs.Words.{merged}
use Rattle.dash_base.specs.declared.id.HartId.{HartId}
use Rattle.dash_base.specs.declared.id.LineId.{LineId}
use Rattle.dash_base.specs.declared.instr.Instr.{Instr}
use Rattle.dash_base.specs.declared.instr.Instr.TheVariants as instr
use Rattle.dash_base.specs.declared.ops.StoreOp.TheVariants.{Sw}
use Rattle.dash_base.specs.declared.ops.LoadOp.TheVariants.{Lb, Lw}
use Rattle.dash_base.specs.declared.topology.Topology.{Topology}
use Rattle.elf_load.specs.Image.{fetched, word_among, byte_among, is_writable}
use Rattle.hart_core.specs.HartState.{HartState}
use Rattle.hart_core.specs.Access.{trap_or, placed}
use Rattle.hart_core.specs.Opening.{opening_hart}
use Rattle.dash_base.specs.Places.{hart_count}
use Rattle.hart_core.specs.Meaning.{performed, instr_need}
use Rattle.hart_core.specs.declared.found.Found.TheVariants.{This}
use Rattle.dash_base.specs.declared.need.Need.TheVariants as needed
use Rattle.dash_event.specs.declared.event.Kind.{Kind}
use Rattle.dash_event.specs.Offered.{no_label}
use Rattle.dash_model.specs.Replay.{Harts, Accesses, Replays, IsReplay}
use Rattle.trace_merge.specs.WrittenLogs.{forwarding_image, forwarded_store, forwarded_load, committed_load, forwarding_log}
use Rattle.trace_merge.proofs.Written.{Each, each_at, access_clear, hart_by}

-- its instructions
pub sw : Instr
sw = instr.Store (record { op = Sw; rs1 = 0; rs2 = 11; offset = pos 64; rs1_in_range = omega arith; rs2_in_range = omega arith; offset_in_range = record { low = omega arith; high = omega arith } })

pub lb : Instr
lb = instr.Load (record { op = Lb; rd = 12; rs1 = 0; offset = pos 64; rd_in_range = omega arith; rs1_in_range = omega arith; offset_in_range = record { low = omega arith; high = omega arith } })

pub lw : Instr
lw = instr.Load (record { op = Lw; rd = 13; rs1 = 0; offset = pos 64; rd_in_range = omega arith; rs1_in_range = omega arith; offset_in_range = record { low = omega arith; high = omega arith } })

abbrev hart_0 : HartId
hart_0 = record { 0 = 0 }

abbrev line_4 : LineId
line_4 = record { 0 = 4 }

module _ (t : Topology) (s : IsSimple 1 1 8 t) where
  -- the hart before each event
  abbrev pub state : ℕ → HartState
  state zero = opening_hart forwarding_image t 0
  state (suc zero) = performed (opening_hart forwarding_image t 0) sw 0
  state (suc (suc zero)) = performed (performed (opening_hart forwarding_image t 0) sw 0) lb 1
  state (suc (suc (suc zero))) = performed (performed (opening_hart forwarding_image t 0) sw 0) lb 1
  state i = performed (performed (performed (opening_hart forwarding_image t 0) sw 0) lb 1) lw 1

  abbrev pub harts : ℕ → Harts
  harts i g = if g == 0 then state i else opening_hart forwarding_image t g

  count : 0 < hart_count t
  count = let c = s.clusters_is in let h = s.harts_is in let e : hart_count t ≡ 1 * 1 = (λ i. c i * h i) in omega arith

  store_need : instr_need forwarding_image t (state 0) sw ≡ needed.Store (record { 0 = 64 }) 15 1
  unfolding sw is_writable
  store_need = λ i. trap_or (access_clear 1 1 8 t s forwarding_image true 64 4 refl (omega arith) (omega arith) refl i) 64 (needed.Store (record { 0 = 64 }) 15 (placed 0 4 (s.clusters_is i * s.harts_is i)))

  byte_need : instr_need forwarding_image t (state 1) lb ≡ needed.Load (record { 0 = 64 }) 1 no_label false
  unfolding sw lb
  byte_need = λ i. trap_or (access_clear 1 1 8 t s forwarding_image false 64 1 refl (omega arith) (omega arith) refl i) 64 (needed.Load (record { 0 = 64 }) 1 no_label false)

  word_need : instr_need forwarding_image t (state 3) lw ≡ needed.Load (record { 0 = 64 }) 15 no_label false
  unfolding sw lb lw
  word_need = λ i. trap_or (access_clear 1 1 8 t s forwarding_image false 64 4 refl (omega arith) (omega arith) refl i) 64 (needed.Load (record { 0 = 64 }) 15 no_label false)

  others : (i j g : ℕ) → g ≢ 0 → harts j g ≡ harts i g
  others i j g differ = hart_by 0 g differ (state j) (state i) (opening_hart forwarding_image t g)

  store_moves : Accesses forwarding_image t (harts 0) (harts 1) forwarded_store
  unfolding sw fetched word_among byte_among
  store_moves = record {
    need = needed.Store (record { 0 = 64 }) 15 1;
    moves = record {
      in_range = count;
      does = record { goes = ap (nat_lt 0) s.budget_is; found = This sw; is_found = refl; needs = sym store_need; after = refl };
      others = others 0 1;
    };
    content = 0;
    succeeds = true;
    is_offered = refl;
  }

  byte_moves : Accesses forwarding_image t (harts 1) (harts 2) forwarded_load
  unfolding sw lb fetched word_among byte_among merged
  byte_moves = record {
    need = needed.Load (record { 0 = 64 }) 1 no_label false;
    moves = record {
      in_range = count;
      does = record { goes = ap (nat_lt 1) s.budget_is; found = This lb; is_found = refl; needs = sym byte_need; after = refl };
      others = others 1 2;
    };
    content = 1;
    succeeds = true;
    is_offered = refl;
  }

  word_moves : Accesses forwarding_image t (harts 3) (harts 4) committed_load
  unfolding sw lb lw fetched word_among byte_among merged
  word_moves = record {
    need = needed.Load (record { 0 = 64 }) 15 no_label false;
    moves = record {
      in_range = count;
      does = record { goes = ap (nat_lt 2) s.budget_is; found = This lw; is_found = refl; needs = sym word_need; after = refl };
      others = others 3 4;
    };
    content = 1;
    succeeds = true;
    is_offered = refl;
  }

  -- what each event does to the harts
  abbrev Moves : ℕ → Kind → Type 0
  Moves i k = Replays forwarding_image t (harts i) k (harts (i + 1))

  moves : Each Moves forwarding_log
  moves =
      ((store_moves, refl, refl), ((byte_moves, inl (refl, inr (record { number = 1; is = refl; in_buffer = refl }))), (record { in_range = count; stays = λ g. refl }, ((word_moves, inl (refl, inl (record { version = 1; is = refl; in_caches = inl refl }))), tt))))

  pub replay : IsReplay forwarding_image t forwarding_log harts
  replay = record { opens = λ h. opens_by h (h == 0) refl; moves = each_at Moves forwarding_log moves }
    where
      opens_by : (h : ℕ) (b : Bool) → (h == 0) ≡ b → (if b then opening_hart forwarding_image t 0 else opening_hart forwarding_image t h) ≡ opening_hart forwarding_image t h
      opens_by h true e = let z : 0 ≡ h = grind (arith, nat_tests) in ap (opening_hart forwarding_image t) z
      opens_by h false e = refl
