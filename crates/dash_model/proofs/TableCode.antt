-- The instructions of the equations of the table: what each needs, and what it makes of hart 2.
use Rattle.dash_event.specs.declared.access.Access.{Access}
use Rattle.std.proofs.Common.{◌≡◌, ◌∙◌, ℕ, true, false, refl, sym, arith, pos, Option, None, Some}
use Rattle.dash_base.specs.declared.end.End.TheVariants.{Exited, Trapped}
use Rattle.dash_base.specs.declared.end.Trap.TheVariants.{Break}
use Rattle.dash_base.specs.declared.instr.Instr.{Instr}
use Rattle.dash_base.specs.declared.instr.Instr.TheVariants as instr
use Rattle.dash_base.specs.declared.ops.AluOp.TheVariants.{Add, Or}
use Rattle.dash_base.specs.declared.ops.AmoOp.TheVariants as amo
use Rattle.dash_base.specs.declared.ops.LoadOp.TheVariants.{Lw}
use Rattle.dash_base.specs.declared.ops.StoreOp.TheVariants.{Sw}
use Rattle.dash_base.specs.declared.need.HintKind.TheVariants.{Fetch, Shared, Exclusive}
use Rattle.elf_load.specs.Image.{fetched, word_among, byte_among, is_writable}
use Rattle.hart_core.specs.Meaning.{IsFound, Needs, Does, after_need}
use Rattle.hart_core.specs.declared.found.Found.TheVariants.{This}
use Rattle.dash_base.specs.declared.need.Need.{Need}
use Rattle.dash_base.specs.declared.need.Need.TheVariants as needed
use Rattle.hart_core.proofs.LawsOffered.{one_need, needs_of}
use Rattle.dash_model.specs.Config.{Config}
use Rattle.dash_model.specs.Part.{Part}
use Rattle.dash_model.specs.HartRows.{HartEffect}
use Rattle.dash_model.specs.HartGuards.{Retires}
use Rattle.dash_model.specs.TableParts.{config_of, small, hart_with, at}
use Rattle.dash_model.specs.TableCode as code
use Rattle.dash_model.specs.TableCode.{plain, release}

-- an instruction that hart 2 does, with this answer
abbrev pub doing : Instr → Need → ℕ → HartEffect
doing i need answer = record { need = need; next = after_need (hart_with 93) (This i) need answer }

-- nothing of an instruction
abbrev pub nothing : HartEffect
nothing = record { need = needed.Rest; next = hart_with 93 }

-- the call that puts a byte
abbrev pub putting : HartEffect
putting = record { need = needed.Put 65; next = after_need (hart_with 1) (This instr.Ecall) (needed.Put 65) 0 }

-- what an event says that its hart's instruction needs is what the instruction needs
pub need_of : {w : Config} {c h answer : ℕ} {wanted need : Need} {d : HartEffect} {p : Part} → Retires w c h wanted answer d p → Needs w.image w.top (p.harts h).core need → wanted ≡ need
need_of r n = sym r.need_is ∙ one_need _ _ _ _ _ (needs_of _ _ _ _ _ _ r.does) n

-- only LR has no source
pub sc_is_not_lr : amo.Sc ≡ amo.Lr → ⊥
sc_is_not_lr e = cc

pub add_is_not_lr : amo.Add ≡ amo.Lr → ⊥
add_is_not_lr e = cc

pub swap_is_not_lr : amo.Swap ≡ amo.Lr → ⊥
swap_is_not_lr e = cc

-- and that is what the hart of the event needs
pub need_known : {w : Config} {c h answer : ℕ} {wanted need : Need} {d : HartEffect} {p : Part} → Retires w c h wanted answer d p → Needs w.image w.top (p.harts h).core need → d.need ≡ need
need_known r n = one_need _ _ _ _ _ (needs_of _ _ _ _ _ _ r.does) n

-- fields of an access
abbrev pub read_of : Option Access → Option ℕ
read_of None = None
read_of (Some a) = a.read

abbrev pub written_of : Option Access → Option ℕ
written_of None = None
written_of (Some a) = a.written

-- two values that are not one
pub apart : (a b : ℕ) → Some a ≡ Some b → (a ≡ b → ⊥) → ⊥
apart a b e n = let m : a ≡ b = cc in n m

-- the instructions: of each, that its word is found, what it needs, and what it makes of hart 2
abbrev pub addi : Instr
addi = instr.OpImm (record { op = Add; rd = 28; rs1 = 7; imm = pos 1; rd_in_range = omega arith; rs1_in_range = omega arith; imm_in_range = record { low = omega arith; high = omega arith }; has_form = refl })

found_addi : IsFound (config_of code.addi).image 4096 (This addi)
unfolding fetched word_among byte_among
found_addi = refl

pub needs_addi : Needs (config_of code.addi).image small (hart_with 93) (needed.Alu)
unfolding is_writable
needs_addi = record { goes = refl; found = This addi; is_found = found_addi; needs = refl }

pub does_addi : (answer : ℕ) → Does (config_of code.addi).image small (hart_with 93) (needed.Alu) answer (after_need (hart_with 93) (This addi) (needed.Alu) answer)
unfolding is_writable
does_addi answer = record { goes = refl; found = This addi; is_found = found_addi; needs = refl; after = refl }

abbrev pub fence_writes : Instr
fence_writes = instr.Fence (record { fm = 0; pred = 1; succ = 1; rd = 0; rs1 = 0; fm_in_range = omega arith; pred_in_range = omega arith; succ_in_range = omega arith; rd_in_range = omega arith; rs1_in_range = omega arith })

found_fence_writes : IsFound (config_of code.fence_writes).image 4096 (This fence_writes)
unfolding fetched word_among byte_among
found_fence_writes = refl

pub needs_fence_writes : Needs (config_of code.fence_writes).image small (hart_with 93) (needed.Fence true)
unfolding is_writable
needs_fence_writes = record { goes = refl; found = This fence_writes; is_found = found_fence_writes; needs = refl }

pub does_fence_writes : (answer : ℕ) → Does (config_of code.fence_writes).image small (hart_with 93) (needed.Fence true) answer (after_need (hart_with 93) (This fence_writes) (needed.Fence true) answer)
unfolding is_writable
does_fence_writes answer = record { goes = refl; found = This fence_writes; is_found = found_fence_writes; needs = refl; after = refl }

abbrev pub fence_reads : Instr
fence_reads = instr.Fence (record { fm = 0; pred = 2; succ = 2; rd = 0; rs1 = 0; fm_in_range = omega arith; pred_in_range = omega arith; succ_in_range = omega arith; rd_in_range = omega arith; rs1_in_range = omega arith })

found_fence_reads : IsFound (config_of code.fence_reads).image 4096 (This fence_reads)
unfolding fetched word_among byte_among
found_fence_reads = refl

pub does_fence_reads : (answer : ℕ) → Does (config_of code.fence_reads).image small (hart_with 93) (needed.Fence false) answer (after_need (hart_with 93) (This fence_reads) (needed.Fence false) answer)
unfolding is_writable
does_fence_reads answer = record { goes = refl; found = This fence_reads; is_found = found_fence_reads; needs = refl; after = refl }

abbrev pub prefetch_i : Instr
prefetch_i = instr.OpImm (record { op = Or; rd = 0; rs1 = 0; imm = pos 96; rd_in_range = omega arith; rs1_in_range = omega arith; imm_in_range = record { low = omega arith; high = omega arith }; has_form = refl })

found_prefetch_i : IsFound (config_of code.prefetch_i).image 4096 (This prefetch_i)
unfolding fetched word_among byte_among
found_prefetch_i = refl

pub needs_prefetch_i : Needs (config_of code.prefetch_i).image small (hart_with 93) (needed.Hint Fetch 96)
unfolding is_writable
needs_prefetch_i = record { goes = refl; found = This prefetch_i; is_found = found_prefetch_i; needs = refl }

pub does_prefetch_i : (answer : ℕ) → Does (config_of code.prefetch_i).image small (hart_with 93) (needed.Hint Fetch 96) answer (after_need (hart_with 93) (This prefetch_i) (needed.Hint Fetch 96) answer)
unfolding is_writable
does_prefetch_i answer = record { goes = refl; found = This prefetch_i; is_found = found_prefetch_i; needs = refl; after = refl }

abbrev pub prefetch_r : Instr
prefetch_r = instr.OpImm (record { op = Or; rd = 0; rs1 = 0; imm = pos 97; rd_in_range = omega arith; rs1_in_range = omega arith; imm_in_range = record { low = omega arith; high = omega arith }; has_form = refl })

found_prefetch_r : IsFound (config_of code.prefetch_r).image 4096 (This prefetch_r)
unfolding fetched word_among byte_among
found_prefetch_r = refl

pub needs_prefetch_r : Needs (config_of code.prefetch_r).image small (hart_with 93) (needed.Hint Shared 96)
unfolding is_writable
needs_prefetch_r = record { goes = refl; found = This prefetch_r; is_found = found_prefetch_r; needs = refl }

pub does_prefetch_r : (answer : ℕ) → Does (config_of code.prefetch_r).image small (hart_with 93) (needed.Hint Shared 96) answer (after_need (hart_with 93) (This prefetch_r) (needed.Hint Shared 96) answer)
unfolding is_writable
does_prefetch_r answer = record { goes = refl; found = This prefetch_r; is_found = found_prefetch_r; needs = refl; after = refl }

abbrev pub prefetch_w : Instr
prefetch_w = instr.OpImm (record { op = Or; rd = 0; rs1 = 0; imm = pos 99; rd_in_range = omega arith; rs1_in_range = omega arith; imm_in_range = record { low = omega arith; high = omega arith }; has_form = refl })

found_prefetch_w : IsFound (config_of code.prefetch_w).image 4096 (This prefetch_w)
unfolding fetched word_among byte_among
found_prefetch_w = refl

pub needs_prefetch_w : Needs (config_of code.prefetch_w).image small (hart_with 93) (needed.Hint Exclusive 96)
unfolding is_writable
needs_prefetch_w = record { goes = refl; found = This prefetch_w; is_found = found_prefetch_w; needs = refl }

pub does_prefetch_w : (answer : ℕ) → Does (config_of code.prefetch_w).image small (hart_with 93) (needed.Hint Exclusive 96) answer (after_need (hart_with 93) (This prefetch_w) (needed.Hint Exclusive 96) answer)
unfolding is_writable
does_prefetch_w answer = record { goes = refl; found = This prefetch_w; is_found = found_prefetch_w; needs = refl; after = refl }

abbrev pub prefetch_outside : Instr
prefetch_outside = instr.OpImm (record { op = Or; rd = 0; rs1 = 6; imm = pos 3; rd_in_range = omega arith; rs1_in_range = omega arith; imm_in_range = record { low = omega arith; high = omega arith }; has_form = refl })

found_prefetch_outside : IsFound (config_of code.prefetch_outside).image 4096 (This prefetch_outside)
unfolding fetched word_among byte_among
found_prefetch_outside = refl

pub needs_prefetch_outside : Needs (config_of code.prefetch_outside).image small (hart_with 93) (needed.Hint Exclusive 65536)
unfolding is_writable
needs_prefetch_outside = record { goes = refl; found = This prefetch_outside; is_found = found_prefetch_outside; needs = refl }

pub does_prefetch_outside : (answer : ℕ) → Does (config_of code.prefetch_outside).image small (hart_with 93) (needed.Hint Exclusive 65536) answer (after_need (hart_with 93) (This prefetch_outside) (needed.Hint Exclusive 65536) answer)
unfolding is_writable
does_prefetch_outside answer = record { goes = refl; found = This prefetch_outside; is_found = found_prefetch_outside; needs = refl; after = refl }

abbrev pub ecall : Instr
ecall = instr.Ecall

found_ecall : IsFound (config_of code.ecall).image 4096 (This ecall)
unfolding fetched word_among byte_among
found_ecall = refl

pub needs_ecall : Needs (config_of code.ecall).image small (hart_with 93) (needed.Stop (Exited 65))
unfolding is_writable
needs_ecall = record { goes = refl; found = This ecall; is_found = found_ecall; needs = refl }

pub does_ecall : (answer : ℕ) → Does (config_of code.ecall).image small (hart_with 93) (needed.Stop (Exited 65)) answer (after_need (hart_with 93) (This ecall) (needed.Stop (Exited 65)) answer)
unfolding is_writable
does_ecall answer = record { goes = refl; found = This ecall; is_found = found_ecall; needs = refl; after = refl }

abbrev pub ebreak : Instr
ebreak = instr.Ebreak

found_ebreak : IsFound (config_of code.ebreak).image 4096 (This ebreak)
unfolding fetched word_among byte_among
found_ebreak = refl

pub does_ebreak : (answer : ℕ) → Does (config_of code.ebreak).image small (hart_with 93) (needed.Stop (Trapped Break 0)) answer (after_need (hart_with 93) (This ebreak) (needed.Stop (Trapped Break 0)) answer)
unfolding is_writable
does_ebreak answer = record { goes = refl; found = This ebreak; is_found = found_ebreak; needs = refl; after = refl }

abbrev pub lw : Instr
lw = instr.Load (record { op = Lw; rd = 28; rs1 = 0; offset = pos 100; rd_in_range = omega arith; rs1_in_range = omega arith; offset_in_range = record { low = omega arith; high = omega arith } })

found_lw : IsFound (config_of code.lw).image 4096 (This lw)
unfolding fetched word_among byte_among
found_lw = refl

pub needs_lw : Needs (config_of code.lw).image small (hart_with 93) (needed.Load (at 100) 15 plain false)
unfolding is_writable
needs_lw = record { goes = refl; found = This lw; is_found = found_lw; needs = refl }

pub does_lw : (answer : ℕ) → Does (config_of code.lw).image small (hart_with 93) (needed.Load (at 100) 15 plain false) answer (after_need (hart_with 93) (This lw) (needed.Load (at 100) 15 plain false) answer)
unfolding is_writable
does_lw answer = record { goes = refl; found = This lw; is_found = found_lw; needs = refl; after = refl }

abbrev pub lw_other : Instr
lw_other = instr.Load (record { op = Lw; rd = 28; rs1 = 0; offset = pos 352; rd_in_range = omega arith; rs1_in_range = omega arith; offset_in_range = record { low = omega arith; high = omega arith } })

found_lw_other : IsFound (config_of code.lw_other).image 4096 (This lw_other)
unfolding fetched word_among byte_among
found_lw_other = refl

pub needs_lw_other : Needs (config_of code.lw_other).image small (hart_with 93) (needed.Load (at 352) 15 plain false)
unfolding is_writable
needs_lw_other = record { goes = refl; found = This lw_other; is_found = found_lw_other; needs = refl }

abbrev pub sw : Instr
sw = instr.Store (record { op = Sw; rs1 = 0; rs2 = 7; offset = pos 100; rs1_in_range = omega arith; rs2_in_range = omega arith; offset_in_range = record { low = omega arith; high = omega arith } })

found_sw : IsFound (config_of code.sw).image 4096 (This sw)
unfolding fetched word_among byte_among
found_sw = refl

pub needs_sw : Needs (config_of code.sw).image small (hart_with 93) (needed.Store (at 100) 15 7)
unfolding is_writable
needs_sw = record { goes = refl; found = This sw; is_found = found_sw; needs = refl }

pub does_sw : (answer : ℕ) → Does (config_of code.sw).image small (hart_with 93) (needed.Store (at 100) 15 7) answer (after_need (hart_with 93) (This sw) (needed.Store (at 100) 15 7) answer)
unfolding is_writable
does_sw answer = record { goes = refl; found = This sw; is_found = found_sw; needs = refl; after = refl }

abbrev pub lr : Instr
lr = instr.Amo (record { op = amo.Lr; labels = record { aq = false; rl = false }; rd = 28; rs1 = 5; rs2 = 0; rd_in_range = omega arith; rs1_in_range = omega arith; rs2_in_range = omega arith; lr_has_no_source = λ e. refl })

found_lr : IsFound (config_of code.lr).image 4096 (This lr)
unfolding fetched word_among byte_among
found_lr = refl

pub needs_lr : Needs (config_of code.lr).image small (hart_with 93) (needed.Load (at 100) 15 plain true)
unfolding is_writable
needs_lr = record { goes = refl; found = This lr; is_found = found_lr; needs = refl }

pub does_lr : (answer : ℕ) → Does (config_of code.lr).image small (hart_with 93) (needed.Load (at 100) 15 plain true) answer (after_need (hart_with 93) (This lr) (needed.Load (at 100) 15 plain true) answer)
unfolding is_writable
does_lr answer = record { goes = refl; found = This lr; is_found = found_lr; needs = refl; after = refl }

abbrev pub sc : Instr
sc = instr.Amo (record { op = amo.Sc; labels = record { aq = false; rl = false }; rd = 28; rs1 = 5; rs2 = 7; rd_in_range = omega arith; rs1_in_range = omega arith; rs2_in_range = omega arith; lr_has_no_source = λ e. absurd (sc_is_not_lr e) })

found_sc : IsFound (config_of code.sc).image 4096 (This sc)
unfolding fetched word_among byte_among
found_sc = refl

pub needs_sc : Needs (config_of code.sc).image small (hart_with 93) (needed.Rmw (at 100) amo.Sc 7 plain)
unfolding is_writable
needs_sc = record { goes = refl; found = This sc; is_found = found_sc; needs = refl }

pub does_sc : (answer : ℕ) → Does (config_of code.sc).image small (hart_with 93) (needed.Rmw (at 100) amo.Sc 7 plain) answer (after_need (hart_with 93) (This sc) (needed.Rmw (at 100) amo.Sc 7 plain) answer)
unfolding is_writable
does_sc answer = record { goes = refl; found = This sc; is_found = found_sc; needs = refl; after = refl }

abbrev pub amoadd : Instr
amoadd = instr.Amo (record { op = amo.Add; labels = record { aq = false; rl = false }; rd = 28; rs1 = 5; rs2 = 7; rd_in_range = omega arith; rs1_in_range = omega arith; rs2_in_range = omega arith; lr_has_no_source = λ e. absurd (add_is_not_lr e) })

found_amoadd : IsFound (config_of code.amoadd).image 4096 (This amoadd)
unfolding fetched word_among byte_among
found_amoadd = refl

pub needs_amoadd : Needs (config_of code.amoadd).image small (hart_with 93) (needed.Rmw (at 100) amo.Add 7 plain)
unfolding is_writable
needs_amoadd = record { goes = refl; found = This amoadd; is_found = found_amoadd; needs = refl }

pub does_amoadd : (answer : ℕ) → Does (config_of code.amoadd).image small (hart_with 93) (needed.Rmw (at 100) amo.Add 7 plain) answer (after_need (hart_with 93) (This amoadd) (needed.Rmw (at 100) amo.Add 7 plain) answer)
unfolding is_writable
does_amoadd answer = record { goes = refl; found = This amoadd; is_found = found_amoadd; needs = refl; after = refl }

abbrev pub amoadd_rl : Instr
amoadd_rl = instr.Amo (record { op = amo.Add; labels = record { aq = false; rl = true }; rd = 28; rs1 = 5; rs2 = 7; rd_in_range = omega arith; rs1_in_range = omega arith; rs2_in_range = omega arith; lr_has_no_source = λ e. absurd (add_is_not_lr e) })

found_amoadd_rl : IsFound (config_of code.amoadd_rl).image 4096 (This amoadd_rl)
unfolding fetched word_among byte_among
found_amoadd_rl = refl

pub needs_amoadd_rl : Needs (config_of code.amoadd_rl).image small (hart_with 93) (needed.Rmw (at 100) amo.Add 7 release)
unfolding is_writable
needs_amoadd_rl = record { goes = refl; found = This amoadd_rl; is_found = found_amoadd_rl; needs = refl }

pub does_amoadd_rl : (answer : ℕ) → Does (config_of code.amoadd_rl).image small (hart_with 93) (needed.Rmw (at 100) amo.Add 7 release) answer (after_need (hart_with 93) (This amoadd_rl) (needed.Rmw (at 100) amo.Add 7 release) answer)
unfolding is_writable
does_amoadd_rl answer = record { goes = refl; found = This amoadd_rl; is_found = found_amoadd_rl; needs = refl; after = refl }

abbrev pub lock : Instr
lock = instr.Amo (record { op = amo.Swap; labels = record { aq = true; rl = false }; rd = 28; rs1 = 6; rs2 = 7; rd_in_range = omega arith; rs1_in_range = omega arith; rs2_in_range = omega arith; lr_has_no_source = λ e. absurd (swap_is_not_lr e) })

found_lock : IsFound (config_of code.lock).image 4096 (This lock)
unfolding fetched word_among byte_among
found_lock = refl

pub needs_lock : Needs (config_of code.lock).image small (hart_with 93) (needed.Ask (at 65536) 7)
unfolding is_writable
needs_lock = record { goes = refl; found = This lock; is_found = found_lock; needs = refl }

pub does_lock : (answer : ℕ) → Does (config_of code.lock).image small (hart_with 93) (needed.Ask (at 65536) 7) answer (after_need (hart_with 93) (This lock) (needed.Ask (at 65536) 7) answer)
unfolding is_writable
does_lock answer = record { goes = refl; found = This lock; is_found = found_lock; needs = refl; after = refl }

abbrev pub unlock : Instr
unlock = instr.Amo (record { op = amo.Swap; labels = record { aq = false; rl = true }; rd = 0; rs1 = 6; rs2 = 0; rd_in_range = omega arith; rs1_in_range = omega arith; rs2_in_range = omega arith; lr_has_no_source = λ e. absurd (swap_is_not_lr e) })

found_unlock : IsFound (config_of code.unlock).image 4096 (This unlock)
unfolding fetched word_among byte_among
found_unlock = refl

pub needs_unlock : Needs (config_of code.unlock).image small (hart_with 93) (needed.Unlock (at 65536))
unfolding is_writable
needs_unlock = record { goes = refl; found = This unlock; is_found = found_unlock; needs = refl }

pub does_unlock : (answer : ℕ) → Does (config_of code.unlock).image small (hart_with 93) (needed.Unlock (at 65536)) answer (after_need (hart_with 93) (This unlock) (needed.Unlock (at 65536)) answer)
unfolding is_writable
does_unlock answer = record { goes = refl; found = This unlock; is_found = found_unlock; needs = refl; after = refl }

pub does_put : Does (config_of code.ecall).image small (hart_with 1) (needed.Put 65) 0 (after_need (hart_with 1) (This ecall) (needed.Put 65) 0)
does_put = record { goes = refl; found = This ecall; is_found = found_ecall; needs = refl; after = refl }

pub needs_put : Needs (config_of code.ecall).image small (hart_with 1) (needed.Put 65)
needs_put = record { goes = refl; found = This ecall; is_found = found_ecall; needs = refl }
