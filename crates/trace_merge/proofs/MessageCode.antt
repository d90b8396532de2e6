-- The instructions of the written message passing, where they stand, and what they need.
use Rattle.std.proofs.Common.{◌≡◌, true, false, refl, arith, ◌∙◌}
use Rattle.std.specs.Prelude.{◌&&◌, if◌then◌else◌, pos, negsuc}
use Rattle.dash_base.specs.Topology.{IsSimple}
use Rattle.dash_base.specs.declared.instr.Instr.{Instr}
use Rattle.dash_base.specs.declared.instr.Instr.TheVariants as instr
use Rattle.dash_base.specs.declared.ops.AmoOp.TheVariants.{Lr, Swap}
use Rattle.dash_base.specs.declared.ops.BranchOp.TheVariants.{Beq, Bne}
use Rattle.dash_base.specs.declared.ops.StoreOp.TheVariants.{Sw}
use Rattle.dash_base.specs.declared.ops.LoadOp.TheVariants.{Lw}
use Rattle.dash_base.specs.declared.topology.Topology.{Topology}
use Rattle.elf_load.specs.Image.{fetched, word_among, byte_among, is_writable}
use Rattle.hart_core.specs.HartState.{HartState, reg}
use Rattle.hart_core.specs.Access.{trap_or, placed, lock_need, load_need, store_need, amo_need}
use Rattle.hart_core.specs.Meaning.{instr_need, IsFound}
use Rattle.hart_core.specs.declared.found.Found.TheVariants.{This, NoWord}
use Rattle.dash_base.specs.declared.need.Need.TheVariants as needed
use Rattle.dash_event.specs.Offered.{no_label, acquire_label, release_label}
use Rattle.trace_merge.specs.WrittenLogs.{message_image}
use Rattle.trace_merge.proofs.Written.{outside_locks, access_clear}
use Rattle.rv32_alu.specs.Arithmetic.{moved_by}
use Rattle.hart_core.specs.declared.width.Width.TheVariants as width

-- its instructions
unfoldable pub skip : Instr
skip = instr.Branch (record { op = Bne; rs1 = 10; rs2 = 0; offset = pos 12; rs1_in_range = omega arith; rs2_in_range = omega arith; offset_in_range = record { fits = record { low = omega arith; high = omega arith }; even = refl } })

unfoldable pub write : Instr
write = instr.Store (record { op = Sw; rs1 = 0; rs2 = 11; offset = pos 64; rs1_in_range = omega arith; rs2_in_range = omega arith; offset_in_range = record { low = omega arith; high = omega arith } })

unfoldable pub release : Instr
release = instr.Amo (record { op = Swap; labels = release_label; rd = 0; rs1 = 0; rs2 = 11; rd_in_range = omega arith; rs1_in_range = omega arith; rs2_in_range = omega arith; lr_has_no_source = λ e. absurd cc })

unfoldable pub acquire : Instr
acquire = instr.Amo (record { op = Lr; labels = acquire_label; rd = 12; rs1 = 0; rs2 = 0; rd_in_range = omega arith; rs1_in_range = omega arith; rs2_in_range = omega arith; lr_has_no_source = λ e. refl })

unfoldable pub again : Instr
again = instr.Branch (record { op = Beq; rs1 = 12; rs2 = 0; offset = negsuc 3; rs1_in_range = omega arith; rs2_in_range = omega arith; offset_in_range = record { fits = record { low = omega arith; high = omega arith }; even = refl } })

unfoldable pub read : Instr
read = instr.Load (record { op = Lw; rd = 13; rs1 = 0; offset = pos 64; rd_in_range = omega arith; rs1_in_range = omega arith; offset_in_range = record { low = omega arith; high = omega arith } })

-- where they stand
pub skip_found : IsFound message_image 4096 (This skip)
unfolding skip fetched word_among byte_among
skip_found = refl

pub write_found : IsFound message_image 4100 (This write)
unfolding write fetched word_among byte_among
write_found = refl

pub release_found : IsFound message_image 4104 (This release)
unfolding release fetched word_among byte_among
release_found = refl

pub acquire_found : IsFound message_image 4108 (This acquire)
unfolding acquire fetched word_among byte_among
acquire_found = refl

pub again_found : IsFound message_image 4112 (This again)
unfolding again fetched word_among byte_among
again_found = refl

pub read_found : IsFound message_image 4116 (This read)
unfolding read fetched word_among byte_among
read_found = refl

pub end_found : IsFound message_image 4120 NoWord
unfolding fetched
end_found = refl

-- what they need of memory, in a hart whose register 0 is 0
module _ (t : Topology) (s : IsSimple 2 1 8 t) (h : HartState) (zero_is : reg h 0 ≡ 0) where
  pub write_need : instr_need message_image t h write ≡ needed.Store (record { 0 = 64 }) 15 (placed 0 4 (reg h 11))
  unfolding write is_writable
  write_need = (λ j. store_need message_image t (moved_by (zero_is j) (pos 64)) width.Word (reg h 11))
      ∙ (λ j. trap_or (access_clear 2 1 8 t s message_image true 64 4 refl (omega arith) (omega arith) refl j) 64 (needed.Store (record { 0 = 64 }) 15 (placed 0 4 (reg h 11))))

  pub release_need : instr_need message_image t h release ≡ needed.Rmw (record { 0 = 0 }) Swap (reg h 11) release_label
  unfolding release is_writable
  release_need = (λ j. amo_need message_image t (zero_is j) Swap release_label (reg h 11))
      ∙ (λ j. if true && outside_locks 2 1 8 t s 0 (omega arith) j then lock_need 0 Swap release_label (reg h 11)
      else trap_or (access_clear 2 1 8 t s message_image true 0 4 refl (omega arith) (omega arith) refl j) 0 (needed.Rmw (record { 0 = 0 }) Swap (reg h 11) release_label))

  pub acquire_need : instr_need message_image t h acquire ≡ needed.Load (record { 0 = 0 }) 15 acquire_label true
  unfolding acquire
  acquire_need = (λ j. amo_need message_image t (zero_is j) Lr acquire_label (reg h 0))
      ∙ (λ j. trap_or (access_clear 2 1 8 t s message_image false 0 4 refl (omega arith) (omega arith) refl j) 0 (needed.Load (record { 0 = 0 }) 15 acquire_label true))

  pub read_need : instr_need message_image t h read ≡ needed.Load (record { 0 = 64 }) 15 no_label false
  unfolding read
  read_need = (λ j. load_need message_image t (moved_by (zero_is j) (pos 64)) width.Word)
      ∙ (λ j. trap_or (access_clear 2 1 8 t s message_image false 64 4 refl (omega arith) (omega arith) refl j) 64 (needed.Load (record { 0 = 64 }) 15 no_label false))
