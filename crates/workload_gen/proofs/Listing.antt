-- The instructions of the generated workload, and where they stand.
use Rattle.std.proofs.Common.{ℕ, arith, refl}
use Rattle.std.specs.Prelude.{pos, negsuc}
use Rattle.dash_base.specs.declared.instr.Instr.{Instr}
use Rattle.dash_base.specs.declared.instr.Instr.TheVariants as instr
use Rattle.dash_base.specs.declared.ops.AluOp.TheVariants as alu
use Rattle.dash_base.specs.declared.ops.AmoOp.TheVariants.{Swap}
use Rattle.dash_base.specs.declared.ops.BranchOp.TheVariants.{Bne}
use Rattle.dash_base.specs.declared.ops.LoadOp.TheVariants.{Lw}
use Rattle.dash_base.specs.declared.ops.StoreOp.TheVariants.{Sw}
use Rattle.elf_load.specs.Image.{fetched, word_among, byte_among}
use Rattle.hart_core.specs.Meaning.{IsFound}
use Rattle.hart_core.specs.declared.found.Found.TheVariants.{This}
use Rattle.dash_event.specs.Offered.{acquire_label, release_label}
use Rattle.workload_gen.specs.Program.{image_of}

unfoldable pub factor_upper : Instr
factor_upper = instr.Lui (record { rd = 5; imm = 2654437376; rd_in_range = omega arith; imm_in_range = omega arith; imm_is_upper = refl })

pub factor_upper_found : (seed : ℕ) → IsFound (image_of seed) 4104 (This factor_upper)
unfolding factor_upper fetched word_among byte_among
factor_upper_found seed = refl

unfoldable pub factor_lower : Instr
factor_lower = instr.OpImm (record { op = alu.Add; rd = 5; rs1 = 5; imm = negsuc 1614; has_form = refl; rd_in_range = omega arith; rs1_in_range = omega arith; imm_in_range = record { low = omega arith; high = omega arith } })

pub factor_lower_found : (seed : ℕ) → IsFound (image_of seed) 4108 (This factor_lower)
unfolding factor_lower fetched word_among byte_among
factor_lower_found seed = refl

unfoldable pub spread : Instr
spread = instr.Op (record { op = alu.Mul; rd = 5; rs1 = 5; rs2 = 10; rd_in_range = omega arith; rs1_in_range = omega arith; rs2_in_range = omega arith })

pub spread_found : (seed : ℕ) → IsFound (image_of seed) 4112 (This spread)
unfolding spread fetched word_among byte_among
spread_found seed = refl

unfoldable pub begin : Instr
begin = instr.Op (record { op = alu.Add; rd = 9; rs1 = 9; rs2 = 5; rd_in_range = omega arith; rs1_in_range = omega arith; rs2_in_range = omega arith })

pub begin_found : (seed : ℕ) → IsFound (image_of seed) 4116 (This begin)
unfolding begin fetched word_among byte_among
begin_found seed = refl

unfoldable pub multiplier_upper : Instr
multiplier_upper = instr.Lui (record { rd = 18; imm = 1662976; rd_in_range = omega arith; imm_in_range = omega arith; imm_is_upper = refl })

pub multiplier_upper_found : (seed : ℕ) → IsFound (image_of seed) 4120 (This multiplier_upper)
unfolding multiplier_upper fetched word_among byte_among
multiplier_upper_found seed = refl

unfoldable pub multiplier_lower : Instr
multiplier_lower = instr.OpImm (record { op = alu.Add; rd = 18; rs1 = 18; imm = pos 1549; has_form = refl; rd_in_range = omega arith; rs1_in_range = omega arith; imm_in_range = record { low = omega arith; high = omega arith } })

pub multiplier_lower_found : (seed : ℕ) → IsFound (image_of seed) 4124 (This multiplier_lower)
unfolding multiplier_lower fetched word_among byte_among
multiplier_lower_found seed = refl

unfoldable pub increment_upper : Instr
increment_upper = instr.Lui (record { rd = 19; imm = 1013903360; rd_in_range = omega arith; imm_in_range = omega arith; imm_is_upper = refl })

pub increment_upper_found : (seed : ℕ) → IsFound (image_of seed) 4128 (This increment_upper)
unfolding increment_upper fetched word_among byte_among
increment_upper_found seed = refl

unfoldable pub increment_lower : Instr
increment_lower = instr.OpImm (record { op = alu.Add; rd = 19; rs1 = 19; imm = pos 863; has_form = refl; rd_in_range = omega arith; rs1_in_range = omega arith; imm_in_range = record { low = omega arith; high = omega arith } })

pub increment_lower_found : (seed : ℕ) → IsFound (image_of seed) 4132 (This increment_lower)
unfolding increment_lower fetched word_among byte_among
increment_lower_found seed = refl

unfoldable pub counters_at_upper : Instr
counters_at_upper = instr.Lui (record { rd = 20; imm = 32768; rd_in_range = omega arith; imm_in_range = omega arith; imm_is_upper = refl })

pub counters_at_upper_found : (seed : ℕ) → IsFound (image_of seed) 4136 (This counters_at_upper)
unfolding counters_at_upper fetched word_among byte_among
counters_at_upper_found seed = refl

unfoldable pub counters_at_lower : Instr
counters_at_lower = instr.OpImm (record { op = alu.Add; rd = 20; rs1 = 20; imm = pos 0; has_form = refl; rd_in_range = omega arith; rs1_in_range = omega arith; imm_in_range = record { low = omega arith; high = omega arith } })

pub counters_at_lower_found : (seed : ℕ) → IsFound (image_of seed) 4140 (This counters_at_lower)
unfolding counters_at_lower fetched word_among byte_among
counters_at_lower_found seed = refl

unfoldable pub locks_at_upper : Instr
locks_at_upper = instr.Lui (record { rd = 21; imm = 65536; rd_in_range = omega arith; imm_in_range = omega arith; imm_is_upper = refl })

pub locks_at_upper_found : (seed : ℕ) → IsFound (image_of seed) 4144 (This locks_at_upper)
unfolding locks_at_upper fetched word_among byte_among
locks_at_upper_found seed = refl

unfoldable pub locks_at_lower : Instr
locks_at_lower = instr.OpImm (record { op = alu.Add; rd = 21; rs1 = 21; imm = pos 0; has_form = refl; rd_in_range = omega arith; rs1_in_range = omega arith; imm_in_range = record { low = omega arith; high = omega arith } })

pub locks_at_lower_found : (seed : ℕ) → IsFound (image_of seed) 4148 (This locks_at_lower)
unfolding locks_at_lower fetched word_among byte_among
locks_at_lower_found seed = refl

unfoldable pub count : Instr
count = instr.OpImm (record { op = alu.Add; rd = 22; rs1 = 0; imm = pos 468; has_form = refl; rd_in_range = omega arith; rs1_in_range = omega arith; imm_in_range = record { low = omega arith; high = omega arith } })

pub count_found : (seed : ℕ) → IsFound (image_of seed) 4152 (This count)
unfolding count fetched word_among byte_among
count_found seed = refl

unfoldable pub one : Instr
one = instr.OpImm (record { op = alu.Add; rd = 23; rs1 = 0; imm = pos 1; has_form = refl; rd_in_range = omega arith; rs1_in_range = omega arith; imm_in_range = record { low = omega arith; high = omega arith } })

pub one_found : (seed : ℕ) → IsFound (image_of seed) 4156 (This one)
unfolding one fetched word_among byte_among
one_found seed = refl

unfoldable pub multiply : Instr
multiply = instr.Op (record { op = alu.Mul; rd = 9; rs1 = 9; rs2 = 18; rd_in_range = omega arith; rs1_in_range = omega arith; rs2_in_range = omega arith })

pub multiply_found : (seed : ℕ) → IsFound (image_of seed) 4160 (This multiply)
unfolding multiply fetched word_among byte_among
multiply_found seed = refl

unfoldable pub increase : Instr
increase = instr.Op (record { op = alu.Add; rd = 9; rs1 = 9; rs2 = 19; rd_in_range = omega arith; rs1_in_range = omega arith; rs2_in_range = omega arith })

pub increase_found : (seed : ℕ) → IsFound (image_of seed) 4164 (This increase)
unfolding increase fetched word_among byte_among
increase_found seed = refl

unfoldable pub choose : Instr
choose = instr.OpImm (record { op = alu.Srl; rd = 6; rs1 = 9; imm = pos 26; has_form = refl; rd_in_range = omega arith; rs1_in_range = omega arith; imm_in_range = record { low = omega arith; high = omega arith } })

pub choose_found : (seed : ℕ) → IsFound (image_of seed) 4168 (This choose)
unfolding choose fetched word_among byte_among
choose_found seed = refl

unfoldable pub counter_offset : Instr
counter_offset = instr.OpImm (record { op = alu.Sll; rd = 7; rs1 = 6; imm = pos 4; has_form = refl; rd_in_range = omega arith; rs1_in_range = omega arith; imm_in_range = record { low = omega arith; high = omega arith } })

pub counter_offset_found : (seed : ℕ) → IsFound (image_of seed) 4172 (This counter_offset)
unfolding counter_offset fetched word_among byte_among
counter_offset_found seed = refl

unfoldable pub counter_address : Instr
counter_address = instr.Op (record { op = alu.Add; rd = 7; rs1 = 7; rs2 = 20; rd_in_range = omega arith; rs1_in_range = omega arith; rs2_in_range = omega arith })

pub counter_address_found : (seed : ℕ) → IsFound (image_of seed) 4176 (This counter_address)
unfolding counter_address fetched word_among byte_among
counter_address_found seed = refl

unfoldable pub lock_offset : Instr
lock_offset = instr.OpImm (record { op = alu.Sll; rd = 28; rs1 = 6; imm = pos 2; has_form = refl; rd_in_range = omega arith; rs1_in_range = omega arith; imm_in_range = record { low = omega arith; high = omega arith } })

pub lock_offset_found : (seed : ℕ) → IsFound (image_of seed) 4180 (This lock_offset)
unfolding lock_offset fetched word_among byte_among
lock_offset_found seed = refl

unfoldable pub lock_address : Instr
lock_address = instr.Op (record { op = alu.Add; rd = 28; rs1 = 28; rs2 = 21; rd_in_range = omega arith; rs1_in_range = omega arith; rs2_in_range = omega arith })

pub lock_address_found : (seed : ℕ) → IsFound (image_of seed) 4184 (This lock_address)
unfolding lock_address fetched word_among byte_among
lock_address_found seed = refl

unfoldable pub shift : Instr
shift = instr.OpImm (record { op = alu.Srl; rd = 29; rs1 = 9; imm = pos 16; has_form = refl; rd_in_range = omega arith; rs1_in_range = omega arith; imm_in_range = record { low = omega arith; high = omega arith } })

pub shift_found : (seed : ℕ) → IsFound (image_of seed) 4188 (This shift)
unfolding shift fetched word_among byte_among
shift_found seed = refl

unfoldable pub cut : Instr
cut = instr.OpImm (record { op = alu.And; rd = 29; rs1 = 29; imm = pos 255; has_form = refl; rd_in_range = omega arith; rs1_in_range = omega arith; imm_in_range = record { low = omega arith; high = omega arith } })

pub cut_found : (seed : ℕ) → IsFound (image_of seed) 4192 (This cut)
unfolding cut fetched word_among byte_among
cut_found seed = refl

unfoldable pub ask : Instr
ask = instr.Amo (record { op = Swap; labels = acquire_label; rd = 30; rs1 = 28; rs2 = 23; rd_in_range = omega arith; rs1_in_range = omega arith; rs2_in_range = omega arith; lr_has_no_source = λ e. absurd cc })

pub ask_found : (seed : ℕ) → IsFound (image_of seed) 4196 (This ask)
unfolding ask fetched word_among byte_among
ask_found seed = refl

unfoldable pub load : Instr
load = instr.Load (record { op = Lw; rd = 31; rs1 = 7; offset = pos 0; rd_in_range = omega arith; rs1_in_range = omega arith; offset_in_range = record { low = omega arith; high = omega arith } })

pub load_found : (seed : ℕ) → IsFound (image_of seed) 4200 (This load)
unfolding load fetched word_among byte_among
load_found seed = refl

unfoldable pub sum : Instr
sum = instr.Op (record { op = alu.Add; rd = 31; rs1 = 31; rs2 = 29; rd_in_range = omega arith; rs1_in_range = omega arith; rs2_in_range = omega arith })

pub sum_found : (seed : ℕ) → IsFound (image_of seed) 4204 (This sum)
unfolding sum fetched word_among byte_among
sum_found seed = refl

unfoldable pub store : Instr
store = instr.Store (record { op = Sw; rs1 = 7; rs2 = 31; offset = pos 0; rs1_in_range = omega arith; rs2_in_range = omega arith; offset_in_range = record { low = omega arith; high = omega arith } })

pub store_found : (seed : ℕ) → IsFound (image_of seed) 4208 (This store)
unfolding store fetched word_among byte_among
store_found seed = refl

unfoldable pub unlock : Instr
unlock = instr.Amo (record { op = Swap; labels = release_label; rd = 0; rs1 = 28; rs2 = 0; rd_in_range = omega arith; rs1_in_range = omega arith; rs2_in_range = omega arith; lr_has_no_source = λ e. absurd cc })

pub unlock_found : (seed : ℕ) → IsFound (image_of seed) 4212 (This unlock)
unfolding unlock fetched word_among byte_among
unlock_found seed = refl

unfoldable pub count_down : Instr
count_down = instr.OpImm (record { op = alu.Add; rd = 22; rs1 = 22; imm = negsuc 0; has_form = refl; rd_in_range = omega arith; rs1_in_range = omega arith; imm_in_range = record { low = omega arith; high = omega arith } })

pub count_down_found : (seed : ℕ) → IsFound (image_of seed) 4216 (This count_down)
unfolding count_down fetched word_among byte_among
count_down_found seed = refl

unfoldable pub again : Instr
again = instr.Branch (record { op = Bne; rs1 = 22; rs2 = 0; offset = negsuc 59; rs1_in_range = omega arith; rs2_in_range = omega arith; offset_in_range = record { fits = record { low = omega arith; high = omega arith }; even = refl } })

pub again_found : (seed : ℕ) → IsFound (image_of seed) 4220 (This again)
unfolding again fetched word_among byte_among
again_found seed = refl

unfoldable pub code : Instr
code = instr.OpImm (record { op = alu.Add; rd = 10; rs1 = 0; imm = pos 0; has_form = refl; rd_in_range = omega arith; rs1_in_range = omega arith; imm_in_range = record { low = omega arith; high = omega arith } })

pub code_found : (seed : ℕ) → IsFound (image_of seed) 4224 (This code)
unfolding code fetched word_among byte_among
code_found seed = refl

unfoldable pub call_number : Instr
call_number = instr.OpImm (record { op = alu.Add; rd = 17; rs1 = 0; imm = pos 93; has_form = refl; rd_in_range = omega arith; rs1_in_range = omega arith; imm_in_range = record { low = omega arith; high = omega arith } })

pub call_number_found : (seed : ℕ) → IsFound (image_of seed) 4228 (This call_number)
unfolding call_number fetched word_among byte_among
call_number_found seed = refl

unfoldable pub call : Instr
call = instr.Ecall

pub call_found : (seed : ℕ) → IsFound (image_of seed) 4232 (This call)
unfolding call fetched word_among byte_among
call_found seed = refl
