-- The program of the generated workload, word by word.
use Rattle.std.specs.Prelude.{ℕ, ◌+◌, ◌*◌, ◌/◌, ◌%◌, ◌^◌, List, [], ◌∷◌, ◌++◌, flat_map}
use Rattle.byteorder.specs.Endian.{little_bytes}
use Rattle.elf_load.specs.Image.{ImageView}
use Rattle.rv32_decode.specs.Layout.{b_type, i_type, r_type, s_type, u_type}

-- its instructions, by the operands as assembly has them; immediates in two's complement
abbrev pub lui : ℕ → ℕ → ℕ
lui rd imm = u_type imm rd 0b0110111

abbrev pub addi : ℕ → ℕ → ℕ → ℕ
addi rd rs1 imm = i_type imm rs1 0b000 rd 0b0010011

abbrev pub slli : ℕ → ℕ → ℕ → ℕ
slli rd rs1 amount = i_type amount rs1 0b001 rd 0b0010011

abbrev pub srli : ℕ → ℕ → ℕ → ℕ
srli rd rs1 amount = i_type amount rs1 0b101 rd 0b0010011

abbrev pub andi : ℕ → ℕ → ℕ → ℕ
andi rd rs1 imm = i_type imm rs1 0b111 rd 0b0010011

abbrev pub add : ℕ → ℕ → ℕ → ℕ
add rd rs1 rs2 = r_type 0 rs2 rs1 0b000 rd 0b0110011

abbrev pub mul : ℕ → ℕ → ℕ → ℕ
mul rd rs1 rs2 = r_type 1 rs2 rs1 0b000 rd 0b0110011

abbrev pub lw : ℕ → ℕ → ℕ → ℕ
lw rd imm rs1 = i_type imm rs1 0b010 rd 0b0000011

abbrev pub sw : ℕ → ℕ → ℕ → ℕ
sw rs2 imm rs1 = s_type imm rs2 rs1 0b010 0b0100011

abbrev pub amoswap_aq : ℕ → ℕ → ℕ → ℕ
amoswap_aq rd rs2 rs1 = r_type 0b0000110 rs2 rs1 0b010 rd 0b0101111

abbrev pub amoswap_rl : ℕ → ℕ → ℕ → ℕ
amoswap_rl rd rs2 rs1 = r_type 0b0000101 rs2 rs1 0b010 rd 0b0101111

abbrev pub bne : ℕ → ℕ → ℕ → ℕ
bne rs1 rs2 offset = b_type offset rs2 rs1 0b001 0b1100011

abbrev pub ecall : ℕ
ecall = i_type 0 0 0b000 0 0b1110011

-- a number into a register: its upper 20 bits, rounded, and its lower 12 as a signed number
abbrev pub upper_part : ℕ → ℕ
upper_part value = (value + 2048) / 4096 * 4096 % 2 ^ 32

abbrev pub li : ℕ → ℕ → List ℕ
li rd value = lui rd (upper_part value) ∷ addi rd rd (value % 4096) ∷ []

-- s1 (x9) is the hart's number by the seed; s2 and s3 (x18, x19) make the next one of it, s4 and s5 (x20, x21) are where counters and lock words begin, s6 (x22) counts turns, s7 (x23) is 1
abbrev pub opening_words : ℕ → List ℕ
opening_words seed =
    li 9 seed ++ li 5 2654435761 ++ (mul 5 5 10 ∷ add 9 9 5 ∷ [])
    ++ li 18 1664525 ++ li 19 1013904223 ++ li 20 32768 ++ li 21 65536
    ++ (addi 22 0 468 ∷ addi 23 0 1 ∷ [])

-- a turn: the next number; t2 (x7) is where its counter stands, t3 (x28) the lock word, t4 (x29) what is added; between Ask and Unlock the counter is loaded, added to and stored
abbrev pub turn_words : List ℕ
turn_words =
    mul 9 9 18 ∷ add 9 9 19
    ∷ srli 6 9 26 ∷ slli 7 6 4 ∷ add 7 7 20 ∷ slli 28 6 2 ∷ add 28 28 21 ∷ srli 29 9 16 ∷ andi 29 29 255
    ∷ amoswap_aq 30 23 28 ∷ lw 31 0 7 ∷ add 31 31 29 ∷ sw 31 0 7 ∷ amoswap_rl 0 0 28
    ∷ addi 22 22 4095 ∷ bne 22 0 8132 ∷ []

-- the end: exit with code 0
abbrev pub closing_words : List ℕ
closing_words = addi 10 0 0 ∷ addi 17 0 93 ∷ ecall ∷ []

abbrev pub words : ℕ → List ℕ
words seed = opening_words seed ++ turn_words ++ closing_words

-- their bytes, the lowest of each first
abbrev pub code_of : ℕ → List ℕ
code_of seed = flat_map (little_bytes 4) (words seed)

-- the image: one segment at its entry, which may be read and executed
abbrev pub image_of : ℕ → ImageView
image_of seed = record {
  entry = 4096;
  segments = record { vaddr = 4096; memsz = 140; flags = 5; bytes = code_of seed } ∷ [];
}
