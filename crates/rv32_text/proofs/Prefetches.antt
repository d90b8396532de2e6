-- The operations on a register and an immediate, which may be prefetches: the mnemonic and the operands tell the word.
use Rattle.std.proofs.Common.{◌≡◌, ℕ, ◌-ℤ◌, ℤ, pos, Option, Some, None, ap, sym, ◌∙◌, arith}
use Rattle.std.proofs.lemmas.Fmt.{signed_decimal_injective}
use Rattle.std.proofs.lemmas.Int.{ints}
use Rattle.dash_base.specs.declared.instr.Instr.TheVariants as instr
use Rattle.dash_base.specs.declared.instr.OpImm.{OpImm}
use Rattle.dash_base.specs.declared.ops.AluOp.TheVariants.{Or}
use Rattle.rv32_decode.specs.Hints.{low_bits, offset_of, prefetch_kind}
use Rattle.rv32_decode.specs.Layout.{word_of}
use Rattle.dash_base.specs.declared.need.HintKind.{HintKind}
use Rattle.dash_base.specs.declared.need.HintKind.TheVariants.{Fetch, Shared, Exclusive}
use Rattle.rv32_text.proofs.Numbers.{small_immediate, small_offset}
use Rattle.rv32_text.proofs.Operands.{immediate_mnemonic, immediate_operands}
use Rattle.rv32_text.proofs.Pieces.{same_register}

-- the low bits that a kind of prefetch has
abbrev low_of : HintKind → ℕ
low_of Fetch = 0
low_of Shared = 1
low_of Exclusive = 3

record IsPrefetch (i : OpImm) (kind : HintKind) : Type 0 where
  op : i.op ≡ Or
  rd : i.rd ≡ 0
  low : low_bits i.imm ≡ low_of kind

is_prefetch : (i : OpImm) (kind : HintKind) → prefetch_kind i ≡ Some kind → IsPrefetch i kind
is_prefetch i kind e = record { op = grind arith; rd = grind arith; low = grind arith }

same_sum : (y z : ℤ) (m n : ℕ) → y -ℤ pos m ≡ z -ℤ pos n → m ≡ n → y ≡ z
same_sum y z m n e low = omega (arith, ints)

pub one_immediate : (a b : OpImm) (k l : Option HintKind) → prefetch_kind a ≡ k → prefetch_kind b ≡ l
    → immediate_mnemonic a.op k ≡ immediate_mnemonic b.op l → immediate_operands a k ≡ immediate_operands b l
    → word_of (instr.OpImm a) ≡ word_of (instr.OpImm b)
one_immediate a b None None a_kind b_kind name e =
    let op : a.op ≡ b.op = cc in
    let rd = same_register a.rd b.rd a.rd_in_range b.rd_in_range (cc) in
    let rs1 = same_register a.rs1 b.rs1 a.rs1_in_range b.rs1_in_range (cc) in
    let a_small = small_immediate a.op a.imm a.imm_in_range in
    let b_small = small_immediate b.op b.imm b.imm_in_range in
    let imm = signed_decimal_injective a.imm b.imm a_small b_small (cc) in
    cc
one_immediate a b (Some k) (Some l) a_kind b_kind name e =
    let is_a = is_prefetch a k a_kind in
    let is_b = is_prefetch b l b_kind in
    let kind : k ≡ l = cc in
    let op : a.op ≡ b.op = is_a.op ∙ sym is_b.op in
    let rd : a.rd ≡ b.rd = is_a.rd ∙ sym is_b.rd in
    let low : low_bits a.imm ≡ low_bits b.imm = is_a.low ∙ ap low_of kind ∙ sym is_b.low in
    let rs1 = same_register a.rs1 b.rs1 a.rs1_in_range b.rs1_in_range (cc) in
    let a_small = small_offset a.op a.imm a.imm_in_range in
    let b_small = small_offset b.op b.imm b.imm_in_range in
    let offset = signed_decimal_injective (offset_of a.imm) (offset_of b.imm) a_small b_small (cc) in
    let imm = same_sum a.imm b.imm (low_bits a.imm) (low_bits b.imm) offset low in
    cc
one_immediate a b k l a_kind b_kind name e = absurd (cc)
