-- The instructions of the equations of the table, as words; and the accesses that hart 2 makes with them.
use Rattle.std.specs.Prelude.{ℕ, true, false, Option, None, Some}
use Rattle.dash_base.specs.declared.instr.Labels.{Labels}
use Rattle.dash_event.specs.declared.access.Access.{Access}
use Rattle.dash_event.specs.declared.access.Op.{Op}
use Rattle.dash_event.specs.declared.access.Op.TheVariants as op
use Rattle.dash_event.specs.declared.access.Seen.{Seen}
use Rattle.dash_event.specs.declared.access.Seen.TheVariants as seen
use Rattle.dash_event.specs.declared.event.Kind.{Kind}
use Rattle.dash_event.specs.declared.event.Kind.TheVariants as kind
use Rattle.write_buffer.specs.declared.entry.Entry.{Entry as Stored}
use Rattle.dash_model.specs.Config.{hart_id}
use Rattle.dash_model.specs.TableParts.{at, line}

-- addi t3,t2,1
abbrev pub addi : ℕ
addi = 0x00138e13

-- fence w,w waits
abbrev pub fence_writes : ℕ
fence_writes = 0x0110000f

-- fence r,r does not wait
abbrev pub fence_reads : ℕ
fence_reads = 0x0220000f

-- prefetch.i 96(zero), of line 6
abbrev pub prefetch_i : ℕ
prefetch_i = 0x06006013

-- prefetch.r 96(zero)
abbrev pub prefetch_r : ℕ
prefetch_r = 0x06106013

-- prefetch.w 96(zero)
abbrev pub prefetch_w : ℕ
prefetch_w = 0x06306013

-- prefetch.w 0(t1), which is not in memory
abbrev pub prefetch_outside : ℕ
prefetch_outside = 0x00336013

-- ecall: the low byte of a0 to the console where a7 is 1, the end with the code a0 where it is 93
abbrev pub ecall : ℕ
ecall = 0x00000073

-- ebreak, a trap
abbrev pub ebreak : ℕ
ebreak = 0x00100073

-- lw t3,100(zero), of line 6
abbrev pub lw : ℕ
lw = 0x06402e03

-- lw t3,352(zero), of line 22
abbrev pub lw_other : ℕ
lw_other = 0x16002e03

-- sw t2,100(zero)
abbrev pub sw : ℕ
sw = 0x06702223

-- lr.w t3,(t0)
abbrev pub lr : ℕ
lr = 0x1002ae2f

-- sc.w t3,t2,(t0)
abbrev pub sc : ℕ
sc = 0x1872ae2f

-- amoadd.w t3,t2,(t0)
abbrev pub amoadd : ℕ
amoadd = 0x0072ae2f

-- amoadd.w.rl t3,t2,(t0)
abbrev pub amoadd_rl : ℕ
amoadd_rl = 0x0272ae2f

-- amoswap.w.aq t3,t2,(t1), which asks for the lock word
abbrev pub lock : ℕ
lock = 0x0c732e2f

-- amoswap.w.rl zero,zero,(t1), which gives it back
abbrev pub unlock : ℕ
unlock = 0x0a03202f

-- no label
abbrev pub plain : Labels
plain = record { aq = false; rl = false }

-- rl alone
abbrev pub release : Labels
release = record { aq = false; rl = true }

-- an access by hart 2's next instruction of the word at address 100
abbrev pub access : Op → Labels → Option ℕ → Option ℕ → Seen → Access
access what labels read written shown =
    record { hart = hart_id 2; number = 4; op = what; labels = labels; word = at 100; mask = 15; read = read; written = written; seen = shown }

-- a load
abbrev pub loads : ℕ → ℕ → Seen → Kind
loads level read shown = kind.Load (access op.Load plain (Some read) None shown) level

-- an LR
abbrev pub reserves : ℕ → ℕ → Seen → Kind
reserves level read shown = kind.Load (access op.Reserve plain (Some read) None shown) level

-- a store
abbrev pub stores : ℕ → Kind
stores value = kind.Store (access op.Store plain None (Some value) seen.Nothing)

-- an atomic addition in line 6, which is shown the version 7
abbrev pub adds : Labels → ℕ → ℕ → ℕ → Kind
adds labels read written version =
    kind.Rmw (access op.Amo labels (Some read) (Some written) (seen.Line 7)) line version

-- an SC that writes
abbrev pub swaps : Kind
swaps = kind.Rmw (access op.Cond plain None (Some 7) (seen.Line 7)) line 8

-- an SC that does not
abbrev pub fails : Kind
fails = kind.ScFail (access op.Cond plain None None seen.Nothing)

-- a store that waits in hart 2's buffer: to the lower half of the word at address 100
abbrev pub half : Stored
half = record { number = 1; word = at 100; mask = 3; value = 9 }

-- one to the whole word
abbrev pub whole : Stored
whole = record { number = 2; word = at 100; mask = 15; value = 9 }

-- one to the word at address 8, of line 0
abbrev pub far_away : Stored
far_away = record { number = 3; word = at 8; mask = 15; value = 9 }
