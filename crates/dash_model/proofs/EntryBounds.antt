-- The sharers that a directory's entry names rise, and are clusters of the machine: so they are no more than there are. Each row keeps that, whatever it is told of acknowledgements.
use Rattle.std.proofs.Common.{◌≡◌, ℕ, suc, ◌+◌, ◌≤◌, ◌<◌, ◌==◌, ◌&&◌, Bool, true, false, cond, nat_lt, Some, List, [], ◌∷◌, length, refl, arith}
use Rattle.std.proofs.lemmas.Bool.Decides.{nat_tests}
use Rattle.dash_base.specs.declared.line.Line.{Line}
use Rattle.dash_base.specs.declared.id.LineId.{LineId}
use Rattle.dash_msg.specs.declared.msg.Msg.{Msg}
use Rattle.dash_msg.specs.declared.msg.Msg.TheVariants.{Read, ReadEx, FwdRead, FwdReadEx, WriteBack, SharingBack, Transfer}
use Rattle.dash_model.specs.Maps.{with_member}
use Rattle.dash_model.specs.Cell.{Copy, Held, Acks, NoAcks, Entry, Uncached, SharedBy, Dirty, Cell, Home}
use Rattle.dash_model.specs.LineEffect.{LineEffect, still}
use Rattle.dash_model.specs.Requests.{read_row, own_row, give_read, give_own, is_dirty_of, write_back_row, sharing_back_row, transfer_row}
use Rattle.dash_model.specs.LineRows.{take_row}

-- a rising list of numbers from lo on, below n
abbrev pub Strict : ℕ → ℕ → List ℕ → Type 0
Strict lo n [] = lo ≤ n
Strict lo n (c ∷ cs) = (lo ≤ c) × (c < n) × Strict (suc c) n cs

strict_with_cases : (f x lo n : ℕ) (cs : List ℕ) (i j : Bool) → (x == f) ≡ i → nat_lt f x ≡ j → lo ≤ f → f < n → Strict lo n (x ∷ cs)
    → (suc x ≤ f → Strict (suc x) n (with_member f cs)) → Strict lo n (cond i (x ∷ cs) (cond j (f ∷ x ∷ cs) (x ∷ with_member f cs)))
strict_with_cases f x lo n cs true j e g l b s ih = s
strict_with_cases f x lo n cs false true e g l b s ih = (l, b, (grind (arith, nat_tests), s.1, s.2))
strict_with_cases f x lo n cs false false e g l b s ih = (s.0, s.1, ih (grind (arith, nat_tests)))

pub strict-with : (f lo n : ℕ) (cs : List ℕ) → lo ≤ f → f < n → Strict lo n cs → Strict lo n (with_member f cs)
unfolding with_member
strict-with f lo n [] l b s = (l, b, omega arith)
strict-with f lo n (x ∷ cs) l b s = strict_with_cases f x lo n cs (x == f) (nat_lt f x) refl refl l b s (λ m. strict-with f (suc x) n cs m b s.2)

pub strict-length : (lo n : ℕ) (cs : List ℕ) → Strict lo n cs → length cs + lo ≤ n
strict-length lo n [] s = omega arith
strict-length lo n (c ∷ cs) s = let ih = strict-length (suc c) n cs s.2 in let a = s.0 in omega arith

abbrev pub EntryBounded : ℕ → Entry → Type 0
EntryBounded n (SharedBy cs) = Strict 0 n cs
EntryBounded n e = Unit {0}

-- the cluster that a message makes a sharer beside its source is one of n
abbrev pub SharesIn : ℕ → Msg → Type 0
SharesIn n (SharingBack l d r) = r.0 < n
SharesIn n m = Unit {0}

read_entry : (n : ℕ) (l : LineId) (f : ℕ) (e : Entry) (a : Cell) (b : Home) → f < n → EntryBounded n e → EntryBounded n b.entry → EntryBounded n (read_row l f e a b).home.entry
read_entry n l f Uncached a b h e g = (omega arith, h, h)
read_entry n l f (SharedBy cs) a b h e g = strict-with f 0 n cs (omega arith) h e
read_entry n l f (Dirty o) a b h e g = g

own_entry : (n : ℕ) (l : LineId) (f : ℕ) (e : Entry) (a : Cell) (b : Home) → EntryBounded n b.entry → EntryBounded n (own_row l f e a b).home.entry
own_entry n l f Uncached a b g = tt
own_entry n l f (SharedBy cs) a b g = tt
own_entry n l f (Dirty o) a b g = g

give_read_entry : (n : ℕ) (l : LineId) (h r : ℕ) (c : Copy) (k : Acks) (a : Cell) (b : Home) → EntryBounded n b.entry → EntryBounded n (give_read l h r c k a b).home.entry
give_read_entry n l h r (Held hs (Some o) d) NoAcks a b e = e
give_read_entry n l h r _ _ a b e = e

give_own_entry : (n : ℕ) (l : LineId) (h r : ℕ) (c : Copy) (k : Acks) (a : Cell) (b : Home) → EntryBounded n b.entry → EntryBounded n (give_own l h r c k a b).home.entry
give_own_entry n l h r (Held hs (Some o) d) NoAcks a b e = e
give_own_entry n l h r _ _ a b e = e

write_back_entry : (n : ℕ) (d : Line) (i : Bool) (a : Cell) (b : Home) → EntryBounded n b.entry → EntryBounded n (write_back_row d i a b).home.entry
write_back_entry n d true a b e = tt
write_back_entry n d false a b e = e

sharing_back_entry : (n f : ℕ) (d : Line) (r : ℕ) (i : Bool) (a : Cell) (b : Home) → f < n → r < n → EntryBounded n b.entry → EntryBounded n (sharing_back_row f d r i a b).home.entry
sharing_back_entry n f d r true a b h k e = strict-with f 0 n (r ∷ []) (omega arith) h (omega arith, k, k)
sharing_back_entry n f d r false a b h k e = e

transfer_entry : (n : ℕ) (l : LineId) (r : ℕ) (i : Bool) (a : Cell) (b : Home) → EntryBounded n b.entry → EntryBounded n (transfer_row l r i a b).home.entry
transfer_entry n l r true a b e = tt
transfer_entry n l r false a b e = e

entry_if : (n : ℕ) (i : Bool) (d e : LineEffect) → EntryBounded n d.home.entry → EntryBounded n e.home.entry → EntryBounded n (cond i d e).home.entry
entry_if n true d e h k = h
entry_if n false d e h k = k

-- each message of a line that is taken from one of n clusters
pub take_entry : (n k h c f : ℕ) (m : Msg) (a : Cell) (b : Home) → f < n → SharesIn n m → EntryBounded n b.entry → EntryBounded n (take_row k h c f m a b).home.entry
take_entry n k h c f (Read l) a b s i e = entry_if n (c == h) (read_row l f b.entry a b) (still a b) (read_entry n l f b.entry a b s e e) e
take_entry n k h c f (ReadEx l) a b s i e = entry_if n (c == h) (own_row l f b.entry a b) (still a b) (own_entry n l f b.entry a b e) e
take_entry n k h c f (FwdRead l r) a b s i e = give_read_entry n l h r.0 a.copy a.acks a b e
take_entry n k h c f (FwdReadEx l r) a b s i e = give_own_entry n l h r.0 a.copy a.acks a b e
take_entry n k h c f (WriteBack l d) a b s i e = write_back_entry n d ((c == h) && is_dirty_of f b.entry) a b e
take_entry n k h c f (SharingBack l d r) a b s i e = sharing_back_entry n f d r.0 ((c == h) && is_dirty_of f b.entry) a b s i e
take_entry n k h c f (Transfer l r) a b s i e = transfer_entry n l r.0 ((c == h) && is_dirty_of f b.entry) a b e
take_entry n k h c f _ a b s i e = e
