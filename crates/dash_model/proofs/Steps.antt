-- The invariant of a line, and what a step has to show to keep it.
use Rattle.std.proofs.Common.{◌≡◌, ℕ}
use Rattle.dash_base.specs.declared.line.Line.{Line}
use Rattle.dash_model.proofs.LineState.{State}
use Rattle.dash_model.proofs.Facts.{Place, Facts, Cover, Contents, NoneToRead}

-- what is known of cluster x, where the line has content v and its token is at p
pub record Known (h : ℕ) (v : Line) (s : State) (p : Place) (x : ℕ) : Type 0 where
  pub facts : Facts h s p x
  pub covered : Cover s p x
  pub contents : Contents s p v x

-- the invariant of a line with content v
pub record Invariant (h : ℕ) (v : Line) (s : State) : Type 0 where
  pub place : Place
  pub known : (x : ℕ) → Known h v s place x

-- a step from state s, with the token at p, to state t, with the token at q, keeps what is known of each cluster x, and leaves it without anything to read that has weight, where the current content has none
pub record Keeps (h : ℕ) (v : Line) (s : State) (p : Place) (t : State) (q : Place) : Type 0 where
  pub facts : (x : ℕ) → Facts h s p x → Facts h t q x
  pub covered : (x : ℕ) → Facts h s p x → Cover s p x → Cover t q x
  pub contents : (x : ℕ) → Facts h s p x → Contents s p v x → Contents t q v x
  pub reading : (b : Line → ℕ) → b v ≡ 0 → (x : ℕ) → Facts h s p x → NoneToRead b s x → NoneToRead b t x

-- and where it needs what is known of cluster c
pub record KeepsBy (h : ℕ) (v : Line) (s : State) (p : Place) (t : State) (q : Place) (c : ℕ) : Type 0 where
  pub facts : (x : ℕ) → Facts h s p x → Facts h s p c → Facts h t q x
  pub covered : (x : ℕ) → Facts h s p x → Facts h s p c → Cover s p x → Cover t q x
  pub contents : (x : ℕ) → Facts h s p x → Facts h s p c → Contents s p v x → Contents s p v c → Contents t q v x
  pub reading : (b : Line → ℕ) → b v ≡ 0 → (x : ℕ) → Facts h s p x → Facts h s p c → Contents s p v c → NoneToRead b s x → NoneToRead b t x

-- and of cluster d too
pub record KeepsByTwo (h : ℕ) (v : Line) (s : State) (p : Place) (t : State) (q : Place) (c d : ℕ) : Type 0 where
  pub facts : (x : ℕ) → Facts h s p x → Facts h s p c → Facts h s p d → Facts h t q x
  pub covered : (x : ℕ) → Facts h s p x → Facts h s p c → Facts h s p d → Cover s p x → Cover t q x
  pub contents : (x : ℕ) → Facts h s p x → Facts h s p c → Facts h s p d → Contents s p v x → Contents s p v c → Contents s p v d → Contents t q v x
  pub reading : (b : Line → ℕ) → b v ≡ 0 → (x : ℕ) → Facts h s p x → Facts h s p c → Facts h s p d → Contents s p v c → NoneToRead b s x → NoneToRead b t x

-- what holds after a step: the invariant, and what was not there to read is not there
pub record Stepped (h : ℕ) (v u : Line) (s t : State) : Type 0 where
  pub invariant : Invariant h u t
  pub reading : (b : Line → ℕ) → b v ≡ 0 → (x : ℕ) → NoneToRead b s x → NoneToRead b t x

-- so it does after such a step
pub kept : {h : ℕ} {v : Line} {s : State} {p : Place} {t : State} {q : Place} → Keeps h v s p t q → ((x : ℕ) → Known h v s p x) → Stepped h v v s t
kept {q = q} r k = record {
  invariant = record { place = q; known = λ x. record { facts = r.facts x (k x).facts; covered = r.covered x (k x).facts (k x).covered; contents = r.contents x (k x).facts (k x).contents } };
  reading = λ b now x. r.reading b now x (k x).facts;
}

pub kept_by : {h : ℕ} {v : Line} {s : State} {p : Place} {t : State} {q : Place} {c : ℕ} → KeepsBy h v s p t q c → ((x : ℕ) → Known h v s p x) → Stepped h v v s t
kept_by {q = q} {c = c} r k = record {
  invariant = record {
    place = q;
    known = λ x. record { facts = r.facts x (k x).facts (k c).facts; covered = r.covered x (k x).facts (k c).facts (k x).covered; contents = r.contents x (k x).facts (k c).facts (k x).contents (k c).contents };
  };
  reading = λ b now x. r.reading b now x (k x).facts (k c).facts (k c).contents;
}

pub kept_by_two : {h : ℕ} {v : Line} {s : State} {p : Place} {t : State} {q : Place} {c d : ℕ} → KeepsByTwo h v s p t q c d → ((x : ℕ) → Known h v s p x) → Stepped h v v s t
kept_by_two {q = q} {c = c} {d = d} r k = record {
  invariant = record {
    place = q;
    known = λ x. record { facts = r.facts x (k x).facts (k c).facts (k d).facts; covered = r.covered x (k x).facts (k c).facts (k d).facts (k x).covered; contents = r.contents x (k x).facts (k c).facts (k d).facts (k x).contents (k c).contents (k d).contents };
  };
  reading = λ b now x. r.reading b now x (k x).facts (k c).facts (k d).facts (k c).contents;
}
