-- The state of the sequential machine: all harts over one memory. It has no cache, buffer, message or cluster.
use Rattle.std.specs.Prelude.{ℕ, List, [], Option, None}
use Rattle.dash_base.specs.declared.topology.Topology.{Topology}
use Rattle.elf_load.specs.Image.{ImageView, opening_word}
use Rattle.hart_core.specs.HartState.{HartState}
use Rattle.hart_core.specs.Opening.{opening_hart}

-- each hart by its number, and the address of the word that it has reserved; the word of memory and the lock word at each address; and the bytes that were put on the console
pub record FlatState : Type 0 where
  pub harts : ℕ → HartState
  pub reservations : ℕ → Option ℕ
  pub memory : ℕ → ℕ
  pub locks : ℕ → ℕ
  pub console : List ℕ

-- the state in which a run begins: memory is the image, each lock word is 0, and nothing is reserved
abbrev pub opening_state : ImageView → Topology → FlatState
opening_state image t = record {
  harts = λ h. opening_hart image t h;
  reservations = λ h. None;
  memory = λ address. opening_word image address;
  locks = λ address. 0;
  console = [];
}
