-- A write buffer as contracts see it: the entries, the oldest first, and how many there may be.
use Rattle.std.specs.Prelude.{ℕ, refl}
use Rattle.std.specs.Coded.{Coded, code_by, coded×, coded_ℕ}
use Rattle.circular_buffer.specs.Buffer.{Buffer, buffer_code}
use Rattle.write_buffer.specs.declared.entry.Entry.{Entry}

abbrev pub BufferView : Type 0
BufferView = Buffer Entry

-- an entry is stored as its four fields
abbrev pub entry_code : Coded Entry
entry_code =
    code_by ((ℕ × ℕ) × (ℕ × ℕ)) (coded× (coded× coded_ℕ coded_ℕ) (coded× coded_ℕ coded_ℕ)) (λ e. ((e.number, e.word.0), (e.mask, e.value))) (λ p. record { number = p.0.0; word = record { 0 = p.0.1 }; mask = p.1.0; value = p.1.1 }) (λ _. refl)

abbrev pub view_code : Coded BufferView
view_code = buffer_code entry_code
