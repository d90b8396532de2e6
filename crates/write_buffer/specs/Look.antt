-- What waiting stores say of a word.
use Rattle.std.specs.Prelude.{ℕ, Bool, ◌==◌, List, reverse, find, Option, Some, None, if◌then◌else◌}
use Rattle.std.specs.Int.Bits.{bit_and}
use Rattle.write_buffer.specs.declared.entry.Entry.{Entry}
use Rattle.write_buffer.specs.declared.entry.Look.{Look}
use Rattle.write_buffer.specs.declared.entry.Look.TheVariants.{None as NoStore, Hit, Wait}

-- whether an entry has the word
abbrev pub has_word : ℕ → Entry → Bool
has_word word e = e.word.0 == word

-- the newest entry that has the word, if one has it
unfoldable pub newest_of : ℕ → List Entry → Option Entry
newest_of word es = find (has_word word) (reverse es)

-- whether a mask has every byte of another, which are its bits
abbrev pub covers : ℕ → ℕ → Bool
covers mask asked = bit_and mask asked == asked

-- what a load of the asked bytes is told where this is the newest entry that has their word
abbrev pub look_by : Option Entry → ℕ → Look
look_by None asked = NoStore
look_by (Some e) asked = if covers e.mask asked then Hit e.value e.number else Wait
