-- The image of a file, by the list of its segments.
use Rattle.std.proofs.Common.{◌≡◌, ◌∙◌, ℕ, List, map, ap}
use Rattle.elf_load.specs.Header.{file_header}
use Rattle.elf_load.specs.Image.{ImageView}
use Rattle.elf_load.specs.Loader.{image_of, segment_of}
use Rattle.elf_load.specs.Table.{numbered_segments}
use Rattle.elf_load.specs.declared.segment_table.Numbered.{Numbered}
use Rattle.elf_load.proofs.Listed.{same_segments}

pub image_is : (bytes : List ℕ) (image : ImageView) (segments : List Numbered) → segments ≡ numbered_segments bytes
    → image ≡ record { entry = (file_header bytes).e_entry; segments = map (λ s. segment_of bytes s.header) segments } → image ≡ image_of bytes
unfolding image_of
image_is bytes image segments is made =
    let view : List Numbered → ImageView = λ xs. record { entry = (file_header bytes).e_entry; segments = map (λ s. segment_of bytes s.header) xs } in
    made ∙ ap view is ∙ (λ i. record { entry = (file_header bytes).e_entry; segments = same_segments (segment_of bytes) bytes i })
