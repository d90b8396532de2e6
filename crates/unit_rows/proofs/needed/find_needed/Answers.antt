use Rattle.unit_rows.proofs.needed.find_needed.Goals as goal

pub returns : goal.returns
returns c = record { copy = c.needed_copy-copy.ensures.needed; write = c.needed_write-write.ensures.needed; store = c.needed_store-store.ensures.needed }
