use Rattle.vdb_file.proofs.loading.block_head.take_entry_number.Goals as goal

pub returns-clause-reads : goal.returns-clause-reads
returns-clause-reads g c = rw c.entries-most.ensures at c.take_index.ensures.reads
