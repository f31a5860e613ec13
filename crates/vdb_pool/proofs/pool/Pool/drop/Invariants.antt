use Rattle.vdb_pool.proofs.Common.{◌≡◌, ◌≤◌, ◌<◌, ◌^◌, [], length, AreWhole, rows_of}
use Rattle.vdb_pool.proofs.pool.Pool.drop.Given as goal

abbrev pub invariant-loop-slot : goal.invariant-loop-slot
invariant-loop-slot g l = record {
  count : l.slot ≡ length l.storage.items;
  within : l.slot ≤ length l.storage.places;
  places : l.storage.places ≡ rows_of l.len l.chunks.items;
  whole : AreWhole l.len l.chunks.items;
  fits : length l.storage.places < 2 ^ 32;
}

abbrev pub decreases-loop-slot : goal.decreases-loop-slot
decreases-loop-slot g l = l.slot

abbrev pub invariant-loop-chunk : goal.invariant-loop-chunk
invariant-loop-chunk g l = record {
  items : l.storage.items ≡ [];
  places : l.storage.places ≡ rows_of l.len l.chunks.items;
  whole : AreWhole l.len l.chunks.items;
  fits : length l.storage.places < 2 ^ 32;
}

abbrev pub decreases-loop-chunk : goal.decreases-loop-chunk
decreases-loop-chunk g l = l.chunks.len
