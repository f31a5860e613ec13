-- The abstract answer that an answer shows.
use Rattle.std.specs.Prelude.{◌≡◌, option_map}
use Rattle.vdb_coord.specs.Space.{Box}
use Rattle.vdb_coord.specs.declared.Coord.{Coord}
use Rattle.vdb_scene.specs.Listings.{voxels_of}
use Rattle.vdb_scene.specs.Slices.{rows_left}
use Rattle.vdb_scene.specs.Replies.{Reply, listing}
use Rattle.vdb_scene.specs.Replies as replies
use Rattle.vdb_scene.specs.declared.answer.Answer.{Answer}
use Rattle.vdb_scene.specs.declared.answer.Answer.TheVariants.{Done, Refused, Value, List, Slice, Count, Bounds, Census, Pairs}

-- the box between two corners
abbrev pub box_of_corners : Coord × Coord → Box
box_of_corners corners = record { min = corners.0; max = corners.1 }

-- the answer shows this one
abbrev pub Shows : Answer → Reply → Type 0
Shows Done reply = reply ≡ replies.Done
Shows (Refused r) reply = reply ≡ replies.Refused r
Shows (Value v on) reply = reply ≡ replies.Value (record { value = v; on = on })
Shows (List v) reply = reply ≡ listing v.limit (voxels_of v)
Shows (Slice s) reply = reply ≡ replies.Slice (rows_left s)
Shows (Count active) reply = reply ≡ replies.Count active
Shows (Bounds corners) reply = reply ≡ replies.Bounds (option_map box_of_corners corners)
Shows (Census counts) reply = reply ≡ replies.Census counts
Shows (Pairs metas) reply = reply ≡ replies.Pairs metas.now
