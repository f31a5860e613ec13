-- The holder of the entry in which a descent ends.
use Rattle.std.specs.Prelude.{◌≡◌, ℕ}
use Rattle.vdb_coord.specs.declared.Bits.{Bits}
use Rattle.vdb_coord.specs.declared.Coord.{Coord}
use Rattle.vdb_node.specs.declared.Entry.{Entry}
use Rattle.vdb_node.specs.declared.Entry.TheVariants.{Child}
use Rattle.vdb_tree.specs.Layout.{Layout, lower_entry, root_entry, upper_entry}
use Rattle.vdb_tree.specs.declared.queries.ends.Holder.{Holder}
use Rattle.vdb_tree.specs.declared.queries.ends.Holder.TheVariants.{Lower, Root, Upper}

-- how many nodes the path from the root to a holder has, with the holder
abbrev pub nodes_to : Holder → ℕ
nodes_to Root = 0
nodes_to (Upper slot) = 1
nodes_to (Lower slot) = 2

-- this holder is over p, and has this entry over p
abbrev pub IsHeldIn : {V : Type 0} → Bits → Layout V → Coord → Holder → Entry V → Type 0
IsHeldIn bits t p Root entry = root_entry bits t p ≡ entry
IsHeldIn bits t p (Upper slot) entry = (root_entry bits t p ≡ Child slot) × (upper_entry bits t p ≡ entry)
IsHeldIn bits t p (Lower slot) entry = (upper_entry bits t p ≡ Child slot) × (lower_entry bits t p ≡ entry)
