-- What a slot has.
use Rattle.std.specs.Prelude.{Option, Some, None}
use Rattle.vdb_pool.specs.declared.slot.Slot.{Slot}
use Rattle.vdb_pool.specs.declared.slot.Slot.TheVariants.{Vacant, Held}

-- the node, if the slot is held
abbrev pub node_of : {T : Type 0} → Slot T → Option T
node_of (Vacant _) = None
node_of (Held node) = Some node
