-- The faults that the fields of a file may have.
use Rattle.std.specs.Prelude.{⊤}
use Rattle.vdb_file.specs.declared.fault.LoadFault.{LoadFault}
use Rattle.vdb_file.specs.declared.fault.LoadFault.TheVariants as loads

-- a fault of a field after the version
abbrev pub IsInner : LoadFault → Type 0
IsInner loads.Magic = ⊥
IsInner loads.Version = ⊥
IsInner loads.Trailing = ⊥
IsInner fault = ⊤

-- a fault that reading the first field may give
abbrev pub IsMagicFault : LoadFault → Type 0
IsMagicFault loads.Version = ⊥
IsMagicFault loads.Trailing = ⊥
IsMagicFault fault = ⊤

-- a fault that reading the version may give
abbrev pub IsVersionFault : LoadFault → Type 0
IsVersionFault loads.Magic = ⊥
IsVersionFault loads.Trailing = ⊥
IsVersionFault fault = ⊤

-- a fault that reading some field may give
abbrev pub IsFieldFault : LoadFault → Type 0
IsFieldFault loads.Trailing = ⊥
IsFieldFault fault = ⊤

-- a fault of a name or of a metadata pair
abbrev pub IsOfForm : LoadFault → Type 0
IsOfForm loads.Name = ⊤
IsOfForm loads.Meta = ⊤
IsOfForm fault = ⊥
