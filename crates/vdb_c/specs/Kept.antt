-- What the pointer of a box owns.
use mir.Syntax.{Ty}
use base.Fml.{Fml, feq}
use denote.RattleType.{RattleType}
use denote.RawPtr.{Ptr, null_ptr}
use Rattle.std.specs.declared.option.Option.{Option}
use Rattle.std.specs.declared.option.Option.TheVariants.{None, Some}
use Rattle.std.specs.contracts.impls.GlobalAllocator.TheImpl.{ghosts}
use Rattle.std_alloc.specs.Box.Ownership.{box_owns}

-- the right to give a block of the program's heap back
abbrev pub freeing : Ty → Ptr → Fml
freeing = ghosts.dealloc_token (record { memory = record { seal = tt } })

-- the box with the value, or nothing behind a null pointer
abbrev pub owns_boxed : (Ty → Ptr → Fml) → (R : RattleType) → Ptr → Option R.Denot → Fml
owns_boxed frees R p None = feq Ptr p null_ptr
owns_boxed frees R p (Some x) = box_owns frees R p x
