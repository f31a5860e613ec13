-- Grids with equal trees.
use Rattle.vdb_c.proofs.Common.{refl, HasSameTree, AnyGrid}
use Rattle.vdb_scene.specs.declared.any_grid.AnyGrid.TheVariants.{Bool, I32, I64}

-- a grid has its own tree
pub same_tree : (g : AnyGrid) → HasSameTree g g
same_tree (Bool g) = refl
same_tree (I32 g) = refl
same_tree (I64 g) = refl
