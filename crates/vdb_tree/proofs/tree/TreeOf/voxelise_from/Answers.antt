use Rattle.vdb_tree.proofs.tree.TreeOf.voxelise_from.Goals as goal

pub returns-in-None-clause-made : goal.returns-in-None-clause-made
returns-in-None-clause-made g c = c.voxelise_tile.ensures.made c.in-None.ensures.active
