use Rattle.vdb_tree.proofs.Common.{◌≡◌, Bool, true, false, refl, not, bits_of}
use Rattle.vdb_tree.proofs.PartWalks.{background_skipped, inactive_skipped}
use Rattle.vdb_tree.proofs.tree.TreeOf.is_skipped.Goals as goal

off_if_not : (b : Bool) → not b ≡ true → b ≡ false
off_if_not false h = refl
off_if_not true h = cc

pub returns-in-Background : goal.returns-in-Background
returns-in-Background g c = λ h.
    rw c.in-Background.is (background_skipped (bits_of g.row.U g.row.L g.row.F) c.args.self.now c.args.level c.args.p c.args.cell c.requires (c.is_background.ensures.0 h))

pub returns-in-Inactive : goal.returns-in-Inactive
returns-in-Inactive g c = λ h.
    rw c.in-Inactive.is (inactive_skipped (bits_of g.row.U g.row.L g.row.F) c.args.self.now c.args.level c.args.p c.args.cell c.requires (off_if_not c.args.cell.on h))
