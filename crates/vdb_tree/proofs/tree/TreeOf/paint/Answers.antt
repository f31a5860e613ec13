use Rattle.vdb_tree.proofs.Common.{◌≡◌, refl, subst, sym, false, meets, Box, Coord, Level, Tile, Cell, fill, Layout, bits_of, entry_over, field_of, IsCovered, IsSplit}
use Rattle.vdb_tree.proofs.KeysPast.{fewer_beyond}
use Rattle.vdb_tree.proofs.PaintedRoots.{next_at_first, painted_again, painted_apart, painted_field, painted_tiles, roots_next, roots_none, roots_split}
use Rattle.vdb_tree.proofs.tree.TreeOf.paint.Goals as goal

pub loop-key-init : goal.loop-key-init
loop-key-init g c = (roots_none (bits_of g.row.U g.row.L g.row.F) c.args.bounds c.args.cell c.args.self.now, c.requires.edges.tiles)

pub loop-key-smaller : goal.loop-key-smaller
loop-key-smaller g c =
    let first = next_at_first (bits_of g.row.U g.row.L g.row.F) c.args.bounds c.args.cell c.args.self.now c.loop-key.self c.loop-key.passed c.in-Some.key c.loop-key.invariant.0 c.in-Some.ensures.next in
    fewer_beyond c.args.self.now.root c.loop-key.passed c.in-Some.key first.0 first.1

pub loop-key-preserved : goal.loop-key-preserved
loop-key-preserved g c =
    let bits = bits_of g.row.U g.row.L g.row.F in
    let new = c.paint_next_root.new.self in
    let made = c.in-Some.ensures in (
      roots_next bits c.args.bounds c.args.cell c.args.self.now c.requires.edges.entered c.loop-key.self new c.loop-key.passed c.in-Some.key c.loop-key.invariant.0 made.next made.outside made.painted made.table made.entered,
      roots_split bits c.args.bounds c.args.cell c.args.self.now c.requires.edges.entered c.loop-key.self new c.loop-key.passed c.in-Some.key c.loop-key.invariant.0 made.next made.outside made.painted made.table made.entered c.loop-key.invariant.1,
    )

pub returns-clause-field : goal.returns-clause-field
returns-clause-field g c =
    let bits = bits_of g.row.U g.row.L g.row.F in
    subst (λ (t : Layout g.row.V.Denot). field_of bits t ≡ fill c.args.bounds c.args.cell (field_of bits c.args.self.now)) (sym (c.in_default.ensures.none refl))
    (painted_field bits c.args.bounds c.args.cell c.args.self.now c.requires.edges.entered c.loop-key.self c.loop-key.passed c.loop-key.invariant.0 c.in_default.ensures.next)

pub returns-clause-limit : goal.returns-clause-limit
returns-clause-limit g c =
    subst (λ (t : Layout g.row.V.Denot). t.limit ≡ c.args.self.now.limit) (sym (c.in_default.ensures.none refl)) c.loop-key.invariant.0.head.limit

pub returns-clause-tiles : goal.returns-clause-tiles
returns-clause-tiles g c =
    let bits = bits_of g.row.U g.row.L g.row.F in
    subst (λ (t : Layout g.row.V.Denot). (level : Level) (p : Coord) → IsCovered bits c.args.bounds level p → entry_over bits level t p ≡ Tile c.args.cell) (sym (c.in_default.ensures.none refl))
    (painted_tiles bits c.args.bounds c.args.cell c.args.self.now c.requires.edges.entered c.loop-key.self c.loop-key.passed c.loop-key.invariant.0 c.in_default.ensures.next)

pub returns-clause-apart : goal.returns-clause-apart
returns-clause-apart g c =
    let bits = bits_of g.row.U g.row.L g.row.F in
    subst
    (λ (t : Layout g.row.V.Denot). (box : Box) (other : Cell g.row.V.Denot) → meets c.args.bounds box ≡ false → IsSplit bits box other c.args.self.now → IsSplit bits box other t)
    (sym (c.in_default.ensures.none refl))
    (painted_apart bits c.args.bounds c.args.cell c.args.self.now c.requires.edges.entered c.loop-key.self c.loop-key.passed c.loop-key.invariant.0 c.in_default.ensures.next)

pub returns-clause-again : goal.returns-clause-again
returns-clause-again g c =
    let bits = bits_of g.row.U g.row.L g.row.F in
    subst (λ (t : Layout g.row.V.Denot). (box : Box) → IsSplit bits box c.args.cell c.args.self.now → IsSplit bits box c.args.cell t) (sym (c.in_default.ensures.none refl))
    (painted_again bits c.args.bounds c.args.cell c.args.self.now c.requires.edges.entered c.loop-key.self c.loop-key.passed c.loop-key.invariant.0 c.in_default.ensures.next c.loop-key.invariant.1)
