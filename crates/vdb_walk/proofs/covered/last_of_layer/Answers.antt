use Rattle.vdb_walk.proofs.Common.{◌≡◌, subst, sym, true, block_around, Box, coord, everywhere, is_box, is_inside, is_within, Coord, both, inside_around, IsCoveredUpTo, node_of}
use Rattle.vdb_coord.proofs.Boxes.{box_from_inside}
use Rattle.vdb_walk.proofs.CoveredRuns.{block_covered, layer_covered, layer_inside}
use Rattle.vdb_walk.proofs.Surrounds.{max_inside}
use Rattle.vdb_walk.proofs.covered.last_of_layer.Goals as goal

pub returns-then-holds_both-clause-covered : goal.returns-then-holds_both-clause-covered
returns-then-holds_both-clause-covered c =
    let node : Box = node_of c.args.bits c.args.level c.args.p in
    let first : c.layer_corner-first.result ≡ coord c.args.p.x node.min.y node.min.z = rw (c.min-least.ensures.corner, c.node_around-node.ensures) at c.layer_corner-first.ensures in
    let last : c.layer_corner-last.result ≡ coord c.args.p.x node.max.y node.max.z = rw (c.max-most.ensures.corner, c.node_around-node.ensures) at c.layer_corner-last.ensures in
    subst (λ (q : Coord). IsCoveredUpTo c.args.bits c.args.around c.args.level c.args.p q) (sym last)
    (layer_covered c.args.bits c.args.level c.args.p c.requires.inside c.args.around c.requires.held
    (rw first at (c.holds_both.ensures.first c.if-holds_both.true)) (rw last at (c.holds_both.ensures.last c.if-holds_both.true)))

pub returns-then-holds_both-clause-inside : goal.returns-then-holds_both-clause-inside
returns-then-holds_both-clause-inside c =
    let n = c.node_around-node.result in
    let fits = (both (is_box n) (is_within n everywhere) c.max-most.ensures.bounds).1 in
    let corner : is_inside everywhere c.max-most.result ≡ true = rw c.max-most.ensures.corner (both (is_inside everywhere n.min) (is_inside everywhere n.max) fits).1 in
    layer_inside c.args.bits c.args.p c.max-most.result c.layer_corner-last.result c.requires.inside corner c.layer_corner-last.ensures

pub returns-else-holds_both-clause-covered : goal.returns-else-holds_both-clause-covered
returns-else-holds_both-clause-covered c =
    let block : Box = block_around c.args.bits c.args.level c.args.p in
    let own : is_inside block block.max ≡ true = max_inside block (box_from_inside block c.args.p (inside_around c.args.bits c.args.level c.args.p)) in
    block_covered c.args.bits c.args.level c.args.p c.requires.inside c.args.around c.requires.held c.args.end (subst (λ (q : Coord). is_inside block q ≡ true) (sym c.requires.end) own)
