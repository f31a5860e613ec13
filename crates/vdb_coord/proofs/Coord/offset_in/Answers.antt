-- Three positions along the axes make an offset.
use Rattle.vdb_coord.proofs.Common.{◌≡◌, ◌+◌, ◌*◌, ◌<◌, ◌≤◌, ◌^◌, ◌%◌, SFits, w32, rules, arith, sym, ◌∙◌, pow_mono, to_z-of_z}
use Rattle.vdb_coord.proofs.Positions.{joined, node_bits_fit, offset_below, offset_is, shifted}
use Rattle.vdb_coord.proofs.Coord.offset_in.Goals as goal

-- the sums of the code, and that they are small
parts : (c : goal.After-digit-z) → let n = 2 ^ c.node_bits-node.result in
    ((c.digit-x.result * n % 4294967296 + c.digit-y.result) * n % 4294967296 + c.digit-z.result ≡ joined n c.digit-x.result c.digit-y.result c.digit-z.result)
    × (joined n c.digit-x.result c.digit-y.result c.digit-z.result < 32768) × (c.digit-x.result * n % 4294967296 ≡ c.digit-x.result * n) × (c.digit-x.result * n + c.digit-y.result < 1024)
parts c =
    let few = node_bits_fit c.args.bits c.args.level c.requires in
    let small : 2 ^ c.node_bits-node.result ≤ 2 ^ 5 = rw c.node_bits-node.ensures (pow_mono few) in
    shifted c.digit-x.result c.digit-y.result c.digit-z.result (2 ^ c.node_bits-node.result) small c.digit-x.ensures.bound c.digit-y.ensures.bound c.digit-z.ensures.bound

pub overflow_add-result : goal.overflow_add-result
overflow_add-result c = let p = parts c in let same = p.2 in let small = p.3 in record { fits = omega (arith, same, small) }

pub overflow_add-result-2 : goal.overflow_add-result-2
overflow_add-result-2 c = let p = parts c in let same = p.0 in let small = p.1 in record { fits = omega (arith, same, small) }

pub overflow_cast-result : goal.overflow_cast-result
overflow_cast-result c = let p = parts c in let same = p.0 in let small = p.1 in record { fits = omega (arith, same, small) }

pub returns-clause-value : goal.returns-clause-value
returns-clause-value c =
    let fx : SFits w32 c.args.self.x = search rules in
    let fy : SFits w32 c.args.self.y = search rules in
    let fz : SFits w32 c.args.self.z = search rules in
    let ex = simp to_z-of_z at c.digit-x.ensures.value in
    let ey = simp to_z-of_z at c.digit-y.ensures.value in
    let ez = simp to_z-of_z at c.digit-z.ensures.value in
    (parts c).0 ∙ rw (ex, ey, ez, c.entry_bits-low.ensures, c.node_bits-node.ensures) (sym (offset_is c.args.bits c.args.level c.args.self))

pub returns-clause-bound : goal.returns-clause-bound
returns-clause-bound c = rw (returns-clause-value c) (offset_below c.args.bits c.args.level c.args.self)
