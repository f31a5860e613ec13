use Rattle.vdb_file.proofs.Common.{◌≡◌, ◌∙◌, ◌≤◌, ℕ, ◌+◌, ◌-◌, List, ◌∷◌, [], ◌++◌, arith, ap, drop, length, length-drop, length-take-le, take, take-take, put_mid, same_len_mid, w16, to_be_bytes}
use Rattle.vdb_file.proofs.LeafVoxels.{part_kept}
use Rattle.vdb_file.proofs.saving.leaves.put_voxel.Goals as goal

-- the bytes are written in three parts, one after another
pub returns-clause-bytes : goal.returns-clause-bytes
returns-clause-bytes g c =
    let rest = drop 2 c.args.bytes.now in
    let number = to_be_bytes w16 c.args.i in
    let state = c.state_byte.result in
    let n = c.to_bytes-count.result in
    let one : List ℕ = c.copy_from_slice.new.self ++ rest in
    let two : List ℕ = put_mid 2 1 one c.copy_from_slice-2.new.self in
    let long = c.requires in
    let few = c.to_bytes-count.ensures.few in
    let first : c.copy_from_slice.new.self ≡ number = c.copy_from_slice.ensures.after ∙ c.to_be_bytes.ensures in
    let start : take 2 one ≡ number = ap (λ (l : List ℕ). take 2 (l ++ rest)) first in
    let one_long : length one ≡ 11 = let l = ap (λ (l : List ℕ). length (l ++ rest)) first in omega (arith, l, length-drop 2 c.args.bytes.now, long) in
    let next : take 3 two ≡ number ++ (state ∷ []) =
    part_kept 1 one c.copy_from_slice-2.new.self number (state ∷ []) 2 1 (omega (arith, one_long)) (ap length c.copy_from_slice-2.ensures.after) (omega arith) start (ap (take 1) c.copy_from_slice-2.ensures.after) in
    let two_long : length two ≡ 11 = same_len_mid 2 1 one c.copy_from_slice-2.new.self c.copy_from_slice-2.ensures.len ∙ one_long in
    let fits : 3 + n ≤ length two = omega (arith, two_long, few) in
    let whole : length c.copy_from_slice-3.new.self ≡ n =
    let l = c.copy_from_slice-3.ensures.len in let k = length-take-le (3 + n - 3) (drop 3 two) (omega (arith, length-drop 3 two, fits)) in omega (arith, l, k) in
    part_kept n two c.copy_from_slice-3.new.self (number ++ (state ∷ [])) (g.V.Voxel.bytes_of c.args.cell.value) 3 n fits whole (omega arith) next
    (ap (take n) c.copy_from_slice-3.ensures.after ∙ take-take n n c.to_bytes-count.new.bytes (omega arith) ∙ c.to_bytes-count.ensures.put)
    ∙ ap (λ (s : ℕ). number ++ (s ∷ g.V.Voxel.bytes_of c.args.cell.value)) c.state_byte.ensures
