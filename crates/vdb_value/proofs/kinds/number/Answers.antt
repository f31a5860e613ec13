-- A number that is read from eight bytes has these bytes.
use Rattle.std.proofs.Common.{◌≡◌, ℕ, ◌<◌, length, get_or, rules, SFits, w64}
use Rattle.std.proofs.lemmas.Int.{to_z-of_z}
use Rattle.vdb_value.proofs.Bytes.{signed_bytes_8}
use Rattle.vdb_value.proofs.kinds.number.Goals as goal

pub returns : goal.returns
returns c =
    let fits : SFits w64 c.from_be_bytes.result = search rules in
    let count : length c.args.bytes ≡ 8 = search rules in
    let bytes : (i : ℕ) → get_or c.args.bytes i 0 < 256 = λ i. search rules in
    simp to_z-of_z (signed_bytes_8 c.args.bytes c.from_be_bytes.result count bytes c.from_be_bytes.ensures)
