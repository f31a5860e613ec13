use Rattle.vdb_file.proofs.Common.{◌≡◌, rules, on_ok_weaker, w32, number_bytes}
use Rattle.vdb_file.proofs.Outputs.{puts_same, puts_then}
use Rattle.vdb_file.proofs.saving.nodes.put_key.Goals as goal

pub returns-clause-puts : goal.returns-clause-puts
returns-clause-puts g c =
    let x : c.as_slice.result.now ≡ number_bytes w32 c.args.key.x = search rules in
    let y : c.as_slice-2.result.now ≡ number_bytes w32 c.args.key.y = search rules in
    let z : c.as_slice-3.result.now ≡ number_bytes w32 c.args.key.z = search rules in
    on_ok_weaker c.put-3.result
    (λ h. puts_then _ _ _ _ _ (puts_same _ _ _ _ x c.in_ok-put.ensures.puts) (puts_then _ _ _ _ _ (puts_same _ _ _ _ y c.in_ok-put-2.ensures.puts) (puts_same _ _ _ _ z h))) c.put-3.ensures.puts
