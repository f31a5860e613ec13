use Rattle.vdb_pool.proofs.Common.{RattleType, IsSend}
use Rattle.vdb_pool.proofs.Crossing.{Storage-send}
use Rattle.vdb_pool.specs.contracts.storage.Storage.{the_row}

pub send : (T : RattleType) → IsSend T → IsSend (the_row T)
send = Storage-send
