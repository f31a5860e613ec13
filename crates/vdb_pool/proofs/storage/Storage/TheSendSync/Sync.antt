use Rattle.vdb_pool.proofs.Common.{RattleType, IsSync}
use Rattle.vdb_pool.proofs.Crossing.{Storage-sync}
use Rattle.vdb_pool.specs.contracts.storage.Storage.{the_row}

pub sync : (T : RattleType) → IsSync T → IsSync (the_row T)
sync = Storage-sync
