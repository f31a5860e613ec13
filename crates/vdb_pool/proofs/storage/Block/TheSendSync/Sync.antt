use Rattle.vdb_pool.proofs.Common.{RattleType, IsSync, Ghosts, the_row}
use Rattle.vdb_pool.proofs.Crossing.{Block-sync}

pub sync : (T A : RattleType) (g : Ghosts A.Denot) → IsSync T → IsSync A → IsSync (the_row T A g)
sync T A g yt ya = Block-sync T A g
