use Rattle.vdb_pool.proofs.Common.{RattleType, IsSend, Ghosts, the_row}
use denote.Param.Send.{Frees}
use Rattle.vdb_pool.proofs.Crossing.{Block-send}

pub send : (T A : RattleType) (g : Ghosts A.Denot) → IsSend T → IsSend A → Frees g g.dealloc_token → IsSend (the_row T A g)
send T A g st sa f = Block-send T A g f
