-- A `&` to a block says where it lies and how long it is. Assumes `Logic`.
use Rattle.vdb_pool.proofs.Common.{RattleType, RawPtr, Laws, copy_shared, said, said_shr_laws, field_copy, of_Lends, Ghosts, block_says}
use denote.Struct.Lending.{Lends-first, Lends-said, in_block_pure}
use Rattle.core.specs.contracts.marker.PhantomData as marker
use Rattle.vdb_pool.specs.contracts.storage.Block as block
use Rattle.vdb_pool.proofs.storage.Block.TheLaw.Statement.{statement}

pub shares : (R A : RattleType) (g : Ghosts A.Denot) (L : Laws R) (P : Laws A) → statement R A g L P
shares R A g L P =
    let codes = block.the_codes R.Denot A.Denot R.coded A.coded (marker.the_row RawPtr).coded in
    of_Lends (block.struct R A g) codes (block.the_heap R A g) (block.the_lent R A g)
    (λ b p. said_shr_laws (block_says R b.at b.len b.stride) (tt, (tt, in_block_pure b.at)))
    (copy_shared (marker.the_field RawPtr) (field_copy (marker.the_type RawPtr) tt), tt)
    (λ M 𝓤 𝓛 b p. Lends-first 𝓛 (block_says R b.at b.len b.stride) _ (said (block_says R b.at b.len b.stride)) (block.the_row R A g).lives
    (Lends-said 𝓛 (block_says R b.at b.len b.stride) (tt, (tt, in_block_pure b.at)) (block.the_row R A g).lives))
