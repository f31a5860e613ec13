use Rattle.vdb_pool.proofs.Common.{◌≡◌, ◌/◌, ◌%◌, get_or, arith, sym, subst, ◌∙◌, mod-lt, div-add-mod'}
use Rattle.vdb_pool.proofs.Rows.{some_of, rows_at, chunk_of, whole_at}
use Rattle.vdb_pool.proofs.chunk.address_in.Goals as goal

pub bounds-chunks-chunk : goal.bounds-chunks-chunk
bounds-chunks-chunk g c =
    let a = c.args in
    rw c.chunk_and_index-chunk.ensures.chunk (chunk_of a.len a.chunks.now a.slot (some_of a.len a.most c.requires.all) c.requires.within)

pub place-requires : goal.place-requires
place-requires g c =
    let a = c.args in
    let number = c.chunk_and_index-chunk in
    let chunk = c.index-chunks-chunk.result in
    let is : chunk ≡ get_or a.chunks.now (a.slot / a.len) chunk = subst (λ k. chunk ≡ get_or a.chunks.now k chunk) number.ensures.chunk c.index-chunks-chunk.is in
    let whole = whole_at a.len a.chunks.now (a.slot / a.len) chunk c.requires.whole (chunk_of a.len a.chunks.now a.slot (some_of a.len a.most c.requires.all) c.requires.within) is in
    (sym whole.0, omega (arith, whole.1, number.ensures.index, mod-lt a.slot (some_of a.len a.most c.requires.all)))

pub returns : goal.returns
returns g c =
    let a = c.args in
    let number = c.chunk_and_index-chunk in
    let chunk = c.index-chunks-chunk.result in
    let is : chunk ≡ get_or a.chunks.now (a.slot / a.len) chunk = subst (λ k. chunk ≡ get_or a.chunks.now k chunk) number.ensures.chunk c.index-chunks-chunk.is in
    c.place.ensures
    ∙ rw number.ensures.index
    (sym (rows_at a.len a.chunks.now (a.slot / a.len) (a.slot % a.len) a.slot chunk (chunk_of a.len a.chunks.now a.slot (some_of a.len a.most c.requires.all) c.requires.within)
    (mod-lt a.slot (some_of a.len a.most c.requires.all)) (sym (div-add-mod' a.slot a.len)) is))
