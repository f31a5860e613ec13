use Rattle.vdb_pool.proofs.Common.{◌≡◌, suc, ◌*◌, ◌+◌, List, [], ◌∷◌, ◌++◌, length, take, refl, ap, subst, ◌∙◌, arith, length-append, suc-mul, Ptr, row_from, AreWhole, rows_of}
use Rattle.std.proofs.Common.{drop}
use lib.Seq.{take_at, drop_at}
use Rattle.vdb_pool.proofs.Rows.{length-rows, rows_push, whole_last}
use Rattle.vdb_pool.proofs.pool.Pool.drop.Goals as goal

pub overflow_mul-len : goal.overflow_mul-len
overflow_mul-len g c =
    let before = c.loop-chunk.chunks in let after = c.pop-in-loop-chunk.new.self in
    let all : length c.loop-chunk.storage.places ≡ length before.items * c.self.inside.len = ap length c.loop-chunk.invariant.places ∙ length-rows c.self.inside.len before.items in
    let cut : length before.items ≡ length after.items + 1 = ap length c.in-Some.ensures.items ∙ length-append after.items (c.in-Some.chunk ∷ []) in
    let long = after.ok.0 in let len_is = c.len.ensures in let fits = c.loop-chunk.invariant.fits in
    let count : c.len.result ≡ length after.items = omega arith in
    let one_less : length before.items ≡ suc (c.len.result) = omega arith in
    omega (arith, suc-mul c.len.result c.self.inside.len, ap (λ n. n * c.self.inside.len) one_less)

pub deallocate-requires : goal.deallocate-requires
deallocate-requires g c =
    let before = c.loop-chunk.chunks in let after = c.pop-in-loop-chunk.new.self in let chunk = c.in-Some.chunk in
    let row : List Ptr = row_from chunk.block.stride chunk.base.pointer c.self.inside.len in
    let parts : c.loop-chunk.storage.places ≡ rows_of c.self.inside.len after.items ++ row = c.loop-chunk.invariant.places ∙ ap (rows_of c.self.inside.len) c.in-Some.ensures.items ∙ rows_push c.self.inside.len after.items chunk in
    let long = after.ok.0 in let len_is = c.len.ensures in
    let at : length (rows_of c.self.inside.len after.items) ≡ c.len.result * c.self.inside.len = length-rows c.self.inside.len after.items ∙ ap (λ n. n * c.self.inside.len) (omega arith) in
    let whole = whole_last c.self.inside.len after.items chunk (subst (AreWhole c.self.inside.len) c.in-Some.ensures.items c.loop-chunk.invariant.whole) in (
      c.split_off-freed.ensures.tail.0 ∙ ap (drop (c.len.result * c.self.inside.len)) parts ∙ drop_at (rows_of c.self.inside.len after.items) row (c.len.result * c.self.inside.len) at,
      c.split_off-freed.ensures.tail.1,
      whole.1.0,
      whole.1.1,
      refl,
    )

pub loop-chunk-preserved : goal.loop-chunk-preserved
loop-chunk-preserved g c =
    let before = c.loop-chunk.chunks in let after = c.pop-in-loop-chunk.new.self in let chunk = c.in-Some.chunk in
    let row : List Ptr = row_from chunk.block.stride chunk.base.pointer c.self.inside.len in
    let parts : c.loop-chunk.storage.places ≡ rows_of c.self.inside.len after.items ++ row = c.loop-chunk.invariant.places ∙ ap (rows_of c.self.inside.len) c.in-Some.ensures.items ∙ rows_push c.self.inside.len after.items chunk in
    let long = after.ok.0 in let len_is = c.len.ensures in
    let at : length (rows_of c.self.inside.len after.items) ≡ c.len.result * c.self.inside.len = length-rows c.self.inside.len after.items ∙ ap (λ n. n * c.self.inside.len) (omega arith) in
    let whole = whole_last c.self.inside.len after.items chunk (subst (AreWhole c.self.inside.len) c.in-Some.ensures.items c.loop-chunk.invariant.whole) in
    let left : c.split_off-freed.new.self.places ≡ rows_of c.self.inside.len after.items = c.split_off-freed.ensures.rest.0 ∙ ap (take (c.len.result * c.self.inside.len)) parts ∙ take_at (rows_of c.self.inside.len after.items) row (c.len.result * c.self.inside.len) at in
    let short : length c.split_off-freed.new.self.places ≡ length (rows_of c.self.inside.len after.items) = ap length left in
    let long_before : length c.loop-chunk.storage.places ≡ length (rows_of c.self.inside.len after.items) + length row = ap length parts ∙ length-append (rows_of c.self.inside.len after.items) row in
    let fits = c.loop-chunk.invariant.fits in
    record { items = c.split_off-freed.ensures.rest.1; places = left; whole = whole.0; fits = omega arith }
