use Rattle.vdb_scene.proofs.Common.{◌≡◌, ◌∙◌, true, sym, ap, subst, ℕ, List, ◌++◌, length, take, drop, replicate, take-append_seam, drop-replicate, is_name}
use Rattle.vdb_scene.specs.Names.{padded}
use Rattle.vdb_scene.proofs.name.Name.new.Goals as goal

abbrev zeros : List ℕ
zeros = replicate 16 0

-- sixteen bytes that begin with those of a name and end with zeros
kept : (name : List ℕ) → is_name name ≡ true
    → (padded (take (length name) (name ++ drop (length name) zeros)) ≡ name ++ drop (length name) zeros)
    × (length (take (length name) (name ++ drop (length name) zeros)) ≡ length name)
    × (is_name (take (length name) (name ++ drop (length name) zeros)) ≡ true)
kept name valid =
    let front : take (length name) (name ++ drop (length name) zeros) ≡ name = take-append_seam name (drop (length name) zeros) in
    (ap padded front ∙ ap (λ rest. name ++ rest) (sym (drop-replicate (length name) 16 0)), ap length front, ap is_name front ∙ valid)

pub invariant_of-result : goal.invariant_of-result
invariant_of-result c =
    let valid : is_name c.args.bytes.now ≡ true = sym c.is_name_text.ensures ∙ c.if-not-is_name_text.false in
    let P : List ℕ → Type 0 = λ copied.
    (padded (take (length c.args.bytes.now) (copied ++ drop (length c.args.bytes.now) zeros)) ≡ copied ++ drop (length c.args.bytes.now) zeros)
    × (length (take (length c.args.bytes.now) (copied ++ drop (length c.args.bytes.now) zeros)) ≡ length c.args.bytes.now)
    × (is_name (take (length c.args.bytes.now) (copied ++ drop (length c.args.bytes.now) zeros)) ≡ true) in
    subst P (sym c.copy_from_slice.ensures.after) (kept c.args.bytes.now valid)
