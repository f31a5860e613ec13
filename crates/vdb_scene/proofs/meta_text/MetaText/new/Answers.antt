use Rattle.vdb_scene.proofs.Common.{◌≡◌, ◌∙◌, true, sym, ap, subst, ℕ, List, ◌++◌, length, take, drop, replicate, take-append_seam, drop-replicate, is_text}
use Rattle.vdb_scene.specs.Metas.{padded_text}
use Rattle.vdb_scene.proofs.meta_text.MetaText.new.Goals as goal

abbrev zeros : List ℕ
zeros = replicate 64 0

-- sixty-four bytes that begin with those of a text and end with zeros
kept : (text : List ℕ) → is_text text ≡ true
    → (padded_text (take (length text) (text ++ drop (length text) zeros)) ≡ text ++ drop (length text) zeros)
    × (length (take (length text) (text ++ drop (length text) zeros)) ≡ length text)
    × (is_text (take (length text) (text ++ drop (length text) zeros)) ≡ true)
kept text valid =
    let front : take (length text) (text ++ drop (length text) zeros) ≡ text = take-append_seam text (drop (length text) zeros) in
    (ap padded_text front ∙ ap (λ rest. text ++ rest) (sym (drop-replicate (length text) 64 0)), ap length front, ap is_text front ∙ valid)

pub invariant_of-result : goal.invariant_of-result
invariant_of-result c =
    let valid : is_text c.args.bytes.now ≡ true = sym c.is_text.ensures ∙ c.if-not-is_text.false in
    let P : List ℕ → Type 0 = λ copied.
    (padded_text (take (length c.args.bytes.now) (copied ++ drop (length c.args.bytes.now) zeros)) ≡ copied ++ drop (length c.args.bytes.now) zeros)
    × (length (take (length c.args.bytes.now) (copied ++ drop (length c.args.bytes.now) zeros)) ≡ length c.args.bytes.now)
    × (is_text (take (length c.args.bytes.now) (copied ++ drop (length c.args.bytes.now) zeros)) ≡ true) in
    subst P (sym c.copy_from_slice.ensures.after) (kept c.args.bytes.now valid)
