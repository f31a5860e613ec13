-- Lemmas on texts that are composed page by page.
use Rattle.vdb_script.proofs.Common.{◌≡◌, refl, sym, ap, ◌∙◌, subst, ℕ, List, [], ◌∷◌, ◌++◌, Option, Result, Ok, Err, map, flat_map, append_assoc, append-nil, join_with_byte, Appends, Adds, HasAdded, HasCut, WriteFault}
use Rattle.std.proofs.KnownBytes.{Appends-trans}
use Rattle.vdb_script.specs.Writing.{Writes}

module _ (a b : Option (List ℕ)) where
  -- a fault at a part is a fault before everything that would follow
  pub cut_before : (bytes more all : List ℕ) → HasCut a b bytes → all ≡ bytes ++ more → HasCut a b all
  cut_before bytes more all h is = (h.0, h.1 ++ more, is ∙ ap (λ l. l ++ more) h.2 ∙ append_assoc h.0 h.1 more, h.3)

module _ (a b c : Option (List ℕ)) (before part mid : List ℕ) (h : HasAdded a b before part mid) where
  joined : (more behind after : List ℕ) → mid ++ more ≡ behind ++ after → before ++ (part ++ more) ≡ (h.0 ++ behind) ++ after
  joined more behind after is =
      sym (append_assoc before part more) ∙ ap (λ l. l ++ more) h.1 ∙ append_assoc h.0 mid more ∙ ap (λ l. h.0 ++ l) is ∙ sym (append_assoc h.0 behind after)

  -- a part after a part
  pub added_more : (more after : List ℕ) → HasAdded b c mid more after → HasAdded a c before (part ++ more) after
  added_more more after g = (h.0 ++ g.0, joined more g.0 after g.1, Appends-trans a b c h.0 g.0 h.2 g.2)

  -- a fault after a part
  pub cut_later : (more : List ℕ) → HasCut b c (mid ++ more) → HasCut a c (before ++ (part ++ more))
  cut_later more g = (h.0 ++ g.0, g.1, joined more g.0 g.1 g.2, Appends-trans a b c h.0 g.0 h.2 g.3)

  -- a part after a part, or a fault
  pub adds_more : (r : Result (Unit {0}) WriteFault) (more after : List ℕ) → Adds b c r mid more after → Adds a c r before (part ++ more) after
  adds_more (Ok x) more after g = added_more more after g
  adds_more (Err e) more after g = cut_later more g

  -- the collected bytes are written
  pub adds_written : (r : Result (Unit {0}) WriteFault) → Writes b c r mid → Writes a c r (before ++ part)
  adds_written (Ok x) g = subst (Appends a c) (sym h.1) (Appends-trans a b c h.0 mid h.2 g)
  adds_written (Err e) g = (h.0 ++ g.0, g.1, h.1 ∙ ap (λ l. h.0 ++ l) g.2 ∙ sym (append_assoc h.0 g.0 g.1), Appends-trans a b c h.0 g.0 h.2 g.3)

-- the parts of a line: the first, and each other after a space
pub line_parts : (first : List ℕ) (parts : List (List ℕ)) → join_with_byte 32 (first ∷ parts) ≡ first ++ flat_map (λ part. 32 ∷ part) parts
line_parts first [] = sym (append-nil first)
line_parts first (part ∷ parts) = ap (λ l. first ++ (32 ∷ l)) (line_parts part parts)

pub spaced_map : {X : Type 0} (f : X → List ℕ) (xs : List X) → flat_map (λ part. 32 ∷ part) (map f xs) ≡ flat_map (λ x. 32 ∷ f x) xs
spaced_map f [] = refl
spaced_map f (x ∷ xs) = ap (λ l. (32 ∷ f x) ++ l) (spaced_map f xs)

-- The texts of the items so far were added, and the others are left.
abbrev pub AddedSoFar : {X : Type 0} → (X → List ℕ) → List X → List X → Option (List ℕ) → Option (List ℕ) → List ℕ → List ℕ → Type 0
AddedSoFar f all left old new before after = (text : List ℕ) × (flat_map f all ≡ text ++ flat_map f left) × HasAdded old new before text after

module _ {X : Type 0} (f : X → List ℕ) (all left rest : List X) (x : X) (next : left ≡ x ∷ rest) (a b c : Option (List ℕ)) (before mid part : List ℕ) (is : part ≡ f x) (h : AddedSoFar f all left a b before mid) where
  split : flat_map f all ≡ h.0 ++ (part ++ flat_map f rest)
  split = h.1 ∙ ap (λ xs. h.0 ++ flat_map f xs) next ∙ ap (λ l. h.0 ++ (l ++ flat_map f rest)) (sym is)

  -- one item more
  pub so_far_more : (after : List ℕ) → HasAdded b c mid part after → AddedSoFar f all rest a c before after
  so_far_more after g = (h.0 ++ part, split ∙ sym (append_assoc h.0 part (flat_map f rest)), added_more a b c before h.0 mid h.2 part after g)

  -- a fault at an item
  pub so_far_cut : HasCut b c (mid ++ part) → HasCut a c (before ++ flat_map f all)
  so_far_cut g =
      cut_before a c (before ++ (h.0 ++ part)) (flat_map f rest) (before ++ flat_map f all) (cut_later a b c before h.0 mid h.2 part g)
      (ap (λ l. before ++ l) (split ∙ sym (append_assoc h.0 part (flat_map f rest))) ∙ sym (append_assoc before (h.0 ++ part) (flat_map f rest)))

-- ---- a text of items and a last line, from an empty page on

module _ (a b : Option (List ℕ)) (page items last : List ℕ) (empty : page ≡ []) where
  -- a fault at an item
  pub cut_at_items : HasCut a b (page ++ items) → HasCut a b (items ++ last)
  cut_at_items h = cut_before a b (page ++ items) last (items ++ last) h (ap (λ l. (l ++ items) ++ last) (sym empty))

  module _ (c : Option (List ℕ)) (mid line : List ℕ) (is : line ≡ last) (h : HasAdded a b page items mid) where
    whole : page ++ (items ++ line) ≡ items ++ last
    whole = ap (λ l. l ++ (items ++ line)) empty ∙ ap (λ l. items ++ l) is

    -- a fault at the last line
    pub cut_at_last : HasCut b c (mid ++ line) → HasCut a c (items ++ last)
    cut_at_last g = subst (HasCut a c) whole (cut_later a b c page items mid h line g)

    -- all of it
    pub writes_all : (d : Option (List ℕ)) (full bytes : List ℕ) → HasAdded b c mid line full → bytes ≡ full → (r : Result (Unit {0}) WriteFault) → Writes c d r bytes → Writes a d r (items ++ last)
    writes_all d full bytes g same r k =
        subst (λ text. Writes a d r text) whole (adds_written a c d page (items ++ line) full (added_more a b c page items mid h line full g) r (subst (λ text. Writes c d r text) same k))
