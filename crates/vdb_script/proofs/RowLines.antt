-- The line of a row of a slice in parts: its head, its cells and its end.
use Rattle.vdb_script.proofs.Common.{◌≡◌, sym, ap, ◌∙◌, subst, ℕ, List, [], ◌∷◌, ◌++◌, Option, Result, codes, flat_map, append_assoc, cell_text, row_line, Adds, HasAdded, HasCut, WriteFault}
use Rattle.std.specs.Fmt.{signed_decimal}
use Rattle.vdb_scene.specs.Replies.{Row}
use Rattle.vdb_script.proofs.Pages.{adds_more, cut_before, cut_later, line_parts, spaced_map}

abbrev pub head : Row → List ℕ
head r = codes "row" ++ 32 ∷ signed_decimal r.y

abbrev pub body : Row → List ℕ
body r = flat_map (λ c. 32 ∷ cell_text c) r.cells

parts : (r : Row) → row_line r ≡ head r ++ (body r ++ 10 ∷ [])
parts r =
    ap (λ l. codes "row" ++ (32 ∷ l) ++ 10 ∷ []) (line_parts (signed_decimal r.y) _ ∙ ap (λ l. signed_decimal r.y ++ l) (spaced_map cell_text r.cells))
    ∙ append_assoc (head r) (body r) (10 ∷ [])

module _ (r : Row) (a b : Option (List ℕ)) (before first : List ℕ) (is : first ≡ head r) where
  -- a fault at the head
  pub cut_at_head : HasCut a b (before ++ first) → HasCut a b (before ++ row_line r)
  cut_at_head h = cut_before a b (before ++ first) (body r ++ 10 ∷ []) _ h (ap (λ l. before ++ l) (parts r ∙ ap (λ l. l ++ (body r ++ 10 ∷ [])) (sym is)) ∙ sym (append_assoc before first (body r ++ 10 ∷ [])))

  module _ (c : Option (List ℕ)) (mid : List ℕ) (h : HasAdded a b before first mid) where
    -- a fault at a cell
    pub cut_at_cells : HasCut b c (mid ++ body r) → HasCut a c (before ++ row_line r)
    cut_at_cells g =
        cut_before a c (before ++ (first ++ body r)) (10 ∷ []) _ (cut_later a b c before first mid h (body r) g)
        (ap (λ l. before ++ l) (parts r ∙ ap (λ l. l ++ (body r ++ 10 ∷ [])) (sym is) ∙ sym (append_assoc first (body r) (10 ∷ []))) ∙ sym (append_assoc before (first ++ body r) (10 ∷ [])))

    -- all of it
    pub adds_row : (d : Option (List ℕ)) (last : List ℕ) → HasAdded b c mid (body r) last → (result : Result (Unit {0}) WriteFault) (after : List ℕ) → Adds c d result last (10 ∷ []) after → Adds a d result before (row_line r) after
    adds_row d last g result after k =
        subst (λ l. Adds a d result before l after) (ap (λ l. l ++ (body r ++ 10 ∷ [])) is ∙ sym (parts r))
        (adds_more a b d before first mid h result (body r ++ 10 ∷ []) after (adds_more b c d mid (body r) last g result (10 ∷ []) after k))
