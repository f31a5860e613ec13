-- The vacant slots of a pool, as its contents list them.
use Rattle.vdb_pool.proofs.Common.{◌≡◌, ℕ, ◌-◌, ◌<◌, List, length, get_or, map, Option, Some, None, slice_get, ap, ◌∙◌, arith, length-map, get_or-map, slice_get_within, get_or_from_slice_get, Ptr, node_of, IsOrderly, linked, IsSound, Chunk, Slot, Vacant}
use Rattle.vdb_pool.proofs.Links.{vacant_at, on_stack, linked_once}

module _ {T : Type 0} where
  -- a vacant slot has no node
  pub no_node : (xs : List (Slot T)) (i : ℕ) (next : Option ℕ) → slice_get xs i ≡ Some (Vacant next) → get_or (map node_of xs) i None ≡ None
  no_node xs i next found =
      get_or-map node_of xs i (Vacant next) None (slice_get_within xs i (Vacant next) found) ∙ ap node_of (get_or_from_slice_get xs i (Vacant next) (Vacant next) found)

  -- the list of vacant slots is in order
  pub orderly : {len most : ℕ} (cs : List (Chunk T)) (ps : List Ptr) (xs : List (Slot T)) (used total held : ℕ) (top : Option ℕ) → IsSound len most cs ps xs used total held top
      → IsOrderly (record { nodes = map node_of xs; vacant = linked (used - held) top xs; places = ps })
  orderly cs ps xs used total held top ok =
      let used_is = ok.used_is in let total_is = ok.total_is in let within = ok.within in let fits = ok.total_fits in
      let long : length (map node_of xs) ≡ length xs = length-map xs node_of in
      record {
        once = linked_once (used - held) top xs ok.stack;
        vacant = λ slot among.
            let there = on_stack (used - held) top xs slot ok.stack among in
            let below : slot < length xs = slice_get_within xs slot (Vacant there.0) there.1 in
            (omega arith, no_node xs slot there.0 there.1);
        listed = λ slot below none. let there = vacant_at xs slot (omega arith) none in ok.listed slot there.0 there.1;
        within = omega arith;
        limit = omega arith;
      }
