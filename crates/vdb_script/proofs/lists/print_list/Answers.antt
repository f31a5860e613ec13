use Rattle.vdb_script.proofs.Common.{◌≡◌, ◌∙◌, ap, subst, ℕ, Bool, List, ◌++◌, flat_map, length, take, nat_lt, err_from_is_err_and, Coord, listed_of, source, Scalar, last_line, voxel_line, HasAdded, HasCut}
use Rattle.vdb_scene.specs.Listings.{voxels_of}
use Rattle.vdb_script.specs.Text.{more_word}
use Rattle.vdb_script.proofs.Yielding.{first_items, last_items, more_than}
use Rattle.vdb_script.proofs.Pages.{cut_at_items, cut_at_last, writes_all}
use Rattle.vdb_script.proofs.lists.print_list.Goals as goal

pub returns-in_err-count-clause-writes : goal.returns-in_err-count-clause-writes
returns-in_err-count-clause-writes g c =
    let exit = err_from_is_err_and c.from_residual.result c.from_residual.ensures.1 in
    let voxels = c.args.voxels in
    let items = first_items (listed_of c.listing-listing.result) c.limit.result voxels.limit (voxels_of voxels) c.listing-listing.ensures c.limit.ensures in
    rw exit.1 (cut_at_items _ _ _ _ _ c.new-page.ensures
    (subst (λ (xs : List (Coord × Scalar)). HasCut (g.W.Write.contents (source c.args.writer.now)) (g.W.Write.contents (source c.add_voxels.new.writer)) (c.new-page.result.items ++ flat_map voxel_line xs)) items c.in_err-count.ensures.adds))

module _ (count : ℕ) (more : Bool) (limit : ℕ) (xs : List (Coord × Scalar)) (line : List ℕ) where
  ended : line ≡ last_line (more_word more) count → count ≡ length (take limit xs) → more ≡ nat_lt limit (length xs) → line ≡ last_line (more_word (nat_lt limit (length xs))) (length (take limit xs))
  ended is many over = is ∙ ap (λ n. last_line (more_word more) n) many ∙ ap (λ b. last_line (more_word b) (length (take limit xs))) over

pub returns-in_err-add-clause-writes : goal.returns-in_err-add-clause-writes
returns-in_err-add-clause-writes g c =
    let exit = err_from_is_err_and c.from_residual-in_err-add.result c.from_residual-in_err-add.ensures.1 in
    let voxels = c.args.voxels in
    let items = first_items (listed_of c.listing-listing.result) c.limit.result voxels.limit (voxels_of voxels) c.listing-listing.ensures c.limit.ensures in
    let rest = c.in_ok-count.ensures.rest ∙ last_items (listed_of c.listing-listing.result) c.limit.result voxels.limit (voxels_of voxels) c.listing-listing.ensures c.limit.ensures in
    let more = more_than c.more-more.result voxels.limit (voxels_of voxels) _ rest c.more-more.ensures in
    let line = ended c.in_ok-count.count c.more-more.result voxels.limit (voxels_of voxels) _ (c.as_slice.ensures.value ∙ c.list_end_line.ensures) (c.in_ok-count.ensures.count ∙ ap (λ (xs : List (Coord × Scalar)). length xs) items) more in
    rw exit.1 (cut_at_last _ _ _ _ _ c.new-page.ensures _ _ _ line
    (subst (λ (xs : List (Coord × Scalar)). HasAdded (g.W.Write.contents (source c.args.writer.now)) (g.W.Write.contents (source c.add_voxels.new.writer)) c.new-page.result.items (flat_map voxel_line xs) c.add_voxels.new.page.items) items c.in_ok-count.ensures.adds)
    c.in_err-add.ensures.adds)

pub returns-clause-writes : goal.returns-clause-writes
returns-clause-writes g c =
    let voxels = c.args.voxels in
    let items = first_items (listed_of c.listing-listing.result) c.limit.result voxels.limit (voxels_of voxels) c.listing-listing.ensures c.limit.ensures in
    let rest = c.in_ok-count.ensures.rest ∙ last_items (listed_of c.listing-listing.result) c.limit.result voxels.limit (voxels_of voxels) c.listing-listing.ensures c.limit.ensures in
    let more = more_than c.more-more.result voxels.limit (voxels_of voxels) _ rest c.more-more.ensures in
    let line = ended c.in_ok-count.count c.more-more.result voxels.limit (voxels_of voxels) _ (c.as_slice.ensures.value ∙ c.list_end_line.ensures) (c.in_ok-count.ensures.count ∙ ap (λ (xs : List (Coord × Scalar)). length xs) items) more in
    writes_all _ _ _ _ _ c.new-page.ensures _ _ _ line
    (subst (λ (xs : List (Coord × Scalar)). HasAdded (g.W.Write.contents (source c.args.writer.now)) (g.W.Write.contents (source c.add_voxels.new.writer)) c.new-page.result.items (flat_map voxel_line xs) c.add_voxels.new.page.items) items c.in_ok-count.ensures.adds)
    _ _ _ c.in_ok-add.ensures.adds c.as_slice-2.ensures.value _ c.write_bytes.ensures.writes
