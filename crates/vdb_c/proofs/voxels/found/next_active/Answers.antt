-- The first voxel past another, before and after each value is mapped to one of any type.
use Rattle.std.proofs.Common.{find}
use Rattle.vdb_scene.specs.declared.scalar.Scalar.TheVariants as scalars
use Rattle.vdb_c.proofs.Common.{◌≡◌, refl, ap, sym, ◌∙◌, Bool, true, false, cond, List, [], ◌∷◌, Option, Some, None, option_map, vdb, Box, Coord, as_field_of, Layout, field_of}
use Rattle.vdb_coord.specs.Blocks.{is_past}
use Rattle.vdb_walk.specs.Reports.{active}
use Rattle.vdb_scene.specs.Listings.{as_voxels_of}
use Rattle.vdb_scene.proofs.Listings.{made_active}
use Rattle.vdb_c.proofs.voxels.found.next_active.Goals as goal

module _ {V U : Type 0} (make : V → U) where
  -- a voxel with its value mapped
  abbrev pub made : Coord × V → Coord × U
  made item = (item.0, make item.1)

  found_or_later : (b : Bool) (v : Coord × V) (later : Option (Coord × V)) (after : Option (Coord × U))
      → after ≡ option_map made later → cond b (Some (made v)) after ≡ option_map made (cond b (Some v) later)
  found_or_later true v later after h = refl
  found_or_later false v later after h = h

  -- the first that passes a test of its coordinate
  made_found : (test : Coord → Bool) (voxels : List (Coord × V)) → find (λ item. test item.0) (as_voxels_of make voxels) ≡ option_map made (find (λ item. test item.0) voxels)
  made_found test [] = refl
  made_found test (v ∷ vs) = found_or_later (test v.0) v (find (λ item. test item.0) vs) (find (λ item. test item.0) (as_voxels_of make vs)) (made_found test vs)

  -- the first active voxel of a box past another
  made_next : (t s : Layout V) (box : Box) (after : Option Coord) (found : Option (Coord × V)) → s ≡ t
      → found ≡ find (λ item. is_past vdb after item.0) (active vdb (field_of vdb s) box)
      → option_map made found ≡ find (λ item. is_past vdb after item.0) (active vdb (as_field_of make (field_of vdb t)) box)
  made_next t s box after found same h =
      ap (option_map made) (h ∙ ap (λ (u : Layout V). find (λ item. is_past vdb after item.0) (active vdb (field_of vdb u) box)) same) ∙ sym (made_found (is_past vdb after) (active vdb (field_of vdb t) box)) ∙ ap (find (λ item. is_past vdb after item.0)) (made_active make t box)

pub returns-in-Bool : goal.returns-in-Bool
returns-in-Bool c =
    rw c.in-Bool.is (c.of_booleans.ensures ∙ made_next scalars.Bool c.in-Bool.held.tree c.tree.result.now c.args.bounds c.args.after c.next_active.result c.tree.ensures c.next_active.ensures)

pub returns-in-I32 : goal.returns-in-I32
returns-in-I32 c =
    rw c.in-I32.is
    (c.of_numbers.ensures ∙ made_next scalars.I32 c.in-I32.held.tree c.tree-in-I32.result.now c.args.bounds c.args.after c.next_active-in-I32.result c.tree-in-I32.ensures c.next_active-in-I32.ensures)

pub returns-in-I64 : goal.returns-in-I64
returns-in-I64 c =
    rw c.in-I64.is
    (c.of_long_numbers.ensures ∙ made_next scalars.I64 c.in-I64.held.tree c.tree-in-I64.result.now c.args.bounds c.args.after c.next_active-in-I64.result c.tree-in-I64.ensures c.next_active-in-I64.ensures)
