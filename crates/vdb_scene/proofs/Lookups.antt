-- The outcome of a look-up of a voxel, from facts about the grid and the command.
use Rattle.vdb_scene.proofs.Common.{◌≡◌, ◌∙◌, ap, refl, sym, ℕ, List, Option, Some, None, Ok, Err, true, false, lookup, set_value, vdb, Coord, Cell, Field, as_field_of, Layout, field_of, CarriesOut, grid_field, grid_root_limit, grid_of, scene_over, is_accessor, is_coord, coord_of, field_at, is_named, AnyGrid, GridEntry, Num, Point, Scalar}
use Rattle.vdb_scene.specs.Grids.{HasSameTree}
use Rattle.vdb_scene.specs.Replies.{Value}
use Rattle.vdb_scene.specs.declared.answer.Answer.TheVariants as answers
use Rattle.vdb_scene.specs.declared.answer.Refusal.TheVariants as refusals
use Rattle.vdb_scene.specs.declared.any_grid.AnyGrid.TheVariants.{Bool, I32, I64}
use Rattle.vdb_scene.specs.declared.command.Command.TheVariants as commands
use Rattle.vdb_scene.specs.declared.scalar.Scalar.TheVariants as scalars
use Rattle.vdb_scene.proofs.Borrowed.{found, missing, unchanged}
use Rattle.vdb_scene.proofs.Steps.{field_found, get_accepted}

-- grids with equal trees have one field and one limit
pub same_field : (g h : AnyGrid) → HasSameTree g h → grid_field h ≡ grid_field g
same_field (Bool g) (Bool h) e = ap (λ (t : Layout _). as_field_of scalars.Bool (field_of vdb t)) e
same_field (I32 g) (I32 h) e = ap (λ (t : Layout _). as_field_of scalars.I32 (field_of vdb t)) e
same_field (I64 g) (I64 h) e = ap (λ (t : Layout _). as_field_of scalars.I64 (field_of vdb t)) e
same_field (Bool g) (I32 h) e = absurd e
same_field (Bool g) (I64 h) e = absurd e
same_field (I32 g) (Bool h) e = absurd e
same_field (I32 g) (I64 h) e = absurd e
same_field (I64 g) (Bool h) e = absurd e
same_field (I64 g) (I32 h) e = absurd e

pub same_limit : (g h : AnyGrid) → HasSameTree g h → grid_root_limit h ≡ grid_root_limit g
same_limit (Bool g) (Bool h) e = ap (λ (t : Layout _). t.limit) e
same_limit (I32 g) (I32 h) e = ap (λ (t : Layout _). t.limit) e
same_limit (I64 g) (I64 h) e = ap (λ (t : Layout _). t.limit) e
same_limit (Bool g) (I32 h) e = absurd e
same_limit (Bool g) (I64 h) e = absurd e
same_limit (I32 g) (Bool h) e = absurd e
same_limit (I32 g) (I64 h) e = absurd e
same_limit (I64 g) (Bool h) e = absurd e
same_limit (I64 g) (I32 h) e = absurd e

module _ (grids : List (List ℕ × GridEntry)) (name : List ℕ) (k : Option Num) (p : Point) (after : List (List ℕ × GridEntry)) where
  -- no grid of that name
  pub get_missing : lookup (is_named name) grids ≡ None → after ≡ grids → CarriesOut (scene_over grids) (commands.Get name k p) (Err refusals.NoGrid) (scene_over after)
  get_missing none same = (rw (missing grids name none) refl, ap scene_over same)

  module _ (entry : GridEntry) (there : lookup (is_named name) grids ≡ Some entry) where
    -- a point that is not a coordinate
    pub get_coord_refused : is_coord p ≡ false → scene_over after ≡ scene_over grids → CarriesOut (scene_over grids) (commands.Get name k p) (Err refusals.ValueRange) (scene_over after)
    get_coord_refused nowhere same = (rw (found grids name entry there, nowhere) refl, same)

    -- no such accessor
    pub get_accessor_refused : is_coord p ≡ true → is_accessor k ≡ false → scene_over after ≡ scene_over grids → CarriesOut (scene_over grids) (commands.Get name k p) (Err refusals.NoAccessor) (scene_over after)
    get_accessor_refused at none same = (rw (found grids name entry there, at, none) refl, same)

    -- the cell is shown
    pub get_done : is_coord p ≡ true → is_accessor k ≡ true → (q : Coord) → coord_of p ≡ q → (cell : Cell Scalar) → cell ≡ (grid_field entry.grid).cell q
        → (given : AnyGrid) → HasSameTree entry.grid given → after ≡ set_value (is_named name) grids (record entry { grid = given })
        → CarriesOut (scene_over grids) (commands.Get name k p) (Ok (answers.Value cell.value cell.on)) (scene_over after)
    get_done at accessor q is_q cell is_cell given same back =
        let s = scene_over grids in
        let here = is_cell ∙ ap (grid_field entry.grid).cell (sym is_q) ∙ ap (λ (f : Field Scalar). f.cell (coord_of p)) (sym (field_found s name (grid_of entry) (found grids name entry there))) in (
          get_accepted s name (grid_of entry) (found grids name entry there) k p at accessor,
          (Value ((field_at s name).cell (coord_of p)), ap Value (sym here), refl),
          unchanged grids name after entry there given back (same_field entry.grid given same) (same_limit entry.grid given same),
        )
