-- Scenes that differ at most in cells beyond the range of coordinates.
use Rattle.std.specs.Prelude.{◌≡◌, ℕ, true, List}
use Rattle.std.specs.List.{AllZip}
use Rattle.vdb_coord.specs.Space.{everywhere, is_inside}
use Rattle.vdb_coord.specs.declared.Coord.{Coord}
use Rattle.vdb_scene.specs.Scene.{Grid, Scene}

-- the same name, limit, metadata pairs and background, and the same cell at each coordinate in the range
pub record IsLike (d e : List ℕ × Grid) : Type 0 where
  pub name : d.0 ≡ e.0
  pub limit : d.1.limit ≡ e.1.limit
  pub pairs : d.1.pairs ≡ e.1.pairs
  pub background : d.1.field.background ≡ e.1.field.background
  pub cells : (p : Coord) → is_inside everywhere p ≡ true → d.1.field.cell p ≡ e.1.field.cell p

-- as many grids in both scenes, each like the other in its place
abbrev pub AreAlike : Scene → Scene → Type 0
AreAlike a b = AllZip IsLike a b
