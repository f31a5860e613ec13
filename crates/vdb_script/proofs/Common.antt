-- The names that most proofs of this crate cite, passed on from one place. It declares nothing.
pub use Rattle.std.proofs.Common.{Bool, Bor, Err, IsTrue, List, None, Ok, Option, Result, Some, [], add-one, ap, append-nil, append_assoc, arith, bytes_eq, codes, cond, drop, false, flat_map, get_or, if◌then◌else◌, inl, inr, length, length-append, map, nat_lt, option_map, pos, refl, rules, subst, suc, sym, take, true, zero, ℕ, ◌++◌, ◌+◌, ◌-◌, ◌<◌, ◌==◌, ◌∙◌, ◌∷◌, ◌≡◌, ◌≢◌, ◌≤◌, ◌⊎◌}
pub use Rattle.std.proofs.lemmas.List.{length-map}
pub use Rattle.std.proofs.lemmas.Option.{none-some, option_and_then_some, same_Some}
pub use Rattle.std.proofs.lemmas.Result.{err_from_is_err_and}
pub use Rattle.std.specs.Io.KnownBytes.{Appends}
pub use Rattle.std.specs.List.{AllByRecursion, join_with_byte}
pub use Rattle.std.specs.Prelude.{option_and_then}
pub use Rattle.vdb_coord.specs.Space.{coord}
pub use Rattle.vdb_coord.specs.declared.Coord.{Coord}
pub use Rattle.vdb_scene.specs.Listings.{listed_of}
pub use Rattle.vdb_scene.specs.Replies.{Bounds, Refused, Reply}
pub use Rattle.vdb_scene.specs.Scene.{Scene}
pub use Rattle.vdb_scene.specs.ValidScenes.{HasValidTexts}
pub use Rattle.vdb_scene.specs.Watched.{has_failed, source}
pub use Rattle.vdb_scene.specs.declared.answer.Refusal.{Refusal}
pub use Rattle.vdb_scene.specs.declared.command.Command.{Command}
pub use Rattle.vdb_scene.specs.declared.command.Literal.{Literal}
pub use Rattle.vdb_scene.specs.declared.command.Num.{Num}
pub use Rattle.vdb_scene.specs.declared.command.Point.{Point}
pub use Rattle.vdb_scene.specs.declared.scalar.Scalar.{Scalar}
pub use Rattle.vdb_script.specs.Grammar.{Form, accessor_of, all_of, bounds, census, clip, command_forms, command_of, copy, corners, count, count_all, count_box, fill, get, give, grid, grid_with, is_comment, iterations, kind_named, list, literal_of, meaning, meta, metas, name_of, number_of, one, or_else, parse, point, prune, slice, state, state_of, text_of, two_grids, unmeta, voxel_value, voxelise, whole, word_of, ◌>>=◌}
pub use Rattle.vdb_script.specs.Lines.{tokens}
pub use Rattle.vdb_script.specs.Reading.{Stock, ahead}
pub use Rattle.vdb_script.specs.Run.{Run, TakesLine, read}
pub use Rattle.vdb_script.specs.Text.{cell_text, last_line, pair_line, row_line, voxel_line}
pub use Rattle.vdb_script.specs.Writing.{Adds, HasAdded, HasCut}
pub use Rattle.vdb_script.specs.declared.output.WriteFault.{WriteFault}
