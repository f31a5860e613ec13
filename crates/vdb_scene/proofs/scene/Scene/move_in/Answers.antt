use Rattle.vdb_scene.proofs.Common.{◌≡◌, ◌∙◌, ap, rules, subst, sym, nat_cmp, slice_cmp, grid_of, scene_over, with_grid, GridEntry}
use Rattle.vdb_scene.specs.Grids.{grid_with}
use Rattle.vdb_scene.proofs.Entries.{insert_entry-over, over}
use Rattle.vdb_scene.proofs.scene.Scene.move_in.Goals as goal

pub returns-in-Ok-clause-scene : goal.returns-in-Ok-clause-scene
returns-in-Ok-clause-scene c =
    let grids = c.args.self.now.grids.entries in
    let e : GridEntry = record { grid = c.args.grid; metas = c.new-metas.result } in (
      search rules,
      subst (λ pairs. scene_over c.insert.new.self.entries ≡ with_grid (scene_over grids) c.args.name (grid_with c.args.grid pairs)) c.new-metas.ensures
          (ap (over grid_of) c.in-Ok.ensures.entries ∙ sym (insert_entry-over grid_of (slice_cmp nat_cmp) grids c.args.name e)),
    )
