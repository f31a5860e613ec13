use Rattle.std.proofs.Common.{◌∙◌, sym}
use Rattle.vdb_scene.proofs.Lent.{not_missing, other_found, place_found, put_back}
use Rattle.vdb_scene.proofs.scene.Scene.change_by.Goals as goal

pub unreachable-requires : goal.unreachable-requires
unreachable-requires c =
    let out = c.lend-entry.ensures.rest in
    not_missing _ c.requires.other
    (c.in-None.ensures.value ∙ other_found c.args.self.now.grids.entries c.lend-entry.new.self.grids.entries c.args.name.now c.args.other.now out.0 out.1 c.requires.apart)

pub give_back-requires : goal.give_back-requires
give_back-requires c =
    let out = c.lend-entry.ensures.rest in
    place_found c.args.self.now.grids.entries c.lend-entry.new.self.grids.entries c.args.name.now c.args.other.now out.0 out.1 c.requires.there

pub returns : goal.returns
returns c =
    let out = c.lend-entry.ensures.rest in
    let entries = c.args.self.now.grids.entries in
    let lent = c.lend-entry.new.self.grids.entries in
    record {
      grids = (
        c.lend-entry.result,
        c.in-Some.given.now,
        c.combine-result.new.self,
        c.lend-entry.ensures.entry,
        sym (c.in-Some.ensures.value ∙ other_found entries lent c.args.name.now c.args.other.now out.0 out.1 c.requires.apart),
        put_back entries lent c.args.name.now c.args.other.now out.0 out.1 c.give_back.new.self.grids.entries (record c.lend-entry.result { grid = c.combine-result.new.self }) c.give_back.ensures,
        c.combine-result.ensures.limit,
        c.combine-result.ensures.last,
        c.combine-result.ensures.outcome,
        c.combine-result.ensures.kept,
      );
    }
