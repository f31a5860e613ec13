use Rattle.vdb_c.proofs.Common.{◌∙◌, ap, refl, subst, sym, IsTrue, ℕ, vdb, Box, is_inside, off, field_of, IsInOneLeaf, IsPartOfLeaf, Cell, state_byte}
use Rattle.vdb_c.specs.Elements.{has_places}
use Rattle.vdb_c.proofs.PartsRead.{content_is, on_leaf, read_end, read_next, read_start}
use Rattle.vdb_c.proofs.boxes.reading.read_box.Goals as goal

pub rest-init : goal.rest-init
rest-init g c =
    let t = c.args.tree.now in
    let b = c.args.bounds in
    let s = c.args.strides.now in
    let there = c.lay_start-there in
    record {
      walk = c.parts-walk.ensures.walk;
      box = c.parts-walk.ensures.bounds;
      skip = c.parts-walk.ensures.skip;
      values = read_start t b s g.S.Shown.of there.result there.ensures.there _ _ _ _ c.parts-walk.ensures.at (λ p. refl) there.ensures.values;
      states = read_start t b s (λ (a : Cell g.row.V.Denot). state_byte a.on) there.result there.ensures.there _ _ _ _ c.parts-walk.ensures.at (λ p. refl) there.ensures.states;
    }

pub lay_part-requires : goal.lay_part-requires
lay_part-requires g c =
    let inv = c.rest.invariant in
    record {
      within = λ q i. subst (λ (d : Box). IsTrue (is_inside d q)) inv.box (c.in-Some.ensures.part.inside q i);
      apart = c.requires.apart;
      places = subst (λ (n : ℕ). IsTrue (has_places c.args.bounds c.args.strides.now n)) (sym inv.values.size) c.requires.values;
      block = on_leaf (λ leaf. IsPartOfLeaf vdb (field_of vdb c.args.tree.now) c.in-Some.part.bounds leaf.now) (λ leaf. IsInOneLeaf vdb c.in-Some.part.bounds) c.in-Some.part.content (λ leaf part. part.block) c.in-Some.ensures.leaf;
    }

pub lay_part-requires-in-Some : goal.lay_part-requires-in-Some
lay_part-requires-in-Some g c =
    let inv = c.rest.invariant in
    record {
      within = λ q i. subst (λ (d : Box). IsTrue (is_inside d q)) inv.box (c.in-Some.ensures.part.inside q i);
      apart = c.requires.apart;
      places = subst (λ (n : ℕ). IsTrue (has_places c.args.bounds c.args.strides.now n)) (sym inv.states.size) c.requires.states;
      block = on_leaf (λ leaf. IsPartOfLeaf vdb (field_of vdb c.args.tree.now) c.in-Some.part.bounds leaf.now) (λ leaf. IsInOneLeaf vdb c.in-Some.part.bounds) c.in-Some.part.content (λ leaf part. part.block) c.in-Some.ensures.leaf;
    }

pub rest-preserved : goal.rest-preserved
rest-preserved g c =
    let t = c.args.tree.now in
    let f = field_of vdb t in
    let b = c.args.bounds in
    let s = c.args.strides.now in
    let there = c.lay_start-there in
    let inv = c.rest.invariant in
    let part = c.in-Some.ensures.part in
    let is = content_is (λ leaf. leaf.now) f c.in-Some.part.bounds c.in-Some.part.content c.in-Some.ensures.tile c.in-Some.ensures.leaf in
    record {
      walk = c.in-Some.ensures.walk;
      box = part.passes.box ∙ inv.box;
      skip = part.passes.skip ∙ inv.skip;
      values =
          read_next t b s g.S.Shown.of there.result there.ensures.there c.rest.walk c.next_part.new.walk inv.box inv.skip c.requires.apart c.in-Some.part.bounds _ _ _ _ part
          (λ q i. ap g.S.Shown.of (is q i)) inv.values (c.lay_part.ensures (off f.background));
      states =
          read_next t b s (λ (a : Cell g.row.V.Denot). state_byte a.on) there.result there.ensures.there c.rest.walk c.next_part.new.walk inv.box inv.skip c.requires.apart c.in-Some.part.bounds _ _ _ _ part
          (λ q i. ap (λ (a : Cell g.row.V.Denot). state_byte a.on) (is q i)) inv.states (c.lay_part-in-Some.ensures (off f.background));
    }

pub returns-clause-values : goal.returns-clause-values
returns-clause-values g c =
    let inv = c.rest.invariant in
    let there = c.lay_start-there in
    read_end c.args.tree.now c.args.bounds c.args.strides.now g.S.Shown.of there.result there.ensures.there c.rest.walk c.next_part.new.walk inv.box inv.skip _ _ c.in_default.ensures.end
    c.in_default.ensures.none_left inv.values

pub returns-clause-states : goal.returns-clause-states
returns-clause-states g c =
    let inv = c.rest.invariant in
    let there = c.lay_start-there in
    read_end c.args.tree.now c.args.bounds c.args.strides.now (λ (a : Cell g.row.V.Denot). state_byte a.on) there.result there.ensures.there c.rest.walk c.next_part.new.walk inv.box inv.skip _ _ c.in_default.ensures.end
    c.in_default.ensures.none_left inv.states
