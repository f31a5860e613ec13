use Rattle.std.proofs.Common.{◌≡◌, refl, List, Option, Some, None, unwrap_or, rules}
use Rattle.std.specs.Option.{option_map_or}
use Rattle.std.specs.BTreeMap.Entry.{map_with_value}
use Rattle.std.proofs.lemmas.Map.Keys.{IsDistinct-from_sorted}
use Rattle.vdb_tree.proofs.Common.{IsDistinct, keys_of, coord_eq, Coord, root_at}
use Rattle.vdb_node.specs.declared.Entry.{Entry}
use Rattle.vdb_tree.proofs.root.RootTable.enter.Goals as goal

module _ {V : Type 0} (es fs : List (Coord × Entry V)) where
  apart_in : fs ≡ es → IsDistinct coord_eq (keys_of es) → IsDistinct coord_eq (keys_of fs)
  apart_in e h = rw e h

  at_in : (k : Coord) (o : Option (Entry V)) → fs ≡ es → root_at es k ≡ o → root_at fs k ≡ o
  at_in k o e h = rw e h

or_else : {A : Type 0} (o : Option A) (x : A) → unwrap_or o x ≡ option_map_or (λ a. a) o x
or_else None x = refl
or_else (Some a) x = refl

pub returns-clause-ok : goal.returns-clause-ok
returns-clause-ok g c = λ k.
    let entry = c.in_ok-self-inside.ensures in
    at_in (map_with_value c.in_ok-self-inside.field-0 c.or_insert.result.now).entries _ k _ (search rules)
    (rw (← or_else (root_at c.args.self.now c.args.key) c.args.entry, ← c.self.view_is, ← entry.value, ← c.or_insert.ensures.value) ((entry.update.0 c.or_insert.result.now).0 k))

pub returns-clause-apart : goal.returns-clause-apart
returns-clause-apart g c =
    apart_in (map_with_value c.in_ok-self-inside.field-0 c.or_insert.result.now).entries _ (search rules) (IsDistinct-from_sorted _ _ (c.in_ok-self-inside.ensures.update.2 c.or_insert.result.now))
