use Rattle.std.proofs.Common.{rules, sym, ◌∙◌}
use Rattle.vdb_walk.proofs.Surrounds.{joined_found, joined_never}
use Rattle.vdb_walk.proofs.bounding_box.joined.Goals as goal

pub unreachable-requires : goal.unreachable-requires
unreachable-requires c =
    joined_never c.in-Some.bounds c.args.part (search rules)
    (rw (c.min.ensures.corner, c.min-in-Some.ensures.corner, c.max.ensures.corner, c.max-in-Some.ensures.corner) at (rw (c.lesser-min.ensures, c.greater-max.ensures) at (sym c.new.ensures ∙ c.in-None-new.is)))

pub returns-in-Some-new-clause-least : goal.returns-in-Some-new-clause-least
returns-in-Some-new-clause-least c = rw c.in-Some.is
    (joined_found c.in-Some.bounds c.args.part (search rules) (search rules) c.in-Some-new.both
    (rw (c.min.ensures.corner, c.min-in-Some.ensures.corner, c.max.ensures.corner, c.max-in-Some.ensures.corner) at (rw (c.lesser-min.ensures, c.greater-max.ensures) at (sym c.new.ensures ∙ c.in-Some-new.is))))
