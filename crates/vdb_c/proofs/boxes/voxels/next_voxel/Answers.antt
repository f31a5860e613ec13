use Rattle.vdb_c.proofs.Common.{◌∙◌, refl, ap, subst, pos, ◌+ℤ◌, ◌<ℤ◌, ◌≤ℤ◌, SFits, w32, to_z, of_z, rules, to_z-of_z, Coord}
use Rattle.vdb_c.proofs.NextVoxels.{below, moved_x, moved_y, moved_z, no_next, not_below, one_more, one_more_fits}
use Rattle.vdb_c.proofs.boxes.voxels.next_voxel.Goals as goal

pub returns-then-p-max-clause-next : goal.returns-then-p-max-clause-next
returns-then-p-max-clause-next c =
    let b = c.args.bounds in
    let p = c.args.p in
    let px : SFits w32 c.args.p.x = search rules in
    let py : SFits w32 c.args.p.y = search rules in
    let pz : SFits w32 c.args.p.z = search rules in
    let mx : SFits w32 c.max-max.result.x = search rules in
    let my : SFits w32 c.max-max.result.y = search rules in
    let mz : SFits w32 c.max-max.result.z = search rules in
    let h : c.args.p.z <ℤ c.args.bounds.max.z = below p.z c.max-max.result.z b.max.z pz mz (ap (λ (m : Coord). m.z) c.max-max.ensures.corner) c.if-p-max.true in
    let f : SFits w32 (c.args.p.z +ℤ pos 1) = one_more_fits p.z c.max-max.result.z pz mz (below p.z c.max-max.result.z c.max-max.result.z pz mz refl c.if-p-max.true) in
    (moved_z b p c.requires (to_z w32 (of_z w32 p.x)) (to_z w32 (of_z w32 p.y)) (to_z w32 (of_z w32 (to_z w32 (of_z w32 p.z) +ℤ pos 1))) px py f h (to_z-of_z w32 p.x px) (to_z-of_z w32 p.y py) (one_more p.z pz f)).0

pub returns-then-p-max-clause-nearer : goal.returns-then-p-max-clause-nearer
returns-then-p-max-clause-nearer c =
    let b = c.args.bounds in
    let p = c.args.p in
    let px : SFits w32 c.args.p.x = search rules in
    let py : SFits w32 c.args.p.y = search rules in
    let pz : SFits w32 c.args.p.z = search rules in
    let mx : SFits w32 c.max-max.result.x = search rules in
    let my : SFits w32 c.max-max.result.y = search rules in
    let mz : SFits w32 c.max-max.result.z = search rules in
    let h : c.args.p.z <ℤ c.args.bounds.max.z = below p.z c.max-max.result.z b.max.z pz mz (ap (λ (m : Coord). m.z) c.max-max.ensures.corner) c.if-p-max.true in
    let f : SFits w32 (c.args.p.z +ℤ pos 1) = one_more_fits p.z c.max-max.result.z pz mz (below p.z c.max-max.result.z c.max-max.result.z pz mz refl c.if-p-max.true) in
    (moved_z b p c.requires (to_z w32 (of_z w32 p.x)) (to_z w32 (of_z w32 p.y)) (to_z w32 (of_z w32 (to_z w32 (of_z w32 p.z) +ℤ pos 1))) px py f h (to_z-of_z w32 p.x px) (to_z-of_z w32 p.y py) (one_more p.z pz f)).1

pub returns-then-p-max-2-clause-next : goal.returns-then-p-max-2-clause-next
returns-then-p-max-2-clause-next c =
    let b = c.args.bounds in
    let p = c.args.p in
    let px : SFits w32 c.args.p.x = search rules in
    let py : SFits w32 c.args.p.y = search rules in
    let pz : SFits w32 c.args.p.z = search rules in
    let mx : SFits w32 c.max-max.result.x = search rules in
    let my : SFits w32 c.max-max.result.y = search rules in
    let mz : SFits w32 c.max-max.result.z = search rules in
    let ny : SFits w32 c.min-min.result.y = search rules in
    let nz : SFits w32 c.min-min.result.z = search rules in
    let ey = ap (λ (m : Coord). m.y) c.min-min.ensures.corner in
    let ez = ap (λ (m : Coord). m.z) c.min-min.ensures.corner in
    let by : SFits w32 c.args.bounds.min.y = subst (SFits w32) ey ny in
    let bz : SFits w32 c.args.bounds.min.z = subst (SFits w32) ez nz in
    let end : c.args.bounds.max.z ≤ℤ c.args.p.z = not_below p.z c.max-max.result.z b.max.z pz mz (ap (λ (m : Coord). m.z) c.max-max.ensures.corner) c.if-p-max.false in
    let h : c.args.p.y <ℤ c.args.bounds.max.y = below p.y c.max-max.result.y b.max.y py my (ap (λ (m : Coord). m.y) c.max-max.ensures.corner) c.if-p-max-2.true in
    let f : SFits w32 (c.args.p.y +ℤ pos 1) = one_more_fits p.y c.max-max.result.y py my (below p.y c.max-max.result.y c.max-max.result.y py my refl c.if-p-max-2.true) in
    (moved_y b p c.requires (to_z w32 (of_z w32 p.x)) (to_z w32 (of_z w32 (to_z w32 (of_z w32 p.y) +ℤ pos 1))) (to_z w32 (of_z w32 c.min-min.result.z)) px f bz end h (to_z-of_z w32 p.x px) (one_more p.y py f) (to_z-of_z w32 c.min-min.result.z nz ∙ ez)).0

pub returns-then-p-max-2-clause-nearer : goal.returns-then-p-max-2-clause-nearer
returns-then-p-max-2-clause-nearer c =
    let b = c.args.bounds in
    let p = c.args.p in
    let px : SFits w32 c.args.p.x = search rules in
    let py : SFits w32 c.args.p.y = search rules in
    let pz : SFits w32 c.args.p.z = search rules in
    let mx : SFits w32 c.max-max.result.x = search rules in
    let my : SFits w32 c.max-max.result.y = search rules in
    let mz : SFits w32 c.max-max.result.z = search rules in
    let ny : SFits w32 c.min-min.result.y = search rules in
    let nz : SFits w32 c.min-min.result.z = search rules in
    let ey = ap (λ (m : Coord). m.y) c.min-min.ensures.corner in
    let ez = ap (λ (m : Coord). m.z) c.min-min.ensures.corner in
    let by : SFits w32 c.args.bounds.min.y = subst (SFits w32) ey ny in
    let bz : SFits w32 c.args.bounds.min.z = subst (SFits w32) ez nz in
    let end : c.args.bounds.max.z ≤ℤ c.args.p.z = not_below p.z c.max-max.result.z b.max.z pz mz (ap (λ (m : Coord). m.z) c.max-max.ensures.corner) c.if-p-max.false in
    let h : c.args.p.y <ℤ c.args.bounds.max.y = below p.y c.max-max.result.y b.max.y py my (ap (λ (m : Coord). m.y) c.max-max.ensures.corner) c.if-p-max-2.true in
    let f : SFits w32 (c.args.p.y +ℤ pos 1) = one_more_fits p.y c.max-max.result.y py my (below p.y c.max-max.result.y c.max-max.result.y py my refl c.if-p-max-2.true) in
    (moved_y b p c.requires (to_z w32 (of_z w32 p.x)) (to_z w32 (of_z w32 (to_z w32 (of_z w32 p.y) +ℤ pos 1))) (to_z w32 (of_z w32 c.min-min.result.z)) px f bz end h (to_z-of_z w32 p.x px) (one_more p.y py f) (to_z-of_z w32 c.min-min.result.z nz ∙ ez)).1

pub returns-then-p-max-3-clause-next : goal.returns-then-p-max-3-clause-next
returns-then-p-max-3-clause-next c =
    let b = c.args.bounds in
    let p = c.args.p in
    let px : SFits w32 c.args.p.x = search rules in
    let py : SFits w32 c.args.p.y = search rules in
    let pz : SFits w32 c.args.p.z = search rules in
    let mx : SFits w32 c.max-max.result.x = search rules in
    let my : SFits w32 c.max-max.result.y = search rules in
    let mz : SFits w32 c.max-max.result.z = search rules in
    let ny : SFits w32 c.min-min.result.y = search rules in
    let nz : SFits w32 c.min-min.result.z = search rules in
    let ey = ap (λ (m : Coord). m.y) c.min-min.ensures.corner in
    let ez = ap (λ (m : Coord). m.z) c.min-min.ensures.corner in
    let by : SFits w32 c.args.bounds.min.y = subst (SFits w32) ey ny in
    let bz : SFits w32 c.args.bounds.min.z = subst (SFits w32) ez nz in
    let end : c.args.bounds.max.z ≤ℤ c.args.p.z = not_below p.z c.max-max.result.z b.max.z pz mz (ap (λ (m : Coord). m.z) c.max-max.ensures.corner) c.if-p-max.false in
    let end' : c.args.bounds.max.y ≤ℤ c.args.p.y = not_below p.y c.max-max.result.y b.max.y py my (ap (λ (m : Coord). m.y) c.max-max.ensures.corner) c.if-p-max-2.false in
    let h : c.args.p.x <ℤ c.args.bounds.max.x = below p.x c.max-max.result.x b.max.x px mx (ap (λ (m : Coord). m.x) c.max-max.ensures.corner) c.if-p-max-3.true in
    let f : SFits w32 (c.args.p.x +ℤ pos 1) = one_more_fits p.x c.max-max.result.x px mx (below p.x c.max-max.result.x c.max-max.result.x px mx refl c.if-p-max-3.true) in
    (moved_x b p c.requires (to_z w32 (of_z w32 (to_z w32 (of_z w32 p.x) +ℤ pos 1))) (to_z w32 (of_z w32 c.min-min.result.y)) (to_z w32 (of_z w32 c.min-min.result.z)) f by bz end end' h (one_more p.x px f) (to_z-of_z w32 c.min-min.result.y ny ∙ ey) (to_z-of_z w32 c.min-min.result.z nz ∙ ez)).0

pub returns-then-p-max-3-clause-nearer : goal.returns-then-p-max-3-clause-nearer
returns-then-p-max-3-clause-nearer c =
    let b = c.args.bounds in
    let p = c.args.p in
    let px : SFits w32 c.args.p.x = search rules in
    let py : SFits w32 c.args.p.y = search rules in
    let pz : SFits w32 c.args.p.z = search rules in
    let mx : SFits w32 c.max-max.result.x = search rules in
    let my : SFits w32 c.max-max.result.y = search rules in
    let mz : SFits w32 c.max-max.result.z = search rules in
    let ny : SFits w32 c.min-min.result.y = search rules in
    let nz : SFits w32 c.min-min.result.z = search rules in
    let ey = ap (λ (m : Coord). m.y) c.min-min.ensures.corner in
    let ez = ap (λ (m : Coord). m.z) c.min-min.ensures.corner in
    let by : SFits w32 c.args.bounds.min.y = subst (SFits w32) ey ny in
    let bz : SFits w32 c.args.bounds.min.z = subst (SFits w32) ez nz in
    let end : c.args.bounds.max.z ≤ℤ c.args.p.z = not_below p.z c.max-max.result.z b.max.z pz mz (ap (λ (m : Coord). m.z) c.max-max.ensures.corner) c.if-p-max.false in
    let end' : c.args.bounds.max.y ≤ℤ c.args.p.y = not_below p.y c.max-max.result.y b.max.y py my (ap (λ (m : Coord). m.y) c.max-max.ensures.corner) c.if-p-max-2.false in
    let h : c.args.p.x <ℤ c.args.bounds.max.x = below p.x c.max-max.result.x b.max.x px mx (ap (λ (m : Coord). m.x) c.max-max.ensures.corner) c.if-p-max-3.true in
    let f : SFits w32 (c.args.p.x +ℤ pos 1) = one_more_fits p.x c.max-max.result.x px mx (below p.x c.max-max.result.x c.max-max.result.x px mx refl c.if-p-max-3.true) in
    (moved_x b p c.requires (to_z w32 (of_z w32 (to_z w32 (of_z w32 p.x) +ℤ pos 1))) (to_z w32 (of_z w32 c.min-min.result.y)) (to_z w32 (of_z w32 c.min-min.result.z)) f by bz end end' h (one_more p.x px f) (to_z-of_z w32 c.min-min.result.y ny ∙ ey) (to_z-of_z w32 c.min-min.result.z nz ∙ ez)).1

pub returns-clause-next : goal.returns-clause-next
returns-clause-next c =
    let b = c.args.bounds in
    let p = c.args.p in
    let px : SFits w32 c.args.p.x = search rules in
    let py : SFits w32 c.args.p.y = search rules in
    let pz : SFits w32 c.args.p.z = search rules in
    let mx : SFits w32 c.max-max.result.x = search rules in
    let my : SFits w32 c.max-max.result.y = search rules in
    let mz : SFits w32 c.max-max.result.z = search rules in
    no_next b p c.requires (not_below p.z c.max-max.result.z b.max.z pz mz (ap (λ (m : Coord). m.z) c.max-max.ensures.corner) c.if-p-max.false) (not_below p.y c.max-max.result.y b.max.y py my (ap (λ (m : Coord). m.y) c.max-max.ensures.corner) c.if-p-max-2.false)
    (not_below p.x c.max-max.result.x b.max.x px mx (ap (λ (m : Coord). m.x) c.max-max.ensures.corner) c.if-p-max-3.false)
