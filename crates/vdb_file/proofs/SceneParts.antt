-- Reads scenes and files.
use Rattle.vdb_file.proofs.Common.{◌≡◌, false, ℕ, ◌<◌, ◌≤◌, ◌^◌, List, [], ◌++◌, length, refl, sym, ap, subst, arith, codes, ⊤, flat_map, w16, to_be_bytes, Grid, Scene, AreItems, IsFile, IsNamed, IsSceneOf, bytes_of_file, name_of, named_bytes, version_number, Fails, Position, Took, LoadFault, Version, One, Two}
use Rattle.vdb_scene.specs.Scene.{new_grid}
use Rattle.vdb_scene.specs.declared.scalar.Scalar.TheVariants.{Bool as truth}
use Rattle.vdb_file.specs.internal.Parts.{scene_bytes}
use Rattle.vdb_file.proofs.Unambiguous.{says_fixed}
use Rattle.vdb_file.proofs.Numbers.{says_u16}
use Rattle.vdb_file.proofs.Beginnings.{small_version, version_bytes}
use Rattle.vdb_file.proofs.Fronts.{fails_after, fails_first, fails_none, fails_turn, took_both}

-- any grid under any name
pub any_named : List ℕ × Grid
any_named = ([], new_grid (truth false) 0)

-- ---- grids after their count

-- the count of at most 64 grids fits two bytes
few_grids : (n : ℕ) → n ≤ 64 → n < 2 ^ 16
few_grids n h = omega (arith, h)

module _ (version : Version) (fault : LoadFault) (old : Position) where
  -- no count is ahead
  pub no_grid_count : Fails (λ n. n < 2 ^ 16) (to_be_bytes w16) fault old → Fails (IsSceneOf version) (scene_bytes version) fault old
  no_grid_count h =
      fails_first (IsSceneOf version) (scene_bytes version) (λ n. n < 2 ^ 16) (to_be_bytes w16) (λ s. length s) (λ s. flat_map (named_bytes version) s) fault old (λ s p. few_grids (length s) p.few) (λ s p. refl) h

  module _ (mid : Position) (n : ℕ) (small : n < 2 ^ 16) (took : Took old mid (to_be_bytes w16 n)) where
    -- the count was read
    after_grid_count : Fails (λ s. IsSceneOf version s × (n ≡ length s)) (flat_map (named_bytes version)) fault mid → Fails (IsSceneOf version) (scene_bytes version) fault old
    after_grid_count h =
        fails_after (IsSceneOf version) (scene_bytes version) (to_be_bytes w16 n) (λ s. n ≡ length s) (λ s. to_be_bytes w16 (length s)) (flat_map (named_bytes version)) fault old mid took
        (λ s p. says_u16 n (length s) small (few_grids (length s) p.few)) (λ s p. refl) h

    -- no scene has this many grids
    pub too_many_grids : 64 < n → Fails (IsSceneOf version) (scene_bytes version) fault old
    too_many_grids h =
        after_grid_count (fails_none (λ s. IsSceneOf version s × (n ≡ length s)) (flat_map (named_bytes version)) fault mid (λ s p. let few = p.0.few in absurd (omega (arith, few, p.1, h))))

    -- this many grids aren't ahead
    pub no_grids : Fails (AreItems (IsNamed version) name_of n) (flat_map (named_bytes version)) fault mid → Fails (IsSceneOf version) (scene_bytes version) fault old
    no_grids h =
        after_grid_count (fails_turn (λ s. IsSceneOf version s × (n ≡ length s)) (flat_map (named_bytes version)) (AreItems (IsNamed version) name_of n) (flat_map (named_bytes version)) (λ s. s) fault mid
        (λ s p. record { count = sym p.1; each = p.0.grids; in_order = p.0.in_order }) (λ s p. refl) h)

-- ---- a file

-- two versions with one number are equal
same_version : (a b : Version) → version_number a ≡ version_number b → a ≡ b
same_version One One e = refl
same_version One Two e = absurd (omega (arith, e))
same_version Two One e = absurd (omega (arith, e))
same_version Two Two e = refl

abbrev behind_magic : Version × Scene → List ℕ
behind_magic file = version_bytes file.0 ++ scene_bytes file.0 file.1

module _ (fault : LoadFault) (old : Position) where
  -- `VDBS` isn't ahead
  pub no_magic : Fails (λ (u : Unit {0}). ⊤) (λ u. codes "VDBS") fault old → Fails IsFile bytes_of_file fault old
  no_magic h = fails_first IsFile bytes_of_file (λ (u : Unit {0}). ⊤) (λ u. codes "VDBS") (λ file. tt) behind_magic fault old (λ file p. tt) (λ file p. refl) h

  module _ (one : Position) (took : Took old one (codes "VDBS")) where
    after_magic : Fails (λ file. IsFile file × (codes "VDBS" ≡ codes "VDBS")) behind_magic fault one → Fails IsFile bytes_of_file fault old
    after_magic h =
        fails_after IsFile bytes_of_file (codes "VDBS") (λ file. codes "VDBS" ≡ codes "VDBS") (λ file. codes "VDBS") behind_magic fault old one took (λ file p. says_fixed (codes "VDBS") (codes "VDBS") refl) (λ file p. refl) h

    -- no version is ahead
    pub no_file_version : Fails (λ (v : Version). ⊤) version_bytes fault one → Fails IsFile bytes_of_file fault old
    no_file_version h =
        after_magic (fails_first (λ file. IsFile file × (codes "VDBS" ≡ codes "VDBS")) behind_magic (λ (v : Version). ⊤) version_bytes (λ file. file.0) (λ file. scene_bytes file.0 file.1) fault one (λ file p. tt) (λ file p. refl) h)

    -- no grids are ahead
    pub no_file_scene : (two : Position) (version : Version) → Took one two (version_bytes version) → Fails (IsSceneOf version) (scene_bytes version) fault two → Fails IsFile bytes_of_file fault old
    no_file_scene two version more h =
        let Is : Version × Scene → Type 0 = λ file. IsFile file × (codes "VDBS" ≡ codes "VDBS") in
        let same : (v : Version) → version_number version ≡ version_number v → v ≡ version = λ v e. sym (same_version version v e) in
        after_magic (fails_after Is behind_magic (version_bytes version) (λ file. version_number version ≡ version_number file.0) (λ file. version_bytes file.0) (λ file. scene_bytes file.0 file.1) fault one two more
        (λ file p. says_u16 (version_number version) (version_number file.0) (small_version version) (small_version file.0)) (λ file p. refl)
        (fails_turn (λ file. Is file × (version_number version ≡ version_number file.0)) (λ file. scene_bytes file.0 file.1) (IsSceneOf version) (scene_bytes version) (λ file. file.1) fault two
        (λ file p. subst (λ v. IsSceneOf v file.1) (same file.0 p.1) p.0.0) (λ file p. ap (λ v. scene_bytes v file.1) (same file.0 p.1)) h))

-- the whole file was read
pub file_read : (old one two new : Position) (version : Version) (s : Scene) → IsSceneOf version s → Took old one (codes "VDBS") → Took one two (version_bytes version) → Took two new (scene_bytes version s)
    → IsFile (version, s) × Took old new (bytes_of_file (version, s))
file_read old one two new version s is first second third =
    (is, took_both old one new (codes "VDBS") (version_bytes version ++ scene_bytes version s) first (took_both one two new (version_bytes version) (scene_bytes version s) second third))
