-- Reads `VDBS` and the version.
use Rattle.vdb_file.proofs.Common.{◌≡◌, ℕ, ◌<◌, ◌≤◌, ◌^◌, List, [], ◌++◌, length, length-append, take, drop, length-take, take-append-drop, refl, sym, ap, subst, ◌∙◌, arith, common_steps, Bool, true, false, nat_le, Option, Some, None, IfSome, codes, ⊤, w16, to_be_bytes, Consumes, BeginsAsFile, Claims, HasOtherMagic, HasOtherVersion, IsFieldFault, IsInner, IsMagicFault, IsVersionFault, version_number, Fails, NoFront, Position, Took, LoadFault, Version, One, Two}
use Rattle.vdb_file.specs.Faults.{StartsWithOther}
use Rattle.vdb_file.specs.declared.fault.LoadFault.TheVariants as faults
use Rattle.vdb_file.proofs.Unambiguous.{says_fixed}
use Rattle.vdb_file.proofs.Numbers.{says_u16}
use Rattle.vdb_file.proofs.Fronts.{fails_after, fails_none, fails_turn, some_after, some_turn}

-- a fault after the version is a fault of neither `VDBS` nor the version
pub inner_magic : (fault : LoadFault) → IsInner fault → IsMagicFault fault
inner_magic faults.Magic h = absurd h
inner_magic faults.Version h = absurd h
inner_magic faults.Trailing h = absurd h
inner_magic _ h = tt

pub inner_version : (fault : LoadFault) → IsInner fault → IsVersionFault fault
inner_version faults.Magic h = absurd h
inner_version faults.Version h = absurd h
inner_version faults.Trailing h = absurd h
inner_version _ h = tt

-- each of these faults is the fault of a field
pub inner_field : (fault : LoadFault) → IsInner fault → IsFieldFault fault
inner_field faults.Magic h = absurd h
inner_field faults.Version h = absurd h
inner_field faults.Trailing h = absurd h
inner_field _ h = tt

pub magic_field : (fault : LoadFault) → IsMagicFault fault → IsFieldFault fault
magic_field faults.Version h = absurd h
magic_field faults.Trailing h = absurd h
magic_field _ h = tt

pub version_field : (fault : LoadFault) → IsVersionFault fault → IsFieldFault fault
version_field faults.Magic h = absurd h
version_field faults.Trailing h = absurd h
version_field _ h = tt

-- ---- `VDBS`

-- four other bytes were read
pub other_magic : (fault : LoadFault) (old one : Position) (field : List ℕ) → Took old one field → length field ≡ 4 → (field ≡ codes "VDBS" → ⊥) → Fails (λ (u : Unit {0}). ⊤) (λ u. codes "VDBS") fault old
other_magic fault old one field took len none =
    fails_after (λ (u : Unit {0}). ⊤) (λ u. codes "VDBS") field (λ u. field ≡ codes "VDBS") (λ u. codes "VDBS") (λ u. []) fault old one took (λ u p. says_fixed field (codes "VDBS") len) (λ u p. refl)
    (fails_none (λ (u : Unit {0}). ⊤ × (field ≡ codes "VDBS")) (λ u. []) fault one (λ u p. none p.1))

pub has_other_magic : (a b : Option (List ℕ)) (field : List ℕ) → Consumes a b field → length field ≡ 4 → (field ≡ codes "VDBS" → ⊥) → IfSome a HasOtherMagic
has_other_magic None b field took len none = tt
has_other_magic (Some x) None field took len none = absurd took
has_other_magic (Some x) (Some y) field took len none = record { magic = field; rest = y; begins = took; four = len; differs = none }

-- ---- version

-- the number of a version has two bytes
pub small_version : (v : Version) → version_number v < 2 ^ 16
small_version One = omega arith
small_version Two = omega arith

abbrev pub version_bytes : Version → List ℕ
version_bytes v = to_be_bytes w16 (version_number v)

-- no number was read
pub no_version : (fault : LoadFault) (old : Position) → Fails (λ n. n < 2 ^ 16) (to_be_bytes w16) fault old → Fails (λ (v : Version). ⊤) version_bytes fault old
no_version fault old h = fails_turn (λ (v : Version). ⊤) version_bytes (λ n. n < 2 ^ 16) (to_be_bytes w16) version_number fault old (λ v p. small_version v) (λ v p. refl) h

-- the version comes after `VDBS`
pub has_other_version : (a b : Option (List ℕ)) → Consumes a b (codes "VDBS") → IfSome b StartsWithOther → IfSome a HasOtherVersion
has_other_version None b took h = tt
has_other_version (Some x) None took h = absurd took
has_other_version (Some x) (Some y) took h = record { behind = y; begins = took; other = h }

-- ---- bytes that end early

-- no field of n bytes is ahead, so fewer bytes are
pub fewer_than : (n : ℕ) (fault : LoadFault) (old : Position) → Claims fault → n ≤ old.capacity → Fails (λ b. length b ≡ n) (λ b. b) fault old → IfSome old.known (λ bytes. length bytes < n)
fewer_than n fault old claims fits h = some_turn old.known (λ bytes. length bytes < n) (λ bytes. NoFront (λ b. length b ≡ n) (λ b. b) bytes old.capacity) few (h.none claims)
  where
    few : (bytes : List ℕ) → NoFront (λ b. length b ≡ n) (λ b. b) bytes old.capacity → length bytes < n
    few bytes none = decide (nat_le n (length bytes)) refl
      where
        decide : (b : Bool) → nat_le n (length bytes) ≡ b → length bytes < n
        decide true e =
            let long : n ≤ length bytes = grind (arith, common_steps) in
            let whole : length (take n bytes) ≡ n = omega (arith, length-take n bytes, long) in
            absurd (none (take n bytes) (drop n bytes) whole (omega (arith, whole, fits)) (sym (take-append-drop n bytes)))
        decide false e = grind (arith, common_steps)

-- no number of two bytes is ahead
pub no_other : (fault : LoadFault) (old : Position) → Claims fault → 2 ≤ old.capacity → Fails (λ n. n < 2 ^ 16) (to_be_bytes w16) fault old → IfSome old.known (λ bytes. StartsWithOther bytes → ⊥)
no_other fault old claims fits h =
    some_turn old.known (λ bytes. StartsWithOther bytes → ⊥) (λ bytes. NoFront (λ n. n < 2 ^ 16) (to_be_bytes w16) bytes old.capacity) (λ bytes none o. none o.number o.rest o.small fits o.begins) (h.none claims)

-- the bytes end before `VDBS` does
pub short_magic : (known : Option (List ℕ)) → IfSome known (λ bytes. length bytes < 4) → IfSome known BeginsAsFile
short_magic known h = some_turn known BeginsAsFile (λ bytes. length bytes < 4) (λ bytes few. (λ m. let f = m.four in absurd (omega (arith, few, f, ap length m.begins, length-append m.magic m.rest)), λ v. absurd (omega (arith, few, ap length v.begins, length-append (codes "VDBS") v.behind)))) h

-- `VDBS`, and then no number that isn't a version
pub begins_as_file : (a b : Option (List ℕ)) → Consumes a b (codes "VDBS") → IfSome b (λ bytes. StartsWithOther bytes → ⊥) → IfSome a BeginsAsFile
begins_as_file a b took h =
    some_after a b (codes "VDBS") BeginsAsFile (λ bytes. StartsWithOther bytes → ⊥) took
    (λ bytes here front none. (λ m. m.differs ((says_fixed m.magic (codes "VDBS") m.four).same m.rest here (sym m.begins ∙ front)).0, λ v. none (subst StartsWithOther ((says_fixed (codes "VDBS") (codes "VDBS") refl).same v.behind here (sym v.begins ∙ front)).1 v.other))) h

-- the number of a version is ahead
pub is_version : (b c : Option (List ℕ)) (v : Version) → Consumes b c (version_bytes v) → IfSome b (λ bytes. StartsWithOther bytes → ⊥)
is_version None c v took = tt
is_version (Some x) None v took = absurd took
is_version (Some x) (Some y) v took = λ o. is_not v o ((says_u16 o.number (version_number v) o.small (small_version v)).same o.rest y (sym o.begins ∙ took)).0
  where
    is_not : (v : Version) (o : StartsWithOther x) → o.number ≡ version_number v → ⊥
    is_not One o e = o.not_one e
    is_not Two o e = o.not_two e
