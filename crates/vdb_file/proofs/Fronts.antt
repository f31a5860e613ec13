-- Reads one field after another: what was read, and what a fault at a later position shows about the bytes at an earlier one.
use Rattle.vdb_file.proofs.Common.{◌≡◌, ℕ, ◌<◌, List, [], ◌++◌, length, sym, ap, ◌∙◌, append_assoc, append-nil, length-append, arith, Option, Some, None, IfSome, Consumes, IsAtEnd, Claims, LoadFault, Fails, NoFront, Position, Took}
use Rattle.std.proofs.KnownBytes.{Consumes-nil, Consumes-trans}
use Rattle.vdb_file.proofs.Unambiguous.{Says}

-- ---- the bytes that were read

-- at first no byte is read
pub took_nothing : (p : Position) → Took p p []
took_nothing p = record { bytes = Consumes-nil p.known; fewer = omega arith }

-- one text after another
pub took_both : (a b c : Position) (x y : List ℕ) → Took a b x → Took b c y → Took a c (x ++ y)
took_both a b c x y p q = record {
  bytes = Consumes-trans a.known b.known c.known x y p.bytes q.bytes;
  fewer = omega (arith, length-append x y, p.fewer, q.fewer);
}

-- ---- bytes that may not be known

-- a property of the bytes ahead of one position, from a property of those ahead of a later one
pub some_after : (a b : Option (List ℕ)) (text : List ℕ) (P Q : List ℕ → Type 0) → Consumes a b text → ((bytes here : List ℕ) → bytes ≡ text ++ here → Q here → P bytes) → IfSome b Q → IfSome a P
some_after None b text P Q c f q = tt
some_after (Some x) None text P Q c f q = absurd c
some_after (Some x) (Some y) text P Q c f q = f x y c q

-- a property of the bytes, replaced by one that follows from it
pub some_turn : (a : Option (List ℕ)) (P Q : List ℕ → Type 0) → ((bytes : List ℕ) → Q bytes → P bytes) → IfSome a Q → IfSome a P
some_turn None P Q f q = tt
some_turn (Some x) P Q f q = f x q

-- a property that all bytes have
pub some_any : (a : Option (List ℕ)) (P : List ℕ → Type 0) → ((bytes : List ℕ) → P bytes) → IfSome a P
some_any None P f = tt
some_any (Some x) P f = f x

-- ---- faults

-- texts before the same rest have the same length
same_length : (p q x y : List ℕ) → x ≡ y → p ++ x ≡ q ++ y → length p ≡ length q
same_length p q x y e h = omega (arith, ap length h, ap length e, length-append p x, length-append q y)

module _ {A : Type 0} (P : A → Type 0) (code : A → List ℕ) where
  -- no field that begins each of those items is ahead, so none of them is
  pub fails_first : {B : Type 0} (Q : B → Type 0) (part : B → List ℕ) (field : A → B) (tail : A → List ℕ) (fault : LoadFault) (old : Position)
      → ((a : A) → P a → Q (field a)) → ((a : A) → P a → code a ≡ part (field a) ++ tail a) → Fails Q part fault old → Fails P code fault old
  fails_first Q part field tail fault old has split h = record {
    none = λ claims. some_turn old.known (λ bytes. NoFront P code bytes old.capacity) (λ bytes. NoFront Q part bytes old.capacity)
        (λ bytes none a rest p fits e.
        let s = split a p in
        none (field a) (tail a ++ rest) (has a p) (omega (arith, ap length s, length-append (part (field a)) (tail a)))
        (e ∙ ap (λ t. t ++ rest) s ∙ append_assoc (part (field a)) (tail a) rest))
        (h.none claims);
  }

  -- a field was read; from then on only the items that begin with it count, by the rest of their codes
  pub fails_after : (text : List ℕ) (C : A → Type 0) (part tail : A → List ℕ) (fault : LoadFault) (old mid : Position)
      → Took old mid text → ((a : A) → P a → Says text (part a) (C a)) → ((a : A) → P a → code a ≡ part a ++ tail a)
      → Fails (λ a. P a × C a) tail fault mid → Fails P code fault old
  fails_after text C part tail fault old mid took says split h = record {
    none = λ claims. some_after old.known mid.known text (λ bytes. NoFront P code bytes old.capacity) (λ bytes. NoFront (λ a. P a × C a) tail bytes mid.capacity) took.bytes
        (λ bytes here front none a rest p fits e.
        let s = split a p in
        let both = sym front ∙ e ∙ ap (λ t. t ++ rest) s ∙ append_assoc (part a) (tail a) rest in
        let same = (says a p).same here (tail a ++ rest) both in
        let long : length text ≡ length (part a) = same_length text (part a) here (tail a ++ rest) same.1 both in
        none a rest (p, same.0) (omega (arith, took.fewer, long, ap length s, length-append (part a) (tail a))) same.1)
        (h.none claims);
  }

  -- no item has P
  pub fails_none : (fault : LoadFault) (old : Position) → ((a : A) → P a → ⊥) → Fails P code fault old
  fails_none fault old h = record { none = λ claims. some_any old.known (λ bytes. NoFront P code bytes old.capacity) (λ bytes a rest p fits e. h a p) }

  -- the reader ended before the field did
  pub fails_short : (text : List ℕ) (fault : LoadFault) (old mid : Position) → Took old mid text → IsAtEnd mid.known → ((a : A) → P a → length text < length (code a)) → Fails P code fault old
  fails_short text fault old mid took end h = record { none = λ claims. short old.known mid.known took.bytes end }
    where
      short : (a b : Option (List ℕ)) → Consumes a b text → IsAtEnd b → IfSome a (λ bytes. NoFront P code bytes old.capacity)
      short None b c e = tt
      short (Some x) None c e = absurd c
      short (Some x) (Some y) c e = λ a rest p fits front.
          let long = h a p in
          let none : length y ≡ 0 = ap length e in
          absurd (omega (arith, long, none, ap length front, ap length c, length-append (code a) rest, length-append text y))

  -- other items with other codes, if each belongs to an item of the code
  pub fails_turn : {B : Type 0} (Q : B → Type 0) (part : B → List ℕ) (field : A → B) (fault : LoadFault) (old : Position)
      → ((a : A) → P a → Q (field a)) → ((a : A) → P a → code a ≡ part (field a)) → Fails Q part fault old → Fails P code fault old
  fails_turn Q part field fault old has same h = fails_first Q part field (λ a. []) fault old has (λ a p. same a p ∙ sym (append-nil (part (field a)))) h

  -- a fault that claims nothing about the bytes
  pub fails_silent : (fault : LoadFault) (old : Position) → (Claims fault → ⊥) → Fails P code fault old
  fails_silent fault old h = record { none = λ claims. absurd (h claims) }
