-- What a contract sees of a pool.
use Rattle.std.specs.Prelude.{◌≡◌, ◌⊎◌, ℕ, ◌+◌, ◌-◌, ◌^◌, ◌<◌, ◌≤◌, List, [], ◌∷◌, ◌++◌, length, take, Option, Some, None, is_some, count_by, get_or, slice_set, refl}
use Rattle.std.specs.Coded.{Coded, code_by, coded×, coded_ℕ, coded_list, coded_option}
use denote.RawPtr.{Ptr, coded_ptr}

-- the node or nothing in each slot that was ever held, the vacant ones among them with the one that was vacated last
-- first, and the address of each slot, also of those that were never held
pub record Contents (T : Type 0) : Type 0 where
  pub nodes : List (Option T)
  pub vacant : List ℕ
  pub places : List Ptr

-- how the logic stores them
abbrev pub contents_code : {T : Type 0} → Coded T → Coded (Contents T)
contents_code {T} code =
    code_by
    (List (Option T) × (List ℕ × List Ptr))
    (coded× (coded_list (coded_option code)) (coded× (coded_list coded_ℕ) (coded_list coded_ptr)))
    (λ c. (c.nodes, (c.vacant, c.places)))
    (λ p. record { nodes = p.0; vacant = p.1.0; places = p.1.1 })
    (λ _. refl)

-- the number is in the list
abbrev pub IsAmong : ℕ → List ℕ → Type 0
IsAmong n [] = ⊥
IsAmong n (m ∷ ms) = (n ≡ m) ⊎ IsAmong n ms

-- no number is twice in the list
abbrev pub AreDistinct : List ℕ → Type 0
AreDistinct [] = Unit {0}
AreDistinct (n ∷ ns) = (IsAmong n ns → ⊥) × AreDistinct ns

-- each number is above those after it
abbrev pub IsFalling : List ℕ → Type 0
IsFalling [] = Unit {0}
IsFalling (n ∷ ns) = ((m : ℕ) → IsAmong m ns → m < n) × IsFalling ns

module _ {T : Type 0} where
  -- the node in a slot, if the slot is held
  abbrev pub node_at : Contents T → ℕ → Option T
  node_at c slot = get_or c.nodes slot None

  -- how many slots are held
  abbrev pub count_of : Contents T → ℕ
  count_of c = count_by is_some c.nodes

  -- how many slots are not held: the vacant ones, and those never used
  abbrev pub spare_of : Contents T → ℕ
  spare_of c = length c.vacant + (length c.places - length c.nodes)

  -- the slot that the next insert takes
  abbrev pub next_slot : Contents T → ℕ
  next_slot c = next c.vacant
    where
      next : List ℕ → ℕ
      next [] = length c.nodes
      next (slot ∷ rest) = slot

  -- another node in a held slot
  abbrev pub with_node : Contents T → ℕ → T → Contents T
  with_node c slot node = record { nodes = slice_set c.nodes slot (Some node); vacant = c.vacant; places = c.places }

  -- the node is in the next slot, which is held
  abbrev pub with_inserted : Contents T → T → Contents T
  with_inserted c node = record { nodes = after_list c.vacant; vacant = rest c.vacant; places = c.places }
    where
      after_list : List ℕ → List (Option T)
      after_list [] = c.nodes ++ Some node ∷ []
      after_list (slot ∷ _) = slice_set c.nodes slot (Some node)

      rest : List ℕ → List ℕ
      rest [] = []
      rest (_ ∷ slots) = slots

  -- the slot is vacant, and the next insert takes it
  abbrev pub without_node : Contents T → ℕ → Contents T
  without_node c slot = record { nodes = slice_set c.nodes slot None; vacant = slot ∷ c.vacant; places = c.places }

  -- more slots may follow at the end, and nothing else changes
  pub record Grows (old new : Contents T) : Type 0 where
    pub nodes : new.nodes ≡ old.nodes
    pub vacant : new.vacant ≡ old.vacant
    pub places : take (length old.places) new.places ≡ old.places

  -- each vacant slot is listed once and no other is, and no slot number is 2 ^ 32 - 1 or more
  pub record IsOrderly (c : Contents T) : Type 0 where
    pub once : AreDistinct c.vacant
    pub vacant : (slot : ℕ) → IsAmong slot c.vacant → (slot < length c.nodes) × (node_at c slot ≡ None)
    pub listed : (slot : ℕ) → slot < length c.nodes → node_at c slot ≡ None → IsAmong slot c.vacant
    pub within : length c.nodes ≤ length c.places
    pub limit : length c.places ≤ 2 ^ 32 - 1
