-- Texts and metadata pairs of worked examples, found by computing.
use Rattle.vdb_scene.proofs.Common.{◌≡◌, refl, ◌+◌, true, false, [], ◌∷◌, map, codes, replicate, Ok, Err, range_with_len, Pairs, SetsPair, has_pair, is_text, may_set, with_pair, without_pair}
use Rattle.vdb_scene.specs.declared.answer.Refusal.TheVariants as refusals

-- ---- texts

no_byte : is_text [] ≡ false
no_byte = refl

sixty_four : is_text (replicate 64 120) ≡ true
sixty_four = refl

sixty_five : is_text (replicate 65 120) ≡ false
sixty_five = refl

least_and_greatest : is_text (33 ∷ 126 ∷ []) ≡ true
least_and_greatest = refl

space : is_text (codes "a b") ≡ false
space = refl

delete : is_text (127 ∷ []) ≡ false
delete = refl

-- ---- pairs

abbrev two : Pairs
two = (codes "a", codes "1") ∷ (codes "b", codes "2") ∷ []

between_the_two : with_pair two (codes "a_") (codes "3") ≡ (codes "a", codes "1") ∷ (codes "a_", codes "3") ∷ (codes "b", codes "2") ∷ []
between_the_two = refl

in_the_place : with_pair two (codes "a") (codes "3") ≡ (codes "a", codes "3") ∷ (codes "b", codes "2") ∷ []
in_the_place = refl

the_other_stays : without_pair two (codes "a") ≡ (codes "b", codes "2") ∷ []
the_other_stays = refl

nothing_to_remove : without_pair two (codes "c") ≡ two
nothing_to_remove = refl

-- sixteen pairs, under the keys aa to ap
abbrev sixteen : Pairs
sixteen = map (λ k. (97 ∷ (97 + k) ∷ [], codes "x")) (range_with_len 0 16)

there : has_pair sixteen (codes "ap") ≡ true
there = refl

missing : has_pair sixteen (codes "aq") ≡ false
missing = refl

one_too_many : may_set sixteen (codes "aq") ≡ false
one_too_many = refl

another_text : may_set sixteen (codes "ap") ≡ true
another_text = refl

-- a seventeenth pair fails, a text that replaces another does not and allocates nothing
refused : SetsPair sixteen (codes "aq") (codes "y") (Err refusals.MetaLimit) sixteen
refused = (refl, refl)

replaced : SetsPair sixteen (codes "ap") (codes "y") (Ok tt) (with_pair sixteen (codes "ap") (codes "y"))
replaced = (refl, refl)
