-- Facts of every element of a list. Assumes nothing.
use Rattle.std.proofs.Common.{List, [], ◌∷◌, ◌++◌, map}
use Rattle.std.specs.List.{AllByRecursion}

module _ {X : Type 0} where
  pub all_append : (P : X → Type 0) (xs ys : List X) → AllByRecursion P xs → AllByRecursion P ys → AllByRecursion P (xs ++ ys)
  all_append P [] ys h k = k
  all_append P (x ∷ xs) ys h k = (h.0, all_append P xs ys h.1 k)

  pub all_imp : (P Q : X → Type 0) → ((x : X) → P x → Q x) → (xs : List X) → AllByRecursion P xs → AllByRecursion Q xs
  all_imp P Q f [] h = tt
  all_imp P Q f (x ∷ xs) h = (f x h.0, all_imp P Q f xs h.1)

module _ {X Y : Type 0} (g : X → Y) where
  pub all_map : (P : X → Type 0) (Q : Y → Type 0) → ((x : X) → P x → Q (g x)) → (xs : List X) → AllByRecursion P xs → AllByRecursion Q (map g xs)
  all_map P Q f [] h = tt
  all_map P Q f (x ∷ xs) h = (f x h.0, all_map P Q f xs h.1)

  pub all_map₂ : (P Q : X → Type 0) (R : Y → Type 0) → ((x : X) → P x → Q x → R (g x)) → (xs : List X) → AllByRecursion P xs → AllByRecursion Q xs → AllByRecursion R (map g xs)
  all_map₂ P Q R f [] h k = tt
  all_map₂ P Q R f (x ∷ xs) h k = (f x h.0 k.0, all_map₂ P Q R f xs h.1 k.1)

  pub all_of_map : (Q : Y → Type 0) → ((x : X) → Q (g x)) → (xs : List X) → AllByRecursion Q (map g xs)
  all_of_map Q f [] = tt
  all_of_map Q f (x ∷ xs) = (f x, all_of_map Q f xs)

  pub all_unmap : (P : X → Type 0) (Q : Y → Type 0) → ((x : X) → Q (g x) → P x) → (xs : List X) → AllByRecursion Q (map g xs) → AllByRecursion P xs
  all_unmap P Q f [] h = tt
  all_unmap P Q f (x ∷ xs) h = (f x h.0, all_unmap P Q f xs h.1)
