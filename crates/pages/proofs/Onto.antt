-- Bytes onto memory from a place on, by recursion.
use Rattle.std.proofs.Common.{◌≡◌, ℕ, zero, suc, ◌+◌, ◌≤◌, List, [], ◌∷◌, ◌++◌, length, take, drop, set, refl, ap, sym, ◌∙◌, arith}
use Rattle.pages.specs.Pages.{over}

abbrev pub onto : ℕ → List ℕ → List ℕ → List ℕ
onto n bytes [] = []
onto zero [] (m ∷ ms) = m ∷ ms
onto zero (b ∷ bytes) (m ∷ ms) = b ∷ onto zero bytes ms
onto (suc n) bytes (m ∷ ms) = m ∷ onto n bytes ms

pub from_front : (bytes memory : List ℕ) → over bytes memory ≡ onto 0 bytes memory
unfolding over
from_front [] [] = refl
from_front [] (m ∷ ms) = refl
from_front (b ∷ bytes) [] = refl
from_front (b ∷ bytes) (m ∷ ms) = let rest = from_front bytes ms in unfold over in ap (λ t. b ∷ t) rest

pub from_place : (n : ℕ) (bytes memory : List ℕ) → take n memory ++ over bytes (drop n memory) ≡ onto n bytes memory
from_place zero bytes memory = from_front bytes memory
from_place (suc n) bytes [] = from_front bytes []
from_place (suc n) bytes (m ∷ ms) = ap (λ t. m ∷ t) (from_place n bytes ms)

pub onto_length : (n : ℕ) (bytes memory : List ℕ) → length (onto n bytes memory) ≡ length memory
onto_length n bytes [] = refl
onto_length zero [] (m ∷ ms) = refl
onto_length zero (b ∷ bytes) (m ∷ ms) = ap suc (onto_length 0 bytes ms)
onto_length (suc n) bytes (m ∷ ms) = ap suc (onto_length n bytes ms)

-- bytes and bytes behind them
pub onto_append :
    (n : ℕ) (first then memory : List ℕ) → onto (n + length first) then (onto n first memory) ≡ onto n (first ++ then) memory
onto_append n first then [] = refl
onto_append zero [] then (m ∷ ms) = refl
onto_append zero (b ∷ first) then (m ∷ ms) =
    let place : 0 + suc (length first) ≡ suc (0 + length first) = omega arith
    in ap (λ k. onto k then (b ∷ onto 0 first ms)) place ∙ ap (λ t. b ∷ t) (onto_append 0 first then ms)
onto_append (suc n) first then (m ∷ ms) =
    let place : suc n + length first ≡ suc (n + length first) = omega arith
    in ap (λ k. onto k then (m ∷ onto n first ms)) place ∙ ap (λ t. m ∷ t) (onto_append n first then ms)

-- nothing is written behind the end
pub onto_past : (n : ℕ) (bytes memory : List ℕ) → length memory ≤ n → onto n bytes memory ≡ memory
onto_past n bytes [] far = refl
onto_past zero bytes (m ∷ ms) far = absurd (omega arith)
onto_past (suc n) bytes (m ∷ ms) far = ap (λ t. m ∷ t) (onto_past n bytes ms (omega arith))

pub onto_nothing : (n : ℕ) (memory : List ℕ) → onto n [] memory ≡ memory
onto_nothing n [] = refl
onto_nothing zero (m ∷ ms) = refl
onto_nothing (suc n) (m ∷ ms) = ap (λ t. m ∷ t) (onto_nothing n ms)

pub onto_one : (n b : ℕ) (memory : List ℕ) → onto n (b ∷ []) memory ≡ set memory n b
onto_one n b [] = refl
onto_one zero b (m ∷ ms) = ap (λ t. b ∷ t) (onto_nothing 0 ms)
onto_one (suc n) b (m ∷ ms) = ap (λ t. m ∷ t) (onto_one n b ms)

pub set_past : (n b : ℕ) (memory : List ℕ) → length memory ≤ n → memory ≡ set memory n b
set_past n b memory far = sym (onto_past n (b ∷ []) memory far) ∙ onto_one n b memory
