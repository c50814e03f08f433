-- Laws of masks, digit by digit.
use Rattle.std.specs.Prelude.{◌≡◌, ℕ, ◌/◌, ◌%◌, min, max, bit_and, bit_or, refl}
use Rattle.std.proofs.Common.{sym, ◌∙◌, ap, ap₂, arith}
use Rattle.std.proofs.Math.Arith.{bin_ind}
use Rattle.std.specs.Int.Bits.{and_step, or_step}
use Rattle.std.proofs.lemmas.Nat.{and_comm}

and_half : (a b : ℕ) → bit_and a b / 2 ≡ bit_and (a / 2) (b / 2)
and_half a b = let e = and_step a b in omega arith

and_bit : (a b : ℕ) → bit_and a b % 2 ≡ min (a % 2) (b % 2)
and_bit a b = let e = and_step a b in omega arith

or_half : (a b : ℕ) → bit_or a b / 2 ≡ bit_or (a / 2) (b / 2)
or_half a b = let e = or_step a b in omega arith

or_bit : (a b : ℕ) → bit_or a b % 2 ≡ max (a % 2) (b % 2)
or_bit a b = let e = or_step a b in omega arith

-- numbers with the same half and the same last digit
same_digits : {a b : ℕ} → a / 2 ≡ b / 2 → a % 2 ≡ b % 2 → a ≡ b
same_digits {a} {b} h d = omega arith

pub or_assoc : (a b c : ℕ) → bit_or (bit_or a b) c ≡ bit_or a (bit_or b c)
or_assoc =
    bin_ind (λ a. (b c : ℕ) → bit_or (bit_or a b) c ≡ bit_or a (bit_or b c)) (λ b c. refl)
    (λ a ih b c.
    same_digits
    (or_half (bit_or a b) c ∙ ap (λ x. bit_or x (c / 2)) (or_half a b) ∙ ih (b / 2) (c / 2) ∙ ap (bit_or (a / 2)) (sym (or_half b c)) ∙ sym (or_half a (bit_or b c)))
    (omega (arith, or_bit (bit_or a b) c, or_bit a b, or_bit a (bit_or b c), or_bit b c)))

pub and_assoc : (a b c : ℕ) → bit_and (bit_and a b) c ≡ bit_and a (bit_and b c)
and_assoc =
    bin_ind (λ a. (b c : ℕ) → bit_and (bit_and a b) c ≡ bit_and a (bit_and b c)) (λ b c. refl)
    (λ a ih b c.
    same_digits
    (and_half (bit_and a b) c ∙ ap (λ x. bit_and x (c / 2)) (and_half a b) ∙ ih (b / 2) (c / 2) ∙ ap (bit_and (a / 2)) (sym (and_half b c)) ∙ sym (and_half a (bit_and b c)))
    (omega (arith, and_bit (bit_and a b) c, and_bit a b, and_bit a (bit_and b c), and_bit b c)))

pub and_or : (a b c : ℕ) → bit_and a (bit_or b c) ≡ bit_or (bit_and a b) (bit_and a c)
and_or =
    bin_ind (λ a. (b c : ℕ) → bit_and a (bit_or b c) ≡ bit_or (bit_and a b) (bit_and a c)) (λ b c. refl)
    (λ a ih b c.
    same_digits
    (and_half a (bit_or b c) ∙ ap (bit_and (a / 2)) (or_half b c) ∙ ih (b / 2) (c / 2) ∙ ap₂ bit_or (sym (and_half a b)) (sym (and_half a c)) ∙ sym (or_half (bit_and a b) (bit_and a c)))
    (omega (arith, and_bit a (bit_or b c), or_bit b c, or_bit (bit_and a b) (bit_and a c), and_bit a b, and_bit a c)))

pub or_and : (a b c : ℕ) → bit_and (bit_or a b) c ≡ bit_or (bit_and a c) (bit_and b c)
or_and a b c = and_comm (bit_or a b) c ∙ and_or c a b ∙ ap₂ bit_or (and_comm c a) (and_comm c b)

pub or_absorbs : (a b : ℕ) → bit_or a (bit_and a b) ≡ a
or_absorbs =
    bin_ind (λ a. (b : ℕ) → bit_or a (bit_and a b) ≡ a) (λ b. refl)
    (λ a ih b.
    same_digits (or_half a (bit_and a b) ∙ ap (bit_or (a / 2)) (and_half a b) ∙ ih (b / 2))
    (omega (arith, or_bit a (bit_and a b), and_bit a b)))
