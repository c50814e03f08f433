-- Words put at the front of the memory that is left.
use Rattle.std.proofs.Common.{◌≡◌, ℕ, ◌+◌, ◌-◌, ◌≤◌, List, ◌++◌, length, take, drop, ap, ◌∙◌, arith, length-drop}
use borrow.Rule.Slice.PartMut.{put_mid}
use Rattle.std.proofs.lemmas.List.{append-nil, drop-drop, drop_all, take_all}

pub put_front :
    (i k : ℕ) (xs ys zs ws : List ℕ) →
    ys ≡ ws ++ drop k (take (length xs - i) (drop i xs)) →
    ws ≡ zs →
    put_mid i (length xs - i) xs ys ≡ take i xs ++ (zs ++ drop (i + k) xs)
put_front i k xs ys zs ws e w =
    let all : length (drop i xs) ≤ length xs - i = omega (arith, length-drop i xs) in
    ap (λ t. take i xs ++ (ys ++ t)) (drop_all (length xs - i) (drop i xs) all) ∙
    ap (λ t. take i xs ++ t)
    (append-nil ys ∙ e ∙ ap (λ t. t ++ drop k (take (length xs - i) (drop i xs))) w ∙
    ap (λ t. zs ++ t) (ap (drop k) (take_all (length xs - i) (drop i xs) all) ∙ drop-drop k i xs))
