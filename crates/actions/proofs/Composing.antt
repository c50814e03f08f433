-- Actions field by field.
use Rattle.std.proofs.Common.{◌≡◌, List, length, get_or, ◌∙◌, refl}
use Rattle.std.proofs.lemmas.List.FromFn.{fill_by_all}
use lib.Lanes.{zip2}
use Rattle.format.specs.Fields.{fields}

-- a list that was joined from two, field by field
pub joined_each :
    {X Y Z : Type 0} (f : X → Y → Z) (xs : List X) (ys : List Y) (zs : List Z) (d : X) (e : Y) (g : Z) →
    length xs ≡ fields →
    length ys ≡ fields →
    length zs ≡ fields →
    get_or zs 0 g ≡ f (get_or xs 0 d) (get_or ys 0 e) →
    get_or zs 1 g ≡ f (get_or xs 1 d) (get_or ys 1 e) →
    get_or zs 2 g ≡ f (get_or xs 2 d) (get_or ys 2 e) →
    get_or zs 3 g ≡ f (get_or xs 3 d) (get_or ys 3 e) →
    get_or zs 4 g ≡ f (get_or xs 4 d) (get_or ys 4 e) →
    get_or zs 5 g ≡ f (get_or xs 5 d) (get_or ys 5 e) →
    get_or zs 6 g ≡ f (get_or xs 6 d) (get_or ys 6 e) →
    get_or zs 7 g ≡ f (get_or xs 7 d) (get_or ys 7 e) →
    zs ≡ zip2 f xs ys
joined_each f xs ys zs d e g u v w p0 p1 p2 p3 p4 p5 p6 p7 =
    let x = fill_by_all (λ k. get_or xs k d) xs 8 d u (λ _ _. refl) in
    let y = fill_by_all (λ k. get_or ys k e) ys 8 e v (λ _ _. refl) in
    let z = fill_by_all (λ k. get_or zs k g) zs 8 g w (λ _ _. refl) in
    rw (x, y) (z ∙ cc)
