-- A leaf narrowed by one test, action by action. Assumes nothing.
use Rattle.std.proofs.Common.{◌≡◌, ℕ, zero, suc, Bool, true, false, cond, T, eqb, List, [], ◌∷◌, map, Some, None, Option, sym, refl, ap, ◌∙◌, subst, ap₂, arith, eqb→eq}
use mathlib.Core.Path.{fun_ext}
use lib.Dec.{eqb_refl}
use Rattle.format.specs.Actions.{unless, narrow_action}
use Rattle.weights.specs.Weights.{Ops}
use Rattle.meaning.specs.Decide.{choice, decide}
use Rattle.meaning.specs.Leaves.{Action, Cell, collect}
use Rattle.meaning.specs.Diagrams.{Diagram, Leaf, Facts, known, forget, narrow_action as narrow_by, narrow_cell, narrow}
use Rattle.meaning.proofs.Gathering.{choice_yes}
use Rattle.meaning.proofs.Narrowing.{known_there, known_else, narrows_leaf}
use Rattle.requests.specs.Rules.{narrow_one, narrow_leaf}

truth : (b : Bool) → T b → b ≡ true
truth true t = refl
truth false t = absurd t

falsity : (b : Bool) → (T b → ⊥) → b ≡ false
falsity true h = absurd (h tt)
falsity false h = refl

forget_one : (n : ℕ) (x : Option ℕ) → forget (Some n) x ≡ unless n x
forget_one n None = refl
forget_one n (Some m) = go (decide m n)
  where
    C : Bool → Option ℕ
    C b = cond b None (Some m)

    go : (d : Dec (m ≡ n)) → choice d None (Some m) ≡ cond (eqb m n) None (Some m)
    go (yes e) = sym (ap C (truth (eqb m n) (subst (λ (k : ℕ). T (eqb m k)) e (eqb_refl m))))
    go (no h) = sym (ap C (falsity (eqb m n) (λ t. h (eqb→eq m n t))))

nothing_known : (p : Facts) (a : Action) → ((g : ℕ) → p g ≡ None) → narrow_by p a ≡ a
nothing_known p [] h = refl
nothing_known p (x ∷ a) h = ap₂ {C = Action} (λ (u : Option ℕ) (v : Action). u ∷ v) (ap (λ (k : Option ℕ). forget k x) (h 0)) (nothing_known (λ f. p (suc f)) a (λ f. h (suc f)))

narrow_by_one : (a : Action) (f n : ℕ) → narrow_by (known f n) a ≡ narrow_action a f n
narrow_by_one [] f n = refl
narrow_by_one (x ∷ a) zero n =
    ap₂ {C = Action} (λ (u : Option ℕ) (v : Action). u ∷ v) (ap (λ (k : Option ℕ). forget k x) (known_there 0 n) ∙ forget_one n x)
    (nothing_known (λ g. known 0 n (suc g)) a (λ g. known_else 0 n (suc g) (positive g)))
  where
    positive : (g : ℕ) → suc g ≡ 0 → ⊥
    positive g e = omega arith
narrow_by_one (x ∷ a) (suc f) n =
    ap₂ {C = Action} (λ (u : Option ℕ) (v : Action). u ∷ v) (ap (λ (k : Option ℕ). forget k x) (known_else (suc f) n 0 (positive f)))
    (ap (λ (p : Facts). narrow_by p a) (fun_ext (λ g. moved g (decide g f))) ∙ narrow_by_one a f n)
  where
    positive : (g : ℕ) → 0 ≡ suc g → ⊥
    positive g e = omega arith

    same : {g : ℕ} → suc g ≡ suc f → g ≡ f
    same e = omega arith

    moved : (g : ℕ) → Dec (g ≡ f) → known (suc f) n (suc g) ≡ known f n g
    moved g (yes e) = choice_yes (decide (suc g) (suc f)) (Some n) None (ap suc e) ∙ sym (choice_yes (decide g f) (Some n) None e)
    moved g (no h) = known_else (suc f) n (suc g) (λ e. h (same e)) ∙ sym (known_else f n g h)

narrow_cells : (l : List Cell) (f n : ℕ) → map (narrow_cell (known f n)) l ≡ map (narrow_one f n) l
narrow_cells [] f n = refl
narrow_cells (c ∷ l) f n = ap₂ {C = List Cell} (λ (a : Action) (r : List Cell). (a, c.1) ∷ r) (narrow_by_one c.0 f n) (narrow_cells l f n)

pub narrow_of_leaf : (o : Ops) (l : List Cell) (f n : ℕ) → narrow o (Leaf l) f n ≡ Leaf (narrow_leaf o l f n)
narrow_of_leaf o l f n = narrows_leaf o (known f n) l ∙ ap {B = Diagram} (λ (m : List Cell). Leaf (collect o m)) (narrow_cells l f n)
