-- How what is in store is told apart: a diagram by its leaves and tests in a row, each test behind its sides.
use Rattle.std.specs.Prelude.{◌≡◌, ℕ, ◌⊎◌, List, [], ◌∷◌, ◌++◌, refl}
use Rattle.std.proofs.Common.{sym, ap, ◌∙◌, append_assoc, append-nil, inl, inr}
use Rattle.std.specs.Coded.{Coded, code_by, coded×, coded⊎, coded_ℕ, coded_list, coded_option}
use Rattle.meaning.specs.Leaves.{Action, Cell}
use Rattle.meaning.specs.Diagrams.{Diagram, Leaf, Node}
use Rattle.stored.specs.Stored.{Stored, Rooms, Holdings}

abbrev pub Token : Type 0
Token = List Cell ⊎ (ℕ × ℕ)

abbrev pub tokens : Diagram → List Token
tokens (Leaf l) = inl l ∷ []
tokens (Node f n y z) = tokens y ++ (tokens z ++ (inr (f, n) ∷ []))

abbrev pub put : Token → List Diagram → List Diagram
put (inl l) ds = Leaf l ∷ ds
put (inr t) [] = []
put (inr t) (z ∷ []) = []
put (inr t) (z ∷ y ∷ ds) = Node t.0 t.1 y z ∷ ds

abbrev pub run : List Token → List Diagram → List Diagram
run [] ds = ds
run (t ∷ ts) ds = run ts (put t ds)

abbrev pub top : List Diagram → Diagram
top [] = Leaf []
top (d ∷ ds) = d

pub run_tokens : (d : Diagram) (ts : List Token) (ds : List Diagram) → run (tokens d ++ ts) ds ≡ run ts (d ∷ ds)
run_tokens (Leaf l) ts ds = refl
run_tokens (Node f n y z) ts ds =
    ap (λ (u : List Token). run u ds) (append_assoc (tokens y) (tokens z ++ (inr (f, n) ∷ [])) ts ∙ ap (λ (u : List Token). tokens y ++ u) (append_assoc (tokens z) (inr (f, n) ∷ []) ts))
    ∙ (run_tokens y (tokens z ++ (inr (f, n) ∷ ts)) ds ∙ run_tokens z (inr (f, n) ∷ ts) (y ∷ ds))

pub read_tokens : (d : Diagram) → top (run (tokens d) []) ≡ d
read_tokens d = ap (λ (u : List Token). top (run u [])) (sym (append-nil (tokens d))) ∙ ap top (run_tokens d [] [])

abbrev pub action_code : Coded Action
action_code = coded_list (coded_option coded_ℕ)

abbrev pub cell_code : Coded Cell
cell_code = coded× action_code coded_ℕ

abbrev pub diagram_code : Coded Diagram
diagram_code = code_by (List Token) (coded_list (coded⊎ (coded_list cell_code) (coded× coded_ℕ coded_ℕ))) tokens (λ ts. top (run ts [])) read_tokens

abbrev pub stored_code : Coded Stored
stored_code =
    code_by (List Action × (List (List Cell) × List Diagram))
    (coded× (coded_list action_code) (coded× (coded_list (coded_list cell_code)) (coded_list diagram_code)))
    (λ s. (s.actions, (s.leaves, s.nodes)))
    (λ p. record { actions = p.0; leaves = p.1.0; nodes = p.1.1 }) (λ _. refl)

abbrev pub rooms_code : Coded Rooms
rooms_code =
    code_by (ℕ × (ℕ × ℕ)) (coded× coded_ℕ (coded× coded_ℕ coded_ℕ))
    (λ z. (z.actions, (z.cells, z.nodes)))
    (λ p. record { actions = p.0; cells = p.1.0; nodes = p.1.1 }) (λ _. refl)

abbrev pub holdings_code : Coded Holdings
holdings_code = code_by (Stored × Rooms) (coded× stored_code rooms_code) (λ h. (h.stored, h.rooms)) (λ p. record { stored = p.0; rooms = p.1 }) (λ _. refl)
