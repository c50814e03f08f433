-- Actions and cells that are entered.
use Rattle.std.proofs.Common.{◌≡◌, ℕ, zero, suc, ◌+◌, ◌-◌, ◌<◌, ◌≤◌, min, ◌⊎◌, List, [], ◌∷◌, ◌++◌, length, map, get_or, Some, Ok, Err, Result, MatchResult, sym, refl, ap, ap₂, ◌∙◌, subst, true≢false, inl, inr, ⊎_elim, length-append, arith}
use Rattle.std.proofs.lemmas.List.{map-append}
use Rattle.weights.specs.Order.{In}
use Rattle.meaning.specs.Leaves.{Cell as MCell, Action as MAction}
use Rattle.meaning.specs.Diagrams.{Diagram as MDiagram, Leaf as MLeaf, Node as MNode}
use Rattle.faults.specs.declared.layers.StoreFault.{StoreFault}
use Rattle.faults.specs.declared.layers.StoreFault.TheVariants.{Full}
use Rattle.format.specs.declared.settings.Amount.{Amount}
use Rattle.actions.specs.declared.actions.Action.{Action}
use Rattle.actions.proofs.Alike.{actions_alike}
use Rattle.records.specs.declared.kinds.Cell.{Cell}
use Rattle.records.specs.declared.kinds.Node.{Node}
use Rattle.records.specs.declared.kinds.Diagram.{Diagram}
use Rattle.records.specs.declared.kinds.Diagram.TheVariants.{Leaf, Branch}
use Rattle.stores.specs.Numbers.{Numbered, Absent, Distinct, numbers_limit, Entered, NoRoom, Refused, Grown as StoreGrown}
use Rattle.stores.proofs.Numbered.{pushed, pushed_last, distinct_pushed}
use Rattle.counts.specs.declared.counts.Counts.{Counts}
use Rattle.engine.specs.declared.memory.Stores.{Stores}
use Rattle.engine.specs.Contents.{Contents, contents}
use Rattle.requests.specs.Requests.{Request, action, cell, node}
use Rattle.engine.specs.Built.{numbered_or}
use Rattle.engine.specs.State.{State, state, diagram_of, side_of, node_of, leaf_of, actions_in, leaves_in, nodes_in, Names, Has, Sound, NodeNamesEarlier, CellNamesEarlier, WordNamesEarlier}
use Rattle.engine.specs.Done.{actions, cells, kind_of, rooms, Added, Over, SoundStores, Done}
use Rattle.engine.specs.Leaves.{LeafPresent, leaf_at}
use Rattle.engine.specs.Cells.{ActionPresent, action_at, CellRead, CellEntering, ActionMade, ActionDone, leaf_result}
use Rattle.engine.proofs.Numbers.{or_grown, numbered_bound, numbered_any, numbered_value}
use Rattle.engine.proofs.Building.{build_last, build_at, build_same, only_one, at_middle, each_in_at, each_in_last, each_in_map, numbered_slot}
use Rattle.engine.proofs.Decoding.{leaves_long, leaf_full, leaf_number, same_amount}
use Rattle.engine.proofs.Entering.{counted_bounds}
use Rattle.engine.proofs.Overfull.{over_full}
use Rattle.engine.proofs.Composing.{append_empty, added_none}

module _ {R D : Type 0} (f : R → D) where
  got_map : (rs : List R) (n : ℕ) (r : R) → Numbered rs n r → Numbered (map f rs) n (f r)
  got_map rs zero r e = cc
  got_map [] (suc n) r e = cc
  got_map (x ∷ rs) (suc zero) r e = let k : x ≡ r = cc in ap (λ y. Some (f y)) k
  got_map (x ∷ rs) (suc (suc n)) r e = got_map rs (suc n) r e

  map_long : (rs : List R) → length (map f rs) ≡ length rs
  map_long [] = refl
  map_long (r ∷ rs) = omega (arith, map_long rs)

-- a leaf's parts
abbrev first_action : List MCell → MAction
first_action [] = []
first_action (c ∷ l) = c.0

abbrev first_weight : List MCell → ℕ
first_weight [] = 0
first_weight (c ∷ l) = c.1

abbrev rest_cells : List MCell → List MCell
rest_cells [] = []
rest_cells (c ∷ l) = l

module _ (c : Contents) (h : Sound c) where
  abbrev As : List MAction
  As = actions_in c.actions

  abbrev Ls : List (List MCell)
  Ls = leaves_in As c.cells

  abbrev Ns : List MDiagram
  Ns = nodes_in Ls c.nodes

  actions_long : length As ≡ length c.actions
  actions_long = map_long (λ (a : Action). a.sets) c.actions

  pub cell_good : (n : ℕ) (y : Cell) → Numbered c.cells n y → (i : ℕ) × (n ≡ suc i) × CellNamesEarlier (length c.actions) i y
  cell_good zero y e = cc
  cell_good (suc i) y e =
      let k : 0 + i ≡ i = omega arith in
      (i, refl, subst (λ (n : ℕ). CellNamesEarlier (length c.actions) n y) k (each_in_at (CellNamesEarlier (length c.actions)) 0 c.cells i y h.cells_name_earlier e))

  -- a cell stands for its action and weight on the leaf behind it
  pub cell_read : (n : ℕ) (y : Cell) → Numbered c.cells n y → Numbered Ls n (leaf_of As Ls y)
  cell_read zero y e = cc
  cell_read (suc i) y e =
      let b = build_at (leaf_of As) [] c.cells i y e in
      let g = each_in_at (CellNamesEarlier (length c.actions)) 0 c.cells i y h.cells_name_earlier e in
      let v = leaf_of As b.0 y in
      let there : Numbered (b.0 ++ (v ∷ b.1)) (suc i) v = at_middle b.0 v b.1 (suc i) (omega (arith, b.2)) in
      let rest : numbered_or [] (b.0 ++ (v ∷ b.1)) y.rest.number ≡ numbered_or [] b.0 y.rest.number = or_grown [] b.0 (v ∷ b.1) y.rest.number (omega (arith, b.2, g.2)) in
      let same : v ≡ leaf_of As Ls y = ap {B = List MCell} (λ (l : List MCell). (numbered_or [] As y.action.number, y.weight.number) ∷ l) (sym (ap (λ (l : List (List MCell)). numbered_or [] l y.rest.number) b.3 ∙ rest)) in
      subst (λ (l : List MCell). Numbered Ls (suc i) l) same (subst (λ (l : List (List MCell)). Numbered l (suc i) v) (sym b.3) there)

  pub read_cell : (n : ℕ) (y : Cell) → Numbered c.cells n y → CellRead (state c) n y
  unfolding state
  read_cell n y e =
      let g = cell_good n y e in
      let b = numbered_bound c.cells n y e in
      record {
        itself = numbered_value [] Ls n (leaf_of As Ls y) (cell_read n y e);
        action_present = (g.2.0, omega (arith, g.2.1, actions_long));
        rest_present = omega (arith, g.2.2, g.1, b.1, leaves_long c h);
      }

  module _ (x : Action) where
    abbrev more_actions : Contents
    more_actions = record { actions = c.actions ++ (x ∷ []); cells = c.cells; nodes = c.nodes }

    abbrev with_action : State
    with_action = record { actions = As ++ (x.sets ∷ []); leaves = Ls; nodes = Ns }

    acts_more : actions_in (c.actions ++ (x ∷ [])) ≡ As ++ (x.sets ∷ [])
    acts_more = map-append (λ (a : Action). a.sets) c.actions (x ∷ [])

    same_cell : (ds : List (List MCell)) (y : Cell) → CellNamesEarlier (length c.actions) (length ds) y → leaf_of (As ++ (x.sets ∷ [])) ds y ≡ leaf_of As ds y
    same_cell ds y g =
        ap {B = List MCell} (λ (a : MAction). (a, y.weight.number) ∷ numbered_or [] ds y.rest.number)
        (or_grown [] As (x.sets ∷ []) y.action.number (omega (arith, g.1, actions_long)))

    leaves_stay : leaves_in (actions_in (c.actions ++ (x ∷ []))) c.cells ≡ Ls
    leaves_stay =
        ap (λ (a : List MAction). leaves_in a c.cells) acts_more
        ∙ build_same (leaf_of (As ++ (x.sets ∷ []))) (leaf_of As) (CellNamesEarlier (length c.actions)) same_cell 0 [] c.cells refl h.cells_name_earlier

    state_more : state more_actions ≡ with_action
    unfolding state
    state_more = λ i. record { actions = acts_more i; leaves = leaves_stay i; nodes = nodes_in (leaves_stay i) c.nodes }

    action_alone : (m : ℕ) → Numbered As m x.sets → Numbered c.actions m x
    action_alone m e =
        let b = numbered_bound As m x.sets e in
        let r = numbered_any c.actions m b.0 (omega (arith, b.1, actions_long)) in
        let k : r.0.sets ≡ x.sets = only_one As m r.0.sets x.sets (got_map (λ (a : Action). a.sets) c.actions m r.0 r.1) e in
        r.1 ∙ ap Some (actions_alike r.0 x k)

    action_sound : Absent c.actions x → Sound more_actions
    unfolding state
    action_sound a =
        record {
          cells_name_earlier = each_in_map (CellNamesEarlier (length c.actions)) (CellNamesEarlier (length (c.actions ++ (x ∷ [])))) (λ n y g. (g.0, omega (arith, g.1, length-append c.actions (x ∷ [])), g.2)) 0 c.cells h.cells_name_earlier;
          nodes_name_earlier = h.nodes_name_earlier;
          actions_distinct = subst (λ (t : State). Distinct t.actions) (sym state_more) (distinct_pushed As x.sets h.actions_distinct (λ m e. a m (action_alone m e)));
          leaves_distinct = subst (λ (t : State). Distinct t.leaves) (sym state_more) h.leaves_distinct;
          nodes_distinct = subst (λ (t : State). Distinct t.nodes) (sym state_more) h.nodes_distinct;
        }

    action_added : Added (state c) (action x.sets ∷ []) with_action
    unfolding state
    action_added =
        record {
          grown = record {
            new_actions = x.sets ∷ [];
            actions_grown = refl;
            new_leaves = [];
            leaves_grown = sym (append_empty Ls);
            new_nodes = [];
            nodes_grown = sym (append_empty Ns);
          };
          asked = ((length As + 1, pushed_last As x.sets), tt);
          nothing_else = was;
        }
      where
        was : (r : Request) → Has with_action r → Has (state c) r ⊎ In r (action x.sets ∷ [])
        was (action b) k = ⊎_elim (λ e. inl (k.0, e)) (λ e. inr (inl (ap action e.1))) (pushed As x.sets k.0 b k.1)
        was (cell b w l) k = inl k
        was (node f n y z) k = inl k

    action_held : (n : ℕ) → Numbered As n x.sets → Added (state c) (action x.sets ∷ []) (state c)
    unfolding state
    action_held n k = record { grown = (added_none (state c)).grown; asked = ((n, k), tt); nothing_else = λ r m. inl m }

    action_put :
        (c' : Contents) (n : ℕ) →
        c'.cells ≡ c.cells →
        c'.nodes ≡ c.nodes →
        ((c'.actions ≡ c.actions) ⊎ (Absent c.actions x × (c'.actions ≡ c.actions ++ (x ∷ [])))) →
        Numbered c'.actions n x →
        Sound c' × Numbered (state c').actions n x.sets × Added (state c) (action x.sets ∷ []) (state c')
    unfolding state
    action_put c' n ec en (inl ea) e =
        subst (λ (k : Contents). Sound k × Numbered (state k).actions n x.sets × Added (state c) (action x.sets ∷ []) (state k)) (sym same)
        (h, there, action_held n there)
      where
        same : c' ≡ c
        same = λ i. record { actions = ea i; cells = ec i; nodes = en i }

        there : Numbered As n x.sets
        there = got_map (λ (a : Action). a.sets) c.actions n x (subst (λ (l : List Action). Numbered l n x) ea e)
    action_put c' n ec en (inr (a, ea)) e =
        subst (λ (k : Contents). Sound k × Numbered (state k).actions n x.sets × Added (state c) (action x.sets ∷ []) (state k)) (sym same)
        (action_sound a, there, subst (λ (t : State). Added (state c) (action x.sets ∷ []) t) (sym state_more) action_added)
      where
        same : c' ≡ more_actions
        same = λ i. record { actions = ea i; cells = ec i; nodes = en i }

        there : Numbered (actions_in (c.actions ++ (x ∷ []))) n x.sets
        there = got_map (λ (a : Action). a.sets) (c.actions ++ (x ∷ [])) n x (subst (λ (l : List Action). Numbered l n x) ea e)

  module _ (x : Cell) (act : ActionPresent (state c) x.action.number) (rest : LeafPresent (state c) x.rest.number) where
    abbrev more_cells : Contents
    more_cells = record { actions = c.actions; cells = c.cells ++ (x ∷ []); nodes = c.nodes }

    abbrev its_leaf : List MCell
    its_leaf = leaf_of As Ls x

    abbrev its_request : Request
    its_request = cell (numbered_or [] As x.action.number) x.weight.number (numbered_or [] Ls x.rest.number)

    abbrev with_cell : State
    with_cell = record { actions = As; leaves = Ls ++ (its_leaf ∷ []); nodes = Ns }

    same_side : (ds : List MDiagram) (k : ℕ) (w : Diagram) → WordNamesEarlier (length c.cells) k w → side_of (Ls ++ (its_leaf ∷ [])) ds w ≡ side_of Ls ds w
    same_side ds k (Leaf n) g = ap {B = MDiagram} MLeaf (or_grown [] Ls (its_leaf ∷ []) n.number (omega (arith, g, leaves_long c h)))
    same_side ds k (Branch n) g = refl

    same_node : (ds : List MDiagram) (y : Node) → NodeNamesEarlier (length c.cells) (length ds) y → node_of (Ls ++ (its_leaf ∷ [])) ds y ≡ node_of Ls ds y
    same_node ds y g = ap₂ {C = MDiagram} (λ (v w : MDiagram). MNode y.test.field y.test.value v w) (same_side ds (length ds) y.yes g.0) (same_side ds (length ds) y.no g.1)

    cells_more : leaves_in As (c.cells ++ (x ∷ [])) ≡ Ls ++ (its_leaf ∷ [])
    cells_more = build_last (leaf_of As) [] c.cells x

    nodes_stay : nodes_in (leaves_in As (c.cells ++ (x ∷ []))) c.nodes ≡ Ns
    nodes_stay =
        ap (λ (l : List (List MCell)). nodes_in l c.nodes) cells_more
        ∙ build_same (node_of (Ls ++ (its_leaf ∷ []))) (node_of Ls) (NodeNamesEarlier (length c.cells)) same_node 0 [] c.nodes refl h.nodes_name_earlier

    state_grown : state more_cells ≡ with_cell
    unfolding state
    state_grown = λ i. record { actions = As; leaves = cells_more i; nodes = nodes_stay i }

    -- an old cell that stands for the same is the same
    cell_alone : (m : ℕ) → Numbered Ls m its_leaf → Numbered c.cells m x
    unfolding state
    cell_alone m e =
        let b = numbered_bound Ls m its_leaf e in
        let r = numbered_any c.cells m b.0 (omega (arith, b.1, leaves_long c h)) in
        let y = r.0 in
        let k : leaf_of As Ls y ≡ its_leaf = only_one Ls m (leaf_of As Ls y) its_leaf (cell_read m y r.1) e in
        let g = cell_good m y r.1 in
        let mb = numbered_bound c.cells m y r.1 in
        let p : y.action.number ≤ length As = omega (arith, g.2.1, actions_long) in
        let t : y.action ≡ x.action = same_amount y.action x.action (one_action y.action.number x.action.number g.2.0 p act.0 act.1 (ap first_action k)) in
        let u : y.weight ≡ x.weight = same_amount y.weight x.weight (ap first_weight k) in
        let q : y.rest.number ≤ length Ls = omega (arith, g.2.2, g.1, mb.1, leaves_long c h) in
        let v : y.rest ≡ x.rest = same_amount y.rest x.rest (leaf_number c h y.rest.number x.rest.number q rest h.leaves_distinct (ap rest_cells k)) in
        let w : y ≡ x = λ i. record { action = t i; weight = u i; rest = v i } in
        r.1 ∙ ap Some w
      where
        one_action : (m n : ℕ) → 0 < m → m ≤ length As → 0 < n → n ≤ length As → numbered_or [] As m ≡ numbered_or [] As n → m ≡ n
        one_action m n p q p' q' e =
            let r = numbered_any As m p q in
            let s = numbered_any As n p' q' in
            let k : r.0 ≡ s.0 = sym (numbered_value [] As m r.0 r.1) ∙ (e ∙ numbered_value [] As n s.0 s.1) in
            h.actions_distinct m n s.0 (subst (λ (a : MAction). Numbered As m a) k r.1) s.1

    cell_sound : Absent c.cells x → Sound more_cells
    unfolding state
    cell_sound a =
        record {
          cells_name_earlier = each_in_last (CellNamesEarlier (length c.actions)) 0 c.cells x h.cells_name_earlier (act.0, omega (arith, act.1, actions_long), omega (arith, rest, leaves_long c h));
          nodes_name_earlier = each_in_map (NodeNamesEarlier (length c.cells)) (NodeNamesEarlier (length (c.cells ++ (x ∷ [])))) (λ n y g. (wider n y.yes g.0, wider n y.no g.1)) 0 c.nodes h.nodes_name_earlier;
          actions_distinct = subst (λ (t : State). Distinct t.actions) (sym state_grown) h.actions_distinct;
          leaves_distinct = subst (λ (t : State). Distinct t.leaves) (sym state_grown) (distinct_pushed Ls its_leaf h.leaves_distinct (λ m e. a m (cell_alone m e)));
          nodes_distinct = subst (λ (t : State). Distinct t.nodes) (sym state_grown) h.nodes_distinct;
        }
      where
        wider : (n : ℕ) (w : Diagram) → WordNamesEarlier (length c.cells) n w → WordNamesEarlier (length (c.cells ++ (x ∷ []))) n w
        wider n (Leaf m) g = omega (arith, g, length-append c.cells (x ∷ []))
        wider n (Branch m) g = g

    cell_added : Added (state c) (its_request ∷ []) with_cell
    unfolding state
    cell_added =
        record {
          grown = record {
            new_actions = [];
            actions_grown = sym (append_empty As);
            new_leaves = its_leaf ∷ [];
            leaves_grown = refl;
            new_nodes = [];
            nodes_grown = sym (append_empty Ns);
          };
          asked = ((length Ls + 1, pushed_last Ls its_leaf), tt);
          nothing_else = was;
        }
      where
        as_request : List MCell → Request
        as_request l = cell (first_action l) (first_weight l) (rest_cells l)

        was : (r : Request) → Has with_cell r → Has (state c) r ⊎ In r (its_request ∷ [])
        was (action b) k = inl k
        was (cell b w l) k = ⊎_elim (λ e. inl (k.0, e)) (λ e. inr (inl (ap as_request e.1))) (pushed Ls its_leaf k.0 ((b, w) ∷ l) k.1)
        was (node f n y z) k = inl k

    cell_held : (n : ℕ) → Numbered Ls n its_leaf → Added (state c) (its_request ∷ []) (state c)
    unfolding state
    cell_held n k = record { grown = (added_none (state c)).grown; asked = ((n, k), tt); nothing_else = λ r m. inl m }

    leaf_names : (t : State) (n : Amount) → Numbered t.leaves n.number its_leaf → Names t (Leaf n) (MLeaf its_leaf)
    unfolding diagram_of
    leaf_names t n e = record { present = (numbered_bound t.leaves n.number its_leaf e).1; stands = ap {B = MDiagram} MLeaf (numbered_value [] t.leaves n.number its_leaf e) }

    cell_put :
        (c' : Contents) (n : Amount) →
        c'.actions ≡ c.actions →
        c'.nodes ≡ c.nodes →
        ((c'.cells ≡ c.cells) ⊎ (Absent c.cells x × (c'.cells ≡ c.cells ++ (x ∷ [])))) →
        Numbered c'.cells n.number x →
        Sound c' × Names (state c') (Leaf n) (MLeaf its_leaf) × Added (state c) (its_request ∷ []) (state c')
    unfolding state
    cell_put c' n ea en (inl ec) e =
        subst (λ (k : Contents). Sound k × Names (state k) (Leaf n) (MLeaf its_leaf) × Added (state c) (its_request ∷ []) (state k)) (sym same)
        (h, leaf_names (state c) n there, cell_held n.number there)
      where
        same : c' ≡ c
        same = λ i. record { actions = ea i; cells = ec i; nodes = en i }

        there : Numbered Ls n.number its_leaf
        there = cell_read n.number x (subst (λ (l : List Cell). Numbered l n.number x) ec e)
    cell_put c' n ea en (inr (a, ec)) e =
        subst (λ (k : Contents). Sound k × Names (state k) (Leaf n) (MLeaf its_leaf) × Added (state c) (its_request ∷ []) (state k)) (sym same) (
          cell_sound a,
          subst (λ (t : State). Names t (Leaf n) (MLeaf its_leaf)) (sym state_grown) (leaf_names with_cell n (last n.number at_end)),
          subst (λ (t : State). Added (state c) (its_request ∷ []) t) (sym state_grown) cell_added,
        )
      where
        same : c' ≡ more_cells
        same = λ i. record { actions = ea i; cells = ec i; nodes = en i }

        at_end : n.number ≡ length Ls + 1
        at_end = ⊎_elim (λ k. absurd (a n.number k)) (λ k. k.0 ∙ ap (λ (m : ℕ). m + 1) (sym (leaves_long c h))) (pushed c.cells x n.number x (subst (λ (l : List Cell). Numbered l n.number x) ec e))

        last : (m : ℕ) → m ≡ length Ls + 1 → Numbered (Ls ++ (its_leaf ∷ [])) m its_leaf
        last m e = subst (λ (k : ℕ). Numbered (Ls ++ (its_leaf ∷ [])) k its_leaf) (sym e) (pushed_last Ls its_leaf)

was_grown : {X : Type 0} {k k' : ℕ} {xs xs' : List X} {x : X} → StoreGrown k xs x k' xs' → (xs' ≡ xs) ⊎ (Absent xs x × (xs' ≡ xs ++ (x ∷ [])))
was_grown g = ⊎_elim (λ k. inl k.1) (λ k. inr (k.0, k.2)) g

was_counted : {X : Type 0} {k k' : ℕ} (xs xs' : List X) (x : X) → StoreGrown k xs x k' xs' → length xs ≡ k → length xs' ≡ k'
was_counted xs xs' x (inl k) e = ap length k.1 ∙ (e ∙ sym k.0)
was_counted xs xs' x (inr k) e = omega (arith, ap length k.2, length-append xs (x ∷ []), e, k.1)

module _ (c : Counts) (s : Stores) (g : SoundStores c s) where
  pub action_made :
      (x : Action) (c' : Counts) (s' : Stores) (n : ℕ) →
      (contents c' s').cells ≡ (contents c s).cells →
      (contents c' s').nodes ≡ (contents c s).nodes →
      c'.cells ≡ c.cells →
      c'.nodes ≡ c.nodes →
      Entered c.actions (contents c s).actions x n c'.actions (contents c' s').actions →
      ActionMade x.sets c s c' s' n
  action_made x c' s' n hc hn nc nn e =
      let p = action_put (contents c s) g.sound x (contents c' s') n hc hn (was_grown e.growth) e.number in
      record {
        good = record {
          sound = p.0;
          counted = record {
            actions_counted = was_counted (contents c s).actions (contents c' s').actions x e.growth g.counted.actions_counted;
            cells_counted = ap length hc ∙ (g.counted.cells_counted ∙ sym nc);
            nodes_counted = ap length hn ∙ (g.counted.nodes_counted ∙ sym nn);
          };
        };
        numbered = p.1;
        added = p.2;
      }

  pub action_refused : (x : Action) → NoRoom c.actions s.actions.slots.now x → Over (rooms s) (state (contents c s)) (action x.sets ∷ [])
  unfolding state
  action_refused x r =
      over_full action from actions A x.sets refl refl (inl refl) (λ m k. r.absent m (action_alone (contents c s) g.sound x m k)) g.sound.actions_distinct (λ n y k. (refl, refl, (n, k))) (omega (arith, r.full, actions_long (contents c s) g.sound, g.counted.actions_counted))
    where
      A : List MAction
      A = actions_in (contents c s).actions

      from : Request → MAction
      from (action a) = a
      from (cell a w l) = []
      from (node f n y z) = []

  pub action_done :
      (x : Action) (c' : Counts) (s' : Stores) (result : Result Amount StoreFault) →
      (contents c' s').cells ≡ (contents c s).cells →
      (contents c' s').nodes ≡ (contents c s).nodes →
      c'.cells ≡ c.cells →
      c'.nodes ≡ c.nodes →
      MatchResult result (λ n. Entered c.actions (contents c s).actions x n.number c'.actions (contents c' s').actions) (λ f. (f ≡ Full) × Refused c.actions s.actions.slots.now x c'.actions s'.actions.slots.now) →
      ActionDone x.sets c s c' s' result
  action_done x c' s' (Ok n) hc hn nc nn e = action_made x c' s' n.number hc hn nc nn e
  action_done x c' s' (Err f) hc hn nc nn e = (e.0, action_refused x e.1.no_room)

  pub slot_action : (n : ℕ) (d : Action) → 0 < n → n ≤ c.actions → Numbered (contents c s).actions n (get_or s.actions.slots.now (n - 1) d)
  slot_action n d p h =
      let b = counted_bounds c.actions s.actions.slots.now g.counted.actions_counted in
      numbered_slot (min c.actions numbers_limit) s.actions.slots.now n d p (omega (arith, b.0)) (omega (arith, b.1))

  pub slot_cell : (n : ℕ) (d : Cell) → 0 < n → n ≤ c.cells → Numbered (contents c s).cells n (get_or s.cells.slots.now (n - 1) d)
  slot_cell n d p h =
      let b = counted_bounds c.cells s.cells.slots.now g.counted.cells_counted in
      numbered_slot (min c.cells numbers_limit) s.cells.slots.now n d p (omega (arith, b.0)) (omega (arith, b.1))

  pub action_there : (n : ℕ) (x : Action) → Numbered (contents c s).actions n x → x.sets ≡ action_at (state (contents c s)) n
  unfolding state
  action_there n x e = sym (numbered_value [] (actions_in (contents c s).actions) n x.sets (got_map (λ (a : Action). a.sets) (contents c s).actions n x e))

  -- what is in the state is in the slots
  pub cells_below : (n : ℕ) → LeafPresent (state (contents c s)) n → n ≤ c.cells
  unfolding state
  cells_below n p = omega (arith, p, leaves_long (contents c s) g.sound, g.counted.cells_counted)

  pub actions_below : (n : ℕ) → ActionPresent (state (contents c s)) n → (0 < n) × (n ≤ c.actions)
  unfolding state
  actions_below n p = (p.0, omega (arith, p.1, actions_long (contents c s) g.sound, g.counted.actions_counted))

  module _ (x : Cell) (act : ActionPresent (state (contents c s)) x.action.number) (rest : LeafPresent (state (contents c s)) x.rest.number) where
    pub cell_made :
        (c' : Counts) (s' : Stores) (n : Amount) →
        (contents c' s').actions ≡ (contents c s).actions →
        (contents c' s').nodes ≡ (contents c s).nodes →
        c'.actions ≡ c.actions →
        c'.nodes ≡ c.nodes →
        Entered c.cells (contents c s).cells x n.number c'.cells (contents c' s').cells →
        Done (CellEntering (action_at (state (contents c s)) x.action.number) x.weight.number (leaf_at (state (contents c s)) x.rest.number)) c s c' s' (Ok (Leaf n))
    unfolding state
    cell_made c' s' n ha hn na nn e =
        let p = cell_put (contents c s) g.sound x act rest (contents c' s') n ha hn (was_grown e.growth) e.number in
        record {
          out = MLeaf (its_leaf (contents c s) g.sound x act rest);
          asks = its_request (contents c s) g.sound x act rest ∷ [];
          by_the_rules = (refl, refl);
          made = record {
            good = record {
              sound = p.0;
              counted = record {
                actions_counted = ap length ha ∙ (g.counted.actions_counted ∙ sym na);
                cells_counted = was_counted (contents c s).cells (contents c' s').cells x e.growth g.counted.cells_counted;
                nodes_counted = ap length hn ∙ (g.counted.nodes_counted ∙ sym nn);
              };
            };
            names = p.1;
            added = p.2;
          };
        }

    pub cell_refused :
        (c' : Counts) (s' : Stores) {f : StoreFault} {result : Result Diagram StoreFault} →
        result ≡ Err f →
        f ≡ Full →
        NoRoom c.cells s.cells.slots.now x →
        Done (CellEntering (action_at (state (contents c s)) x.action.number) x.weight.number (leaf_at (state (contents c s)) x.rest.number)) c s c' s' result
    unfolding state
    cell_refused c' s' {f} {result} e full r =
        subst (λ (t : Result Diagram StoreFault). Done (CellEntering (numbered_or [] (actions_in (contents c s).actions) x.action.number) x.weight.number (numbered_or [] L x.rest.number)) c s c' s' t) (sym e)
        (record {
          out = MLeaf (its_leaf (contents c s) g.sound x act rest);
          asks = its_request (contents c s) g.sound x act rest ∷ [];
          by_the_rules = (refl, refl);
          made = (full, over_full to from cells L (its_leaf (contents c s) g.sound x act rest) refl refl (inl refl) (λ m k. r.absent m (cell_alone (contents c s) g.sound x act rest m k)) g.sound.leaves_distinct each (omega (arith, r.full, leaves_long (contents c s) g.sound, g.counted.cells_counted)));
        })
      where
        L : List (List MCell)
        L = leaves_in (actions_in (contents c s).actions) (contents c s).cells

        to : List MCell → Request
        to l = cell (first_action l) (first_weight l) (rest_cells l)

        from : Request → List MCell
        from (action a) = []
        from (cell a w l) = (a, w) ∷ l
        from (node f n y z) = []

        each : (n : ℕ) (l : List MCell) → Numbered L n l → (from (to l) ≡ l) × (kind_of (to l) ≡ cells) × Has (state (contents c s)) (to l)
        each n [] k = absurd (true≢false (leaf_full (contents c s) g.sound n [] k))
        each n (b ∷ l) k = (refl, refl, (n, k))

    pub cell_done :
        (c' : Counts) (s' : Stores) (result : Result Amount StoreFault) →
        (contents c' s').actions ≡ (contents c s).actions →
        (contents c' s').nodes ≡ (contents c s).nodes →
        c'.actions ≡ c.actions →
        c'.nodes ≡ c.nodes →
        MatchResult result (λ n. Entered c.cells (contents c s).cells x n.number c'.cells (contents c' s').cells) (λ f. (f ≡ Full) × Refused c.cells s.cells.slots.now x c'.cells s'.cells.slots.now) →
        Done (CellEntering (action_at (state (contents c s)) x.action.number) x.weight.number (leaf_at (state (contents c s)) x.rest.number)) c s c' s' (leaf_result result)
    cell_done c' s' (Ok n) ha hn na nn e = cell_made c' s' n ha hn na nn e
    cell_done c' s' (Err f) ha hn na nn e = cell_refused c' s' refl e.0 e.1.no_room
