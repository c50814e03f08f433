-- The worked cases, computed from the definitions.
use Rattle.std.proofs.Common.{◌≡◌, ℕ, min, max, Bool, true, false, cond, ◌&&◌, List, [], ◌∷◌, length, get_or, set, Some, sym, refl, ap, ◌∙◌, subst, ap₂, inl, inr, arith}
use native.Mathlib.Decide.{ℕ_discrete, dec_lt, dec_le}
use Rattle.format.specs.Fields.{fields}
use Rattle.format.specs.Actions.{apply, keep_all}
use Rattle.format.specs.Policy.{postfix, Test, Set, Union}
use Rattle.format.specs.declared.settings.PolicyWord.{PolicyWord}
use Rattle.faults.specs.declared.layers.CheckFault.TheVariants.{NoPredicate}
use Rattle.checking.specs.Checking.{Refused}
use Rattle.checking.proofs.Verdicts.{Progress, started, advanced, blocked}
use Rattle.weights.specs.Weights.{Ops}
use Rattle.weights.specs.Kinds.{reach_ops, cost_ops, top}
use Rattle.meaning.specs.Leaves.{Action, Frame, Cell, gather}
use Rattle.meaning.specs.Decide.{choice, decide, equal_lists}
use Rattle.meaning.proofs.Gathering.{choice_yes, choice_no}
use Rattle.meaning.proofs.Simple.{apply_keep, apply_set}
use Rattle.meaning.specs.Diagrams.{Diagram, Leaf, Node, narrows, reach, emits, weigh}
use Rattle.meaning.specs.Constructions.{Compiles, join_by, join, choose_by, choose, prefix, sequence_cells, sequence, negate, round, tests, sets, costs, nots, unions, sequences, stars, test_diagram, single, pass_diagram, drop_diagram}
use Rattle.listing.specs.Rows.{rows_of}
use Rattle.std.proofs.lemmas.Bool.{eq-eqb}
use Rattle.tables.specs.Emits.{Sent, Answer, In, same}
use Rattle.tables.specs.Emits as Table
use Rattle.tables.proofs.Scans.{same_decides}
use Rattle.worked.specs.Cases.{WorkedCases, Tabled, OneDiagram, AtPort, Moves, pt, moved, tested_then_set, set_if_other, split_in_three, split_in_two, set_again, two_costs, link, ways, negated_set}

moved_tabled : Tabled reach_ops moved (0xA1000001 ∷ 0xB1000001 ∷ 0xC0000001 ∷ 0xD1000002 ∷ 0xA0000000 ∷ 0xE0000002 ∷ [])
unfolding join_by join choose_by choose prefix sequence_cells sequence negate round narrows ℕ_discrete dec_lt dec_le
moved_tabled = (Node 1 1 (single reach_ops (set keep_all 1 (Some 2)) 1) drop_diagram, sequences (tests 1 1) (sets 1 2), refl)

reach_set_to_what_was_tested : OneDiagram reach_ops tested_then_set (Test pt 3)
unfolding join_by join choose_by choose prefix sequence_cells sequence negate round narrows ℕ_discrete dec_lt dec_le
reach_set_to_what_was_tested = (test_diagram reach_ops 1 3, sequences (tests 1 3) (sets 1 3), tests 1 3)

reach_set_where_it_differs : OneDiagram reach_ops set_if_other (Set pt 3)
unfolding join_by join choose_by choose prefix sequence_cells sequence negate round narrows ℕ_discrete dec_lt dec_le
reach_set_where_it_differs = (single reach_ops (set keep_all 1 (Some 3)) reach_ops.one, unions (tests 1 3) (sequences (nots (tests 1 3)) (sets 1 3)), sets 1 3)

reach_the_rest_passes : OneDiagram reach_ops
    split_in_three split_in_two
unfolding join_by join choose_by choose prefix sequence_cells sequence negate round narrows ℕ_discrete dec_lt dec_le
reach_the_rest_passes = (
  Node 1 2 (single reach_ops (set keep_all 2 (Some 6)) reach_ops.one) (pass_diagram reach_ops),
  unions (unions (tests 1 1) (sequences (tests 1 2) (sets 2 6))) (nots (unions (tests 1 1) (tests 1 2))),
  unions (sequences (tests 1 2) (sets 2 6)) (nots (tests 1 2)),
)

cost_set_to_what_was_tested : OneDiagram cost_ops tested_then_set (Test pt 3)
unfolding join_by join choose_by choose prefix sequence_cells sequence negate round narrows ℕ_discrete dec_lt dec_le
cost_set_to_what_was_tested = (test_diagram cost_ops 1 3, sequences (tests 1 3) (sets 1 3), tests 1 3)

cost_set_where_it_differs : OneDiagram cost_ops set_if_other (Set pt 3)
unfolding join_by join choose_by choose prefix sequence_cells sequence negate round narrows ℕ_discrete dec_lt dec_le
cost_set_where_it_differs = (single cost_ops (set keep_all 1 (Some 3)) cost_ops.one, unions (tests 1 3) (sequences (nots (tests 1 3)) (sets 1 3)), sets 1 3)

cost_the_rest_passes : OneDiagram cost_ops
    split_in_three split_in_two
unfolding join_by join choose_by choose prefix sequence_cells sequence negate round narrows ℕ_discrete dec_lt dec_le
cost_the_rest_passes = (
  Node 1 2 (single cost_ops (set keep_all 2 (Some 6)) cost_ops.one) (pass_diagram cost_ops),
  unions (unions (tests 1 1) (sequences (tests 1 2) (sets 2 6))) (nots (unions (tests 1 1) (tests 1 2))),
  unions (sequences (tests 1 2) (sets 2 6)) (nots (tests 1 2)),
)

-- to set the port to what it is changes nothing
set_own : (m : ℕ) (s : Frame) → AtPort m s → set s pt m ≡ s
set_own m [] h = refl
set_own m (a ∷ []) h = refl
set_own m (a ∷ (b ∷ s)) h = ap (λ (x : ℕ). a ∷ (x ∷ s)) (sym h.port)

port_set : (k : ℕ) (s : Frame) → length s ≡ fields → get_or (set s pt k) pt 0 ≡ k
port_set k [] l = absurd (omega arith)
port_set k (a ∷ []) l = absurd (omega arith)
port_set k (a ∷ (b ∷ s)) l = refl

-- an action that sets the port to k emits the frame at port n just if k is n
emits_to : (o : Ops) (s : Frame) (a : Action) (w k n : ℕ) → length s ≡ fields → apply a s ≡ set s pt k → emits o s (set s pt n) a w ≡ choice (decide k n) w o.zero
emits_to o s a w k n l e = go (decide k n)
  where
    go : (d : Dec (k ≡ n)) → emits o s (set s pt n) a w ≡ choice d w o.zero
    go (yes q) = choice_yes (equal_lists decide (apply a s) (set s pt n)) w o.zero (e ∙ ap (set s pt) q)
    go (no h) =
        choice_no (equal_lists decide (apply a s) (set s pt n)) w o.zero
        (λ r. h (sym (port_set k s l) ∙ ap (λ (t : Frame). get_or t pt 0) (sym e ∙ r) ∙ port_set n s l))

kept : (o : Ops) (s : Frame) (m w n : ℕ) → AtPort m s → emits o s (set s pt n) keep_all w ≡ choice (decide m n) w o.zero
kept o s m w n h = emits_to o s keep_all w m n h.all_fields (apply_keep s h.all_fields ∙ sym (set_own m s h))

moved_to : (o : Ops) (s : Frame) (k w n : ℕ) → length s ≡ fields → emits o s (set s pt n) (set keep_all pt (Some k)) w ≡ choice (decide k n) w o.zero
moved_to o s k w n l = emits_to o s (set keep_all pt (Some k)) w k n l (apply_set s pt k l)

abbrev again_diagram : Diagram
again_diagram = Leaf ((keep_all, reach_ops.one) ∷ (set keep_all pt (Some 3), reach_ops.one) ∷ [])

again : Compiles reach_ops set_again again_diagram
unfolding join_by join choose_by choose prefix sequence_cells sequence negate round narrows ℕ_discrete dec_lt dec_le
again = stars 1 (sets 1 3) refl

again_weighs : (s : Frame) → AtPort 3 s → weigh reach_ops again_diagram s (set s pt 3) ≡ 1
unfolding ℕ_discrete
again_weighs s h = λ i. max (kept reach_ops s 3 1 3 h i) (max (moved_to reach_ops s 3 1 3 h.all_fields i) 0)

same_self : (s : Frame) → same s s ≡ true
same_self [] = refl
same_self (n ∷ s) = ap₂ ◌&&◌ (eq-eqb n n refl) (same_self s)

-- two emissions of one frame join to one
joined_once : (b : Bool) → cond b (max (cond b (max 0 1) 0) 1) (cond b (max 0 1) 0) ≡ cond b 1 0
joined_once true = refl
joined_once false = refl

again_emits : (s t : Frame) → AtPort 3 s → Table.emits reach_ops (rows_of again_diagram) s t ≡ cond (same s t) 1 0
again_emits s t h =
    ap (λ (u : Frame). cond (same u t) (max (cond (same s t) (max 0 1) 0) 1) (cond (same s t) (max 0 1) 0)) (set_own 3 s h) ∙ joined_once (same s t)

again_answer : (s : Frame) → AtPort 3 s → Answer reach_ops (rows_of again_diagram) s (record { frame = s; weight = 1 } ∷ [])
again_answer s h =
    record {
      ascending = (λ t i. absurd i, tt);
      sound = λ x i. sound x i;
      complete = λ t n. go t n (same s t) refl;
    }
  where
    own : Table.emits reach_ops (rows_of again_diagram) s s ≡ 1
    own = again_emits s s h ∙ ap (λ (b : Bool). cond b 1 0) (same_self s)

    sound : (x : Sent) → In {X = Sent} x (record { frame = s; weight = 1 } ∷ []) → (Table.emits reach_ops (rows_of again_diagram) s x.frame ≡ x.weight) × (x.weight ≡ 0 → ⊥)
    sound x (inl e) =
        let P : Sent → Type 0 = λ y. (Table.emits reach_ops (rows_of again_diagram) s y.frame ≡ y.weight) × (y.weight ≡ 0 → ⊥) in
        subst P (sym e) (own, λ q. omega arith)
    sound x (inr z) = absurd z

    go : (t : Frame) → (Table.emits reach_ops (rows_of again_diagram) s t ≡ 0 → ⊥) → (b : Bool) → same s t ≡ b
        → In {X = Sent} (record { frame = t; weight = Table.emits reach_ops (rows_of again_diagram) s t }) (record { frame = s; weight = 1 } ∷ [])
    go t n true q =
        let w : Table.emits reach_ops (rows_of again_diagram) s t ≡ 1 = again_emits s t h ∙ ap (λ (b : Bool). cond b 1 0) q in
        let e : t ≡ s = sym ((same_decides s t).0 q) in
        inl (λ i. record { frame = e i; weight = w i })
    go t n false q = absurd (n (again_emits s t h ∙ ap (λ (b : Bool). cond b 1 0) q))

lower_cost_weighs : (m : ℕ) (s : Frame) → AtPort m s → weigh cost_ops (Leaf ((set keep_all pt (Some 1), 2) ∷ [])) s (set s pt 1) ≡ 2
unfolding ℕ_discrete
lower_cost_weighs m s h = λ i. min (moved_to cost_ops s 1 2 1 h.all_fields i) cost_ops.zero

lower_cost : (m : ℕ) → Moves cost_ops two_costs m 1 2
unfolding join_by join choose_by choose prefix sequence_cells sequence negate round narrows ℕ_discrete dec_lt dec_le
lower_cost m = (Leaf ((set keep_all pt (Some 1), 2) ∷ []), sequences (unions (costs 5) (costs 2)) (sets 1 1), lower_cost_weighs m)

abbrev link_diagram : ℕ → ℕ → ℕ → Diagram
link_diagram m n c = Node 1 m (single cost_ops (set keep_all 1 (Some n)) c) drop_diagram

link_1_2 : Compiles cost_ops (link 1 2 4) (link_diagram 1 2 4)
unfolding join_by join choose_by choose prefix sequence_cells sequence negate round narrows ℕ_discrete dec_lt dec_le
link_1_2 = sequences (sequences (tests 1 1) (sets 1 2)) (costs 4)

link_2_3 : Compiles cost_ops (link 2 3 4) (link_diagram 2 3 4)
unfolding join_by join choose_by choose prefix sequence_cells sequence negate round narrows ℕ_discrete dec_lt dec_le
link_2_3 = sequences (sequences (tests 1 2) (sets 1 3)) (costs 4)

link_1_3 : Compiles cost_ops (link 1 3 9) (link_diagram 1 3 9)
unfolding join_by join choose_by choose prefix sequence_cells sequence negate round narrows ℕ_discrete dec_lt dec_le
link_1_3 = sequences (sequences (tests 1 1) (sets 1 3)) (costs 9)

-- sets the port to n at cost c
abbrev to : ℕ → ℕ → Cell
to n c = (set keep_all 1 (Some n), c)

abbrev links : Diagram
links = Node 1 1 (Leaf (to 2 4 ∷ to 3 9 ∷ [])) (Node 1 2 (Leaf (to 3 4 ∷ [])) drop_diagram)

links_compiled : Compiles cost_ops (Union (Union (link 1 2 4) (link 2 3 4)) (link 1 3 9)) links
unfolding join_by join choose_by choose prefix sequence_cells sequence negate round narrows ℕ_discrete dec_lt dec_le
links_compiled = unions (unions link_1_2 link_2_3) link_1_3

-- all ways: from port 1, from port 2, and from elsewhere
abbrev from_port_1 : List Cell
from_port_1 = (keep_all, 0) ∷ to 2 4 ∷ to 3 8 ∷ []

abbrev elsewhere : Diagram
elsewhere = Node 1 2 (Leaf ((keep_all, 0) ∷ to 3 4 ∷ [])) (pass_diagram cost_ops)

abbrev ways_diagram : Diagram
ways_diagram = Node 1 1 (Leaf from_port_1) elsewhere

two_rounds : round cost_ops links 2 ≡ ways_diagram
unfolding join_by join choose_by choose prefix sequence_cells sequence negate round narrows ℕ_discrete dec_lt dec_le
two_rounds = refl

one_round_more : join cost_ops (pass_diagram cost_ops) (sequence cost_ops links ways_diagram) ≡ ways_diagram
unfolding join_by join choose_by choose prefix sequence_cells sequence negate round narrows ℕ_discrete dec_lt dec_le
one_round_more = refl

three_rounds : round cost_ops links 3 ≡ ways_diagram
unfolding round
three_rounds = ap (λ (d : Diagram). join cost_ops (pass_diagram cost_ops) (sequence cost_ops links d)) two_rounds ∙ one_round_more

ways_compiled : Compiles cost_ops ways ways_diagram
ways_compiled = subst (Compiles cost_ops ways) two_rounds (stars 2 links_compiled (two_rounds ∙ sym three_rounds))

-- the least of what leads to port n
ways_weigh : (n : ℕ) (s : Frame) → AtPort 1 s
    → weigh cost_ops ways_diagram s (set s pt n) ≡ min (choice (decide 1 n) 0 top) (min (choice (decide 2 n) 4 top) (min (choice (decide 3 n) 8 top) top))
ways_weigh n s h =
    ap (gather cost_ops (emits cost_ops s (set s pt n))) (choice_yes (decide (get_or s pt 0) 1) from_port_1 (reach elsewhere s) h.port)
    ∙ (λ i. min (kept cost_ops s 1 0 n h i) (min (moved_to cost_ops s 2 4 n h.all_fields i) (min (moved_to cost_ops s 3 8 n h.all_fields i) top)))

-- the words of `!pt:=3`
abbrev negated_words : List ℕ
negated_words = postfix negated_set

-- after the first word an operand waits that is no predicate
set_waits : Progress negated_words 1 (false ∷ [])
set_waits =
    advanced negated_words 0 (PolicyWord.Set (record { field = 1; value = 3; exists = omega arith; legal = omega arith })) [] (false ∷ [])
    (omega arith) tt refl (omega arith) (started negated_words [] refl) refl

negated : Refused negated_words (NoPredicate 1)
negated =
    blocked negated_words 1 PolicyWord.Not (false ∷ []) (NoPredicate 1) (omega arith) (omega arith) tt refl set_waits (refl, refl, [], refl)

pub worked_cases : WorkedCases
unfolding ℕ_discrete
worked_cases =
    record {
      names = (refl, refl);
      words =
          record {
            words_of_moved = refl;
            words_of_tested_then_set = refl;
            words_of_set_if_other = refl;
            words_of_split_in_three = refl;
            words_of_split_in_two = refl;
            words_of_set_again = refl;
            words_of_two_costs = refl;
            words_of_ways = refl;
            words_of_negated_set = refl;
          };
      a_port_moved = moved_tabled;
      set_to_what_was_tested = (reach_set_to_what_was_tested, cost_set_to_what_was_tested);
      set_where_it_differs = (reach_set_where_it_differs, cost_set_where_it_differs);
      the_rest_passes = (reach_the_rest_passes, cost_the_rest_passes);
      set_again_compiled = again;
      set_again_gives_one = (again_diagram, again, again_weighs);
      set_again_emits_once = (again_diagram, again, again_answer);
      the_lower_cost = lower_cost;
      ways_to_port_1 = (ways_diagram, ways_compiled, ways_weigh 1);
      ways_to_port_2 = (ways_diagram, ways_compiled, ways_weigh 2);
      ways_to_port_3 = (ways_diagram, ways_compiled, ways_weigh 3);
      a_set_negated = negated;
      shown_as_8_at_word_1 = (refl, refl);
    }
