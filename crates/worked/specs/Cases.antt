-- Policies with the diagrams, weights, tables and faults that are known for them.
use Rattle.std.specs.Prelude.{◌≡◌, ℕ, List, [], ◌∷◌, length, Some, codes, slice_index_or, slice_set}
use Rattle.format.specs.Fields.{fields, field_name}
use Rattle.format.specs.Actions.{keep_all}
use Rattle.format.specs.Policy.{Policy, postfix, Test, Set, Cost, Not, Union, Sequence, Star}
use Rattle.faults.specs.declared.layers.CheckFault.TheVariants.{NoPredicate}
use Rattle.faults.specs.Shows.{check_shown}
use Rattle.checking.specs.Checking.{Refused}
use Rattle.weights.specs.Weights.{Ops}
use Rattle.weights.specs.Kinds.{reach_ops, cost_ops}
use Rattle.meaning.specs.Leaves.{Frame}
use Rattle.meaning.specs.Diagrams.{Diagram, Leaf, weigh}
use Rattle.meaning.specs.Constructions.{Compiles}
use Rattle.listing.specs.Rows.{rows_of}
use Rattle.tables.specs.Rows.{table_words}
use Rattle.tables.specs.Emits.{Answer}

-- the fields of the cases
abbrev pub pt : ℕ
pt = 1

abbrev pub vlan : ℕ
vlan = 2

-- the table of the policy's diagram is these words
abbrev pub Tabled : Ops → Policy → List ℕ → Type 0
Tabled o p ws = (d : Diagram) × Compiles o p d × (table_words (rows_of d) ≡ ws)

-- two policies have one diagram
abbrev pub OneDiagram : Ops → Policy → Policy → Type 0
OneDiagram o p q = (d : Diagram) × Compiles o p d × Compiles o q d

-- the same for both kinds of weights
abbrev pub Same : Policy → Policy → Type 0
Same p q = OneDiagram reach_ops p q × OneDiagram cost_ops p q

-- a frame at port m
pub record AtPort (m : ℕ) (s : Frame) : Type 0 where
  pub all_fields : length s ≡ fields
  pub port : slice_index_or s pt 0 ≡ m

-- from every frame at port m the policy's diagram gives weight w to the same frame at port n
abbrev pub Moves : Ops → Policy → ℕ → ℕ → ℕ → Type 0
Moves o p m n w = (d : Diagram) × Compiles o p d × ((s : Frame) → AtPort m s → weigh o d s (slice_set s pt n) ≡ w)

-- the table of the policy's diagram answers every frame at port m by that frame alone, once, at weight w
abbrev pub Returns : Ops → Policy → ℕ → ℕ → Type 0
Returns o p m w =
    (d : Diagram) × Compiles o p d × ((s : Frame) → AtPort m s → Answer o (rows_of d) s (record { frame = s; weight = w } ∷ []))

-- `pt=m;pt:=n;cost c`
abbrev pub link : ℕ → ℕ → ℕ → Policy
link m n c = Sequence (Sequence (Test pt m) (Set pt n)) (Cost c)

-- `(pt=1;pt:=2;cost 4+pt=2;pt:=3;cost 4+pt=1;pt:=3;cost 9)*`
abbrev pub ways : Policy
ways = Star (Union (Union (link 1 2 4) (link 2 3 4)) (link 1 3 9))

-- `pt=1;pt:=2`
abbrev pub moved : Policy
moved = Sequence (Test pt 1) (Set pt 2)

-- `pt=3;pt:=3`
abbrev pub tested_then_set : Policy
tested_then_set = Sequence (Test pt 3) (Set pt 3)

-- `pt=3+!pt=3;pt:=3`
abbrev pub set_if_other : Policy
set_if_other = Union (Test pt 3) (Sequence (Not (Test pt 3)) (Set pt 3))

-- `pt=1+pt=2;vlan:=6+!(pt=1+pt=2)`
abbrev pub split_in_three : Policy
split_in_three = Union (Union (Test pt 1) (Sequence (Test pt 2) (Set vlan 6))) (Not (Union (Test pt 1) (Test pt 2)))

-- `pt=2;vlan:=6+!pt=2`
abbrev pub split_in_two : Policy
split_in_two = Union (Sequence (Test pt 2) (Set vlan 6)) (Not (Test pt 2))

-- `(pt:=3)*`
abbrev pub set_again : Policy
set_again = Star (Set pt 3)

-- `(cost 5+cost 2);pt:=1`
abbrev pub two_costs : Policy
two_costs = Sequence (Union (Cost 5) (Cost 2)) (Set pt 1)

-- `!pt:=3`
abbrev pub negated_set : Policy
negated_set = Not (Set pt 3)

-- the words in which the policies are stored
pub record WorkedWords : Type 0 where
  pub words_of_moved : postfix moved ≡ 0x21000001 ∷ 0x31000002 ∷ 0x70000000 ∷ []
  pub words_of_tested_then_set : postfix tested_then_set ≡ 0x21000003 ∷ 0x31000003 ∷ 0x70000000 ∷ []
  pub words_of_set_if_other : postfix set_if_other ≡ 0x21000003 ∷ 0x21000003 ∷ 0x50000000 ∷ 0x31000003 ∷ 0x70000000 ∷ 0x60000000 ∷ []
  pub words_of_split_in_three : postfix split_in_three ≡ 0x21000001 ∷ 0x21000002 ∷ 0x32000006 ∷ 0x70000000 ∷ 0x60000000 ∷ 0x21000001 ∷ 0x21000002 ∷ 0x60000000 ∷ 0x50000000 ∷ 0x60000000 ∷ []
  pub words_of_split_in_two : postfix split_in_two ≡ 0x21000002 ∷ 0x32000006 ∷ 0x70000000 ∷ 0x21000002 ∷ 0x50000000 ∷ 0x60000000 ∷ []
  pub words_of_set_again : postfix set_again ≡ 0x31000003 ∷ 0x80000000 ∷ []
  pub words_of_two_costs : postfix two_costs ≡ 0x40000005 ∷ 0x40000002 ∷ 0x60000000 ∷ 0x31000001 ∷ 0x70000000 ∷ []
  pub words_of_ways : postfix ways ≡ 0x21000001 ∷ 0x31000002 ∷ 0x70000000 ∷ 0x40000004 ∷ 0x70000000 ∷ 0x21000002 ∷ 0x31000003 ∷ 0x70000000 ∷ 0x40000004 ∷ 0x70000000 ∷ 0x60000000 ∷ 0x21000001 ∷ 0x31000003 ∷ 0x70000000 ∷ 0x40000009 ∷ 0x70000000 ∷ 0x60000000 ∷ 0x80000000 ∷ []
  pub words_of_negated_set : postfix negated_set ≡ 0x31000003 ∷ 0x50000000 ∷ []

pub record WorkedCases : Type 0 where
  pub names : (field_name pt ≡ codes "pt") × (field_name vlan ≡ codes "vlan")
  pub words : WorkedWords
  -- `pt=1;pt:=2`
  pub a_port_moved :
      Tabled reach_ops moved (0xA1000001 ∷ 0xB1000001 ∷ 0xC0000001 ∷ 0xD1000002 ∷ 0xA0000000 ∷ 0xE0000002 ∷ [])
  -- `pt=3;pt:=3` is `pt=3`
  pub set_to_what_was_tested : Same tested_then_set (Test pt 3)
  -- `pt=3+!pt=3;pt:=3` is `pt:=3`
  pub set_where_it_differs : Same set_if_other (Set pt 3)
  -- `pt=1+pt=2;vlan:=6+!(pt=1+pt=2)` is `pt=2;vlan:=6+!pt=2`
  pub the_rest_passes : Same split_in_three split_in_two
  -- `(pt:=3)*` keeps the frame or sets its port, each once
  pub set_again_compiled :
      Compiles reach_ops set_again (Leaf ((keep_all, reach_ops.one) ∷ (slice_set keep_all pt (Some 3), reach_ops.one) ∷ []))
  -- and so a frame at port 3 is emitted once, at weight one
  pub set_again_gives_one : Moves reach_ops set_again 3 3 reach_ops.one
  pub set_again_emits_once : Returns reach_ops set_again 3 reach_ops.one
  -- `(cost 5+cost 2);pt:=1`
  pub the_lower_cost : (m : ℕ) → Moves cost_ops two_costs m 1 2
  -- from port 1 the way by port 2 costs less than the way straight to port 3
  pub ways_to_port_1 : Moves cost_ops ways 1 1 0
  pub ways_to_port_2 : Moves cost_ops ways 1 2 4
  pub ways_to_port_3 : Moves cost_ops ways 1 3 8
  -- `!pt:=3`: what is negated at word 1 is no predicate
  pub a_set_negated : Refused (postfix negated_set) (NoPredicate 1)
  pub shown_as_8_at_word_1 : ((check_shown (NoPredicate 1)).number ≡ 8) × ((check_shown (NoPredicate 1)).place ≡ 1)
