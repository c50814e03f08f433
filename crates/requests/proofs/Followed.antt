-- Prefix and sequence by the rules give what they are worked out to. Assumes nothing.
use Rattle.std.proofs.Common.{◌≡◌, ℕ, ◌≤◌, List, [], ◌∷◌, ◌++◌, get_or, Some, None, Option, refl}
use Rattle.weights.specs.Weights.{Ops, Weight, Laws}
use Rattle.meaning.specs.Decide.{choice, decide}
use Rattle.meaning.specs.Leaves.{Action, Cell, Each, ActionFormed, CellFormed}
use Rattle.meaning.specs.Diagrams.{Diagram, Leaf, Node, make, After, Formed}
use Rattle.meaning.specs.Constructions.{join, choose, prefix_node, prefix, sequence_cells, sequence}
use Rattle.meaning.proofs.Joining.{joined}
use Rattle.meaning.proofs.Sequencing.{Prefixed, prefixed, sequenced}
use Rattle.meaning.proofs.Simple.{drop_is_formed}
use Rattle.requests.specs.Requests.{leaf_records}
use Rattle.requests.specs.Rules.{Makes, Joins, Chooses, prefix_leaf, Prefixes, prefixes_leaf, prefixes_yes, prefixes_no, prefixes_both, Follows, follows_none, follows_next, Sequences, sequences_leaf, sequences_node}
use Rattle.requests.proofs.Narrowed.{Given, leaf_sound, sound_three, make_given}
use Rattle.requests.proofs.Joined.{weaker, join_given, choose_given}

module _ {o : Ops} (L : Laws o) (s : Action) (w : ℕ) (hs : ActionFormed s) (hw : Weight o w) where
  prefix_node_given : (f n : ℕ) (y z : Diagram) → Formed o (Node f n y z) → Given o (Prefixes o s w y) (prefix o s w y) → Given o (Prefixes o s w z) (prefix o s w z) → (x : Option ℕ) → get_or s f None ≡ x → Given o (Prefixes o s w (Node f n y z)) (prefix_node o f n x (prefix o s w y) (prefix o s w z))
  prefix_node_given f n y z h P Q None e =
      record {
        asks = P.asks ++ (Q.asks ++ M.asks);
        built = prefixes_both e P.built Q.built M.built;
        sound = sound_three o P.asks Q.asks M.asks P.sound Q.sound M.sound;
      }
    where
      Y : Prefixed o s w y (prefix o s w y)
      Y = prefixed L s w hs hw y h.1

      Z : Prefixed o s w z (prefix o s w z)
      Z = prefixed L s w hs hw z h.2

      M : Given o (Makes o f n (prefix o s w y) (prefix o s w z)) (make o f n (prefix o s w y) (prefix o s w z))
      M =
          make_given L f n (prefix o s w y) (prefix o s w z)
          (record {
            exists = h.0.field_exists;
            legal = h.0.value_legal;
            yes_formed = Y.formed;
            no_formed = Z.formed;
            yes_fields = Y.tests (λ g m. f ≤ g) (weaker f y h.0.yes_greater_fields);
            no_after = Z.tests (After f n) h.0.no_greater_tests;
          })
  prefix_node_given f n y z h P Q (Some m) e = go (decide m n)
    where
      go : (d : Dec (m ≡ n)) → Given o (Prefixes o s w (Node f n y z)) (choice d (prefix o s w y) (prefix o s w z))
      go (yes k) = record { asks = P.asks; built = prefixes_yes e k P.built; sound = P.sound }
      go (no k) = record { asks = Q.asks; built = prefixes_no e k Q.built; sound = Q.sound }

  pub prefix_given : (d : Diagram) → Formed o d → Given o (Prefixes o s w d) (prefix o s w d)
  unfolding prefix
  prefix_given (Leaf l) h =
      record { asks = leaf_records (prefix_leaf o s w l); built = prefixes_leaf; sound = leaf_sound o (prefix_leaf o s w l) (prefixed L s w hs hw (Leaf l) h).formed }
  prefix_given (Node f n y z) h = prefix_node_given f n y z h (prefix_given y h.1) (prefix_given z h.2) (get_or s f None) refl

module _ {o : Ops} (L : Laws o) (e : Diagram) (he : Formed o e) where
  follow_next : (c : Cell) (l : List Cell) (d r : Diagram) → CellFormed o c → Formed o d → Given o (Follows o e (join o d (prefix o c.0 c.1 e)) l) r → Given o (Follows o e d (c ∷ l)) r
  follow_next c l d r h k F =
      record {
        asks = P.asks ++ (J.asks ++ F.asks);
        built = follows_next P.built J.built F.built;
        sound = sound_three o P.asks J.asks F.asks P.sound J.sound F.sound;
      }
    where
      P : Given o (Prefixes o c.0 c.1 e) (prefix o c.0 c.1 e)
      P = prefix_given L c.0 c.1 h.action h.weight e he

      J : Given o (Joins o d (prefix o c.0 c.1 e)) (join o d (prefix o c.0 c.1 e))
      J = join_given L d (prefix o c.0 c.1 e) k (prefixed L c.0 c.1 h.action h.weight e he).formed

  follow_given : (l : List Cell) (d : Diagram) → Each (CellFormed o) l → Formed o d → Given o (Follows o e d l) (sequence_cells o e d l)
  unfolding sequence_cells
  follow_given [] d h k = record { asks = []; built = follows_none; sound = tt }
  follow_given (c ∷ l) d h k = follow_next c l d (sequence_cells o e (join o d (prefix o c.0 c.1 e)) l) h.0 k (follow_given l (join o d (prefix o c.0 c.1 e)) h.1 next)
    where
      next : Formed o (join o d (prefix o c.0 c.1 e))
      next = (joined L d (prefix o c.0 c.1 e) k (prefixed L c.0 c.1 h.0.action h.0.weight e he).formed).formed

  sequence_node_given : (f n : ℕ) (y z : Diagram) → Formed o (Node f n y z) → Given o (Sequences o e y) (sequence o y e) → Given o (Sequences o e z) (sequence o z e) → Given o (Sequences o e (Node f n y z)) (choose o f n (sequence o y e) (sequence o z e))
  sequence_node_given f n y z h P Q =
      record {
        asks = P.asks ++ (Q.asks ++ C.asks);
        built = sequences_node P.built Q.built C.built;
        sound = sound_three o P.asks Q.asks C.asks P.sound Q.sound C.sound;
      }
    where
      C : Given o (Chooses o f n (sequence o y e) (sequence o z e)) (choose o f n (sequence o y e) (sequence o z e))
      C = choose_given L f n h.0.field_exists h.0.value_legal (sequence o y e) (sequence o z e) (sequenced L e he y h.1).formed (sequenced L e he z h.2).formed

  pub sequence_given : (d : Diagram) → Formed o d → Given o (Sequences o e d) (sequence o d e)
  unfolding sequence
  sequence_given (Leaf l) h =
      let F = follow_given l (Leaf []) h.cells (drop_is_formed L) in
      record { asks = F.asks; built = sequences_leaf F.built; sound = F.sound }
  sequence_given (Node f n y z) h = sequence_node_given f n y z h (sequence_given y h.1) (sequence_given z h.2)
