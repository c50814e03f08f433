-- Join and choose by the rules give what they are worked out to. Assumes nothing.
use Rattle.std.proofs.Common.{◌≡◌, ℕ, zero, suc, ◌+◌, ◌<◌, ◌≤◌, ◌≢◌, ◌⊎◌, List, [], ◌++◌, Some, sym, refl, subst, subst₂, arith}
use Rattle.format.specs.Fields.{fields, LegalValue}
use Rattle.weights.specs.Weights.{Ops, Laws}
use Rattle.meaning.specs.Decide.{decide}
use Rattle.meaning.specs.Leaves.{Cell, collect}
use Rattle.meaning.specs.Diagrams.{Diagram, Leaf, Node, make, Tests, After, Formed, extent}
use Rattle.meaning.specs.Constructions.{root, earlier, first_root, at, off, join, choose}
use Rattle.meaning.proofs.Narrowing.{tests_map}
use Rattle.meaning.proofs.Splitting.{after_field, after_unlike, From, Unrooted, Rooted, Splitting, rooted, unrooted, splitting, Heads, leaves, split, heads, split_shrinks, rooted_either, formed_tests_legal, at_formed, off_formed, at_greater, off_after}
use Rattle.meaning.proofs.Joining.{Joined, joined, tests_fields, Least, own, other, least, Chosen, chosen}
use Rattle.meaning.proofs.Canonicity.{extent_positive}
use Rattle.requests.specs.Requests.{leaf_records}
use Rattle.requests.specs.Rules.{Makes, At, at_root, at_other, Joins, joins_leaves, joins_split, Chooses, chooses_here, chooses_same_field, chooses_other_field}
use Rattle.requests.proofs.Unique.{none_some, same_test}
use Rattle.requests.proofs.Narrowed.{Given, leaf_sound, sound_two, sound_three, Ready, narrow_given, make_given}
use Rattle.requests.proofs.Worded.{join_of_leaves, join_of_split, choose_own, choose_same_field, choose_other_field}

pub not_root : (f n : ℕ) (d : Diagram) → Unrooted f n d → root d ≢ Some (f, n)
not_root f n (Leaf l) u e = none_some e
not_root f n (Node g m y z) u e = u ((same_test e refl).0, (same_test e refl).1)

pub weaker : (f : ℕ) (d : Diagram) → Tests (λ g m. f < g) d → Tests (λ g m. f ≤ g) d
weaker f d t = tests_map _ _ (λ g m h. less g h) d t
  where
    less : (g : ℕ) → f < g → f ≤ g
    less g h = omega arith

module _ {o : Ops} (L : Laws o) where
  pub at_given : (f n : ℕ) (d : Diagram) → Formed o d → Given o (At o d f n) (at o d f n)
  at_given f n d h = go (splitting o f n d)
    where
      go : Splitting o f n d → Given o (At o d f n) (at o d f n)
      go (rooted y z e a b) =
          subst (λ (x : Diagram). Given o (At o x f n) (at o d f n)) (sym e)
          (subst (Given o (At o (Node f n y z) f n)) (sym a) (record { asks = []; built = at_root refl refl; sound = tt }))
      go (unrooted u a b) =
          let N = narrow_given L d f n h in
          subst (Given o (At o d f n)) (sym a) (record { asks = N.asks; built = at_other (not_root f n d u) N.built; sound = N.sound })

  joined_leaves : (l m : List Cell) → Formed o (Leaf l) → Formed o (Leaf m) → Given o (Joins o (Leaf l) (Leaf m)) (join o (Leaf l) (Leaf m))
  joined_leaves l m p q =
      subst (Given o (Joins o (Leaf l) (Leaf m))) (sym (join_of_leaves L l m))
      (record { asks = leaf_records (collect o (l ++ m)); built = joins_leaves; sound = leaf_sound o (collect o (l ++ m)) (subst (Formed o) (join_of_leaves L l m) (joined L (Leaf l) (Leaf m) p q).formed) })

  joined_split : (d e : Diagram) (f n : ℕ) → Formed o d → Formed o e → first_root (root d) (root e) ≡ Some (f, n) → From f n d → From f n e → Rooted f n d ⊎ Rooted f n e → Given o (Joins o (at o d f n) (at o e f n)) (join o (at o d f n) (at o e f n)) → Given o (Joins o (off d f n) (off e f n)) (join o (off d f n) (off e f n)) → Given o (Joins o d e) (join o d e)
  joined_split d e f n p q c i j r A B =
      subst (Given o (Joins o d e)) (sym (join_of_split L d e f n c r))
      (record {
        asks = P.asks ++ (Q.asks ++ (A.asks ++ (B.asks ++ M.asks)));
        built = joins_split c P.built Q.built A.built B.built M.built;
        sound = sound_two o P.asks _ P.sound (sound_two o Q.asks _ Q.sound (sound_three o A.asks B.asks M.asks A.sound B.sound M.sound));
      })
    where
      P : Given o (At o d f n) (at o d f n)
      P = at_given f n d p

      Q : Given o (At o e f n) (at o e f n)
      Q = at_given f n e q

      legal : (f < fields) × LegalValue f n
      legal = rooted_either (λ g m. (g < fields) × LegalValue g m) f n d e r (formed_tests_legal o d p) (formed_tests_legal o e q)

      Y : Joined o (at o d f n) (at o e f n) (join o (at o d f n) (at o e f n))
      Y = joined L (at o d f n) (at o e f n) (at_formed L f n d p) (at_formed L f n e q)

      Z : Joined o (off d f n) (off e f n) (join o (off d f n) (off e f n))
      Z = joined L (off d f n) (off e f n) (off_formed L f n d p) (off_formed L f n e q)

      M : Given o (Makes o f n (join o (at o d f n) (at o e f n)) (join o (off d f n) (off e f n))) (make o f n (join o (at o d f n) (at o e f n)) (join o (off d f n) (off e f n)))
      M =
          make_given L f n (join o (at o d f n) (at o e f n)) (join o (off d f n) (off e f n))
          (record {
            exists = legal.0;
            legal = legal.1;
            yes_formed = Y.formed;
            no_formed = Z.formed;
            yes_fields = weaker f (join o (at o d f n) (at o e f n)) (Y.tests (λ g m. f < g) (at_greater L f n d p i) (at_greater L f n e q j));
            no_after = Z.tests (After f n) (off_after L f n d p i) (off_after L f n e q j);
          })

  join_given_by : (k : ℕ) (d e : Diagram) → extent d + extent e ≤ k → Formed o d → Formed o e → Given o (Joins o d e) (join o d e)
  join_given_by zero d e b p q = absurd (none (extent_positive L d) b)
    where
      none : 1 ≤ extent d → extent d + extent e ≤ 0 → ⊥
      none i j = omega arith
  join_given_by (suc k) d e b p q = go (heads d e) (join_given_by k)
    where
      go : Heads d e → ((v w : Diagram) → extent v + extent w ≤ k → Formed o v → Formed o w → Given o (Joins o v w) (join o v w)) → Given o (Joins o d e) (join o d e)
      go (leaves l m i j c) ih = subst₂ (λ (x y : Diagram). Given o (Joins o x y) (join o x y)) (sym i) (sym j) (joined_leaves l m (subst (Formed o) i p) (subst (Formed o) j q))
      go (split f n c i j r) ih =
          joined_split d e f n p q c i j r
          (ih (at o d f n) (at o e f n) shrinks.0 (at_formed L f n d p) (at_formed L f n e q))
          (ih (off d f n) (off e f n) shrinks.1 (off_formed L f n d p) (off_formed L f n e q))
        where
          shrinks : (extent (at o d f n) + extent (at o e f n) ≤ k) × (extent (off d f n) + extent (off e f n) ≤ k)
          shrinks = fits (split_shrinks L f n d e r)
            where
              fits : (extent (at o d f n) + extent (at o e f n) < extent d + extent e) × (extent (off d f n) + extent (off e f n) < extent d + extent e) → (extent (at o d f n) + extent (at o e f n) ≤ k) × (extent (off d f n) + extent (off e f n) ≤ k)
              fits z = (omega arith, omega arith)

  pub join_given : (d e : Diagram) → Formed o d → Formed o e → Given o (Joins o d e) (join o d e)
  join_given d e p q = join_given_by (extent d + extent e) d e (self (extent d + extent e)) p q
    where
      self : (k : ℕ) → k ≤ k
      self k = omega arith

  module _ (f n : ℕ) (f_exists : f < fields) (n_legal : LegalValue f n) where
    chosen_own : (y z : Diagram) → Formed o y → Formed o z → earlier (earlier (f, n) (root y)) (root z) ≡ (f, n) → From f n y → From f n z → Given o (Chooses o f n y z) (choose o f n y z)
    chosen_own y z p q e i j =
        subst (Given o (Chooses o f n y z)) (sym (choose_own L f n y z e)) (record { asks = M.asks; built = chooses_here e M.built; sound = M.sound })
      where
        M : Given o (Makes o f n y (off z f n)) (make o f n y (off z f n))
        M =
            make_given L f n y (off z f n)
            (record {
              exists = f_exists;
              legal = n_legal;
              yes_formed = p;
              no_formed = off_formed L f n z q;
              yes_fields = tests_fields o f n y p i;
              no_after = off_after L f n z q j;
            })

    -- the least test is another
    module _ (y z : Diagram) (p : Formed o y) (q : Formed o z) (g m : ℕ) (e : earlier (earlier (f, n) (root y)) (root z) ≡ (g, m)) (a : After g m f n) (i : From g m y) (j : From g m z) (r : Rooted g m y ⊎ Rooted g m z) (C : Given o (Chooses o f n (off y g m) (off z g m)) (choose o f n (off y g m) (off z g m))) where
      legal_here : (g < fields) × LegalValue g m
      legal_here = rooted_either (λ h k. (h < fields) × LegalValue h k) g m y z r (formed_tests_legal o y p) (formed_tests_legal o z q)

      ready_at : (x : Diagram) → Formed o x → Tests (λ h k. g ≤ h) x → Ready o g m x (choose o f n (off y g m) (off z g m))
      ready_at x s t =
          let K = chosen L f n f_exists n_legal (off y g m) (off z g m) (off_formed L g m y p) (off_formed L g m z q) in
          record {
            exists = legal_here.0;
            legal = legal_here.1;
            yes_formed = s;
            no_formed = K.formed;
            yes_fields = t;
            no_after = K.tests (After g m) a (off_after L g m y p i) (off_after L g m z q j);
          }

      chosen_same_field : g ≡ f → Given o (Chooses o f n y z) (choose o f n y z)
      chosen_same_field h =
          subst (Given o (Chooses o f n y z)) (sym (choose_same_field L f n y z g m e a r h))
          (record {
            asks = W.asks ++ (C.asks ++ M.asks);
            built = chooses_same_field e h (λ k. after_unlike g m f n a (sym h) (sym k)) W.built C.built M.built;
            sound = sound_three o W.asks C.asks M.asks W.sound C.sound M.sound;
          })
        where
          W : Given o (At o z g m) (at o z g m)
          W = at_given g m z q

          M : Given o (Makes o g m (at o z g m) (choose o f n (off y g m) (off z g m))) (make o g m (at o z g m) (choose o f n (off y g m) (off z g m)))
          M = make_given L g m (at o z g m) (choose o f n (off y g m) (off z g m)) (ready_at (at o z g m) (at_formed L g m z q) (weaker g (at o z g m) (at_greater L g m z q j)))

      chosen_other_field : g ≢ f → Given o (Chooses o f n (at o y g m) (at o z g m)) (choose o f n (at o y g m) (at o z g m)) → Given o (Chooses o f n y z) (choose o f n y z)
      chosen_other_field h B =
          subst (Given o (Chooses o f n y z)) (sym (choose_other_field L f n y z g m e a r h))
          (record {
            asks = V.asks ++ (W.asks ++ (B.asks ++ (C.asks ++ M.asks)));
            built = chooses_other_field e h V.built W.built B.built C.built M.built;
            sound = sound_two o V.asks _ V.sound (sound_two o W.asks _ W.sound (sound_three o B.asks C.asks M.asks B.sound C.sound M.sound));
          })
        where
          V : Given o (At o y g m) (at o y g m)
          V = at_given g m y p

          W : Given o (At o z g m) (at o z g m)
          W = at_given g m z q

          X : Diagram
          X = choose o f n (at o y g m) (at o z g m)

          K : Chosen o f n (at o y g m) (at o z g m) X
          K = chosen L f n f_exists n_legal (at o y g m) (at o z g m) (at_formed L g m y p) (at_formed L g m z q)

          M : Given o (Makes o g m X (choose o f n (off y g m) (off z g m))) (make o g m X (choose o f n (off y g m) (off z g m)))
          M =
              make_given L g m X (choose o f n (off y g m) (off z g m))
              (ready_at X K.formed (K.tests (λ h k. g ≤ h) (after_field g m f n a) (weaker g (at o y g m) (at_greater L g m y p i)) (weaker g (at o z g m) (at_greater L g m z q j))))

    choose_given_by : (k : ℕ) (y z : Diagram) → extent y + extent z ≤ k → Formed o y → Formed o z → Given o (Chooses o f n y z) (choose o f n y z)
    choose_given_by zero y z b p q = absurd (none (extent_positive L y) b)
      where
        none : 1 ≤ extent y → extent y + extent z ≤ 0 → ⊥
        none i j = omega arith
    choose_given_by (suc k) y z b p q = go (least f n y z) (choose_given_by k)
      where
        go : Least f n y z → ((v w : Diagram) → extent v + extent w ≤ k → Formed o v → Formed o w → Given o (Chooses o f n v w) (choose o f n v w)) → Given o (Chooses o f n y z) (choose o f n y z)
        go (own e i j) ih = chosen_own y z p q e i j
        go (other g m e a i j r) ih = inner (decide g f)
          where
            shrinks : (extent (at o y g m) + extent (at o z g m) ≤ k) × (extent (off y g m) + extent (off z g m) ≤ k)
            shrinks = fits (split_shrinks L g m y z r)
              where
                fits : (extent (at o y g m) + extent (at o z g m) < extent y + extent z) × (extent (off y g m) + extent (off z g m) < extent y + extent z) → (extent (at o y g m) + extent (at o z g m) ≤ k) × (extent (off y g m) + extent (off z g m) ≤ k)
                fits h = (omega arith, omega arith)

            C : Given o (Chooses o f n (off y g m) (off z g m)) (choose o f n (off y g m) (off z g m))
            C = ih (off y g m) (off z g m) shrinks.1 (off_formed L g m y p) (off_formed L g m z q)

            inner : Dec (g ≡ f) → Given o (Chooses o f n y z) (choose o f n y z)
            inner (yes h) = chosen_same_field y z p q g m e a i j r C h
            inner (no h) = chosen_other_field y z p q g m e a i j r C h (ih (at o y g m) (at o z g m) shrinks.0 (at_formed L g m y p) (at_formed L g m z q))

    pub choose_given : (y z : Diagram) → Formed o y → Formed o z → Given o (Chooses o f n y z) (choose o f n y z)
    choose_given y z p q = choose_given_by (extent y + extent z) y z (self (extent y + extent z)) p q
      where
        self : (k : ℕ) → k ≤ k
        self k = omega arith
