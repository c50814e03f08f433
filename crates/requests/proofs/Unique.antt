-- Each construction gives one diagram and one list of requests. Assumes nothing.
use Rattle.std.proofs.Common.{◌≡◌, ℕ, List, [], ◌∷◌, ◌++◌, Some, None, Option, sym, refl, ap, ◌∙◌, subst, ap₂, subst₂, true≢false}
use Rattle.format.specs.Policy.{Policy}
use Rattle.weights.specs.Weights.{Ops}
use Rattle.meaning.specs.Leaves.{Action, Cell}
use Rattle.meaning.specs.Diagrams.{Diagram, Leaf, Node}
use Rattle.meaning.specs.Constructions.{Tested, off}
use Rattle.requests.specs.Requests.{Request, node}
use Rattle.requests.specs.Rules.{Narrows, narrows_leaf, narrows_yes, narrows_no, narrows_both, Makes, makes_no, makes_node, At, at_root, at_other, Joins, joins_leaves, joins_split, Chooses, chooses_here, chooses_same_field, chooses_other_field, Prefixes, prefixes_leaf, prefixes_yes, prefixes_no, prefixes_both, Follows, follows_none, follows_next, Sequences, sequences_leaf, sequences_node, pass_cells, Negates, negates_drop, negates_pass, negates_other, negates_node, Rounds, rounds_end, rounds_on, Stars, stars_rounds, Compiled, compiled_drop, compiled_pass, compiled_test, compiled_set, compiled_cost, compiled_not, compiled_union, compiled_sequence, compiled_star}

-- the same diagram and the same requests
abbrev pub Same : Diagram → List Request → Diagram → List Request → Type 0
Same r a s b = (r ≡ s) × (a ≡ b)

append_two : {a b a' b' : List Request} → a ≡ a' → b ≡ b' → a ++ b ≡ a' ++ b'
append_two p q = ap₂ (λ (x y : List Request). x ++ y) p q

append_three : {a b c a' b' c' : List Request} → a ≡ a' → b ≡ b' → c ≡ c' → a ++ (b ++ c) ≡ a' ++ (b' ++ c')
append_three p q r = append_two p (append_two q r)

pub none_some : {A : Type 0} {t : Tested} → None ≡ Some t → A
none_some e = absurd (true≢false (cc))

none_set : {A : Type 0} {x : Option ℕ} {m : ℕ} → x ≡ None → x ≡ Some m → A
none_set e h = absurd (true≢false (cc))

the_test : Option Tested → Tested
the_test None = (0, 0)
the_test (Some t) = t

pub same_test : {x : Option Tested} {f n g m : ℕ} → x ≡ Some (f, n) → x ≡ Some (g, m) → (g ≡ f) × (m ≡ n)
unfolding the_test
same_test p q = (ap (λ (u : Option Tested). (the_test u).0) (sym q ∙ p), ap (λ (u : Option Tested). (the_test u).1) (sym q ∙ p))

same_least : {x : Tested} {f n g m : ℕ} → x ≡ (f, n) → x ≡ (g, m) → (g ≡ f) × (m ≡ n)
same_least p q = (ap (λ (u : Tested). u.0) (sym q ∙ p), ap (λ (u : Tested). u.1) (sym q ∙ p))

same_value : {x : Option ℕ} {m k : ℕ} → x ≡ Some m → x ≡ Some k → m ≡ k
same_value p q = cc

off_of : (d : Diagram) {f n f' n' : ℕ} → f' ≡ f → n' ≡ n → off d f n ≡ off d f' n'
off_of d p q = ap₂ (λ (g m : ℕ). off d g m) (sym p) (sym q)

module _ {o : Ops} where
  makes_of : {f n f' n' : ℕ} {v w v' w' r : Diagram} {c : List Request} → f' ≡ f → n' ≡ n → v ≡ v' → w ≡ w' → Makes o f' n' v' w' r c → Makes o f n v w r c
  makes_of {f} {n} {v' = v'} {w' = w'} {r = r} {c = c} i j p q m =
      subst₂ (λ (x y : Diagram). Makes o f n x y r c) (sym p) (sym q) (subst₂ (λ (g k : ℕ). Makes o g k v' w' r c) i j m)

  mutual
    pub narrows_same : {d : Diagram} {f n : ℕ} {r s : Diagram} {a b : List Request} → Narrows o d f n r a → Narrows o d f n s b → Same r a s b
    narrows_same narrows_leaf narrows_leaf = (refl, refl)
    narrows_same (narrows_yes p q) (narrows_yes p' q') = (refl, refl)
    narrows_same (narrows_yes p q) (narrows_no p' q' s) = absurd (q' q)
    narrows_same (narrows_yes p q) (narrows_both p' s t m) = absurd (p' p)
    narrows_same (narrows_no p q s) (narrows_yes p' q') = absurd (q q')
    narrows_same (narrows_no p q s) (narrows_no p' q' s') = narrows_same s s'
    narrows_same (narrows_no p q s) (narrows_both p' s' t m) = absurd (p' p)
    narrows_same (narrows_both p s t m) (narrows_yes p' q') = absurd (p p')
    narrows_same (narrows_both p s t m) (narrows_no p' q' s') = absurd (p p')
    narrows_same (narrows_both p s t m) (narrows_both p' s' t' m') =
        let i = narrows_same s s' in
        let j = narrows_same t t' in
        let k = makes_same m (makes_of refl refl i.0 j.0 m') in
        (k.0, append_three i.1 j.1 k.1)

    pub makes_same : {f n : ℕ} {y z r s : Diagram} {a b : List Request} → Makes o f n y z r a → Makes o f n y z s b → Same r a s b
    makes_same (makes_no s t e) (makes_no s' t' e') = (refl, append_two (narrows_same s s').1 (narrows_same t t').1)
    makes_same (makes_no s t e) (makes_node s' t' h) = absurd (h (sym (narrows_same s s').0 ∙ e ∙ (narrows_same t t').0))
    makes_same (makes_node s t h) (makes_no s' t' e') = absurd (h ((narrows_same s s').0 ∙ e' ∙ sym (narrows_same t t').0))
    makes_same (makes_node {f} {n} {z = z} s t h) (makes_node s' t' h') =
        let i = narrows_same s s' in
        let j = narrows_same t t' in
        (ap (λ (v : Diagram). Node f n v z) i.0, append_three i.1 j.1 (ap {B = List Request} (λ (v : Diagram). node f n v z ∷ []) i.0))

  at_same : {d : Diagram} {f n : ℕ} {r s : Diagram} {a b : List Request} → At o d f n r a → At o d f n s b → Same r a s b
  at_same (at_root p q) (at_root p' q') = (refl, refl)
  at_same (at_root p q) (at_other h s) = absurd (h (ap₂ {C = Option Tested} (λ (g m : ℕ). Some (g, m)) p q))
  at_same (at_other h s) (at_root p q) = absurd (h (ap₂ {C = Option Tested} (λ (g m : ℕ). Some (g, m)) p q))
  at_same (at_other h s) (at_other h' s') = narrows_same s s'

  at_of : {d : Diagram} {f n f' n' : ℕ} {r : Diagram} {a : List Request} → f' ≡ f → n' ≡ n → At o d f' n' r a → At o d f n r a
  at_of {d} {r = r} {a = a} i j s = subst₂ (λ (g k : ℕ). At o d g k r a) i j s

  joins_of : {d e d' e' r : Diagram} {a : List Request} → d ≡ d' → e ≡ e' → Joins o d' e' r a → Joins o d e r a
  joins_of {r = r} {a = a} p q j = subst₂ (λ (x y : Diagram). Joins o x y r a) (sym p) (sym q) j

  pub joins_same : {d e r s : Diagram} {a b : List Request} → Joins o d e r a → Joins o d e s b → Same r a s b
  joins_same joins_leaves joins_leaves = (refl, refl)
  joins_same joins_leaves (joins_split t p q i j m) = none_some t
  joins_same (joins_split t p q i j m) joins_leaves = none_some t
  joins_same (joins_split {d} {e} t p q i j m) (joins_split t' p' q' i' j' m') =
      let u = same_test t t' in
      let p'' = at_same p (at_of u.0 u.1 p') in
      let q'' = at_same q (at_of u.0 u.1 q') in
      let i'' = joins_same i (joins_of p''.0 q''.0 i') in
      let j'' = joins_same j (joins_of (off_of d u.0 u.1) (off_of e u.0 u.1) j') in
      let m'' = makes_same m (makes_of u.0 u.1 i''.0 j''.0 m') in
      (m''.0, append_two p''.1 (append_two q''.1 (append_three i''.1 j''.1 m''.1)))

  chooses_of : {f n : ℕ} {y z y' z' r : Diagram} {a : List Request} → y ≡ y' → z ≡ z' → Chooses o f n y' z' r a → Chooses o f n y z r a
  chooses_of {f} {n} {r = r} {a = a} p q j = subst₂ (λ (x y : Diagram). Chooses o f n x y r a) (sym p) (sym q) j

  pub chooses_same : {f n : ℕ} {y z r s : Diagram} {a b : List Request} → Chooses o f n y z r a → Chooses o f n y z s b → Same r a s b
  chooses_same (chooses_here t m) (chooses_here t' m') = makes_same m m'
  chooses_same (chooses_here t m) (chooses_same_field t' p' q' i' j' m') = absurd (q' (same_least t t').1)
  chooses_same (chooses_here t m) (chooses_other_field t' p' h' i' j' k' m') = absurd (p' (same_least t t').0)
  chooses_same (chooses_same_field t p q i j m) (chooses_here t' m') = absurd (q (same_least t' t).1)
  chooses_same (chooses_same_field {y} {z} t p q i j m) (chooses_same_field t' p' q' i' j' m') =
      let u = same_least t t' in
      let i'' = at_same i (at_of u.0 u.1 i') in
      let j'' = chooses_same j (chooses_of (off_of y u.0 u.1) (off_of z u.0 u.1) j') in
      let m'' = makes_same m (makes_of u.0 u.1 i''.0 j''.0 m') in
      (m''.0, append_three i''.1 j''.1 m''.1)
  chooses_same (chooses_same_field t p q i j m) (chooses_other_field t' p' h' i' j' k' m') = absurd (p' ((same_least t t').0 ∙ p))
  chooses_same (chooses_other_field t p h i j k m) (chooses_here t' m') = absurd (p (same_least t' t).0)
  chooses_same (chooses_other_field t p h i j k m) (chooses_same_field t' p' q' i' j' m') = absurd (p ((same_least t' t).0 ∙ p'))
  chooses_same (chooses_other_field {y} {z} t p h i j k m) (chooses_other_field t' p' h' i' j' k' m') =
      let u = same_least t t' in
      let h'' = at_same h (at_of u.0 u.1 h') in
      let i'' = at_same i (at_of u.0 u.1 i') in
      let j'' = chooses_same j (chooses_of h''.0 i''.0 j') in
      let k'' = chooses_same k (chooses_of (off_of y u.0 u.1) (off_of z u.0 u.1) k') in
      let m'' = makes_same m (makes_of u.0 u.1 j''.0 k''.0 m') in
      (m''.0, append_two h''.1 (append_two i''.1 (append_three j''.1 k''.1 m''.1)))

  pub prefixes_same : {s : Action} {w : ℕ} {d r q : Diagram} {a b : List Request} → Prefixes o s w d r a → Prefixes o s w d q b → Same r a q b
  prefixes_same prefixes_leaf prefixes_leaf = (refl, refl)
  prefixes_same (prefixes_yes e h p) (prefixes_yes e' h' p') = prefixes_same p p'
  prefixes_same (prefixes_yes e h p) (prefixes_no e' h' p') = absurd (h' (same_value e' e ∙ h))
  prefixes_same (prefixes_yes e h p) (prefixes_both e' p' q' m') = none_set e' e
  prefixes_same (prefixes_no e h p) (prefixes_yes e' h' p') = absurd (h (same_value e e' ∙ h'))
  prefixes_same (prefixes_no e h p) (prefixes_no e' h' p') = prefixes_same p p'
  prefixes_same (prefixes_no e h p) (prefixes_both e' p' q' m') = none_set e' e
  prefixes_same (prefixes_both e p q m) (prefixes_yes e' h' p') = none_set e e'
  prefixes_same (prefixes_both e p q m) (prefixes_no e' h' p') = none_set e e'
  prefixes_same (prefixes_both e p q m) (prefixes_both e' p' q' m') =
      let p'' = prefixes_same p p' in
      let q'' = prefixes_same q q' in
      let m'' = makes_same m (makes_of refl refl p''.0 q''.0 m') in
      (m''.0, append_three p''.1 q''.1 m''.1)

  follows_of : {e d d' r : Diagram} {l : List Cell} {a : List Request} → d ≡ d' → Follows o e d' l r a → Follows o e d l r a
  follows_of {e} {r = r} {l = l} {a = a} p f = subst (λ (x : Diagram). Follows o e x l r a) (sym p) f

  pub follows_same : {e d r s : Diagram} {l : List Cell} {a b : List Request} → Follows o e d l r a → Follows o e d l s b → Same r a s b
  follows_same follows_none follows_none = (refl, refl)
  follows_same (follows_next p j f) (follows_next p' j' f') =
      let p'' = prefixes_same p p' in
      let j'' = joins_same j (joins_of refl p''.0 j') in
      let f'' = follows_same f (follows_of j''.0 f') in
      (f''.0, append_three p''.1 j''.1 f''.1)

  pub sequences_same : {e d r s : Diagram} {a b : List Request} → Sequences o e d r a → Sequences o e d s b → Same r a s b
  sequences_same (sequences_leaf f) (sequences_leaf f') = follows_same f f'
  sequences_same (sequences_node p q c) (sequences_node p' q' c') =
      let p'' = sequences_same p p' in
      let q'' = sequences_same q q' in
      let c'' = chooses_same c (chooses_of p''.0 q''.0 c') in
      (c''.0, append_three p''.1 q''.1 c''.1)

  pub negates_same : {d r s : Diagram} {a b : List Request} → Negates o d r a → Negates o d s b → Same r a s b
  negates_same (negates_drop e) (negates_drop e') = (refl, refl)
  negates_same (negates_drop e) (negates_pass h e') = absurd (h e)
  negates_same (negates_drop e) (negates_other h k) = absurd (h e)
  negates_same (negates_pass h e) (negates_drop e') = absurd (h e')
  negates_same (negates_pass h e) (negates_pass h' e') = (refl, refl)
  negates_same (negates_pass h e) (negates_other h' k) = absurd (k e)
  negates_same (negates_other h k) (negates_drop e) = absurd (h e)
  negates_same (negates_other h k) (negates_pass h' e) = absurd (k e)
  negates_same (negates_other h k) (negates_other h' k') = (refl, refl)
  negates_same (negates_node p q m) (negates_node p' q' m') =
      let p'' = negates_same p p' in
      let q'' = negates_same q q' in
      let m'' = makes_same m (makes_of refl refl p''.0 q''.0 m') in
      (m''.0, append_three p''.1 q''.1 m''.1)

  rounds_of : {d s s' r : Diagram} {a : List Request} → s ≡ s' → Rounds o d s' r a → Rounds o d s r a
  rounds_of {d} {r = r} {a = a} p q = subst (λ (x : Diagram). Rounds o d x r a) (sym p) q

  -- the next round and what it requests
  next_same : {d s p q t u : Diagram} {a b c g : List Request} → Sequences o s d p a → Joins o (Leaf (pass_cells o)) p t b → Sequences o s d q c → Joins o (Leaf (pass_cells o)) q u g → (t ≡ u) × (a ≡ c) × (b ≡ g)
  next_same p j p' j' =
      let p'' = sequences_same p p' in
      let j'' = joins_same j (joins_of refl p''.0 j') in
      (j''.0, p''.1, j''.1)

  pub rounds_same : {d s r t : Diagram} {a b : List Request} → Rounds o d s r a → Rounds o d s t b → Same r a t b
  rounds_same (rounds_end p j e) (rounds_end p' j' e') = let n = next_same p j p' j' in (refl, append_two n.1 n.2)
  rounds_same (rounds_end p j e) (rounds_on p' j' h' f') = absurd (h' (sym (next_same p j p' j').0 ∙ e))
  rounds_same (rounds_on p j h f) (rounds_end p' j' e') = absurd (h ((next_same p j p' j').0 ∙ e'))
  rounds_same (rounds_on p j h f) (rounds_on p' j' h' f') =
      let n = next_same p j p' j' in
      let f'' = rounds_same f (rounds_of n.0 f') in
      (f''.0, append_three n.1 n.2 f''.1)

  pub stars_same : {d r s : Diagram} {a b : List Request} → Stars o d r a → Stars o d s b → Same r a s b
  stars_same (stars_rounds f) (stars_rounds f') = let k = rounds_same f f' in (k.0, append_two refl k.1)

  negates_of : {d d' r : Diagram} {a : List Request} → d ≡ d' → Negates o d' r a → Negates o d r a
  negates_of {r = r} {a = a} p n = subst (λ (x : Diagram). Negates o x r a) (sym p) n

  sequences_of : {e e' d d' r : Diagram} {a : List Request} → e ≡ e' → d ≡ d' → Sequences o e' d' r a → Sequences o e d r a
  sequences_of {r = r} {a = a} p q s = subst₂ (λ (x y : Diagram). Sequences o x y r a) (sym p) (sym q) s

  stars_of : {d d' r : Diagram} {a : List Request} → d ≡ d' → Stars o d' r a → Stars o d r a
  stars_of {r = r} {a = a} p s = subst (λ (x : Diagram). Stars o x r a) (sym p) s

  pub compiled_same : {p : Policy} {r s : Diagram} {a b : List Request} → Compiled o p r a → Compiled o p s b → Same r a s b
  compiled_same compiled_drop compiled_drop = (refl, refl)
  compiled_same compiled_pass compiled_pass = (refl, refl)
  compiled_same compiled_test compiled_test = (refl, refl)
  compiled_same compiled_set compiled_set = (refl, refl)
  compiled_same compiled_cost compiled_cost = (refl, refl)
  compiled_same (compiled_not p n) (compiled_not p' n') =
      let p'' = compiled_same p p' in
      let n'' = negates_same n (negates_of p''.0 n') in
      (n''.0, append_two p''.1 n''.1)
  compiled_same (compiled_union p q j) (compiled_union p' q' j') =
      let p'' = compiled_same p p' in
      let q'' = compiled_same q q' in
      let j'' = joins_same j (joins_of p''.0 q''.0 j') in
      (j''.0, append_three p''.1 q''.1 j''.1)
  compiled_same (compiled_sequence p q s) (compiled_sequence p' q' s') =
      let p'' = compiled_same p p' in
      let q'' = compiled_same q q' in
      let s'' = sequences_same s (sequences_of q''.0 p''.0 s') in
      (s''.0, append_three p''.1 q''.1 s''.1)
  compiled_same (compiled_star p s) (compiled_star p' s') =
      let p'' = compiled_same p p' in
      let s'' = stars_same s (stars_of p''.0 s') in
      (s''.0, append_two p''.1 s''.1)
