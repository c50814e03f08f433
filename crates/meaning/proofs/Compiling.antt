-- The diagram of a policy gives what the policy means. Assumes nothing.
use Rattle.std.proofs.Common.{◌≡◌, ℕ, zero, suc, ◌+◌, ◌<◌, ◌≤◌, List, [], ◌∷◌, ◌++◌, length, sym, refl, ap, ◌∙◌, subst, ap₂, inl, inr, arith, length-append}
use mathlib.Core.Path.{fun_ext}
use Rattle.format.specs.Fields.{range}
use Rattle.format.specs.Limits.{words_limit}
use Rattle.format.specs.Actions.{keep_all}
use Rattle.format.specs.Policy.{Policy, Drop, Pass, Test, Set, Cost, Not, Union, Sequence, Star, postfix, Predicate, Legal}
use Rattle.weights.specs.Weights.{Ops, Laws}
use Rattle.weights.specs.Order.{Lub, In}
use Rattle.weights.proofs.Order.{lub_unique}
use Rattle.meaning.specs.Decide.{choice, decide}
use Rattle.meaning.specs.Leaves.{Frame, Cell}
use Rattle.meaning.specs.Diagrams.{Diagram, weigh, SetsOf, Cells, Formed}
use Rattle.meaning.specs.Constructions.{join, sequence, negate, round, pass_diagram, Compiles, drops, passes, tests, sets, costs, nots, unions, sequences, stars}
use Rattle.meaning.specs.Frames.{InRange, Spare, Named}
use Rattle.meaning.specs.Meanings.{Meaning, Alike, only, IsSequence, IsCopies, IsStar, Means, Uses, named_in}
use Rattle.meaning.proofs.Gathering.{choice_yes}
use Rattle.meaning.proofs.Narrowing.{cells_map, formed_weighted, weigh_weight}
use Rattle.meaning.proofs.Joining.{Joined, joined}
use Rattle.meaning.proofs.Sequencing.{sets_closed, Sequenced, sequenced}
use Rattle.meaning.proofs.Simple.{keep_formed, keep_sets, set_formed, set_sets, apply_keep, apply_set, single_cells, single_formed, single_weighs, pass_formed, pass_weighs, drop_is_formed, test_formed, test_weighs, Plain, plain_closed, plain_single, Negated, negated}
use Rattle.meaning.proofs.Starring.{sequence_lub, star_means, round_good, round_named, rounds_end}

-- meanings are unique

module _ {o : Ops} (L : Laws o) where
  sequence_alike : (a b a' b' m m' : Meaning) → Alike a a' → Alike b b' → IsSequence o a b m → IsSequence o a' b' m' → Alike m m'
  sequence_alike a b a' b' m m' p q x y s t rs rt =
      lub_unique L (λ h. o.times (a' s h.0) (b' h.0 t)) (subst (λ (f : (h : Frame) × InRange h → ℕ). Lub o f (m s t)) (fun_ext (λ h. ap₂ o.times (p s h.0 rs h.1) (q h.0 t h.1 rt))) (x s t rs rt)) (y s t rs rt)

  copies_alike : (a a' : Meaning) (c c' : ℕ → Meaning) → Alike a a' → IsCopies o a c → IsCopies o a' c' → (k : ℕ) → Alike (c k) (c' k)
  copies_alike a a' c c' p x y zero s t rs rt = x.none s t rs rt ∙ sym (y.none s t rs rt)
  copies_alike a a' c c' p x y (suc k) s t rs rt = sequence_alike a (c k) a' (c' k) (c (suc k)) (c' (suc k)) p (copies_alike a a' c c' p x y k) (x.more k) (y.more k) s t rs rt

  star_alike : (a a' m m' : Meaning) → Alike a a' → IsStar o a m → IsStar o a' m' → Alike m m'
  star_alike a a' m m' p (c, x, u) (c', x', u') s t rs rt =
      lub_unique L (λ k. c' k s t) (subst (λ (f : ℕ → ℕ). Lub o f (m s t)) (fun_ext (λ k. copies_alike a a' c c' p x x' k s t rs rt)) (u s t rs rt)) (u' s t rs rt)

  pub means_alike : (p : Policy) (m m' : Meaning) → Means o p m → Means o p m' → Alike m m'
  means_alike Drop m m' h k s t x y = h s t x y ∙ sym (k s t x y)
  means_alike Pass m m' h k s t x y = h s t x y ∙ sym (k s t x y)
  means_alike (Test f n) m m' h k s t x y = h s t x y ∙ sym (k s t x y)
  means_alike (Set f n) m m' h k s t x y = h s t x y ∙ sym (k s t x y)
  means_alike (Cost n) m m' h k s t x y = h s t x y ∙ sym (k s t x y)
  means_alike (Not p) m m' h k s t x y =
      h.2 s t x y ∙ ap (λ (w : ℕ). choice (decide w o.zero) (only o s t o.one) o.zero) (means_alike p h.0 k.0 h.1 k.1 s s x x) ∙ sym (k.2 s t x y)
  means_alike (Union p q) m m' h k s t x y =
      h.4 s t x y ∙ ap₂ o.join (means_alike p h.0 k.0 h.2 k.2 s t x y) (means_alike q h.1 k.1 h.3 k.3 s t x y) ∙ sym (k.4 s t x y)
  means_alike (Sequence p q) m m' h k s t x y = sequence_alike h.0 h.1 k.0 k.1 m m' (means_alike p h.0 k.0 h.2 k.2) (means_alike q h.1 k.1 h.3 k.3) h.4 k.4 s t x y
  means_alike (Star p) m m' h k s t x y = star_alike h.0 k.0 m m' (means_alike p h.0 k.0 h.1 k.1) h.2 k.2 s t x y

-- diagrams of policies

-- d is formed, names only names, and gives what p means
pub record Compiled (o : Ops) (names : ℕ → List ℕ) (p : Policy) (d : Diagram) : Type 0 where
  pub formed : Formed o d
  pub named : Named names d
  pub plain : Predicate p → Cells (Plain o) d
  pub means : Means o p (weigh o d)

module _ (names : ℕ → List ℕ) {o : Ops} (L : Laws o) where
  keep_named : Cells (λ c. SetsOf (λ f n. In n (names f)) c.0) (pass_diagram o)
  keep_named = single_cells L (λ c. SetsOf (λ f n. In n (names f)) c.0) keep_all o.one (keep_sets (λ f n. In n (names f)))

  pub compiled : (p : Policy) (d : Diagram) → Compiles o p d → Legal p → Uses names p → Compiled o names p d
  compiled p d drops l u = record { formed = drop_is_formed L; named = record { tests = tt; sets = tt }; plain = λ h. tt; means = λ s t x y. refl }
  compiled p d passes l u =
      record { formed = pass_formed L; named = record { tests = tt; sets = keep_named }; plain = λ h. plain_single L; means = λ s t x y. pass_weighs L s t x.all_fields }
  compiled p d (tests f n) l u =
      record {
        formed = test_formed L f n l.0 l.1;
        named = record { tests = (u, tt, tt); sets = (keep_named, tt) };
        plain = λ h. (plain_single L, tt);
        means = λ s t x y. test_weighs L f n s t x.all_fields;
      }
  compiled p d (sets f n) l u =
      record {
        formed = single_formed L _ o.one (set_formed f n l.1) L.one_weight;
        named = record { tests = tt; sets = single_cells L (λ c. SetsOf (λ g m. In m (names g)) c.0) _ _ (set_sets (λ g m. In m (names g)) f n u) };
        plain = λ h. absurd h;
        means = λ s t x y. single_weighs L _ o.one s t L.one_weight ∙ ap (λ (r : Frame). only o r t o.one) (apply_set s f n x.all_fields);
      }
  compiled p d (costs n) l u =
      record {
        formed = single_formed L keep_all (o.cost n) keep_formed (L.cost_weight n l);
        named = record { tests = tt; sets = single_cells L (λ c. SetsOf (λ g m. In m (names g)) c.0) _ _ (keep_sets (λ g m. In m (names g))) };
        plain = λ h. absurd h;
        means = λ s t x y. single_weighs L keep_all (o.cost n) s t (L.cost_weight n l) ∙ ap (λ (r : Frame). only o r t (o.cost n)) (apply_keep s x.all_fields);
      }
  compiled p d (nots {p = q} {d = e} c) l u = go (compiled q e c l.1 u)
    where
      go : Compiled o names q e → Compiled o names (Not q) (negate o e)
      go E =
          record {
            formed = N.formed;
            named = record { tests = N.tests (λ f n. In n (names f)) E.named.tests; sets = plain_sets (negate o e) N.plain };
            plain = λ h. N.plain;
            means = (weigh o e, E.means, λ s t x y. N.weighs s t x.all_fields);
          }
        where
          N : Negated L e (negate o e)
          N = negated L e E.formed (E.plain l.0)

          plain_sets : (r : Diagram) → Cells (Plain o) r → Cells (λ b. SetsOf (λ f n. In n (names f)) b.0) r
          plain_sets r h = cells_map (Plain o) (λ b. SetsOf (λ f n. In n (names f)) b.0) one r h
            where
              one : (b : Cell) → Plain o b → SetsOf (λ f n. In n (names f)) b.0
              one b k = subst (SetsOf (λ f n. In n (names f))) (sym k.0) (keep_sets (λ f n. In n (names f)))
  compiled p d (unions {p = q} {q = r} {d = e} {e = g} c c') l u = go (compiled q e c l.0 u.0) (compiled r g c' l.1 u.1)
    where
      go : Compiled o names q e → Compiled o names r g → Compiled o names (Union q r) (join o e g)
      go E G =
          record {
            formed = J.formed;
            named = record { tests = J.tests (λ f n. In n (names f)) E.named.tests G.named.tests; sets = J.cells (λ b. SetsOf (λ f n. In n (names f)) b.0) (sets_closed o (λ f n. In n (names f))) E.named.sets G.named.sets };
            plain = λ h. J.cells (Plain o) (plain_closed L) (E.plain h.0) (G.plain h.1);
            means = (weigh o e, weigh o g, E.means, G.means, λ s t x y. J.weighs s t);
          }
        where
          J : Joined o e g (join o e g)
          J = joined L e g E.formed G.formed
  compiled p d (sequences {p = q} {q = r} {d = e} {e = g} c c') l u = go (compiled q e c l.0 u.0) (compiled r g c' l.1 u.1)
    where
      go : Compiled o names q e → Compiled o names r g → Compiled o names (Sequence q r) (sequence o e g)
      go E G =
          record {
            formed = S.formed;
            named = record { tests = S.tests (λ f n. In n (names f)) E.named.tests G.named.tests; sets = S.cells (λ b. SetsOf (λ f n. In n (names f)) b.0) (sets_closed o (λ f n. In n (names f))) E.named.sets G.named.sets };
            plain = λ h. S.cells (Plain o) (plain_closed L) (E.plain h.0) (G.plain h.1);
            means = (weigh o e, weigh o g, E.means, G.means, λ s t x y. subst (Lub o {I = (h : Frame) × InRange h} (λ h. o.times (weigh o e s h.0) (weigh o g h.0 t))) (sym (S.weighs s t x.all_fields)) (sequence_lub L e E.formed (weigh o g) (λ h k. weigh_weight L g h k (formed_weighted o g G.formed)) s t x));
          }
        where
          S : Sequenced o e g (sequence o e g)
          S = sequenced L g G.formed e E.formed
  compiled p d (stars {p = q} {d = e} k c same) l u = go (compiled q e c l u)
    where
      go : Compiled o names q e → Compiled o names (Star q) (round o e k)
      go E =
          record {
            formed = round_good L e E.formed k;
            named = round_named names L e E.formed E.named k;
            plain = λ h. absurd h;
            means = (weigh o e, E.means, star_means L e E.formed k same);
          }

  pub compiles : (p : Policy) → Legal p → Uses names p → (d : Diagram) × Compiles o p d
  compiles Drop l u = (_, drops)
  compiles Pass l u = (_, passes)
  compiles (Test f n) l u = (_, tests f n)
  compiles (Set f n) l u = (_, sets f n)
  compiles (Cost n) l u = (_, costs n)
  compiles (Not p) l u = (_, nots (compiles p l.1 u).1)
  compiles (Union p q) l u = (_, unions (compiles p l.0 u.0).1 (compiles q l.1 u.1).1)
  compiles (Sequence p q) l u = (_, sequences (compiles p l.0 u.0).1 (compiles q l.1 u.1).1)
  compiles (Star p) l u = go (compiles p l u)
    where
      go : (d : Diagram) × Compiles o p d → (d : Diagram) × Compiles o (Star p) d
      go (d, c) = (_, stars R.0 c R.1)
        where
          R : (k : ℕ) × (round o d k ≡ round o d (suc k))
          R = rounds_end L d (compiled p d c l u).formed

-- after a round that repeats, all rounds are the same
rounds_same : (o : Ops) (d : Diagram) (k j : ℕ) → round o d k ≡ round o d (suc k) → round o d (k + j) ≡ round o d k
unfolding round
rounds_same o d k zero e = ap (round o d) (none k)
  where
    none : (i : ℕ) → i + 0 ≡ i
    none i = omega arith
rounds_same o d k (suc j) e =
    ap (round o d) (more k j) ∙ ap (λ (s : Diagram). join o (pass_diagram o) (sequence o d s)) (rounds_same o d k j e) ∙ sym e
  where
    more : (i h : ℕ) → i + suc h ≡ suc (i + h)
    more i h = omega arith

rounds_agree : (o : Ops) (d : Diagram) (k j : ℕ) → round o d k ≡ round o d (suc k) → round o d j ≡ round o d (suc j) → round o d k ≡ round o d j
rounds_agree o d k j p q = sym (rounds_same o d k j p) ∙ ap (round o d) (swap k j) ∙ rounds_same o d j k q
  where
    swap : (a b : ℕ) → a + b ≡ b + a
    swap a b = omega arith

star_once : (o : Ops) (d e : Diagram) (k j : ℕ) → d ≡ e → round o d k ≡ round o d (suc k) → round o e j ≡ round o e (suc j) → round o d k ≡ round o e j
star_once o d e k j r p q = rounds_agree o d k j p (subst (λ (x : Diagram). round o x j ≡ round o x (suc j)) (sym r) q) ∙ ap (λ (x : Diagram). round o x j) r

-- a policy has one diagram
pub compiles_once : (o : Ops) (p : Policy) (d e : Diagram) → Compiles o p d → Compiles o p e → d ≡ e
compiles_once o p d e drops drops = refl
compiles_once o p d e passes passes = refl
compiles_once o p d e (tests f n) (tests g m) = refl
compiles_once o p d e (sets f n) (sets g m) = refl
compiles_once o p d e (costs n) (costs m) = refl
compiles_once o p d e (nots c) (nots c') = ap (negate o) (compiles_once o _ _ _ c c')
compiles_once o p d e (unions a b) (unions a' b') = ap₂ (join o) (compiles_once o _ _ _ a a') (compiles_once o _ _ _ b b')
compiles_once o p d e (sequences a b) (sequences a' b') = ap₂ (sequence o) (compiles_once o _ _ _ a a') (compiles_once o _ _ _ b b')
compiles_once o p d e (stars k c q) (stars j c' q') = star_once o _ _ k j (compiles_once o _ _ _ c c') q q'

-- the values that a policy names

in_left : (v : ℕ) (xs ys : List ℕ) → In v xs → In v (xs ++ ys)
in_left v [] ys i = absurd i
in_left v (x ∷ xs) ys (inl e) = inl e
in_left v (x ∷ xs) ys (inr i) = inr (in_left v xs ys i)

in_right : (v : ℕ) (xs ys : List ℕ) → In v ys → In v (xs ++ ys)
in_right v [] ys i = i
in_right v (x ∷ xs) ys i = inr (in_right v xs ys i)

pub uses_more : (M N : ℕ → List ℕ) → ((f v : ℕ) → In v (M f) → In v (N f)) → (p : Policy) → Uses M p → Uses N p
uses_more M N h Drop u = tt
uses_more M N h Pass u = tt
uses_more M N h (Test f n) u = h f n u
uses_more M N h (Set f n) u = h f n u
uses_more M N h (Cost n) u = tt
uses_more M N h (Not p) u = uses_more M N h p u
uses_more M N h (Union p q) u = (uses_more M N h p u.0, uses_more M N h q u.1)
uses_more M N h (Sequence p q) u = (uses_more M N h p u.0, uses_more M N h q u.1)
uses_more M N h (Star p) u = uses_more M N h p u

pub uses_named : (p : Policy) → Uses (named_in p) p
uses_named Drop = tt
uses_named Pass = tt
uses_named (Test f n) = subst (In n) (sym (choice_yes (decide f f) (n ∷ []) [] refl)) (inl refl)
uses_named (Set f n) = subst (In n) (sym (choice_yes (decide f f) (n ∷ []) [] refl)) (inl refl)
uses_named (Cost n) = tt
uses_named (Not p) = uses_named p
uses_named (Union p q) = (
  uses_more (named_in p) (named_in (Union p q)) (λ f v i. in_left v (named_in p f) (named_in q f) i) p (uses_named p),
  uses_more (named_in q) (named_in (Union p q)) (λ f v i. in_right v (named_in p f) (named_in q f) i) q (uses_named q),
)
uses_named (Sequence p q) = (
  uses_more (named_in p) (named_in (Sequence p q)) (λ f v i. in_left v (named_in p f) (named_in q f) i) p (uses_named p),
  uses_more (named_in q) (named_in (Sequence p q)) (λ f v i. in_right v (named_in p f) (named_in q f) i) q (uses_named q),
)
uses_named (Star p) = uses_named p

-- the values that either of two policies names
pub named_in_either : Policy → Policy → ℕ → List ℕ
named_in_either p q f = named_in p f ++ named_in q f

pub uses_first : (p q : Policy) → Uses (named_in_either p q) p
unfolding named_in_either
uses_first p q = uses_more (named_in p) (λ f. named_in p f ++ named_in q f) (λ f v i. in_left v (named_in p f) (named_in q f) i) p (uses_named p)

pub uses_second : (p q : Policy) → Uses (named_in_either p q) q
unfolding named_in_either
uses_second p q = uses_more (named_in q) (λ f. named_in p f ++ named_in q f) (λ f v i. in_right v (named_in p f) (named_in q f) i) q (uses_named q)

length_one : (n : ℕ) {A : Type 0} (d : Dec A) → length (choice d (n ∷ []) []) ≤ 1
length_one n (yes e) = omega arith
length_one n (no e) = omega arith

-- no more names than words
length_named : (p : Policy) (f : ℕ) → length (named_in p f) ≤ length (postfix p)
length_named Drop f = omega arith
length_named Pass f = omega arith
length_named (Test g n) f = length_one n (decide f g)
length_named (Set g n) f = length_one n (decide f g)
length_named (Cost n) f = omega arith
length_named (Not p) f = one_more (length_named p f) (length-append (postfix p) _)
  where
    one_more : {k : ℕ} → length (named_in p f) ≤ length (postfix p) → k ≡ length (postfix p) + 1 → length (named_in p f) ≤ k
    one_more a b = omega arith
length_named (Union p q) f = two_more (length_named p f) (length_named q f) (length-append (named_in p f) (named_in q f)) (length-append (postfix p) _) (length-append (postfix q) _)
  where
    two_more : {k j i : ℕ} → length (named_in p f) ≤ length (postfix p) → length (named_in q f) ≤ length (postfix q) → i ≡ length (named_in p f) + length (named_in q f) → k ≡ length (postfix p) + j → j ≡ length (postfix q) + 1 → i ≤ k
    two_more a b c d e = omega arith
length_named (Sequence p q) f = two_more (length_named p f) (length_named q f) (length-append (named_in p f) (named_in q f)) (length-append (postfix p) _) (length-append (postfix q) _)
  where
    two_more : {k j i : ℕ} → length (named_in p f) ≤ length (postfix p) → length (named_in q f) ≤ length (postfix q) → i ≡ length (named_in p f) + length (named_in q f) → k ≡ length (postfix p) + j → j ≡ length (postfix q) + 1 → i ≤ k
    two_more a b c d e = omega arith
length_named (Star p) f = one_more (length_named p f) (length-append (postfix p) _)
  where
    one_more : {k : ℕ} → length (named_in p f) ≤ length (postfix p) → k ≡ length (postfix p) + 1 → length (named_in p f) ≤ k
    one_more a b = omega arith

-- two policies within the limit of words leave values unnamed in each field
pub spare_either : (p q : Policy) → length (postfix p) ≤ words_limit → length (postfix q) ≤ words_limit → Spare (named_in_either p q)
unfolding named_in_either
spare_either p q a b f l = few (length_named p f) (length_named q f) (length-append (named_in p f) (named_in q f))
  where
    few : length (named_in p f) ≤ length (postfix p) → length (named_in q f) ≤ length (postfix q) → {k : ℕ} → k ≡ length (named_in p f) + length (named_in q f) → k < range f
    few c d e = omega arith
