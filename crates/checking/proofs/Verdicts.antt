-- From the checker's flags to the verdict on the words.
use Rattle.std.proofs.Common.{◌≡◌, ℕ, ◌+◌, ◌<◌, ◌≤◌, Bool, true, false, cond, ◌≢◌, ◌⊎◌, List, [], ◌∷◌, ◌++◌, map, length, get_or, take, sym, refl, ap, ◌∙◌, inl, inr, arith}
use Rattle.std.proofs.lemmas.List.{take_more, take_all, length-map}
use Rattle.std.proofs.lemmas.Bool.{cases_lt, cond-true}
use Rattle.format.specs.Limits.{words_limit, waiting_limit}
use Rattle.format.specs.Policy.{Policy, Predicate, Legal}
use Rattle.format.specs.PolicyWords.{bits_of, LegalWord}
use Rattle.format.specs.declared.settings.PolicyWord.{PolicyWord}
use Rattle.faults.specs.declared.layers.CheckFault.{CheckFault}
use Rattle.faults.specs.declared.layers.CheckFault.TheVariants.{LongPolicy, BadWord, BadOperands, NoPredicate, TooMany}
use Rattle.checking.specs.Waiting.{AllLegal, Waits, Shallow, operands}
use Rattle.checking.specs.Flags.{Marks, Blocked}
use Rattle.checking.specs.Checking.{LegalWords, Fine, Stuck, NoWord, Lacking, Unnegatable, Overfull, Refused}
use Rattle.checking.proofs.Operands.{Grows, kids, root, waits_unique, viable_waits, waits_viable}
use Rattle.checking.proofs.Growth.{grows_waits, waits_grows, grows_count, grows_enough, grows_not, root_word}

abbrev pub is_predicate : Policy → Bool
is_predicate Policy.Drop = true
is_predicate Policy.Pass = true
is_predicate (Policy.Test f n) = true
is_predicate (Policy.Set f n) = false
is_predicate (Policy.Cost n) = false
is_predicate (Policy.Not p) = is_predicate p
is_predicate (Policy.Union p q) = cond (is_predicate p) (is_predicate q) false
is_predicate (Policy.Sequence p q) = cond (is_predicate p) (is_predicate q) false
is_predicate (Policy.Star p) = false

both_true : (a b : Bool) → cond a b false ≡ true → (a ≡ true) × (b ≡ true)
both_true true b e = (refl, e)
both_true false b e = cc

pub predicate_true : (p : Policy) → is_predicate p ≡ true → Predicate p
predicate_true Policy.Drop e = tt
predicate_true Policy.Pass e = tt
predicate_true (Policy.Test f n) e = tt
predicate_true (Policy.Set f n) e = cc
predicate_true (Policy.Cost n) e = cc
predicate_true (Policy.Not p) e = predicate_true p e
predicate_true (Policy.Union p q) e =
    let h = both_true (is_predicate p) (is_predicate q) e in (predicate_true p h.0, predicate_true q h.1)
predicate_true (Policy.Sequence p q) e =
    let h = both_true (is_predicate p) (is_predicate q) e in (predicate_true p h.0, predicate_true q h.1)
predicate_true (Policy.Star p) e = cc

true_predicate : (p : Policy) → Predicate p → is_predicate p ≡ true
true_predicate Policy.Drop t = refl
true_predicate Policy.Pass t = refl
true_predicate (Policy.Test f n) t = refl
true_predicate (Policy.Set f n) t = absurd t
true_predicate (Policy.Cost n) t = absurd t
true_predicate (Policy.Not p) t = true_predicate p t
true_predicate (Policy.Union p q) t = cond-true (is_predicate p) (is_predicate q) false (true_predicate p t.0) ∙ true_predicate q t.1
true_predicate (Policy.Sequence p q) t = cond-true (is_predicate p) (is_predicate q) false (true_predicate p t.0) ∙ true_predicate q t.1
true_predicate (Policy.Star p) t = absurd t

abbrev shown : List Policy → List Bool
shown ps = map is_predicate ps

grown : (t : Policy) (rest : List Policy) → Legal t → Grows (root t) (kids t ++ rest) (t ∷ rest)
grown t rest l = record { tree = t; rest = rest; legal = l; root = refl; took = refl; left = refl }

-- what the flags say of a word holds of the trees
marks_grows : (w : PolicyWord) → LegalWord w → (ps : List Policy) → AllLegal ps → (bs cs : List Bool) → shown ps ≡ bs → Marks w bs cs
    → (qs : List Policy) × Grows (bits_of w) ps qs × (shown qs ≡ cs)
marks_grows PolicyWord.Drop l ps m bs cs e k = (Policy.Drop ∷ ps, grown Policy.Drop ps tt, cc)
marks_grows PolicyWord.Pass l ps m bs cs e k = (Policy.Pass ∷ ps, grown Policy.Pass ps tt, cc)
marks_grows (PolicyWord.Test s) l ps m bs cs e k =
    let t = Policy.Test s.field s.value in (t ∷ ps, grown t ps (s.exists, s.legal), cc)
marks_grows (PolicyWord.Set s) l ps m bs cs e k =
    let t = Policy.Set s.field s.value in (t ∷ ps, grown t ps (s.exists, s.legal), cc)
marks_grows (PolicyWord.Cost n) l ps m bs cs e k = let t = Policy.Cost n.number in (t ∷ ps, grown t ps l, cc)
marks_grows PolicyWord.Not l [] m bs cs e (rest, f, g) = cc
marks_grows PolicyWord.Not l (p ∷ ps) m bs cs e (rest, f, g) =
    let h : is_predicate p ≡ true = cc in let i : shown ps ≡ rest = cc in
    (Policy.Not p ∷ ps, grown (Policy.Not p) ps (predicate_true p h, m.0), cc)
marks_grows PolicyWord.Union l [] m bs cs e (x, y, rest, f, g) = cc
marks_grows PolicyWord.Union l (q ∷ []) m bs cs e (x, y, rest, f, g) = cc
marks_grows PolicyWord.Union l (q ∷ (p ∷ ps)) m bs cs e (x, y, rest, f, g) =
    let h : is_predicate q ≡ y = cc in let i : is_predicate p ≡ x = cc in let j : shown ps ≡ rest = cc in
    (Policy.Union p q ∷ ps, grown (Policy.Union p q) ps (m.1.0, m.0), cc)
marks_grows PolicyWord.Sequence l [] m bs cs e (x, y, rest, f, g) = cc
marks_grows PolicyWord.Sequence l (q ∷ []) m bs cs e (x, y, rest, f, g) = cc
marks_grows PolicyWord.Sequence l (q ∷ (p ∷ ps)) m bs cs e (x, y, rest, f, g) =
    let h : is_predicate q ≡ y = cc in let i : is_predicate p ≡ x = cc in let j : shown ps ≡ rest = cc in
    (Policy.Sequence p q ∷ ps, grown (Policy.Sequence p q) ps (m.1.0, m.0), cc)
marks_grows PolicyWord.Star l [] m bs cs e (b, rest, f, g) = cc
marks_grows PolicyWord.Star l (p ∷ ps) m bs cs e (b, rest, f, g) =
    let i : shown ps ≡ rest = cc in (Policy.Star p ∷ ps, grown (Policy.Star p) ps m.0, cc)

-- after the first i words operands with the flags bs wait, and no limit was passed
pub record Progress (ws : List ℕ) (i : ℕ) (bs : List Bool) : Type 0 where
  pub ps : List Policy
  pub waits : Waits (take i ws) ps
  pub flags : shown ps ≡ bs
  pub shallow : Shallow ws i

pub started : (ws : List ℕ) (bs : List Bool) → bs ≡ [] → Progress ws 0 bs
started ws bs e =
    let none : Waits [] [] = record { legal = tt; words = refl } in
    record {
      ps = [];
      waits = none;
      flags = sym e;
      shallow = λ k h ps a.
          let z : k ≡ 0 = omega arith in
          let f = waits_unique [] ps [] (rw z at a) none in omega (arith, ap length f);
    }

fine : (ws : List ℕ) (i : ℕ) (bs : List Bool) → length ws ≤ words_limit → i ≤ length ws → Progress ws i bs → Fine ws i
fine ws i bs s h g =
    record { short = s; within = h; viable = waits_viable (take i ws) g.ps g.waits; shallow = g.shallow }

shallow_more : (ws : List ℕ) (i : ℕ) (qs : List Policy) → Shallow ws i → Waits (take (i + 1) ws) qs → length qs ≤ waiting_limit → Shallow ws (i + 1)
shallow_more ws i qs s a l k h ps b = go (cases_lt i k)
  where
    go : (i < k) ⊎ (k ≤ i) → length ps ≤ waiting_limit
    go (inl m) =
        let z : k ≡ i + 1 = omega arith in
        let f = waits_unique (take (i + 1) ws) ps qs (rw z at b) a in omega (arith, ap length f)
    go (inr m) = s k m ps b

-- operands wait after one word more just as that word makes them
more : (ws : List ℕ) (i : ℕ) → i < length ws → (ps qs : List Policy) → Waits (take i ws) ps → Grows (get_or ws i 0) ps qs → Waits (take (i + 1) ws) qs
more ws i h ps qs a g = rw (take_more ws i 0 h) (grows_waits (take i ws) (get_or ws i 0) ps qs a g)

only_more : (ws : List ℕ) (i : ℕ) → i < length ws → (ps qs : List Policy) → Waits (take i ws) ps → Waits (take (i + 1) ws) qs → Grows (get_or ws i 0) ps qs
only_more ws i h ps qs a b = waits_grows (take i ws) (get_or ws i 0) ps qs a (rw (take_more ws i 0 h) at b)

pub advanced : (ws : List ℕ) (i : ℕ) (w : PolicyWord) (bs cs : List Bool) → i < length ws → LegalWord w → bits_of w ≡ get_or ws i 0 → length cs ≤ waiting_limit
    → Progress ws i bs → Marks w bs cs → Progress ws (i + 1) cs
advanced ws i w bs cs h l e n g m =
    let d = marks_grows w l g.ps g.waits.legal bs cs g.flags m in
    let a = more ws i h g.ps d.0 g.waits (rw (← e) d.1) in
    record {
      ps = d.0;
      waits = a;
      flags = d.2;
      shallow = shallow_more ws i d.0 g.shallow a (omega (arith, ap length d.2, length-map d.0 is_predicate));
    }

pub accepted : (ws : List ℕ) (i : ℕ) (bs : List Bool) → length ws ≤ words_limit → i ≡ length ws → length bs ≡ 1 → Progress ws i bs → LegalWords ws
accepted ws i bs s e n g = go g.ps (omega (arith, ap length g.flags, length-map g.ps is_predicate)) g.waits
  where
    go : (ps : List Policy) → length ps ≡ 1 → Waits (take i ws) ps → LegalWords ws
    go [] m a = absurd (omega arith)
    go (p ∷ (q ∷ ps)) m a = absurd (omega arith)
    go (p ∷ []) m a =
        ∣ (p, record { legal = a.legal.0; words = a.words ∙ take_all i ws (omega arith); short = s; shallow = rw (← e) g.shallow }) ∣₁

pub unfinished : (ws : List ℕ) (i : ℕ) (bs : List Bool) → length ws ≤ words_limit → i ≡ length ws → length bs ≢ 1 → Progress ws i bs → Refused ws (BadOperands i)
unfinished ws i bs s e n g =
    inr (record {
      ps = g.ps;
      fine = fine ws i bs s (omega arith) g;
      end = e;
      waits = let all = take_all i ws (omega arith) in rw all at g.waits;
      many = λ d. n (omega (arith, ap length g.flags, length-map g.ps is_predicate));
    })

-- no legal policy goes on with word i, if it makes nothing of the operands
stuck : (ws : List ℕ) (i : ℕ) (bs : List Bool) → length ws ≤ words_limit → i < length ws → (g : Progress ws i bs)
    → ((qs : List Policy) → Grows (get_or ws i 0) g.ps qs → ⊥) → Stuck ws i g.ps
stuck ws i bs s h g nothing =
    record {
      fine = fine ws i bs s (omega arith) g;
      inside = h;
      waits = g.waits;
      dead = λ v. let a = viable_waits (take (i + 1) ws) v in nothing a.0 (only_more ws i h g.ps a.0 g.waits a.1);
    }

pub bad_word : (ws : List ℕ) (i : ℕ) (bs : List Bool) → length ws ≤ words_limit → i < length ws → Progress ws i bs → NoWord (get_or ws i 0) → Refused ws (BadWord i)
bad_word ws i bs s h g n =
    (g.ps, stuck ws i bs s h g (λ qs a. let r = root_word a.tree a.legal in n r.0 r.1 (r.2 ∙ a.root)), n)

lacking : (ws : List ℕ) (i : ℕ) (w : PolicyWord) (bs : List Bool) → length ws ≤ words_limit → i < length ws → LegalWord w → bits_of w ≡ get_or ws i 0
    → Progress ws i bs → length bs < operands w → Lacking ws i
lacking ws i w bs s h l e g n =
    let few : length g.ps < operands w = omega (arith, ap length g.flags, length-map g.ps is_predicate) in
    record {
      ps = g.ps;
      stuck = stuck ws i bs s h g (λ qs a. omega (arith, grows_enough w g.ps qs (rw e a)));
      operator = w;
      legal = l;
      word = e;
      few = few;
    }

unnegatable : (ws : List ℕ) (i : ℕ) (ps : List Policy) (rest : List Bool) → length ws ≤ words_limit → i < length ws → bits_of PolicyWord.Not ≡ get_or ws i 0
    → Waits (take i ws) ps → Shallow ws i → shown ps ≡ false ∷ rest → Unnegatable ws i
unnegatable ws i [] rest s h e a d f = cc
unnegatable ws i (p ∷ ps) rest s h e a d f =
    let g : Progress ws i (false ∷ rest) = record { ps = p ∷ ps; waits = a; flags = f; shallow = d } in
    let unfit : Predicate p → ⊥ = λ t. let k = true_predicate p t in cc in
    record {
      p = p;
      ps = ps;
      stuck = stuck ws i (false ∷ rest) s h g (λ qs b. unfit (grows_not p ps qs (rw e b)));
      word = e;
      unfit = unfit;
    }

-- a word that takes no operands is always one more
leaf_grows : (w : PolicyWord) → LegalWord w → operands w ≡ 0 → (ps : List Policy) → (qs : List Policy) × Grows (bits_of w) ps qs
leaf_grows PolicyWord.Drop l z ps = (Policy.Drop ∷ ps, grown Policy.Drop ps tt)
leaf_grows PolicyWord.Pass l z ps = (Policy.Pass ∷ ps, grown Policy.Pass ps tt)
leaf_grows (PolicyWord.Test s) l z ps = let t = Policy.Test s.field s.value in (t ∷ ps, grown t ps (s.exists, s.legal))
leaf_grows (PolicyWord.Set s) l z ps = let t = Policy.Set s.field s.value in (t ∷ ps, grown t ps (s.exists, s.legal))
leaf_grows (PolicyWord.Cost n) l z ps = let t = Policy.Cost n.number in (t ∷ ps, grown t ps l)
leaf_grows PolicyWord.Not l z ps = absurd (omega arith)
leaf_grows PolicyWord.Union l z ps = absurd (omega arith)
leaf_grows PolicyWord.Sequence l z ps = absurd (omega arith)
leaf_grows PolicyWord.Star l z ps = absurd (omega arith)

overfull : (ws : List ℕ) (i : ℕ) (w : PolicyWord) (bs : List Bool) → length ws ≤ words_limit → i < length ws → LegalWord w → bits_of w ≡ get_or ws i 0
    → Progress ws i bs → operands w ≡ 0 → waiting_limit ≤ length bs → Overfull ws i
overfull ws i w bs s h l e g z n =
    let d = leaf_grows w l z g.ps in
    record {
      ps = d.0;
      fine = fine ws i bs s (omega arith) g;
      inside = h;
      waits = more ws i h g.ps d.0 g.waits (rw (← e) d.1);
      many = omega (arith, grows_count w g.ps d.0 d.1, ap length g.flags, length-map g.ps is_predicate);
    }

pub blocked : (ws : List ℕ) (i : ℕ) (w : PolicyWord) (bs : List Bool) (f : CheckFault) → length ws ≤ words_limit → i < length ws → LegalWord w → bits_of w ≡ get_or ws i 0
    → Progress ws i bs → Blocked w i bs f → Refused ws f
blocked ws i w bs LongPolicy s h l e g b = absurd b
blocked ws i w bs (BadWord j) s h l e g b = absurd b
blocked ws i w bs (BadOperands j) s h l e g b = rw b.0 (inl (lacking ws i w bs s h l e g b.1))
blocked ws i w bs (NoPredicate j) s h l e g b =
    rw b.0 (unnegatable ws i g.ps b.2 s h (ap bits_of (sym b.1) ∙ e) g.waits g.shallow (g.flags ∙ b.3))
blocked ws i w bs (TooMany j) s h l e g b = rw b.0 (overfull ws i w bs s h l e g b.1 b.2)
