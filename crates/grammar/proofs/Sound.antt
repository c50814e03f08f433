-- What the automaton has read: a part of a sentence, which some end completes.
use Rattle.std.proofs.Common.{◌≡◌, ℕ, ◌<◌, Bool, true, false, cond, ltb, List, [], ◌∷◌, ◌++◌, Some, None, Option, sym, refl, ap, ◌∙◌, subst, append_assoc, append-nil, arith, lit<}
use Rattle.std.proofs.lemmas.Bool.{ltb-true, and_parts}
use Rattle.format.specs.Fields.{fields, range, LegalValue}
use Rattle.format.specs.Words.{value_end}
use Rattle.format.specs.Policy.{Policy}
use Rattle.tokens.specs.declared.tokens.Mark.TheVariants.{Plus, Semicolon, Star, Not, Open, Close, Equals, Assign}
use Rattle.tokens.specs.declared.tokens.Symbol.{Symbol}
use Rattle.tokens.specs.declared.tokens.Symbol.TheVariants.{Field, Number, Drop, Pass, Cost, Mark}
use Rattle.grammar.specs.declared.machine.Mode.{Mode}
use Rattle.grammar.specs.declared.machine.Mode.TheVariants.{Operand, Operator, Relation, Tested, Assigned, Price}
use Rattle.grammar.specs.Sentences.{Sum, Chain, Step, Atom, Viable}
use Rattle.grammar.specs.Trees.{Act, Parse, parse, Opened, negation, group, completed, chained, united, summed, runs, bind, begin, step, acted, act, legal, value}
use Rattle.grammar.proofs.Complete.{Settled, sum_runs, runs_append}

-- these symbols stand before an operand: the sum and the chain that wait are sentences of theirs, and each frame is a ! or a (
pub data Before : List Symbol → Option Policy → Option Policy → List Opened → Type 0 where
  nothing : Before [] None None []
  opened : {ss : List Symbol} {l e : Option Policy} {fs : List Opened} → Before ss l e fs → Before (ss ++ Mark Open ∷ []) None None (group l e ∷ fs)
  banged : {ss : List Symbol} {l e : Option Policy} {fs : List Opened} → Before ss l e fs → Before (ss ++ Mark Not ∷ []) l e (negation ∷ fs)
  added : {ss ts : List Symbol} {p : Policy} {fs : List Opened} → Before ss None None fs → Settled fs → Sum ts p → Before (ss ++ (ts ++ Mark Plus ∷ [])) (Some p) None fs
  joined : {ss ts : List Symbol} {l : Option Policy} {p : Policy} {fs : List Opened} → Before ss l None fs → Settled fs → Chain ts p → Before (ss ++ (ts ++ Mark Semicolon ∷ [])) l (Some p) fs

un_bang : {ss : List Symbol} {l e : Option Policy} {fs : List Opened} → Before ss l e (negation ∷ fs) → (ts : List Symbol) × Before ts l e fs × (ss ≡ ts ++ Mark Not ∷ [])
un_bang (Before.banged {ss} b) = (ss, b, refl)
un_bang (Before.added b h s) = absurd h
un_bang (Before.joined b h s) = absurd h

un_open : {ss : List Symbol} {l e : Option Policy} {fs : List Opened} → Before ss None None (group l e ∷ fs) → (ts : List Symbol) × Before ts l e fs × (ss ≡ ts ++ Mark Open ∷ [])
un_open (Before.opened {ss} b) = (ss, b, refl)

un_start : {ss : List Symbol} → Before ss None None [] → ss ≡ []
un_start Before.nothing = refl

-- the chain that ends with a step, the waiting chain before it included
pub record Closed (K : List Symbol → Policy → Type 0) (l e : Option Policy) (fs : List Opened) (p : Policy) (all : List Symbol) : Type 0 where
  pub front : List Symbol
  pub part : List Symbol
  pub before : Before front l e fs
  pub reads : K part p
  pub split : all ≡ front ++ part

chain_closed : {ss ts : List Symbol} {l e : Option Policy} {fs : List Opened} {p : Policy} → Settled fs → Before ss l e fs → Step ts p → Closed Chain l None fs (chained e p) (ss ++ ts)
chain_closed {ts} h (Before.nothing) s = record { front = []; part = ts; before = Before.nothing; reads = Chain.one_step s; split = refl }
chain_closed {ts} h (Before.opened {ss} b) s = record { front = ss ++ Mark Open ∷ []; part = ts; before = Before.opened b; reads = Chain.one_step s; split = refl }
chain_closed h (Before.banged b) s = absurd h
chain_closed {ts} h (Before.added b k u) s = record { front = _; part = ts; before = Before.added b k u; reads = Chain.one_step s; split = refl }
chain_closed {ts} h (Before.joined {ss} {ts = us} b k u) s =
    record { front = ss; part = us ++ Mark Semicolon ∷ ts; before = b; reads = Chain.sequence u s; split = append_assoc ss (us ++ Mark Semicolon ∷ []) ts ∙ ap (λ x. ss ++ x) (append_assoc us (Mark Semicolon ∷ []) ts) }

add_closed : {ss ts : List Symbol} {l : Option Policy} {fs : List Opened} {p : Policy} → Settled fs → Before ss l None fs → Chain ts p → Closed Sum None None fs (united l p) (ss ++ ts)
add_closed {ts} h (Before.nothing) s = record { front = []; part = ts; before = Before.nothing; reads = Sum.one_chain s; split = refl }
add_closed {ts} h (Before.opened {ss} b) s = record { front = ss ++ Mark Open ∷ []; part = ts; before = Before.opened b; reads = Sum.one_chain s; split = refl }
add_closed h (Before.banged b) s = absurd h
add_closed {ts} h (Before.added {ss} {ts = us} b k u) s =
    record { front = ss; part = us ++ Mark Plus ∷ ts; before = b; reads = Sum.union u s; split = append_assoc ss (us ++ Mark Plus ∷ []) ts ∙ ap (λ x. ss ++ x) (append_assoc us (Mark Plus ∷ []) ts) }

pub sum_closed : {ss ts : List Symbol} {l e : Option Policy} {fs : List Opened} {p : Policy} → Settled fs → Before ss l e fs → Step ts p → Closed Sum None None fs (summed l e p) (ss ++ ts)
sum_closed {l} {e} {fs} {p} h b s =
    let x = chain_closed h b s in
    let y = add_closed h x.before x.reads in
    record { front = y.front; part = y.part; before = y.before; reads = y.reads; split = x.split ∙ y.split }

-- what has been read in each mode
pub data Reads : List Symbol → Parse → Type 0 where
  at_operand_lem : {ss : List Symbol} {l e : Option Policy} {fs : List Opened} {t : Policy} → Before ss l e fs → Reads ss (parse Operand l e fs t)
  at_operator_lem : {ss ts : List Symbol} {l e : Option Policy} {fs : List Opened} {p : Policy} → Before ss l e fs → Settled fs → Step ts p → Reads (ss ++ ts) (parse Operator l e fs p)
  at_relation_lem : {ss : List Symbol} {l e : Option Policy} {fs : List Opened} {t : Policy} {f : ℕ} → Before ss l e fs → f < fields → Reads (ss ++ Field f ∷ []) (parse (Relation f) l e fs t)
  at_tested : {ss : List Symbol} {l e : Option Policy} {fs : List Opened} {t : Policy} {f : ℕ} → Before ss l e fs → f < fields → Reads (ss ++ Field f ∷ Mark Equals ∷ []) (parse (Tested f) l e fs t)
  at_assigned : {ss : List Symbol} {l e : Option Policy} {fs : List Opened} {t : Policy} {f : ℕ} → Before ss l e fs → f < fields → Reads (ss ++ Field f ∷ Mark Assign ∷ []) (parse (Assigned f) l e fs t)
  at_price_lem : {ss : List Symbol} {l e : Option Policy} {fs : List Opened} {t : Policy} → Before ss l e fs → Reads (ss ++ Cost ∷ []) (parse Price l e fs t)

moved : {ss ts : List Symbol} {g : Parse} → ss ≡ ts → Reads ts g → Reads ss g
moved {g} e r = subst (λ x. Reads x g) (sym e) r

-- an atom completes an operand, and each ! right before it
completes : (fs : List Opened) {ss ts : List Symbol} {l e : Option Policy} {p : Policy} → Before ss l e fs → Atom ts p → Reads (ss ++ ts) (completed l e fs p)
completes [] b a = at_operator_lem b tt (Step.one_atom a)
completes (negation ∷ fs) {ts} b a =
    let x = un_bang b in
    moved (ap (λ u. u ++ ts) x.2 ∙ append_assoc x.0 (Mark Not ∷ []) ts) (completes fs x.1 (Atom.negation a))
completes (group m d ∷ fs) b a = at_operator_lem b tt (Step.one_atom a)

-- the reading goes on with an accepted symbol
abbrev Goes : List Symbol → Option Parse → Type 0
Goes ss None = Unit {0}
Goes ss (Some g) = Reads ss g

closed_goes : {ss ts : List Symbol} {l e : Option Policy} {p : Policy} → (fs : List Opened) → Before ss l e fs → Settled fs → Step ts p → Goes ((ss ++ ts) ++ Mark Close ∷ []) (step (parse Operator l e fs p) (Mark Close))
closed_goes [] b h s = tt
closed_goes (negation ∷ fs) b h s = absurd h
closed_goes {ss} {ts} (group m d ∷ fs) b h s =
    let x = sum_closed h b s in
    let y = un_open x.before in
    moved (ap (λ u. u ++ Mark Close ∷ []) (x.split ∙ ap (λ u. u ++ x.part) y.2 ∙ append_assoc y.0 (Mark Open ∷ []) x.part) ∙ append_assoc y.0 (Mark Open ∷ x.part) (Mark Close ∷ []))
    (completes fs y.1 (Atom.group x.reads))

operator_goes : {ss ts : List Symbol} {l e : Option Policy} {fs : List Opened} {p : Policy} → (s : Symbol) → Before ss l e fs → Settled fs → Step ts p → Goes ((ss ++ ts) ++ s ∷ []) (step (parse Operator l e fs p) s)
operator_goes {ss} {ts} (Mark Plus) b h u =
    let x = sum_closed h b u in
    moved (ap (λ v. v ++ Mark Plus ∷ []) x.split ∙ append_assoc x.front x.part (Mark Plus ∷ [])) (at_operand_lem (Before.added x.before h x.reads))
operator_goes (Mark Semicolon) b h u =
    let x = chain_closed h b u in
    moved (ap (λ v. v ++ Mark Semicolon ∷ []) x.split ∙ append_assoc x.front x.part (Mark Semicolon ∷ [])) (at_operand_lem (Before.joined x.before h x.reads))
operator_goes {ss} {ts} (Mark Star) b h u = moved (append_assoc ss ts (Mark Star ∷ [])) (at_operator_lem b h (Step.star u))
operator_goes {fs} (Mark Close) b h u = closed_goes fs b h u
operator_goes _ b h u = tt

-- what a test decides goes on if it goes on where the test holds
tested : (ss : List Symbol) (b : Bool) (a : Act) (g : Parse) → (b ≡ true → Reads ss (act a g)) → Goes ss (acted (cond b (Some a) None) g)
tested ss true a g k = k refl
tested ss false a g k = tt

operand_goes : {ss : List Symbol} {l e : Option Policy} {fs : List Opened} → (t : Policy) (s : Symbol) → Before ss l e fs → Goes (ss ++ s ∷ []) (step (parse Operand l e fs t) s)
operand_goes {ss} {l} {e} {fs} t (Field f) b = tested _ _ _ (parse Operand l e fs t) (λ h. at_relation_lem b (ltb-true f fields h))
operand_goes {fs} t Drop b = completes fs b Atom.drops
operand_goes {fs} t Pass b = completes fs b Atom.passes
operand_goes t Cost b = at_price_lem b
operand_goes t (Mark Not) b = at_operand_lem (Before.banged b)
operand_goes t (Mark Open) b = at_operand_lem (Before.opened b)
operand_goes t _ b = tt

relation_goes : {ss : List Symbol} {l e : Option Policy} {fs : List Opened} {f : ℕ} → (t : Policy) (s : Symbol) → Before ss l e fs → f < fields → Goes ((ss ++ Field f ∷ []) ++ s ∷ []) (step (parse (Relation f) l e fs t) s)
relation_goes {ss} {f} t (Mark Equals) b h = moved (append_assoc ss (Field f ∷ []) (Mark Equals ∷ [])) (at_tested b h)
relation_goes {ss} {f} t (Mark Assign) b h = moved (append_assoc ss (Field f ∷ []) (Mark Assign ∷ [])) (at_assigned b h)
relation_goes t _ b h = tt

-- a value completes the atom that it ends
value_goes : {ss : List Symbol} {l e : Option Policy} {fs : List Opened} → (t : Policy) (ok : ℕ → Bool) (make : ℕ → Policy) (part : List Symbol) (m : Mode) (s : Symbol) → Before ss l e fs → ((n : ℕ) → ok n ≡ true → Atom (part ++ Number n ∷ []) (make n)) → Goes ((ss ++ part) ++ s ∷ []) (acted (value ok make s) (parse m l e fs t))
value_goes {ss} {l} {e} {fs} t ok make part m (Number n) b k =
    tested _ _ _ (parse m l e fs t) (λ h. moved (append_assoc ss part (Number n ∷ [])) (completes fs b (k n h)))
value_goes t ok make part m _ b k = tt

pub step_goes : {ss : List Symbol} {g : Parse} → Reads ss g → (s : Symbol) → Goes (ss ++ s ∷ []) (step g s)
step_goes (Reads.at_operand_lem {t} b) s = operand_goes t s b
step_goes (Reads.at_operator_lem b h u) s = operator_goes s b h u
step_goes (Reads.at_relation_lem {t} b h) s = relation_goes t s b h
step_goes (Reads.at_tested {t} {f} b h) s =
    value_goes t (legal f) (Policy.Test f) (Field f ∷ Mark Equals ∷ []) (Tested f) s b (λ n k. Atom.test h (ltb-true n (range f) (and_parts _ _ k).1))
step_goes (Reads.at_assigned {t} {f} b h) s =
    value_goes t (legal f) (Policy.Set f) (Field f ∷ Mark Assign ∷ []) (Assigned f) s b (λ n k. Atom.sets h (ltb-true n (range f) (and_parts _ _ k).1))
step_goes (Reads.at_price_lem {t} b) s = value_goes t (λ n. ltb n value_end) Policy.Cost (Cost ∷ []) Price s b (λ n k. Atom.cost (ltb-true n value_end k))

runs_goes : (ts ss : List Symbol) (g : Parse) → Reads ss g → Goes (ss ++ ts) (runs g ts)
runs_goes [] ss g r = moved (append-nil ss) r
runs_goes (t ∷ ts) ss g r = go (step g t) (step_goes r t) (runs_goes ts (ss ++ t ∷ []))
  where
    go : (o : Option Parse) → Goes (ss ++ t ∷ []) o → ((h : Parse) → Reads (ss ++ t ∷ []) h → Goes ((ss ++ t ∷ []) ++ ts) (runs h ts)) → Goes (ss ++ t ∷ ts) (bind o (λ h. runs h ts))
    go None u k = tt
    go (Some h) u k = subst (λ x. Goes x (runs h ts)) (append_assoc ss (t ∷ []) ts) (k h u)

-- what the automaton has read is read
pub run_reads : (ss : List Symbol) (g : Parse) → runs begin ss ≡ Some g → Reads ss g
run_reads ss g e = subst (λ o. Goes ss o) e (runs_goes ss [] begin (at_operand_lem Before.nothing))

pub shorter : (ss ts : List Symbol) → Viable (ss ++ ts) → Viable ss
shorter ss ts v = (ts ++ v.0, v.1, subst (λ x. Sum x v.1) (append_assoc ss ts v.0) v.2)

viable_at : {ss ts : List Symbol} → ss ≡ ts → Viable ts → Viable ss
viable_at e v = subst Viable (sym e) v

-- at the outermost level a step ends a sentence
pub sentence : {ss ts : List Symbol} {l e : Option Policy} {p : Policy} → Before ss l e [] → Step ts p → Sum (ss ++ ts) (summed l e p)
sentence {l} {e} {p} b s =
    let x = sum_closed tt b s in
    subst (λ u. Sum u (summed l e p)) (sym (x.split ∙ ap (λ u. u ++ x.part) (un_start x.before))) x.reads

viable_outermost : {ss ts : List Symbol} {l e : Option Policy} {p : Policy} → Before ss l e [] → Step ts p → Viable (ss ++ ts)
viable_outermost {ss} {ts} {l} {e} {p} b s = ([], summed l e p, subst (λ u. Sum u (summed l e p)) (sym (append-nil (ss ++ ts))) (sentence b s))

-- a bracket is closed after a step
bracketed : {ss ts : List Symbol} {l e m d : Option Policy} {fs : List Opened} {p : Policy} → Before ss l e (group m d ∷ fs) → Step ts p → ((us vs : List Symbol) (q : Policy) → Before us m d fs → Atom vs q → Viable (us ++ vs)) → Viable (ss ++ ts)
bracketed {ss} {ts} b s outer =
    let x = sum_closed tt b s in
    let y = un_open x.before in
    shorter (ss ++ ts) (Mark Close ∷ [])
    (viable_at (ap (λ u. u ++ Mark Close ∷ []) (x.split ∙ ap (λ u. u ++ x.part) y.2 ∙ append_assoc y.0 (Mark Open ∷ []) x.part) ∙ append_assoc y.0 (Mark Open ∷ x.part) (Mark Close ∷ []))
    (outer _ _ _ y.1 (Atom.group x.reads)))

viable_atom : (fs : List Opened) (ss ts : List Symbol) (l e : Option Policy) (p : Policy) → Before ss l e fs → Atom ts p → Viable (ss ++ ts)
viable_atom [] ss ts l e p b a = viable_outermost b (Step.one_atom a)
viable_atom (negation ∷ fs) ss ts l e p b a =
    let x = un_bang b in
    viable_at (ap (λ u. u ++ ts) x.2 ∙ append_assoc x.0 (Mark Not ∷ []) ts) (viable_atom fs x.0 (Mark Not ∷ ts) l e (Policy.Not p) x.1 (Atom.negation a))
viable_atom (group m d ∷ fs) ss ts l e p b a = bracketed b (Step.one_atom a) (λ us vs q. viable_atom fs us vs m d q)

viable_step : (fs : List Opened) {ss ts : List Symbol} {l e : Option Policy} {p : Policy} → Before ss l e fs → Settled fs → Step ts p → Viable (ss ++ ts)
viable_step [] b h s = viable_outermost b s
viable_step (negation ∷ fs) b h s = absurd h
viable_step (group m d ∷ fs) b h s = bracketed b s (λ us vs q. viable_atom fs us vs m d q)

zero_legal : (f : ℕ) → LegalValue f 0
zero_legal f = omega arith

-- what is read is the beginning of a sentence
pub reads_viable : {ss : List Symbol} {g : Parse} → Reads ss g → Viable ss
reads_viable (Reads.at_operand_lem {ss} {l} {e} {fs} b) = shorter ss (Drop ∷ []) (viable_atom fs ss (Drop ∷ []) l e _ b Atom.drops)
reads_viable (Reads.at_operator_lem {fs} b h s) = viable_step fs b h s
reads_viable (Reads.at_relation_lem {ss} {l} {e} {fs} {f} b h) =
    shorter (ss ++ Field f ∷ []) (Mark Equals ∷ Number 0 ∷ []) (viable_at (append_assoc ss (Field f ∷ []) (Mark Equals ∷ Number 0 ∷ [])) (viable_atom fs ss _ l e _ b (Atom.test h (zero_legal f))))
reads_viable (Reads.at_tested {ss} {l} {e} {fs} {f} b h) =
    shorter (ss ++ Field f ∷ Mark Equals ∷ []) (Number 0 ∷ []) (viable_at (append_assoc ss (Field f ∷ Mark Equals ∷ []) (Number 0 ∷ [])) (viable_atom fs ss _ l e _ b (Atom.test h (zero_legal f))))
reads_viable (Reads.at_assigned {ss} {l} {e} {fs} {f} b h) =
    shorter (ss ++ Field f ∷ Mark Assign ∷ []) (Number 0 ∷ []) (viable_at (append_assoc ss (Field f ∷ Mark Assign ∷ []) (Number 0 ∷ [])) (viable_atom fs ss _ l e _ b (Atom.sets h (zero_legal f))))
reads_viable (Reads.at_price_lem {ss} {l} {e} {fs} b) =
    shorter (ss ++ Cost ∷ []) (Number 0 ∷ []) (viable_at (append_assoc ss (Cost ∷ []) (Number 0 ∷ [])) (viable_atom fs ss _ l e _ b (Atom.cost (lit< tt))))

-- no sentence begins with symbols at which the automaton is stuck
pub stuck : (ss : List Symbol) → runs begin ss ≡ None → Viable ss → ⊥
stuck ss e v =
    let x = sum_runs v.2 [] Policy.Drop tt in
    let clash : ◌≡◌ {A = Option Parse} None (Some _) = sym (ap (λ o. bind o (λ h. runs h v.0)) e) ∙ sym (runs_append ss v.0 begin) ∙ x.3 in
    cc

-- read to its end, at the outermost level, it is a sentence
reads_sentence : {ss : List Symbol} {l e : Option Policy} {p : Policy} → Reads ss (parse Operator l e [] p) → Sum ss (summed l e p)
reads_sentence (Reads.at_operator_lem b h s) = sentence b s

pub ends : (ss : List Symbol) (l e : Option Policy) (p : Policy) → runs begin ss ≡ Some (parse Operator l e [] p) → Sum ss (summed l e p)
ends ss l e p h = reads_sentence (run_reads ss _ h)
