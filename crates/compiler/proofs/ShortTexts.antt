-- What is easily seen of short texts: few brackets are open, few operands wait, and few records are requested.
use Rattle.std.proofs.Common.{ℕ, zero, suc, ◌+◌, ◌≤◌, ◌<◌, List, [], ◌∷◌, ◌++◌, length, take, ap, inl, inr, arith, length-append, true≢false}
use Rattle.std.specs.Prelude.{fold}
use Rattle.std.proofs.lemmas.List.{length-take}
use Rattle.format.specs.Limits.{nesting_limit, waiting_limit}
use Rattle.format.specs.Policy.{Policy, postfix}
use Rattle.format.specs.Words.{word}
use Rattle.stores.specs.Numbers.{Numbered}
use Rattle.tokens.specs.declared.tokens.Symbol.{Symbol}
use Rattle.tokens.specs.declared.tokens.Symbol.TheVariants.{Field, Number, Drop, Pass, Cost, Mark}
use Rattle.tokens.specs.declared.tokens.Mark.TheVariants.{Plus, Semicolon, Star, Not, Open, Close, Equals, Assign}
use Rattle.grammar.specs.Sentences.{Opening, bracket, bang, settled, closed, open_after, unfinished}
use Rattle.checking.specs.Waiting.{spelled, Shallow}
use Rattle.requests.specs.Requests.{Request, action, cell, node}
use Rattle.weights.specs.Order.{In}
use Rattle.stored.specs.Grows.{size, actions, cells, nodes, Kind}
use Rattle.stored.specs.Stored.{Has}
use Rattle.stored.proofs.Counting.{pigeons}
use Rattle.stored.proofs.Numbers.{each_in}
use Rattle.steps.specs.States.{opened}
use Rattle.compiler.specs.Texts.{sizes, Overfills}

settled_fewer : (os : List Opening) → length (settled os) ≤ length os
settled_fewer [] = omega arith
settled_fewer (bang ∷ os) = let h = settled_fewer os in omega (arith, h)
settled_fewer (bracket ∷ os) = omega arith

closed_fewer : (os : List Opening) → length (closed os) ≤ length os
closed_fewer [] = omega arith
closed_fewer (bang ∷ os) = let h = closed_fewer os in omega (arith, h)
closed_fewer (bracket ∷ os) = let h = settled_fewer os in omega (arith, h)

one_more : (os : List Opening) (s : Symbol) → length (open_after os s) ≤ suc (length os)
one_more os (Field f) = omega arith
one_more os (Number n) = omega (arith, settled_fewer os)
one_more os Drop = omega (arith, settled_fewer os)
one_more os Pass = omega (arith, settled_fewer os)
one_more os Cost = omega arith
one_more os (Mark Plus) = omega arith
one_more os (Mark Semicolon) = omega arith
one_more os (Mark Star) = omega arith
one_more os (Mark Not) = omega arith
one_more os (Mark Open) = omega arith
one_more os (Mark Close) = omega (arith, closed_fewer os)
one_more os (Mark Equals) = omega arith
one_more os (Mark Assign) = omega arith

few_open : (ss : List Symbol) (os : List Opening) → length (fold open_after os ss) ≤ length os + length ss
few_open [] os = omega arith
few_open (s ∷ ss) os = omega (arith, few_open ss (open_after os s), one_more os s)

pub shallow : (ss : List Symbol) → length ss ≤ nesting_limit → (n : ℕ) → length (unfinished (take n ss)) ≤ nesting_limit
shallow ss h n = omega (arith, few_open (take n ss) [], length-take n ss)

some_word : (p : Policy) → 0 < length (postfix p)
some_word Policy.Drop = omega arith
some_word Policy.Pass = omega arith
some_word (Policy.Test f n) = omega arith
some_word (Policy.Set f n) = omega arith
some_word (Policy.Cost n) = omega arith
some_word (Policy.Not p) = omega (arith, some_word p, length-append (postfix p) (word 5 0 0 ∷ []))
some_word (Policy.Union p q) = omega (arith, some_word p, length-append (postfix p) (postfix q ++ (word 6 0 0 ∷ [])))
some_word (Policy.Sequence p q) = omega (arith, some_word p, length-append (postfix p) (postfix q ++ (word 7 0 0 ∷ [])))
some_word (Policy.Star p) = omega (arith, some_word p, length-append (postfix p) (word 8 0 0 ∷ []))

few_wait : (ps : List Policy) → length ps ≤ length (spelled ps)
few_wait [] = omega arith
few_wait (p ∷ ps) = omega (arith, few_wait ps, some_word p, length-append (spelled ps) (postfix p))

pub shallow_words : (ws : List ℕ) → length ws ≤ waiting_limit → Shallow ws (length ws)
shallow_words ws h k l ps w = omega (arith, few_wait ps, ap length w.words, length-take k ws)

nothing_numbered : {R : Type 0} (n : ℕ) (r : R) → Numbered [] n r → ⊥
nothing_numbered zero r e = true≢false (cc)
nothing_numbered (suc n) r e = true≢false (cc)

none_held : (q : Request) → Has (opened sizes).stored q → ⊥
none_held (action a) (n, e) = nothing_numbered n _ e
none_held (cell a w l) (n, e) = nothing_numbered n _ e
none_held (node f n y z) (k, e) = nothing_numbered k _ e

least_room : (k : Kind) → 256 ≤ size (opened sizes).rooms k
least_room actions = omega arith
least_room cells = omega arith
least_room nodes = omega arith

pub few_fit : (asks : List Request) → length asks ≤ 256 → Overfills asks → ⊥
few_fit asks h o =
    let l = pigeons o.records asks o.different asked in
    omega (arith, l, least_room o.kind, o.too_many)
  where
    asked : (q : Request) → In q o.records → In q asks
    asked q i = elim (each_in _ o.records o.held_or_asked q i) [ inl a ↦ absurd (none_held q a) | inr a ↦ a ]
