-- A construction step by step: each step is made, or refused for the whole.
use Rattle.std.proofs.Common.{◌≡◌, List, [], ◌++◌, Ok, Err, Result, sym, refl, subst, append_assoc}
use Rattle.weights.specs.Order.{In}
use Rattle.meaning.specs.Diagrams.{Diagram as MDiagram}
use Rattle.requests.specs.Requests.{Request}
use Rattle.requests.specs.Claims.{Construction, AtLeastOne, AtMostOne}
use Rattle.faults.specs.declared.layers.StoreFault.{StoreFault}
use Rattle.records.specs.declared.kinds.Diagram.{Diagram}
use Rattle.counts.specs.declared.counts.Counts.{Counts}
use Rattle.engine.specs.declared.memory.Stores.{Stores}
use Rattle.engine.specs.State.{Names}
use Rattle.engine.specs.Done.{SoundStores, NothingLost, Done}
use Rattle.engine.specs.InTurn.{Then}
use Rattle.engine.proofs.Numbers.{in_left, in_right}
use Rattle.engine.proofs.Composing.{Sofar, start, next, refused, complete, tail, append_empty}
use Rattle.engine.proofs.NarrowRules.{here}

-- what K still has to give for the whole Q, where a was asked for
pub record Pending (Q : Construction) (c : Counts) (s : Stores) (a : List Request) (K : Construction) (c' : Counts) (s' : Stores) : Type 0 where
  pub sofar : Sofar c s a c' s'
  pub rule : (r : MDiagram) (x : List Request) → K r x → Q r (a ++ x)

pub begin : {Q : Construction} {c : Counts} {s : Stores} (K : Construction) → SoundStores c s → ((r : MDiagram) (x : List Request) → K r x → Q r x) → Pending Q c s [] K c s
begin K g f = record { sofar = start g; rule = f }

pub at_rule : {R R' : Construction} → R' ≡ R → {r : MDiagram} {x : List Request} → R' r x → R r x
at_rule e {r} {x} h = subst (λ (S : Construction). S r x) e h

module _ {Q : Construction} {c : Counts} {s : Stores} {a : List Request} {R : Construction} {K : MDiagram → Construction} {c' : Counts} {s' : Stores} (p : Pending Q c s a (Then R K) c' s') {R' : Construction} (e : R' ≡ R) {c'' : Counts} {s'' : Stores} where
  -- the step is made
  pub step : {w : Diagram} (d : Done R' c' s' c'' s'' (Ok w)) → NothingLost c' s' c'' s'' → Pending Q c s (a ++ d.asks) (K d.out) c'' s''
  step d k =
      record {
        sofar = next p.sofar d k;
        rule = λ r x h. subst (λ (y : List Request). Q r y) (sym (append_assoc a d.asks x)) (p.rule r (d.asks ++ x) (record { between = d.out; asks = d.asks; more = x; first = at_rule e d.by_the_rules; second = h; whole = refl }));
      }

  -- the step is refused, and the whole with it, whatever would have followed
  pub stop : {f : StoreFault} {result : Result Diagram StoreFault} → ((q : MDiagram) → AtLeastOne (K q)) → (d : Done R' c' s' c'' s'' (Err f)) → result ≡ Err f → Done Q c s c'' s'' result
  stop t d i =
      let T = t d.out in
      refused p.sofar T.0 (a ++ (d.asks ++ T.1)) d i (p.rule T.0 (d.asks ++ T.1) (record { between = d.out; asks = d.asks; more = T.1; first = at_rule e d.by_the_rules; second = T.2; whole = refl }))
      (λ q m. in_left q a (d.asks ++ T.1) m) (λ q m. in_right q a (d.asks ++ T.1) (in_left q d.asks T.1 m))

  -- the same where the rules give one diagram, and some diagram for the rest
  pub halt : {f : StoreFault} {result : Result Diagram StoreFault} → AtMostOne R → AtLeastOne (Then R K) → (d : Done R' c' s' c'' s'' (Err f)) → result ≡ Err f → Done Q c s c'' s'' result
  halt once (r, x, t) d i =
      let U = once d.out t.between d.asks t.asks (at_rule e d.by_the_rules) t.first in
      refused p.sofar r (a ++ x) d i (p.rule r x t)
      (λ z m. in_left z a x m)
      (λ z m. in_right z a x (subst (λ (l : List Request). In z l) (sym t.whole) (in_left z t.asks t.more (subst (λ (l : List Request). In z l) U.1 m))))

  pub further : {w : Diagram} → AtMostOne R → AtLeastOne (Then R K) → (d : Done R' c' s' c'' s'' (Ok w)) → AtLeastOne (K d.out)
  further once (r, x, t) d =
      let U = once d.out t.between d.asks t.asks (at_rule e d.by_the_rules) t.first in
      (r, t.more, subst (λ (z : MDiagram). K z r t.more) (sym U.0) t.second)

module _ {Q : Construction} {c : Counts} {s : Stores} {a : List Request} {R : Construction} {c' : Counts} {s' : Stores} (p : Pending Q c s a R c' s') where
  -- the last step makes the whole, or is refused for it
  pub last : {R' : Construction} → R' ≡ R → {c'' : Counts} {s'' : Stores} {result : Result Diagram StoreFault} → Done R' c' s' c'' s'' result → Done Q c s c'' s'' result
  last e d = tail p.sofar d (p.rule d.out d.asks (subst (λ (S : Construction). S d.out d.asks) e d.by_the_rules))

  -- nothing is left to do
  pub ready : {r : MDiagram} {w : Diagram} {result : Result Diagram StoreFault} → R r [] → result ≡ Ok w → Names (here c' s') w r → Done Q c s c' s' result
  ready {r} h i n = complete a p.sofar i n (subst (λ (x : List Request). Q r x) (append_empty a) (p.rule r [] h))

-- what is left is given by something else
pub turn : {Q : Construction} {c : Counts} {s : Stores} {a : List Request} {K : Construction} {c' : Counts} {s' : Stores} → Pending Q c s a K c' s' → (K' : Construction) → ((r : MDiagram) (x : List Request) → K' r x → K r x) → Pending Q c s a K' c' s'
turn p K' f = record { sofar = p.sofar; rule = λ r x h. p.rule r x (f r x h) }

pub then_total : {R : Construction} {K : MDiagram → Construction} → AtLeastOne R → ((q : MDiagram) → AtLeastOne (K q)) → AtLeastOne (Then R K)
then_total h k =
    let t = k h.0 in
    (t.0, h.1 ++ t.1, record { between = h.0; asks = h.1; more = t.1; first = h.2; second = t.2; whole = refl })
