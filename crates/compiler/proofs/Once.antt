-- A text is compiled to one table, or refused for one reason.
use Rattle.std.proofs.Common.{◌≡◌, ℕ, List, length, Ok, Err, Result, sym, refl, ap, ◌∙◌, subst, arith}
use Rattle.faults.specs.declared.layers.CompileFault.{CompileFault}
use Rattle.faults.specs.declared.layers.BenchFault.{BenchFault}
use Rattle.faults.specs.declared.layers.BenchFault.TheVariants.{Text}
use Rattle.format.specs.Policy.{Policy}
use Rattle.policy.proofs.Verdicts.{one_reading, read_or_not, one_fault}
use Rattle.checking.specs.Checking.{LegalWords}
use Rattle.checking.proofs.Operands.{policy_unique}
use Rattle.weights.specs.Weights.{Ops}
use Rattle.meaning.specs.Diagrams.{Diagram}
use Rattle.requests.specs.Requests.{Request}
use Rattle.requests.specs.Rules.{Compiled}
use Rattle.requests.proofs.Unique.{compiled_same}
use Rattle.tables.specs.Rows.{table_words}
use Rattle.listing.specs.Rows.{rows_of}
use Rattle.compiler.specs.Texts.{HasDiagram, Overfills, Gives, no_policy, stores_full, table_full, compiled, bytes_of, Compiles, OnlyBytes}

legal : {o : Ops} {text : List ℕ} {d : Diagram} {a : List Request} → (h : HasDiagram o text d a) → LegalWords h.words
legal h = ∣ (h.policy, h.accepted) ∣₁

one_diagram : {o : Ops} {text : List ℕ} {d e : Diagram} {a b : List Request} → HasDiagram o text d a → HasDiagram o text e b → (d ≡ e) × (a ≡ b)
one_diagram {o} {e = e} {b = b} h k =
    let same : h.words ≡ k.words = one_reading h.reads k.reads in
    let policy : k.policy ≡ h.policy = policy_unique k.policy h.policy k.accepted.legal h.accepted.legal (k.accepted.words ∙ sym same ∙ sym h.accepted.words) in
    compiled_same h.compiled (subst (λ (p : Policy). Compiled o p e b) policy k.compiled)

abbrev table : Diagram → List ℕ
table d = table_words (rows_of d)

pub one_outcome : {o : Ops} {text : List ℕ} {r q : Result (List ℕ) BenchFault} → Gives o text r → Gives o text q → r ≡ q
one_outcome (no_policy x) (no_policy y) = ap {B = Result (List ℕ) BenchFault} (λ (f : CompileFault). Err (Text f)) (one_fault x y)
one_outcome (no_policy x) (stores_full h l) = absurd (read_or_not h.reads (legal h) x)
one_outcome (no_policy x) (table_full h n l) = absurd (read_or_not h.reads (legal h) x)
one_outcome (no_policy x) (compiled h n l) = absurd (read_or_not h.reads (legal h) x)
one_outcome (stores_full h l) (no_policy y) = absurd (read_or_not h.reads (legal h) y)
one_outcome (stores_full h l) (stores_full k m) = refl
one_outcome (stores_full h l) (table_full k n m) = absurd (n (subst Overfills (one_diagram h k).1 l))
one_outcome (stores_full h l) (compiled k n m) = absurd (n (subst Overfills (one_diagram h k).1 l))
one_outcome (table_full h n l) (no_policy y) = absurd (read_or_not h.reads (legal h) y)
one_outcome (table_full h n l) (stores_full k m) = absurd (n (subst Overfills (one_diagram k h).1 m))
one_outcome (table_full h n l) (table_full k n' m) = refl
one_outcome (table_full {d = d} h n l) (compiled {d = e} k n' m) = absurd (let same : length (table d) ≡ length (table e) = ap (λ (u : Diagram). length (table u)) (one_diagram h k).0 in omega arith)
one_outcome (compiled h n l) (no_policy y) = absurd (read_or_not h.reads (legal h) y)
one_outcome (compiled h n l) (stores_full k m) = absurd (n (subst Overfills (one_diagram k h).1 m))
one_outcome (compiled {d = d} h n l) (table_full {d = e} k n' m) = absurd (let same : length (table d) ≡ length (table e) = ap (λ (u : Diagram). length (table u)) (one_diagram h k).0 in omega arith)
one_outcome (compiled h n l) (compiled k n' m) = ap {B = Result (List ℕ) BenchFault} (λ (d : Diagram). Ok (table d)) (one_diagram h k).0

pub only_bytes : (o : Ops) (text bytes : List ℕ) → Compiles o text bytes → OnlyBytes o text bytes
only_bytes o text bytes (r, g, e) also (q, h, d) = d ∙ ap bytes_of (one_outcome h g) ∙ sym e
