-- What the steps of a bench say of a text.
use Rattle.std.proofs.Common.{◌≡◌, ℕ, List, length, MatchResult, Ok, Err, Some, Result, refl, ap, subst, arith}
use Rattle.faults.specs.declared.layers.BenchFault.{BenchFault}
use Rattle.weights.specs.Weights.{Ops}
use Rattle.meaning.specs.Diagrams.{Diagram}
use Rattle.requests.specs.Requests.{Request}
use Rattle.tables.specs.Rows.{table_words}
use Rattle.listing.specs.Rows.{rows_of}
use Rattle.stored.specs.Stored.{diagram}
use Rattle.stored.specs.Calls.{Compile, Install, of_policy, install_operand}
use Rattle.stored.proofs.Counting.{not_over}
use Rattle.steps.specs.States.{State, opened}
use Rattle.steps.specs.Steps.{Word, Installed, Refused, Step, not_held, full, table_full, refused, built, installed}
use Rattle.steps.proofs.Building.{same_diagram, some_not_none}
use lib.ListN.{length-replicate}
use Rattle.format.specs.Limits.{words_limit}
use Rattle.format.specs.Policy.{Policy}
use Rattle.faults.specs.declared.layers.CompileFault.{CompileFault}
use Rattle.checking.specs.declared.checked.CheckedPolicy.{CheckedPolicy}
use Rattle.checking.specs.Checked.{policy_words}
use Rattle.checking.specs.Checking.{Accepted, LegalWords}
use Rattle.policy.specs.Texts.{Judged}
use Rattle.policy.specs.Verdicts.{Reads, NoPolicy}
use Rattle.policy.proofs.Verdicts.{verdict}
use Rattle.requests.specs.Rules.{Compiled}
use Rattle.bench.specs.Replies.{install_reply}
use Rattle.bench.specs.Texts.{words_memory, CompilesText, text_refused}
use Rattle.bench.specs.Texts as answers
use Rattle.compiler.specs.Texts.{sizes, HasDiagram, Overfills, Gives, no_policy, stores_full, compiled}
use Rattle.compiler.specs.Texts as texts

abbrev table : Diagram → List ℕ
table d = table_words (rows_of d)

-- what the compiled policy stands for in the stores
record Held (o : Ops) (text : List ℕ) (m : State) (w : ℕ) : Type 0 where
  its_diagram : Diagram
  asks : List Request
  has : HasDiagram o text its_diagram asks
  fits : Overfills asks → ⊥
  its_word : diagram m.stored w ≡ Some its_diagram
  room : m.table_room ≡ sizes.table_words

read : (text : List ℕ) (r : Result CheckedPolicy CompileFault) (is : List ℕ) → Judged text r words_memory is → MatchResult r (λ c. Reads text (policy_words c) × LegalWords (policy_words c)) (λ f. NoPolicy text f)
read text r is j = verdict text words_memory is (length-replicate {A = ℕ} words_limit 0) r j

module _ {o : Ops} {text : List ℕ} where
  of_words : {ws : List ℕ} {p : Policy} {d : Diagram} {asks : List Request} → Reads text ws → Accepted ws p → Compiled o p d asks → HasDiagram o text d asks
  of_words {ws} {p} r a c = record { words = ws; reads = r; policy = p; accepted = a; compiled = c }

  held_by : {ws : List ℕ} {w : ℕ} {m : State} → Reads text ws → Step o (opened sizes) (Compile ws) (Word w) m → Held o text m w
  held_by reads (built {r = d} {asks = a} {m = n} (of_policy p c) g) =
      record {
        its_diagram = d;
        asks = a;
        has = of_words reads p c;
        fits = not_over (opened sizes).rooms (opened sizes).stored a n g.adds g.fits;
        its_word = g.its_word;
        room = refl;
      }

  held : {w : ℕ} {m : State} → CompilesText o text (opened sizes) (Ok w) m → Held o text m w
  held (answers.compiled {p = p} is j s) = held_by (read text (Ok p) is j).0 s

  full_by : {ws : List ℕ} {f : BenchFault} {m : State} → Reads text ws → Step o (opened sizes) (Compile ws) (Refused f) m → Gives o text (Err f)
  full_by reads (refused (not_held u)) = elim u [ ]
  full_by reads (refused (full (of_policy p c) h)) = stores_full (of_words reads p c) h

  not_built : {f : BenchFault} {m : State} → CompilesText o text (opened sizes) (Err f) m → Gives o text (Err f)
  not_built (text_refused {f = f} is j) = no_policy (read text (Err f) is j)
  not_built (answers.compiled {p = p} is j s) = full_by (read text (Ok p) is j).0 s

  not_put : {f : BenchFault} {w : ℕ} {m t : State} → Held o text m w → Step o m (Install w) (Refused f) t → Gives o text (Err f)
  not_put h (refused (not_held (install_operand n))) = absurd (some_not_none _ _ _ h.its_word n)
  not_put h (refused (full b k)) = elim b [ ]
  not_put {m = m} h (refused (table_full {d = d} e l)) =
      let same : length (table d) ≡ length (table h.its_diagram) = ap (λ (x : Diagram). length (table x)) (same_diagram m.stored _ d h.its_diagram e h.its_word) in
      texts.table_full h.has h.fits (omega (arith, same, l, h.room))

  put : {w n : ℕ} {m t : State} → Held o text m w → Step o m (Install w) (Installed n) t → Gives o text (Ok t.table)
  put {m = m} h (installed {d = d} e l) =
      let same : h.its_diagram ≡ d = same_diagram m.stored _ h.its_diagram d h.its_word e in
      subst (λ (x : Diagram). Gives o text (Ok (table x))) same (compiled h.has h.fits (omega (arith, ap (λ (x : Diagram). length (table x)) same, l, h.room)))

  module _ {s m : State} (fresh : s ≡ opened sizes) where
    pub no_table : {f : BenchFault} → CompilesText o text s (Err f) m → Gives o text (Err f)
    no_table {f} c = not_built (subst (λ (x : State). CompilesText o text x (Err f) m) fresh c)

    pub outcome : {w : ℕ} {t : State} (r : Result ℕ BenchFault) → CompilesText o text s (Ok w) m → Step o m (Install w) (install_reply r) t
        → MatchResult r (λ _. Gives o text (Ok t.table)) (λ f. Gives o text (Err f))
    outcome {w} (Ok n) c i = put (held (subst (λ (x : State). CompilesText o text x (Ok w) m) fresh c)) i
    outcome {w} (Err f) c i = not_put (held (subst (λ (x : State). CompilesText o text x (Ok w) m) fresh c)) i
