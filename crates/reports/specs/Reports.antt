-- The record of a policy text.
use Rattle.std.specs.Prelude.{◌≡◌, ℕ, List, Result}
use Rattle.faults.specs.Lines.{refused_line}
use Rattle.faults.specs.Shows.{compile_shown}
use Rattle.faults.specs.declared.layers.CompileFault.{CompileFault}
use Rattle.checking.specs.Checking.{LegalWords}
use Rattle.policy.specs.Verdicts.{Reads, NoPolicy}
use Rattle.pages.specs.Pages.{PrintedSome}
use Rattle.reports.specs.Lines.{accepted_record}

-- the bytes that tell of a text: its policy word by word, or why it has none
pub data Tells (text : List ℕ) : List ℕ → Type 0 where
  accepted : {words : List ℕ} → Reads text words → LegalWords words → Tells text (accepted_record text words)
  refused : {f : CompileFault} → NoPolicy text f → Tells text (refused_line (compile_shown f))

-- no other answer and no other memory would do
abbrev pub OnlyReport : List ℕ → Result ℕ ℕ → List ℕ → List ℕ → Type 0
OnlyReport text r was is = (q : Result ℕ ℕ) (also : List ℕ) → PrintedSome (Tells text) was q also → (q ≡ r) × (also ≡ is)
