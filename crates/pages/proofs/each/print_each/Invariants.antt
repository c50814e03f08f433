use Rattle.std.proofs.Common.{◌≡◌, ℕ, List, take}
use Rattle.std.specs.List.{flat_map}
use Rattle.pages.specs.Pages.{Says}
use Rattle.pages.proofs.each.print_each.Given as goal

abbrev pub invariant-loop-word : goal.invariant-loop-word
invariant-loop-word g l =
    (text : ℕ → List ℕ) →
    ((w : ℕ) (p : g.row.P.Denot) → g.P.From.from_gives w p → g.P.Print.output p ≡ text w) →
    Says l.initial.page (flat_map text (take l.word-index l.words)) l.page
