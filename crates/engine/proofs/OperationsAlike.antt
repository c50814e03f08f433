-- Comparing operations by `==` decides whether they are equal.
use Rattle.std.proofs.Common.{◌≡◌, Decides, ap, ap₂}
use Rattle.std.proofs.lemmas.Bool.Decides.{Decides-like, Decides-and}
use Rattle.format.specs.declared.settings.Amount.{Amount}
use Rattle.records.proofs.Alike.{amounts_told, settings_told}
use Rattle.engine.specs.declared.memo.Operation.{Operation}
use Rattle.engine.specs.declared.memo.Operation.TheVariants.{Narrow, Join, Choose, Prefix, Sequence, Not}
use Rattle.engine.specs.contracts.memo.OperationPartialEq.TheImpl.{ghosts as operations}

pub operations_told : (x y : Operation) → Decides (operations.eq x y) (x ≡ y)
operations_told (Narrow t) (Narrow u) = Decides-like _ (ap Narrow) (λ e. cc) (settings_told t u)
operations_told (Narrow t) Join = (λ e. cc, λ e. cc)
operations_told (Narrow t) (Choose u) = (λ e. cc, λ e. cc)
operations_told (Narrow t) (Prefix u w) = (λ e. cc, λ e. cc)
operations_told (Narrow t) Sequence = (λ e. cc, λ e. cc)
operations_told (Narrow t) Not = (λ e. cc, λ e. cc)
operations_told Join (Narrow u) = (λ e. cc, λ e. cc)
operations_told Join Join = (λ _. cc, λ _. cc)
operations_told Join (Choose u) = (λ e. cc, λ e. cc)
operations_told Join (Prefix u w) = (λ e. cc, λ e. cc)
operations_told Join Sequence = (λ e. cc, λ e. cc)
operations_told Join Not = (λ e. cc, λ e. cc)
operations_told (Choose t) (Narrow u) = (λ e. cc, λ e. cc)
operations_told (Choose t) Join = (λ e. cc, λ e. cc)
operations_told (Choose t) (Choose u) = Decides-like _ (ap Choose) (λ e. cc) (settings_told t u)
operations_told (Choose t) (Prefix u w) = (λ e. cc, λ e. cc)
operations_told (Choose t) Sequence = (λ e. cc, λ e. cc)
operations_told (Choose t) Not = (λ e. cc, λ e. cc)
operations_told (Prefix t v) (Narrow u) = (λ e. cc, λ e. cc)
operations_told (Prefix t v) Join = (λ e. cc, λ e. cc)
operations_told (Prefix t v) (Choose u) = (λ e. cc, λ e. cc)
operations_told (Prefix t v) (Prefix u w) = Decides-like _ (λ h. ap₂ {C = Operation} (λ (i j : Amount). Prefix i j) h.0 h.1) (λ e. (cc, cc)) (Decides-and _ _ (amounts_told t u) (amounts_told v w))
operations_told (Prefix t v) Sequence = (λ e. cc, λ e. cc)
operations_told (Prefix t v) Not = (λ e. cc, λ e. cc)
operations_told Sequence (Narrow u) = (λ e. cc, λ e. cc)
operations_told Sequence Join = (λ e. cc, λ e. cc)
operations_told Sequence (Choose u) = (λ e. cc, λ e. cc)
operations_told Sequence (Prefix u w) = (λ e. cc, λ e. cc)
operations_told Sequence Sequence = (λ _. cc, λ _. cc)
operations_told Sequence Not = (λ e. cc, λ e. cc)
operations_told Not (Narrow u) = (λ e. cc, λ e. cc)
operations_told Not Join = (λ e. cc, λ e. cc)
operations_told Not (Choose u) = (λ e. cc, λ e. cc)
operations_told Not (Prefix u w) = (λ e. cc, λ e. cc)
operations_told Not Sequence = (λ e. cc, λ e. cc)
operations_told Not Not = (λ _. cc, λ _. cc)
