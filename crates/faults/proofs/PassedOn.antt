-- The result that a `?` passes on.
use Rattle.std.proofs.Common.{◌≡◌, Err, Result, ◌∙◌, ap}
use Rattle.std.specs.Prelude.{IsErrAnd}
use Rattle.std.proofs.lemmas.Result.{err_from_is_err_and}

-- it is the error alone, so what holds of `Err f` holds of it
pub passed_on : {T E : Type 0} {r : Result T E} {f : E} → IsErrAnd r (λ e. e ≡ f) → r ≡ Err f
passed_on {r} h =
    let p = err_from_is_err_and r h in
    p.1 ∙ ap (λ e. Err e) p.2
