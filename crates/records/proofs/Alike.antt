-- Comparing records by `==` decides whether they are equal.
use Rattle.std.proofs.Common.{◌≡◌, ℕ, ◌<◌, ◌&&◌, eqb, Some, None, Option, Decides, ap, ◌∙◌, arith}
use mathlib.Core.HLevel.{Σ_prop_path, ×_prop}
use native.Mathlib.Bridge.{le_prop}
use Rattle.std.specs.Option.{option_eq}
use Rattle.std.proofs.lemmas.Bool.Decides.{Decides-like, Decides-and, Decides-eqb}
use Rattle.format.specs.Fields.{fields, LegalValue}
use Rattle.format.specs.Words.{value_end}
use Rattle.format.specs.declared.settings.Amount.{Amount}
use Rattle.format.specs.declared.settings.Setting.{Setting}
use Rattle.records.specs.declared.kinds.Diagram.{Diagram}
use Rattle.records.specs.declared.kinds.Diagram.TheVariants.{Leaf, Branch}
use Rattle.records.specs.Words.{word_of, ItsWord}
use Rattle.records.specs.contracts.kinds.DiagramPartialEq.TheImpl.{ghosts as diagrams}

-- what a type promises of its numbers has one proof only
pub amounts_alike : (a b : Amount) → a.number ≡ b.number → a ≡ b
amounts_alike a b e =
    ap (λ (t : (n : ℕ) × (n < value_end)). record { number = t.0; fits = t.1 })
    (Σ_prop_path (λ (n : ℕ). le_prop) {u = (a.number, a.fits)} {v = (b.number, b.fits)} e)

pub settings_alike : (a b : Setting) → a.field ≡ b.field → a.value ≡ b.value → a ≡ b
settings_alike a b e h =
    ap (λ (t : (p : ℕ × ℕ) × ((p.0 < fields) × LegalValue p.0 p.1)). record { field = t.0.0; value = t.0.1; exists = t.1.0; legal = t.1.1 })
    (Σ_prop_path (λ (p : ℕ × ℕ). ×_prop le_prop le_prop) {u = ((a.field, a.value), (a.exists, a.legal))} {v = ((b.field, b.value), (b.exists, b.legal))} (λ i. (e i, h i)))

pub amounts_told : (a b : Amount) → Decides (eqb a.number b.number) (a ≡ b)
amounts_told a b = Decides-like _ (amounts_alike a b) (ap (λ (x : Amount). x.number)) (Decides-eqb a.number b.number)

pub settings_told : (a b : Setting) → Decides (eqb a.field b.field && eqb a.value b.value) (a ≡ b)
settings_told a b =
    Decides-like _ (λ e. settings_alike a b e.0 e.1) (λ e. (ap (λ (x : Setting). x.field) e, ap (λ (x : Setting). x.value) e))
    (Decides-and _ _ (Decides-eqb a.field b.field) (Decides-eqb a.value b.value))

pub sets_told : (x y : Option ℕ) → Decides (option_eq eqb x y) (x ≡ y)
sets_told None None = (λ _. cc, λ _. cc)
sets_told None (Some n) = (λ e. cc, λ e. cc)
sets_told (Some m) None = (λ e. cc, λ e. cc)
sets_told (Some m) (Some n) = Decides-like _ (ap Some) (λ e. cc) (Decides-eqb m n)

pub diagrams_told : (d e : Diagram) → Decides (diagrams.eq d e) (d ≡ e)
diagrams_told (Leaf m) (Leaf n) = Decides-like _ (ap Leaf) (λ e. cc) (amounts_told m n)
diagrams_told (Leaf m) (Branch n) = (λ e. cc, λ e. cc)
diagrams_told (Branch m) (Leaf n) = (λ e. cc, λ e. cc)
diagrams_told (Branch m) (Branch n) = Decides-like _ (ap Branch) (λ e. cc) (amounts_told m n)

pub words_apart : (d e : Diagram) → word_of d ≡ word_of e → d ≡ e
words_apart (Leaf m) (Leaf n) h = ap Leaf (amounts_alike m n (omega arith))
words_apart (Leaf m) (Branch n) h = absurd (omega (arith, m.fits))
words_apart (Branch m) (Leaf n) h = absurd (omega (arith, n.fits))
words_apart (Branch m) (Branch n) h = ap Branch (amounts_alike m n (omega arith))

pub its_word : (d : Diagram) (w : ℕ) → w ≡ word_of d → ItsWord d w
its_word d w h = record { word = h; alone = λ e k. words_apart e d (k ∙ h) }
