-- The words of a policy one by one.
use Rattle.std.specs.Prelude.{◌≡◌, ℕ, ◌≤◌, Result, MatchResult, ◌≢◌}
use Rattle.format.specs.Limits.{cost_limit}
use Rattle.format.specs.Words.{word}
use Rattle.format.specs.declared.settings.NoPolicyWord.{NoPolicyWord}
use Rattle.format.specs.declared.settings.PolicyWord.{PolicyWord}
use Rattle.format.specs.declared.settings.PolicyWord.TheVariants.{Drop, Pass, Test, Set, Cost, Not, Union, Sequence, Star}

-- the 32 bits of a policy word
abbrev pub bits_of : PolicyWord → ℕ
bits_of Drop = word 0 0 0
bits_of Pass = word 1 0 0
bits_of (Test s) = word 2 s.field s.value
bits_of (Set s) = word 3 s.field s.value
bits_of (Cost a) = word 4 0 a.number
bits_of Not = word 5 0 0
bits_of Union = word 6 0 0
bits_of Sequence = word 7 0 0
bits_of Star = word 8 0 0

-- a cost is small; field and value of a test or a set are legal by their type
abbrev pub LegalWord : PolicyWord → Type 0
LegalWord Drop = Unit {0}
LegalWord Pass = Unit {0}
LegalWord (Test s) = Unit {0}
LegalWord (Set s) = Unit {0}
LegalWord (Cost a) = a.number ≤ cost_limit
LegalWord Not = Unit {0}
LegalWord Union = Unit {0}
LegalWord Sequence = Unit {0}
LegalWord Star = Unit {0}

-- the legal policy word of these bits, or an error with bits that no legal policy word has
abbrev pub Decodes : ℕ → Result PolicyWord NoPolicyWord → Type 0
Decodes bits r =
    MatchResult r (λ w. LegalWord w × (bits_of w ≡ bits)) (λ e. (e.0 ≡ bits) × ((w : PolicyWord) → LegalWord w → bits_of w ≢ bits))
