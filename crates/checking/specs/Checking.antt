-- Which words are a legal policy, and why others are refused.
use Rattle.std.specs.Prelude.{◌≡◌, ℕ, ◌+◌, ◌<◌, ◌≤◌, ◌≢◌, ◌⊎◌, List, ◌∷◌, length, take, slice_index}
use Rattle.format.specs.Limits.{words_limit, waiting_limit}
use Rattle.format.specs.Policy.{Policy, postfix, Predicate, Legal}
use Rattle.format.specs.PolicyWords.{bits_of, LegalWord}
use Rattle.format.specs.declared.settings.PolicyWord.{PolicyWord}
use Rattle.faults.specs.declared.layers.CheckFault.{CheckFault}
use Rattle.faults.specs.declared.layers.CheckFault.TheVariants.{LongPolicy, BadWord, BadOperands, NoPredicate, TooMany}
use Rattle.checking.specs.Waiting.{Waits, Viable, Shallow, operands}

-- the words are those of the legal policy p, within the limits
pub record Accepted (ws : List ℕ) (p : Policy) : Type 0 where
  pub legal : Legal p
  pub words : postfix p ≡ ws
  pub short : length ws ≤ words_limit
  pub shallow : Shallow ws (length ws)

-- the words are those of some legal policy, within the limits
abbrev pub LegalWords : List ℕ → Type 0
LegalWords ws = ∥ ((p : Policy) × Accepted ws p) ∥₁

-- nothing is wrong with the first i words: some legal policy begins with them, and no limit is passed
pub record Fine (ws : List ℕ) (i : ℕ) : Type 0 where
  pub short : length ws ≤ words_limit
  pub within : i ≤ length ws
  pub viable : Viable (take i ws)
  pub shallow : Shallow ws i

-- word i is the first with which no legal policy begins, and ps wait before it
pub record Stuck (ws : List ℕ) (i : ℕ) (ps : List Policy) : Type 0 where
  pub fine : Fine ws i
  pub inside : i < length ws
  pub waits : Waits (take i ws) ps
  pub dead : Viable (take (i + 1) ws) → ⊥

-- no legal policy has a word of these bits
abbrev pub NoWord : ℕ → Type 0
NoWord bits = (w : PolicyWord) → LegalWord w → bits_of w ≢ bits

-- word i is an operator that takes more operands than wait
pub record Lacking (ws : List ℕ) (i : ℕ) : Type 0 where
  pub ps : List Policy
  pub stuck : Stuck ws i ps
  pub operator : PolicyWord
  pub legal : LegalWord operator
  pub word : bits_of operator ≡ slice_index ws i
  pub few : length ps < operands operator

-- all words are fine, but not one policy is left
pub record Unfinished (ws : List ℕ) (i : ℕ) : Type 0 where
  pub ps : List Policy
  pub fine : Fine ws i
  pub end : i ≡ length ws
  pub waits : Waits ws ps
  pub many : length ps ≢ 1

-- word i negates what is no predicate
pub record Unnegatable (ws : List ℕ) (i : ℕ) : Type 0 where
  pub p : Policy
  pub ps : List Policy
  pub stuck : Stuck ws i (p ∷ ps)
  pub word : bits_of PolicyWord.Not ≡ slice_index ws i
  pub unfit : Predicate p → ⊥

-- legal policies begin with the words up to word i, but it is one operand too many
pub record Overfull (ws : List ℕ) (i : ℕ) : Type 0 where
  pub ps : List Policy
  pub fine : Fine ws i
  pub inside : i < length ws
  pub waits : Waits (take (i + 1) ws) ps
  pub many : waiting_limit < length ps

-- why words are refused, and where
abbrev pub Refused : List ℕ → CheckFault → Type 0
Refused ws LongPolicy = words_limit < length ws
Refused ws (BadWord i) = (ps : List Policy) × Stuck ws i ps × NoWord (slice_index ws i)
Refused ws (BadOperands i) = Lacking ws i ⊎ Unfinished ws i
Refused ws (NoPredicate i) = Unnegatable ws i
Refused ws (TooMany i) = Overfull ws i

-- words have one verdict only, and what is said here of their beginnings is clear
pub record Determined (ws : List ℕ) : Type 0 where
  -- words are those of at most one legal policy, or of one list of waiting operands
  pub one_policy : (p q : Policy) → Legal p → Legal q → postfix p ≡ ws → postfix q ≡ ws → p ≡ q
  pub one_waiting : (i : ℕ) (ps qs : List Policy) → Waits (take i ws) ps → Waits (take i ws) qs → ps ≡ qs
  -- a legal policy begins with some words exactly if these leave legal operands waiting
  pub viable_waits : (i : ℕ) → Viable (take i ws) → (ps : List Policy) × Waits (take i ws) ps
  pub waits_viable : (i : ℕ) (ps : List Policy) → Waits (take i ws) ps → Viable (take i ws)
  -- no words are both accepted and refused, or refused with two faults
  pub one_fault : (f g : CheckFault) → Refused ws f → Refused ws g → f ≡ g
  pub not_both : (f : CheckFault) → LegalWords ws → Refused ws f → ⊥
