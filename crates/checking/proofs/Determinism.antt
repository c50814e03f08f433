-- Words have one verdict only.
use Rattle.std.proofs.Common.{◌≡◌, ℕ, ◌+◌, ◌<◌, ◌≤◌, ◌⊎◌, List, [], ◌∷◌, length, take, sym, refl, ap, ◌∙◌, inl, inr, arith}
use mathlib.Core.Logic.{∥∥₁_elim}
use mathlib.Core.HLevel.{⊥_prop}
use Rattle.std.proofs.lemmas.List.{append-nil, take_all}
use Rattle.std.proofs.lemmas.Bool.{cases_lt}
use Rattle.format.specs.Limits.{words_limit}
use Rattle.format.specs.Policy.{Policy}
use Rattle.format.specs.declared.settings.PolicyWord.{PolicyWord}
use Rattle.faults.specs.declared.layers.CheckFault.{CheckFault}
use Rattle.faults.specs.declared.layers.CheckFault.TheVariants.{LongPolicy, BadWord, BadOperands, NoPredicate, TooMany}
use Rattle.checking.specs.Checking.{Accepted, Fine, Stuck, Overfull, Refused, Determined}
use Rattle.checking.proofs.Operands.{waits_unique, viable_waits, waits_viable, viable_shorter, policy_unique, waits_alone}
use Rattle.checking.proofs.Growth.{same_operands}

-- where a fault stands
abbrev place : CheckFault → ℕ
place LongPolicy = 0
place (BadWord i) = i
place (BadOperands i) = i
place (NoPredicate i) = i
place (TooMany i) = i

-- all words before a fault are fine
fine_before : (ws : List ℕ) (f : CheckFault) → Refused ws f → length ws ≤ words_limit → Fine ws (place f)
fine_before ws LongPolicy r s = absurd (omega arith)
fine_before ws (BadWord i) r s = r.1.fine
fine_before ws (BadOperands i) (inl r) s = r.stuck.fine
fine_before ws (BadOperands i) (inr r) s = r.fine
fine_before ws (NoPredicate i) r s = r.stuck.fine
fine_before ws (TooMany i) r s = r.fine

stuck_past : (ws : List ℕ) (i j : ℕ) (ps : List Policy) → Stuck ws i ps → i < j → Fine ws j → ⊥
stuck_past ws i j ps r h a = r.dead (viable_shorter ws (i + 1) j (omega arith) a.viable)

-- and no words past it are
fine_past : (ws : List ℕ) (f : CheckFault) (j : ℕ) → Refused ws f → place f < j → Fine ws j → ⊥
fine_past ws LongPolicy j r h a = omega (arith, a.short)
fine_past ws (BadWord i) j r h a = stuck_past ws i j r.0 r.1 h a
fine_past ws (BadOperands i) j (inl r) h a = stuck_past ws i j r.ps r.stuck h a
fine_past ws (BadOperands i) j (inr r) h a = omega (arith, r.end, a.within)
fine_past ws (NoPredicate i) j r h a = stuck_past ws i j (r.p ∷ r.ps) r.stuck h a
fine_past ws (TooMany i) j r h a = omega (arith, a.shallow (i + 1) (omega arith) r.ps r.waits, r.many)

pub one_place : (ws : List ℕ) (f g : CheckFault) → Refused ws f → Refused ws g → length ws ≤ words_limit → place f ≡ place g
one_place ws f g r q s =
    let a : place f < place g → ⊥ = λ h. fine_past ws f (place g) r h (fine_before ws g q s) in
    let b : place g < place f → ⊥ = λ h. fine_past ws g (place f) q h (fine_before ws f r s) in
    omega arith

-- two faults of different kinds exclude each other at one place
word_operands : (ws : List ℕ) (i : ℕ) → Refused ws (BadWord i) → Refused ws (BadOperands i) → ⊥
word_operands ws i r (inl q) = r.2 q.operator q.legal q.word
word_operands ws i r (inr q) = omega (arith, r.1.inside, q.end)

word_negation : (ws : List ℕ) (i : ℕ) → Refused ws (BadWord i) → Refused ws (NoPredicate i) → ⊥
word_negation ws i r q = r.2 PolicyWord.Not tt q.word

stuck_many : (ws : List ℕ) (i : ℕ) (ps : List Policy) → Stuck ws i ps → Overfull ws i → ⊥
stuck_many ws i ps r q = r.dead (waits_viable (take (i + 1) ws) q.ps q.waits)

operands_many : (ws : List ℕ) (i : ℕ) → Refused ws (BadOperands i) → Refused ws (TooMany i) → ⊥
operands_many ws i (inl r) q = stuck_many ws i r.ps r.stuck q
operands_many ws i (inr r) q = omega (arith, q.inside, r.end)

operands_negation : (ws : List ℕ) (i : ℕ) → Refused ws (BadOperands i) → Refused ws (NoPredicate i) → ⊥
operands_negation ws i (inl r) q =
    let same = waits_unique (take i ws) r.ps (q.p ∷ q.ps) r.stuck.waits q.stuck.waits in
    omega (arith, ap length same, same_operands r.operator PolicyWord.Not (r.word ∙ sym q.word), r.few)
operands_negation ws i (inr r) q = omega (arith, q.stuck.inside, r.end)

one_short : (ws : List ℕ) (f g : CheckFault) → Refused ws f → Refused ws g → length ws ≤ words_limit → place f ≡ place g → f ≡ g
one_short ws LongPolicy g r q s e = absurd (omega arith)
one_short ws (BadWord i) LongPolicy r q s e = absurd (omega arith)
one_short ws (BadWord i) (BadWord j) r q s e = ap BadWord e
one_short ws (BadWord i) (BadOperands j) r q s e = absurd (word_operands ws i r (rw e q))
one_short ws (BadWord i) (NoPredicate j) r q s e = absurd (word_negation ws i r (rw e q))
one_short ws (BadWord i) (TooMany j) r q s e = absurd (stuck_many ws i r.0 r.1 (rw e q))
one_short ws (BadOperands i) LongPolicy r q s e = absurd (omega arith)
one_short ws (BadOperands i) (BadWord j) r q s e = absurd (word_operands ws i (rw e q) r)
one_short ws (BadOperands i) (BadOperands j) r q s e = ap BadOperands e
one_short ws (BadOperands i) (NoPredicate j) r q s e = absurd (operands_negation ws i r (rw e q))
one_short ws (BadOperands i) (TooMany j) r q s e = absurd (operands_many ws i r (rw e q))
one_short ws (NoPredicate i) LongPolicy r q s e = absurd (omega arith)
one_short ws (NoPredicate i) (BadWord j) r q s e = absurd (word_negation ws i (rw e q) r)
one_short ws (NoPredicate i) (BadOperands j) r q s e = absurd (operands_negation ws i (rw e q) r)
one_short ws (NoPredicate i) (NoPredicate j) r q s e = ap NoPredicate e
one_short ws (NoPredicate i) (TooMany j) r q s e = absurd (stuck_many ws i (r.p ∷ r.ps) r.stuck (rw e q))
one_short ws (TooMany i) LongPolicy r q s e = absurd (omega arith)
one_short ws (TooMany i) (BadWord j) r q s e = absurd (stuck_many ws i q.0 (rw e q.1) r)
one_short ws (TooMany i) (BadOperands j) r q s e = absurd (operands_many ws i (rw e q) r)
one_short ws (TooMany i) (NoPredicate j) r q s e = absurd (stuck_many ws i (q.p ∷ q.ps) (rw e q.stuck) r)
one_short ws (TooMany i) (TooMany j) r q s e = ap TooMany e

-- words that are too long have no other fault
long_only : (ws : List ℕ) (f : CheckFault) → words_limit < length ws → Refused ws f → f ≡ LongPolicy
long_only ws LongPolicy h r = refl
long_only ws (BadWord i) h r = absurd (omega (arith, r.1.fine.short))
long_only ws (BadOperands i) h (inl r) = absurd (omega (arith, r.stuck.fine.short))
long_only ws (BadOperands i) h (inr r) = absurd (omega (arith, r.fine.short))
long_only ws (NoPredicate i) h r = absurd (omega (arith, r.stuck.fine.short))
long_only ws (TooMany i) h r = absurd (omega (arith, r.fine.short))

one_fault : (ws : List ℕ) (f g : CheckFault) → Refused ws f → Refused ws g → f ≡ g
one_fault ws f g r q = go (cases_lt words_limit (length ws))
  where
    go : (words_limit < length ws) ⊎ (length ws ≤ words_limit) → f ≡ g
    go (inl h) = long_only ws f h r ∙ sym (long_only ws g h q)
    go (inr h) = one_short ws f g r q h (one_place ws f g r q h)

-- an accepted policy is fine to its end
accepted_fine : (ws : List ℕ) (p : Policy) → Accepted ws p → Fine ws (length ws)
accepted_fine ws p a =
    record {
      short = a.short;
      within = omega arith;
      viable = record {
        policy = p;
        rest = [];
        legal = a.legal;
        words = a.words ∙ sym (append-nil (take (length ws) ws) ∙ take_all (length ws) ws (omega arith));
      };
      shallow = a.shallow;
    }

accepted_only : (ws : List ℕ) (p : Policy) (f : CheckFault) → Accepted ws p → Refused ws f → ⊥
accepted_only ws p LongPolicy a r = omega (arith, a.short)
accepted_only ws p (BadWord i) a r = fine_past ws (BadWord i) (length ws) r r.1.inside (accepted_fine ws p a)
accepted_only ws p (BadOperands i) a (inl r) =
    fine_past ws (BadOperands i) (length ws) (inl r) r.stuck.inside (accepted_fine ws p a)
accepted_only ws p (BadOperands i) a (inr r) =
    let same = waits_unique ws r.ps (p ∷ []) r.waits (rw a.words at (waits_alone p a.legal)) in
    r.many (ap length same)
accepted_only ws p (NoPredicate i) a r = fine_past ws (NoPredicate i) (length ws) r r.stuck.inside (accepted_fine ws p a)
accepted_only ws p (TooMany i) a r = fine_past ws (TooMany i) (length ws) r r.inside (accepted_fine ws p a)

pub determined : (ws : List ℕ) → Determined ws
determined ws =
    record {
      one_policy = λ p q l m e f. policy_unique p q l m (e ∙ sym f);
      one_waiting = λ i ps qs a b. waits_unique (take i ws) ps qs a b;
      viable_waits = λ i v. viable_waits (take i ws) v;
      waits_viable = λ i ps a. waits_viable (take i ws) ps a;
      one_fault = one_fault ws;
      not_both = λ f a r. ∥∥₁_elim a ⊥_prop (λ b. accepted_only ws b.0 f b.1 r);
    }
