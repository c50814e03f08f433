-- Records by their numbers, in the front of a list and in a list with one record more.
use Rattle.std.proofs.Common.{◌≡◌, ℕ, zero, suc, ◌+◌, ◌-◌, ◌<◌, ◌≤◌, min, ◌⊎◌, List, [], ◌∷◌, ◌++◌, length, take, set, Some, Ok, Err, Result, sym, refl, ap, ◌∙◌, subst, inl, inr, ⊎_elim, arith, MatchResult}
use Rattle.std.proofs.lemmas.List.{length-take, length_push, get_or_push, take_more_set}
use Rattle.std.proofs.lemmas.Option.{slice_get-get_or}
use Rattle.std.specs.List.{slice_get}
use Rattle.faults.specs.declared.layers.StoreFault.{StoreFault}
use Rattle.faults.specs.declared.layers.StoreFault.TheVariants.{Full}
use Rattle.format.specs.declared.settings.Amount.{Amount}
use Rattle.stores.specs.Numbers.{record_at, Numbered, Absent, Distinct, Entered, Refused, held, room, numbers_limit}

module _ {X : Type 0} where
  pub record_at_place : (rs : List X) (n : ℕ) → 0 < n → record_at rs n ≡ slice_get rs (n - 1)
  record_at_place rs zero h = absurd (omega arith)
  record_at_place rs (suc n) h =
      let e : suc n - 1 ≡ n = omega arith in
      sym (ap (slice_get rs) e)

  -- a record that stands at no place has no number
  pub absent_unfound : (rs : List X) (r : X) → ((k : ℕ) → slice_get rs k ≡ Some r → ⊥) → Absent rs r
  absent_unfound rs r h zero e = cc
  absent_unfound rs r h (suc n) e = h n e

  pub held_more :
      (c : ℕ) (slots : List X) (r : X) →
      c < numbers_limit →
      c < length slots →
      held (c + 1) (set slots c r) ≡ held c slots ++ (r ∷ [])
  held_more c slots r l h =
      let e : min (c + 1) numbers_limit ≡ c + 1 = omega arith in
      let f : min c numbers_limit ≡ c = omega arith in
      ap (λ k. take k (set slots c r)) e
      ∙ (take_more_set slots c r h ∙ ap (λ k. take k slots ++ (r ∷ [])) (sym f))

  -- what a list with one record more has is what it had, or the new record under the next number
  pub pushed :
      (rs : List X) (r : X) (m : ℕ) (x : X) →
      Numbered (rs ++ (r ∷ [])) m x →
      Numbered rs m x ⊎ ((m ≡ length rs + 1) × (x ≡ r))
  pushed [] r zero x e = inl e
  pushed [] r (suc zero) x e = inr (refl, cc)
  pushed [] r (suc (suc m)) x e = inl e
  pushed (y ∷ rs) r zero x e = inl e
  pushed (y ∷ rs) r (suc zero) x e = inl e
  pushed (y ∷ rs) r (suc (suc m)) x e =
      ⊎_elim (λ h. inl h) (λ h. inr (omega (arith, h.0), h.1)) (pushed rs r (suc m) x e)

  pub pushed_last : (rs : List X) (r : X) → Numbered (rs ++ (r ∷ [])) (length rs + 1) r
  pushed_last rs r =
      let e : length rs + 1 - 1 ≡ length rs = omega arith in
      record_at_place (rs ++ (r ∷ [])) (length rs + 1) (omega arith)
      ∙ (ap (slice_get (rs ++ (r ∷ []))) e
      ∙ (slice_get-get_or (rs ++ (r ∷ [])) (length rs) r (omega (arith, length_push rs r)) ∙ ap Some (get_or_push rs r r (length rs) refl)))

  pub distinct_pushed : (rs : List X) (r : X) → Distinct rs → Absent rs r → Distinct (rs ++ (r ∷ []))
  distinct_pushed rs r d a m n x e f = ⊎_elim first last (pushed rs r m x e)
    where
      first : Numbered rs m x → m ≡ n
      first p = ⊎_elim (λ q. d m n x p q) (λ q. absurd (a m (p ∙ ap Some q.1))) (pushed rs r n x f)

      last : (m ≡ length rs + 1) × (x ≡ r) → m ≡ n
      last p = ⊎_elim (λ q. absurd (a n (q ∙ ap Some p.1))) (λ q. omega (arith, p.0, q.0)) (pushed rs r n x f)

  module _ (c : ℕ) (slots : List X) (r : X) where
    pub entered_added :
        (n : ℕ) →
        c < numbers_limit →
        c < length slots →
        Absent (held c slots) r →
        n ≡ c + 1 →
        Entered c (held c slots) r n (c + 1) (held (c + 1) (set slots c r))
    entered_added n l h a e =
        let more = held_more c slots r l h in
        let long : length (held c slots) + 1 ≡ n = omega (arith, length-take (min c numbers_limit) slots) in
        let there : Numbered (held c slots ++ (r ∷ [])) n r =
        subst (λ m. Numbered (held c slots ++ (r ∷ [])) m r) long (pushed_last (held c slots) r) in
        record {
          number = subst (λ rs. Numbered rs n r) (sym more) there;
          growth = inr (a, refl, more);
        }

    pub distinct_added :
        c < numbers_limit →
        c < length slots →
        Absent (held c slots) r →
        Distinct (held c slots) →
        Distinct (held (c + 1) (set slots c r))
    distinct_added l h a d =
        subst (λ rs. Distinct rs) (sym (held_more c slots r l h)) (distinct_pushed (held c slots) r d a)

  -- what holds once a record that was not in store has been added, or refused
  module _ (c : ℕ) (slots : List X) (r : X) (c' : ℕ) (slots' : List X) (a : Absent (held c slots) r) where
    pub added :
        (o : Result Amount StoreFault) →
        MatchResult o (λ n. (c < numbers_limit) × (c < length slots) × (n.number ≡ c + 1)) (λ f. (f ≡ Full) × (room slots ≤ c)) →
        MatchResult o (λ _. c' ≡ c + 1) (λ _. c' ≡ c) →
        MatchResult o (λ _. slots' ≡ set slots c r) (λ _. slots' ≡ slots) →
        MatchResult o (λ n. Entered c (held c slots) r n.number c' (held c' slots')) (λ f. (f ≡ Full) × Refused c slots r c' slots')
        × (Distinct (held c slots) → Distinct (held c' slots'))
    added (Ok n) h k w = rw (k, w) (entered_added c slots r n.number h.0 h.1 a h.2, distinct_added c slots r h.0 h.1 a)
    added (Err f) h k w = ((h.0, record { no_room = record { absent = a; full = h.1 }; count_stays = k; slots_stay = w }), rw (k, w) (λ d. d))
