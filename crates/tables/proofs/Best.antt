-- The best frame of a scan: what is seen of it once one more frame is sent.
use Rattle.std.proofs.Common.{◌≡◌, ℕ, true, false, cond, ◌⊎◌, List, [], ◌∷◌, ◌++◌, Some, None, Option, sym, refl, ap, ◌∙◌, subst, inl, inr, append_assoc}
use Rattle.std.proofs.lemmas.List.{append-nil}
use Rattle.std.proofs.lemmas.Bool.{cases_Bool, true≢false, cond-true, cond-false}
use Rattle.frames.specs.Frames.{before}
use Rattle.weights.specs.Weights.{Ops}
use Rattle.tables.specs.Emits.{Sent, same, In}
use Rattle.tables.specs.Scans.{weight_in, above, IsNext, NextSent}
use Rattle.tables.proofs.Scans.{same_decides}
use Rattle.tables.proofs.Order.{frames_of, before_ranks, irreflexive, asymmetric}
use Rattle.tables.proofs.Listed.{in_left, in_push, in_push_cases, frames_push}

-- a frame that is not sent has no weight joined
weight_none : (o : Ops) (t : List ℕ) (a : ℕ) (xs : List Sent) → (In t (frames_of xs) → ⊥) → weight_in o t a xs ≡ a
weight_none o t a [] h = refl
weight_none o t a (x ∷ xs) h =
    let no : same x.frame t ≡ false = elim (cases_Bool (same x.frame t)) [
      | inl e ↦ absurd (h (inl (sym ((same_decides x.frame t).0 e))))
      | inr e ↦ e
    ] in
    ap (λ b. weight_in o t (cond b (o.join a x.weight) a) xs) no ∙ weight_none o t a xs (λ i. h (inr i))

weight_push :
    (o : Ops) (t : List ℕ) (a : ℕ) (xs : List Sent) (x : Sent) →
    weight_in o t a (xs ++ (x ∷ [])) ≡ cond (same x.frame t) (o.join (weight_in o t a xs) x.weight) (weight_in o t a xs)
weight_push o t a [] x = refl
weight_push o t a (y ∷ xs) x = weight_push o t (cond (same y.frame t) (o.join a y.weight) a) xs x

in_more : (xs : List Sent) (x : Sent) (u : List ℕ) → In u (frames_of (xs ++ (x ∷ []))) → In u (frames_of xs) ⊎ (u ≡ x.frame)
in_more xs x u i = in_push_cases u x.frame (frames_of xs) (subst (In u) (frames_push xs x) i)

-- the frame of the best stays
kept :
    (o : Ops) (last : Option (List ℕ)) (xs : List Sent) (b x : Sent) →
    NextSent o last xs (Some b) →
    (above last x.frame ≡ true → before x.frame b.frame ≡ false) →
    IsNext last (xs ++ (x ∷ [])) b.frame
kept o last xs b x n h =
    record {
      sent = subst (In b.frame) (sym (frames_push xs x)) (in_left b.frame (frames_of xs) (x.frame ∷ []) n.0.sent);
      after = n.0.after;
      least = λ u i a. elim (in_more xs x u i) [
        | inl m ↦ n.0.least u m a
        | inr e ↦ subst (λ (y : List ℕ). before y b.frame ≡ false) (sym e) (h (sym (ap (above last) e) ∙ a))
      ];
    }

pub passed :
    (o : Ops) (last : Option (List ℕ)) (xs : List Sent) (b x : Sent) →
    NextSent o last xs (Some b) →
    (above last x.frame ≡ true → before x.frame b.frame ≡ false) →
    same x.frame b.frame ≡ false →
    NextSent o last (xs ++ (x ∷ [])) (Some b)
passed o last xs b x n h e = (
  kept o last xs b x n h,
  n.1 ∙ sym (weight_push o b.frame o.zero xs x ∙ cond-false _ _ _ e),
)

-- a frame that does not come after the last one changes nothing
pub skipped :
    (o : Ops) (last : Option (List ℕ)) (xs : List Sent) (x : Sent) (r : Option Sent) →
    NextSent o last xs r →
    above last x.frame ≡ false →
    NextSent o last (xs ++ (x ∷ [])) r
skipped o last xs x None n h = λ u i. elim (in_more xs x u i) [ inl m ↦ n u m | inr e ↦ ap (above last) e ∙ h ]
skipped o last xs x (Some b) n h =
    passed o last xs b x n (λ a. absurd (true≢false (sym a ∙ h))) (elim (cases_Bool (same x.frame b.frame)) [
      | inl e ↦ absurd (true≢false (sym n.0.after ∙ ap (above last) (sym ((same_decides x.frame b.frame).0 e)) ∙ h))
      | inr e ↦ e
    ])

-- a frame not sent before, and before none that comes after the last one
taken :
    (o : Ops) (last : Option (List ℕ)) (xs : List Sent) (x : Sent) →
    (In x.frame (frames_of xs) → ⊥) →
    ((u : List ℕ) → In u (frames_of xs) → above last u ≡ true → before u x.frame ≡ false) →
    above last x.frame ≡ true →
    NextSent o last (xs ++ (x ∷ [])) (Some (record { frame = x.frame; weight = o.join o.zero x.weight }))
taken o last xs x new f h = (
  record {
    sent = subst (In x.frame) (sym (frames_push xs x)) (in_push x.frame (frames_of xs));
    after = h;
    least = λ u i a. elim (in_more xs x u i) [
      | inl m ↦ f u m a
      | inr e ↦ subst (λ (y : List ℕ). before y x.frame ≡ false) (sym e) (irreflexive x.frame)
    ];
  },
  sym (weight_push o x.frame o.zero xs x ∙ cond-true _ _ _ ((same_decides x.frame x.frame).1 refl) ∙
      ap (λ a. o.join a x.weight) (weight_none o x.frame o.zero xs new)),
)

pub taken_first :
    (o : Ops) (last : Option (List ℕ)) (xs : List Sent) (x : Sent) →
    NextSent o last xs None →
    above last x.frame ≡ true →
    NextSent o last (xs ++ (x ∷ [])) (Some (record { frame = x.frame; weight = o.join o.zero x.weight }))
taken_first o last xs x n h =
    taken o last xs x (λ m. true≢false (sym h ∙ n x.frame m)) (λ u m i. absurd (true≢false (sym i ∙ n u m))) h

pub taken_lesser :
    (o : Ops) (last : Option (List ℕ)) (xs : List Sent) (b x : Sent) →
    NextSent o last xs (Some b) →
    before x.frame b.frame ≡ true →
    above last x.frame ≡ true →
    NextSent o last (xs ++ (x ∷ [])) (Some (record { frame = x.frame; weight = o.join o.zero x.weight }))
taken_lesser o last xs b x n l h =
    taken o last xs x
    (λ m. true≢false (sym l ∙ n.0.least x.frame m h))
    (λ u m a. before_ranks.chain u b.frame x.frame (n.0.least u m a) (asymmetric x.frame b.frame l))
    h

pub joined :
    (o : Ops) (last : Option (List ℕ)) (xs : List Sent) (b x : Sent) (w : ℕ) →
    NextSent o last xs (Some b) →
    w ≡ o.join b.weight x.weight →
    same x.frame b.frame ≡ true →
    NextSent o last (xs ++ (x ∷ [])) (Some (record { frame = b.frame; weight = w }))
joined o last xs b x w n v e =
    let is : x.frame ≡ b.frame = (same_decides x.frame b.frame).0 e in (
      kept o last xs b x n (λ a. subst (λ (y : List ℕ). before y b.frame ≡ false) (sym is) (irreflexive b.frame)),
      v ∙ sym (weight_push o b.frame o.zero xs x ∙ cond-true _ _ _ e ∙ ap (λ a. o.join a x.weight) (sym n.1)),
    )

-- what was seen of a row and what is left of it, and the best of what was seen
pub record Scanned (o : Ops) (last : Option (List ℕ)) (all rest : List Sent) (best : Option Sent) : Type 0 where
  pub seen : List Sent
  pub whole : seen ++ rest ≡ all
  pub found : NextSent o last seen best

pub scan_begun : (o : Ops) (last : Option (List ℕ)) (all : List Sent) → Scanned o last all all None
scan_begun o last all = record { seen = []; whole = refl; found = λ u i. elim i [ ] }

pub scan_more :
    (o : Ops) (last : Option (List ℕ)) (all rest rest' : List Sent) (x : Sent) (best best' : Option Sent) →
    Scanned o last all rest best →
    rest ≡ x ∷ rest' →
    ((xs : List Sent) → NextSent o last xs best → NextSent o last (xs ++ (x ∷ [])) best') →
    Scanned o last all rest' best'
scan_more o last all rest rest' x best best' s e step =
    record {
      seen = s.seen ++ (x ∷ []);
      whole = append_assoc s.seen (x ∷ []) rest' ∙ ap (λ ys. s.seen ++ ys) (sym e) ∙ s.whole;
      found = step s.seen s.found;
    }

pub scan_done :
    (o : Ops) (last : Option (List ℕ)) (all rest : List Sent) (best : Option Sent) →
    Scanned o last all rest best →
    rest ≡ [] →
    NextSent o last all best
scan_done o last all rest best s e =
    subst (λ (xs : List Sent). NextSent o last xs best) (sym (append-nil s.seen) ∙ ap (λ ys. s.seen ++ ys) (sym e) ∙ s.whole) s.found
