-- The frames that a row sends, up to a bound, as they are written one after another.
use Rattle.std.proofs.Common.{◌≡◌, ℕ, ◌+◌, ◌*◌, ◌<◌, ◌≤◌, true, false, ◌⊎◌, List, [], ◌∷◌, ◌++◌, length, take, drop, Some, None, Option, sym, refl, ap, ◌∙◌, subst, inl, inr, append_assoc, arith, length-append}
use Rattle.std.specs.List.{flat_map}
use Rattle.std.proofs.lemmas.List.{take_at, drop_at, drop-drop, append-nil, map-append, length-map}
use Rattle.std.proofs.lemmas.Bool.{cases_Bool}
use Rattle.format.specs.Words.{value_of}
use Rattle.frames.specs.Frames.{before}
use Rattle.weights.specs.Weights.{Ops}
use Rattle.tables.specs.Emits.{Sent, sent_words, In, Ascending}
use Rattle.tables.specs.Scans.{weight_in, above, IsNext, Next, RowSent, RowFull}
use Rattle.tables.proofs.Order.{frames_of, irreflexive, asymmetric, connected, above_between}

-- the frames not above the bound are written
pub record Listed (o : Ops) (xs : List Sent) (last : Option (List ℕ)) (was : List ℕ) (n : ℕ) (is : List ℕ) : Type 0 where
  pub list : List Sent
  pub ascending : Ascending (frames_of list)
  pub weighed : (x : Sent) → In x list → x.weight ≡ value_of (weight_in o x.frame o.zero xs)
  pub only : (t : List ℕ) → In t (frames_of list) → In t (frames_of xs)
  pub bound : (t : List ℕ) → In t (frames_of list) → above last t ≡ false
  pub every : (t : List ℕ) → In t (frames_of xs) → above last t ≡ false → In t (frames_of list)
  pub nine : n ≡ 9 * length list
  pub count : n ≡ length (flat_map sent_words list)
  pub written : is ≡ flat_map sent_words list ++ drop n was
  pub fits : n ≤ length was

pub in_left : {X : Type 0} (x : X) (xs ys : List X) → In x xs → In x (xs ++ ys)
in_left x [] ys i = elim i [ ]
in_left x (y ∷ xs) ys (inl e) = inl e
in_left x (y ∷ xs) ys (inr m) = inr (in_left x xs ys m)

pub in_push : {X : Type 0} (x : X) (xs : List X) → In x (xs ++ (x ∷ []))
in_push x [] = inl refl
in_push x (y ∷ xs) = inr (in_push x xs)

pub in_push_cases : {X : Type 0} (x y : X) (xs : List X) → In x (xs ++ (y ∷ [])) → In x xs ⊎ (x ≡ y)
in_push_cases x y [] (inl e) = inr e
in_push_cases x y [] (inr m) = elim m [ ]
in_push_cases x y (z ∷ xs) (inl e) = inl (inl e)
in_push_cases x y (z ∷ xs) (inr m) = elim (in_push_cases x y xs m) [ inl a ↦ inl (inr a) | inr a ↦ inr a ]

ascending_push : (ss : List (List ℕ)) (t : List ℕ) → Ascending ss → ((u : List ℕ) → In u ss → before u t ≡ true) → Ascending (ss ++ (t ∷ []))
ascending_push [] t a h = ((λ u i. elim i [ ]), tt)
ascending_push (s ∷ ss) t a h = (
  (λ u i. elim (in_push_cases u t ss i) [ inl m ↦ a.0 u m | inr e ↦ subst (λ (y : List ℕ). before s y ≡ true) (sym e) (h s (inl refl)) ]),
  ascending_push ss t a.1 (λ u i. h u (inr i)),
)

pub frames_push : (xs : List Sent) (x : Sent) → frames_of (xs ++ (x ∷ [])) ≡ frames_of xs ++ (x.frame ∷ [])
frames_push xs x = map-append (λ (y : Sent). y.frame) xs (x ∷ [])

joined_push : (xs : List Sent) (x : Sent) → flat_map sent_words (xs ++ (x ∷ [])) ≡ flat_map sent_words xs ++ sent_words x
joined_push [] x = append-nil (sent_words x)
joined_push (y ∷ xs) x =
    ap (λ t. sent_words y ++ t) (joined_push xs x) ∙ sym (append_assoc (sent_words y) (flat_map sent_words xs) (sent_words x))

pub listed_more :
    (o : Ops) (xs : List Sent) (last : Option (List ℕ)) (was : List ℕ) (n : ℕ) (is is' t : List ℕ) (w : ℕ) →
    Listed o xs last was n is →
    IsNext last xs t →
    w ≡ weight_in o t o.zero xs →
    length (sent_words (record { frame = t; weight = value_of w })) ≡ 9 →
    n + 9 ≤ length was →
    is' ≡ take n is ++ (sent_words (record { frame = t; weight = value_of w }) ++ drop (n + 9) is) →
    Listed o xs (Some t) was (n + 9) is'
listed_more o xs last was n is is' t w l e v size room h =
    let x : Sent = record { frame = t; weight = value_of w } in
    let up : (u : List ℕ) → In u (frames_of l.list) → before u t ≡ true = (λ u i. above_between last t u e.after (l.bound u i)) in
    let push = frames_push l.list x in
    let more = joined_push l.list x in
    let front : take n is ≡ flat_map sent_words l.list = ap (take n) l.written ∙ take_at (flat_map sent_words l.list) (drop n was) n (sym l.count) in
    let back : drop (n + 9) is ≡ drop (n + 9) was =
    sym (drop-drop 9 n is) ∙ ap (drop 9) (ap (drop n) l.written ∙ drop_at (flat_map sent_words l.list) (drop n was) n (sym l.count)) ∙ drop-drop 9 n was in
    let len = length-append (flat_map sent_words l.list) (sent_words x) in
    record {
      list = l.list ++ (x ∷ []);
      ascending = subst Ascending (sym push) (ascending_push (frames_of l.list) t l.ascending up);
      weighed = λ y i. elim (in_push_cases y x l.list i) [
        | inl m ↦ l.weighed y m
        | inr m ↦ ap (λ z. z.weight) m ∙ ap value_of (v ∙ ap (λ z. weight_in o z.frame o.zero xs) (sym m))
      ];
      only = λ u i. elim (in_push_cases u t (frames_of l.list) (subst (In u) push i)) [
        | inl m ↦ l.only u m
        | inr m ↦ subst (λ (y : List ℕ). In y (frames_of xs)) (sym m) e.sent
      ];
      bound = λ u i. elim (in_push_cases u t (frames_of l.list) (subst (In u) push i)) [
        | inl m ↦ asymmetric u t (up u m)
        | inr m ↦ subst (λ (y : List ℕ). before t y ≡ false) (sym m) (irreflexive t)
      ];
      every = λ u i b. subst (In u) (sym push) (elim (cases_Bool (above last u)) [
        | inl a ↦ subst (λ (y : List ℕ). In y (frames_of l.list ++ (t ∷ []))) (connected t u b (e.least u i a)) (in_push t (frames_of l.list))
        | inr a ↦ in_left u (frames_of l.list) (t ∷ []) (l.every u i a)
      ]);
      nine = ap (λ k. k + 9) l.nine ∙ (let z : 9 * length l.list + 9 ≡ 9 * length (l.list ++ (x ∷ [])) = omega (arith, length-append l.list (x ∷ [])) in z);
      count = ap (λ k. k + 9) l.count ∙ ap (λ k. length (flat_map sent_words l.list) + k) (sym size) ∙ sym len ∙ ap length (sym more);
      written =
          h ∙ ap (λ y. y ++ (sent_words x ++ drop (n + 9) is)) front ∙
          ap (λ y. flat_map sent_words l.list ++ (sent_words x ++ y)) back ∙
          sym (append_assoc (flat_map sent_words l.list) (sent_words x) (drop (n + 9) was)) ∙
          ap (λ y. y ++ drop (n + 9) was) (sym more);
      fits = room;
    }

pub listed_full :
    (o : Ops) (xs : List Sent) (last : Option (List ℕ)) (was : List ℕ) (n : ℕ) (is t : List ℕ) →
    Listed o xs last was n is →
    IsNext last xs t →
    length was < n + 9 →
    RowFull xs (length was)
listed_full o xs last was n is t l e small =
    let up : (u : List ℕ) → In u (frames_of l.list) → before u t ≡ true = (λ u i. above_between last t u e.after (l.bound u i)) in
    record {
      frames = frames_of l.list ++ (t ∷ []);
      ascending = ascending_push (frames_of l.list) t l.ascending up;
      only = λ u i. elim (in_push_cases u t (frames_of l.list) i) [
        | inl m ↦ l.only u m
        | inr m ↦ subst (λ (y : List ℕ). In y (frames_of xs)) (sym m) e.sent
      ];
      many = omega (arith, l.nine, length-append (frames_of l.list) (t ∷ []), length-map l.list (λ (x : Sent). x.frame));
    }

pub listed_all :
    (o : Ops) (xs : List Sent) (last : Option (List ℕ)) (was : List ℕ) (n : ℕ) (is : List ℕ) →
    Listed o xs last was n is →
    Next last xs None →
    RowSent o xs was n is
listed_all o xs last was n is l e =
    record {
      list = l.list;
      ascending = l.ascending;
      weighed = l.weighed;
      only = l.only;
      every = λ t i. l.every t i (e t i);
      count = l.count;
      written = l.written;
      fits = l.fits;
    }
