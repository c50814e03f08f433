-- What is remembered stays true.
use Rattle.std.specs.List.{slice_get}
use Rattle.std.specs.Option.{IfSome}
use Rattle.std.specs.Result.{result_ok, MatchResult}
use Rattle.std.proofs.Common.{slice_set}
use Rattle.records.specs.Words.{word_of}
use Rattle.records.proofs.Alike.{its_word}
use Rattle.std.proofs.Math.ListN.{replicate}
use Rattle.std.proofs.Common.{◌≡◌, ℕ, zero, suc, ◌⊎◌, List, [], ◌∷◌, Some, None, Option, Ok, Err, Result, OnOk, sym, refl, ap, ◌∙◌, subst, inl, inr}
use Rattle.weights.specs.Weights.{Ops}
use Rattle.weights.specs.Order.{In}
use Rattle.meaning.specs.Leaves.{Cell as MCell, Each}
use Rattle.meaning.proofs.Starring.{each_in}
use Rattle.requests.specs.Requests.{Request, leaf_records}
use Rattle.requests.specs.Claims.{Construction}
use Rattle.requests.specs.Again.{RecordRemade}
use Rattle.requests.proofs.Again.{record_more, leaf_remade}
use Rattle.faults.specs.declared.layers.StoreFault.{StoreFault}
use Rattle.records.specs.declared.kinds.Diagram.{Diagram}
use Rattle.counts.specs.declared.counts.Counts.{Counts}
use Rattle.engine.specs.declared.memory.Stores.{Stores}
use Rattle.engine.specs.declared.memo.Entry.{Entry}
use Rattle.engine.specs.declared.memo.PackedEntry.{PackedEntry}
use Rattle.engine.specs.declared.memo.Operation.{Operation}
use Rattle.engine.specs.declared.memo.Operation.TheVariants.{Narrow, Join, Choose, Prefix, Sequence, Not}
use Rattle.engine.specs.Built.{some_or, numbered_or}
use Rattle.engine.specs.State.{State, Present, Names, Has, Grown}
use Rattle.engine.specs.Cells.{LeavesFormed}
use Rattle.engine.specs.Done.{SoundStores, Done, Added}
use Rattle.engine.specs.Memo.{Written, asked_for, Fits, Remembered, Remembers, AllRemade, Noted, Recalled, packed_entry}
use Rattle.engine.proofs.Numbers.{each_map, or_grown}
use Rattle.engine.proofs.Composing.{names_grown, has_grown, same_diagram, present_grown, grown_refl, complete, kept_refl}
use Rattle.engine.proofs.Alike.{narrows_alike, joins_alike, chooses_alike, prefixes_alike, sequences_alike, negates_alike}
use Rattle.engine.proofs.Reading.{longer_still}
use Rattle.engine.proofs.NarrowRules.{here}

module _ {s s' : State} (g : Grown s s') where
  fits_grown : (x : Operation) → Fits s x → Fits s' x
  fits_grown (Narrow t) h = tt
  fits_grown Join h = tt
  fits_grown (Choose t) h = tt
  fits_grown (Prefix a m) h = longer_still g a.number h
  fits_grown Sequence h = tt
  fits_grown Not h = tt

  -- in stores that have grown the same was asked for
  asked_grown : (o : Ops) (x : Operation) (v w : Diagram) → Fits s x → Present s v → Present s w → ◌≡◌ {A = Construction} (asked_for o s x v w) (asked_for o s' x v w)
  asked_grown o (Narrow t) v w f p q = narrows_alike o t.field t.value (sym (same_diagram g v p))
  asked_grown o Join v w f p q = joins_alike o (sym (same_diagram g v p)) (sym (same_diagram g w q))
  asked_grown o (Choose t) v w f p q = chooses_alike o t.field t.value (sym (same_diagram g v p)) (sym (same_diagram g w q))
  asked_grown o (Prefix a m) v w f p q = prefixes_alike o (sym (ap (λ l. numbered_or [] l a.number) g.actions_grown ∙ or_grown [] s.actions g.new_actions a.number f)) refl (sym (same_diagram g v p))
  asked_grown o Sequence v w f p q = sequences_alike o (sym (same_diagram g w q)) (sym (same_diagram g v p))
  asked_grown o Not v w f p q = negates_alike o (sym (same_diagram g v p))

  remembered_grown : (o : Ops) (e : Entry) → Remembered o s e → Remembered o s' e
  remembered_grown o e r =
      record {
        fits = fits_grown e.operation r.fits;
        left_present = present_grown g e.left r.left_present;
        right_present = present_grown g e.right r.right_present;
        out = r.out;
        result_names = names_grown g r.result_names;
        asks = r.asks;
        by_the_rules = subst (λ (R : Construction). R r.out r.asks) (asked_grown o e.operation e.left e.right r.fits r.left_present r.right_present) r.by_the_rules;
        held = each_map (has_grown g) r.asks r.held;
      }

  pub remembers_grown : (o : Ops) (l : List (Option PackedEntry)) → LeavesFormed o s' → AllRemade o s' → Remembers o s l → Remembers o s' l
  remembers_grown o l f r m = (f, λ e h. remembered_grown o e (m.1 e h), r)

-- nodes are made again where those asked for are
pub remade_after : {o : Ops} {s s' : State} {a : List Request} → Added s a s' → AllRemade o s → Each (RecordRemade o (Has s')) a → AllRemade o s'
remade_after {o} {s} {s'} {a} g h f = λ q m. go q (g.nothing_else q m)
  where
    go : (q : Request) → Has s q ⊎ In q a → RecordRemade o (Has s') q
    go q (inl k) = record_more (has_grown g.grown) o q (h q k)
    go q (inr k) = each_in (RecordRemade o (Has s')) a f q k

pub leaf_asks : (o : Ops) (H : Request → Type 0) (l : List MCell) {a : List Request} → a ≡ leaf_records l → Each (RecordRemade o H) a
leaf_asks o H l e = subst (λ (x : List Request). Each (RecordRemade o H) x) (sym e) (leaf_remade o H l)

module _ {o : Ops} where
  -- what does not touch the memo keeps it
  pub memo_keeps :
      {c c' : Counts} {s s' : Stores} {R : Construction} (l : List (Option PackedEntry)) (result : Result Diagram StoreFault) →
      Remembers o (here c s) l →
      OnOk result (LeavesFormed o (here c' s')) →
      (d : Done R c s c' s' result) →
      OnOk result (Each (RecordRemade o (Has (here c' s'))) d.asks) →
      OnOk result (Remembers o (here c' s') l)
  memo_keeps l (Ok w) m f d e = remembers_grown d.made.added.grown o l f (remade_after d.made.added m.2 e) m
  memo_keeps l (Err e) m f d r = tt

  pub leaf_keeps :
      {c c' : Counts} {s s' : Stores} {R : Construction} (l : List (Option PackedEntry)) (result : Result Diagram StoreFault) →
      Remembers o (here c s) l →
      OnOk result (LeavesFormed o (here c' s')) →
      (d : Done R c s c' s' result) →
      Each (RecordRemade o (Has (here c' s'))) d.asks →
      OnOk result (Remembers o (here c' s') l)
  leaf_keeps l (Ok w) m f d e = memo_keeps l (Ok w) m f d e
  leaf_keeps l (Err e) m f d r = tt

  -- what is remembered is done
  pub recalled :
      {c : Counts} {s : Stores} (l : List (Option PackedEntry)) (x : Operation) (left right : Diagram) {w : Diagram} →
      SoundStores c s →
      Remembers o (here c s) l →
      Recalled l x left right w →
      Done (asked_for o (here c s) x left right) c s c s (Ok w)
  recalled {c} {s} l x left right {w} g m r =
      let R = m.1 r.entry r.written in
      complete R.asks
      (record { good = g; added = record { grown = grown_refl (here c s); asked = R.held; nothing_else = λ q h. inl h }; kept = kept_refl c s })
      refl
      (subst (λ (y : Diagram). Names (here c s) y R.out) r.its_result R.result_names)
      (subst (λ (K : Construction). K R.out R.asks) (λ i. asked_for o (here c s) (r.its_operation i) (r.its_left i) (r.its_right i)) R.by_the_rules)

  -- what is done may be noted
  pub noted :
      {c c' : Counts} {s s' : Stores} (l l' : List (Option PackedEntry)) (x : Operation) (left right w : Diagram) →
      Fits (here c s) x →
      Present (here c s) left →
      Present (here c s) right →
      Remembers o (here c' s') l →
      Done (asked_for o (here c s) x left right) c s c' s' (Ok w) →
      Noted l (record { operation = x; left = left; right = right; result = w }) l' →
      Remembers o (here c' s') l'
  noted {c} {c'} {s} {s'} l l' x left right w f p q m d n = (m.0, λ e h. go e (n e h), m.2)
    where
      g : Grown (here c s) (here c' s')
      g = d.made.added.grown

      go : (e : Entry) → Written l e ⊎ (e ≡ record { operation = x; left = left; right = right; result = w }) → Remembered o (here c' s') e
      go e (inl k) = m.1 e k
      go e (inr k) =
          subst (λ (y : Entry). Remembered o (here c' s') y) (sym k)
          (record {
            fits = fits_grown g x f;
            left_present = present_grown g left p;
            right_present = present_grown g right q;
            out = d.out;
            result_names = d.made.names;
            asks = d.asks;
            by_the_rules = subst (λ (K : Construction). K d.out d.asks) (asked_grown g o x left right f p q) d.by_the_rules;
            held = d.made.added.asked;
          })

pub none_written : (n i : ℕ) (e : Entry) → slice_get (replicate {A = Option PackedEntry} n None) i ≡ Some (Some (packed_entry e)) → ⊥
none_written zero i e h = cc
none_written (suc n) zero e h = cc
none_written (suc n) (suc i) e h = none_written n i e h

-- what is in a place after one place was written
after_writing : {A : Type 0} (l : List A) (i j : ℕ) (x y : A) → slice_get (slice_set l i x) j ≡ Some y → (slice_get l j ≡ Some y) ⊎ (y ≡ x)
after_writing [] i j x y h = inl h
after_writing (a ∷ l) zero zero x y h = inr (sym (ap (some_or y) h))
after_writing (a ∷ l) zero (suc j) x y h = inl h
after_writing (a ∷ l) (suc i) zero x y h = inl h
after_writing (a ∷ l) (suc i) (suc j) x y h = after_writing l i j x y h

-- entries that lie in memory alike are the same
entries_apart : (e f : Entry) → packed_entry f ≡ packed_entry e → f ≡ e
entries_apart e f h =
    let l : f.left ≡ e.left = (its_word e.left _ refl).alone f.left (ap (λ (p : PackedEntry). p.left) h) in
    let r : f.right ≡ e.right = (its_word e.right _ refl).alone f.right (ap (λ (p : PackedEntry). p.right) h) in
    let w : f.result ≡ e.result = (its_word e.result _ refl).alone f.result (ap (λ (p : PackedEntry). p.result) h) in
    λ i. record { operation = (h i).operation; left = l i; right = r i; result = w i }

pub noted_in : (l : List (Option PackedEntry)) (i : ℕ) (e : Entry) (p : PackedEntry) → p ≡ packed_entry e → Noted l e (slice_set l i (Some p))
noted_in l i e p k f (j, h) = choose_way (after_writing l i j (Some p) (Some (packed_entry f)) h)
  where
    choose_way : (slice_get l j ≡ Some (Some (packed_entry f))) ⊎ (Some (packed_entry f) ≡ Some p) → Written l f ⊎ (f ≡ e)
    choose_way (inl h) = inl (j, h)
    choose_way (inr h) = inr (entries_apart e f (ap (some_or p) h ∙ k))

-- what a place holds is recalled, where its word is one
pub read_back :
    {E : Type 0} (Q : E → Type 0) (l : List (Option PackedEntry)) (i : ℕ) (p : PackedEntry) (x : Operation) (left right : Diagram) (r : Result Diagram E) →
    slice_get l i ≡ Some (Some p) →
    p.operation ≡ x →
    p.left ≡ word_of left →
    p.right ≡ word_of right →
    MatchResult r (λ d. word_of d ≡ p.result) Q →
    IfSome (result_ok r) (λ w. Recalled l x left right w)
read_back Q l i p x left right (Ok d) h a b c k =
    record {
      entry = record { operation = p.operation; left = left; right = right; result = d };
      written = (i, h ∙ ap (λ (q : PackedEntry). Some (Some q)) (λ j. record { operation = p.operation; left = b j; right = c j; result = sym k j }));
      its_operation = a;
      its_left = refl;
      its_right = refl;
      its_result = refl;
    }
read_back Q l i p x left right (Err e) h a b c k = tt
