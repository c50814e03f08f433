-- The frame that tells two diagrams apart, in range. Assumes nothing.
use Rattle.std.proofs.Common.{◌≡◌, ℕ, zero, suc, ◌+◌, ◌<◌, ◌≤◌, ◌≢◌, List, [], ◌∷◌, length, get_or, Some, None, Option, sym, refl, ◌∙◌, subst, arith}
use native.Mathlib.Decide.{dec_lt}
use lib.LanesLaws.{length-zip2}
use Rattle.format.specs.Fields.{fields, range, LegalValue}
use Rattle.format.specs.Actions.{apply, replaced, LegalSet}
use Rattle.weights.specs.Weights.{Ops, Laws}
use Rattle.meaning.specs.Leaves.{Action, Frame, ActionFormed}
use Rattle.meaning.specs.Diagrams.{Diagram, Leaf, Node, equal_diagrams, weigh, SetsOf, Cells, Formed, extent}
use Rattle.weights.specs.Order.{In}
use Rattle.meaning.specs.Frames.{InRange, Spare, Named, ToldApart}
use Rattle.meaning.proofs.Gathering.{each_map}
use Rattle.meaning.proofs.Narrowing.{none_some, tests_map, tests_both, cells_map, sets_map, sets_both}
use Rattle.meaning.proofs.Splitting.{formed_tests_legal}
use Rattle.meaning.proofs.Canonicity.{Fresh, Told, tell, spare, listed, length_listed, get_or-listed}

pub get_d_some : (a : Action) (f n : ℕ) → get_or a f None ≡ Some n → f < length a
get_d_some [] f n e = none_some n e
get_d_some (x ∷ a) zero n e = omega arith
get_d_some (x ∷ a) (suc f) n e = next (get_d_some a f n e)
  where
    next : f < length a → suc f < suc (length a)
    next z = omega arith

pub formed_sets_legal : (a : Action) → ActionFormed a → SetsOf (λ f n. (f < fields) × LegalValue f n) a
formed_sets_legal a h f n e = (subst (λ (k : ℕ). f < k) h.all_fields l, subst (LegalSet f) e (h.legal f l))
  where
    l : f < length a
    l = get_d_some a f n e

pub formed_cells : (o : Ops) (d : Diagram) → Formed o d → Cells (λ c. ActionFormed c.0) d
formed_cells o (Leaf l) h = each_map (λ c k. k.action) l h.cells
formed_cells o (Node f n y z) h = (formed_cells o y h.1, formed_cells o z h.2)

pub get_or-apply : (a : Action) (s : Frame) (f : ℕ) → f < length a → f < length s → get_or (apply a s) f 0 ≡ replaced (get_or a f None) (get_or s f 0)
get_or-apply [] s f p q = absurd (nothing p)
  where
    nothing : f < 0 → ⊥
    nothing z = omega arith
get_or-apply (x ∷ a) [] f p q = absurd (nothing q)
  where
    nothing : f < 0 → ⊥
    nothing z = omega arith
get_or-apply (x ∷ a) (v ∷ s) zero p q = refl
get_or-apply (x ∷ a) (v ∷ s) (suc f) p q = get_or-apply a s f (lower p) (lower q)
  where
    lower : {m : ℕ} → suc f < suc m → f < m
    lower z = omega arith

pub apply_in_range : (a : Action) (s : Frame) → ActionFormed a → InRange s → InRange (apply a s)
apply_in_range a s h k =
    record {
      all_fields = length-zip2 replaced a s (h.all_fields ∙ sym k.all_fields) ∙ h.all_fields;
      legal = λ f l. subst (LegalValue f) (sym (get_or-apply a s f (within h.all_fields l) (within k.all_fields l))) (go f (get_or a f None) (h.legal f (within h.all_fields l)) (k.legal f l));
    }
  where
    within : {m f : ℕ} → m ≡ fields → f < fields → f < m
    within e l = omega arith

    go : (f : ℕ) (x : Option ℕ) → LegalSet f x → LegalValue f (get_or s f 0) → LegalValue f (replaced x (get_or s f 0))
    go f None p q = q
    go f (Some n) p q = p

-- for each field fewer names than the bound
module _ (names : ℕ → List ℕ) (bound : ℕ → ℕ) (enough : (f : ℕ) → f < fields → length (names f) < bound f) where
  fresh_value : (f : ℕ) → Dec (f < fields) → ℕ
  fresh_value f (yes l) = (spare (bound f) (names f) (enough f l)).0
  fresh_value f (no l) = 0

  fresh_frame : Frame
  fresh_frame = listed fields (λ f. fresh_value f (dec_lt f fields))

  fresh_long : length fresh_frame ≡ fields
  unfolding fresh_frame
  fresh_long = length_listed fields (λ f. fresh_value f (dec_lt f fields))

  fresh_there : (f : ℕ) → f < fields → (get_or fresh_frame f 0 < bound f) × (In (get_or fresh_frame f 0) (names f) → ⊥)
  unfolding fresh_frame fresh_value
  fresh_there f l = subst (λ (v : ℕ). (v < bound f) × (In v (names f) → ⊥)) (sym (get_or-listed fields (λ g. fresh_value g (dec_lt g fields)) f l)) (go (dec_lt f fields))
    where
      go : (d : Dec (f < fields)) → (fresh_value f d < bound f) × (In (fresh_value f d) (names f) → ⊥)
      go (yes k) = ((spare (bound f) (names f) (enough f k)).1, (spare (bound f) (names f) (enough f k)).2)
      go (no k) = absurd (k l)

  module _ {o : Ops} (L : Laws o) where
    fresh_for : (d : Diagram) → Formed o d → Named names d → Fresh fresh_frame d
    fresh_for d h k = (
      tests_map _ _ (λ f n z. one f n z.0 z.1.0) d (tests_both _ _ d k.tests (formed_tests_legal o d h)),
      sets_map _ _ (λ f n z. one f n z.0 z.1.0) d (sets_both _ _ d k.sets (cells_map _ _ (λ c i. formed_sets_legal c.0 i) d (formed_cells o d h))),
    )
      where
        one : (f n : ℕ) → In n (names f) → f < fields → get_or fresh_frame f 0 ≡ n → ⊥
        one f n i l e = (fresh_there f l).1 (subst (λ (v : ℕ). In v (names f)) (sym e) i)

    told : (d e : Diagram) → Formed o d → Formed o e → Named names d → Named names e → d ≢ e → Told o fresh_frame d e
    told d e p q i j h = tell L (extent d + extent e) d e fresh_frame (self (extent d + extent e)) p q fresh_long (fresh_for d p i) (fresh_for e q j) h
      where
        self : (n : ℕ) → n ≤ n
        self n = omega arith

module _ (names : ℕ → List ℕ) (enough : Spare names) {o : Ops} (L : Laws o) where
  pub canonical : (d e : Diagram) → Formed o d → Formed o e → Named names d → Named names e → d ≢ e → ToldApart o d e
  canonical d e p q i j h =
      record {
        arriving = T.s;
        leaving = apply T.action T.s;
        arriving_in_range = in_range;
        leaving_in_range = apply_in_range T.action T.s T.action_formed in_range;
        differ = T.differ;
      }
    where
      T : Told o (fresh_frame names range enough) d e
      T = told names range enough L d e p q i j h

      in_range : InRange T.s
      in_range =
          record {
            all_fields = T.long;
            legal = T.near LegalValue (λ f l. (fresh_there names range enough f l).0) (tests_map _ _ (λ f n k. k.1) d (formed_tests_legal o d p)) (tests_map _ _ (λ f n k. k.1) e (formed_tests_legal o e q));
          }

  -- formed diagrams that give equal weights to all frames in range are the same
  pub same_weights_same : (d e : Diagram) → Formed o d → Formed o e → Named names d → Named names e → ((s t : Frame) → InRange s → InRange t → weigh o d s t ≡ weigh o e s t) → d ≡ e
  same_weights_same d e p q i j h = go (equal_diagrams d e)
    where
      go : Dec (d ≡ e) → d ≡ e
      go (yes r) = r
      go (no r) = absurd (T.differ (h T.arriving T.leaving T.arriving_in_range T.leaving_in_range))
        where
          T : ToldApart o d e
          T = canonical d e p q i j r

-- formed diagrams that give equal weights to all frames, in range or not, are the same
pub same_weights_everywhere : (names : ℕ → List ℕ) {o : Ops} → Laws o → (d e : Diagram) → Formed o d → Formed o e → Named names d → Named names e → ((s t : Frame) → length s ≡ fields → weigh o d s t ≡ weigh o e s t) → d ≡ e
same_weights_everywhere names {o} L d e p q i j h = go (equal_diagrams d e)
  where
    more : (n : ℕ) → n < suc n
    more n = omega arith

    enough : (f : ℕ) → f < fields → length (names f) < suc (length (names f))
    enough f l = more (length (names f))

    go : Dec (d ≡ e) → d ≡ e
    go (yes r) = r
    go (no r) = absurd (T.differ (h T.s (apply T.action T.s) T.long))
      where
        T : Told o (fresh_frame names (λ f. suc (length (names f))) enough) d e
        T = told names (λ f. suc (length (names f))) enough L d e p q i j r
