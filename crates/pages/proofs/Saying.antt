-- What is said on a page in several steps.
use Rattle.std.proofs.Common.{◌≡◌, ℕ, ◌+◌, ◌-◌, ◌<◌, ◌≤◌, min, List, [], ◌++◌, length, take, drop, set, ◌∷◌, Result, Ok, Err, IfOk, refl, ap, sym, ◌∙◌, inl, inr, arith, length-append, subst}
use Rattle.std.proofs.lemmas.Bool.{cases_lt}
use Rattle.std.proofs.lemmas.List.{take_all, drop_all, append-nil, length-drop}
use borrow.Rule.Slice.PartMut.{put_mid}
use Rattle.pages.specs.declared.page.Page.{Page}
use Rattle.pages.specs.Pages.{most, over, Says, Answered, Printed}
use Rattle.pages.specs.Pages.Answered.{all, part}
use Rattle.pages.specs.Pages.Printed.{fits, short}
use Rattle.pages.proofs.Onto.{onto, from_front, from_place, onto_length, onto_append, onto_past, onto_nothing, onto_one}

stands : {a b : Page} {x : List ℕ} → Says a x b → b.memory.now ≡ onto a.said x a.memory.now
stands {a} {b} {x} s = s.memory ∙ from_place a.said x a.memory.now

-- nothing
pub nothing : (a : Page) → Says a [] a
nothing a = record {
  count = omega (arith, a.counted);
  memory = sym (from_place a.said [] a.memory.now ∙ onto_nothing a.said a.memory.now);
  lender = refl;
}

stands_both :
    (n k : ℕ) (x y m : List ℕ) → length m ≤ most → k ≡ min most (n + length x) → onto k y (onto n x m) ≡ onto n (x ++ y) m
stands_both n k x y m small e = elim (cases_lt most (n + length x)) [
  | inl far ↦
      let end : k ≡ most = omega arith
      in let past : length (onto n x m) ≤ k = omega (arith, onto_length n x m)
      in let also : length (onto n x m) ≤ n + length x = omega (arith, onto_length n x m)
      in onto_past k y (onto n x m) past ∙ sym (onto_past (n + length x) y (onto n x m) also) ∙ onto_append n x y m
  | inr near ↦
      let place : k ≡ n + length x = omega arith
      in ap (λ i. onto i y (onto n x m)) place ∙ onto_append n x y m
]

-- one text and then another
infixr 10 ◌>>◌
pub ◌>>◌ : {a b c : Page} {x y : List ℕ} → Says a x b → Says b y c → Says a (x ++ y) c
◌>>◌ {a} {b} {c} {x} {y} s t = record {
  count = omega (arith, s.count, t.count, length-append x y);
  memory =
      stands t
      ∙ ap (λ m. onto b.said y m) (stands s)
      ∙ stands_both a.said b.said x y a.memory.now (omega (arith, a.small)) s.count
      ∙ sym (from_place a.said (x ++ y) a.memory.now);
  lender = t.lender ∙ s.lender;
}

-- the same text in another form
pub says_of_eq : {a b : Page} {x y : List ℕ} → x ≡ y → Says a x b → Says a y b
says_of_eq {a} {b} e s = subst (λ t. Says a t b) e s

-- one byte
pub one :
    (a b : Page) (n : ℕ) →
    b.said ≡ min (a.said + 1) most →
    b.memory.now ≡ set a.memory.now a.said n →
    b.memory.ghost_name ≡ a.memory.ghost_name →
    Says a (n ∷ []) b
one a b n count stored name = record {
  count = omega (arith, count);
  memory = stored ∙ sym (onto_one a.said n a.memory.now) ∙ sym (from_place a.said (n ∷ []) a.memory.now);
  lender = name;
}

printed_of_eq :
    {text memory is also : List ℕ} {r q : Result ℕ ℕ} →
    r ≡ q →
    is ≡ also →
    Printed text memory r is →
    Printed text memory q also
printed_of_eq {text} {memory} {is} {also} {r} {q} e f p =
    subst (λ t. Printed text memory q t) f (subst (λ a. Printed text memory a is) e p)

all_of_it : (text memory : List ℕ) → length text ≤ length memory → over text memory ≡ text ++ drop (length text) memory
unfolding over
all_of_it text memory room = ap (λ t. t ++ drop (length text) memory) (take_all (length memory) text room)

part_of_it : (text memory : List ℕ) → length memory ≤ length text → over text memory ≡ take (length memory) text
unfolding over
part_of_it text memory room =
    ap (λ t. take (length memory) text ++ t) (drop_all (length text) memory room) ∙ append-nil (take (length memory) text)

-- a place that a page's end bounds parts the memory as the place itself does
parts_alike : (n start : ℕ) (m : List ℕ) → start ≡ min n (length m) → (take start m ≡ take n m) × (drop start m ≡ drop n m)
parts_alike n start m e = elim (cases_lt (length m) n) [
  | inl far ↦
      let end : start ≡ length m = omega arith
      in (take_all start m (omega arith) ∙ sym (take_all n m (omega arith)), drop_all start m (omega arith) ∙ sym (drop_all n m (omega arith)))
  | inr near ↦ let place : start ≡ n = omega arith in (ap (λ i. take i m) place, ap (λ i. drop i m) place)
]

-- as many bytes as there is room for, from a place on
pasted :
    (a b : Page) (bytes ys : List ℕ) (start k : ℕ) →
    start ≡ min a.said (length a.memory.now) →
    b.said ≡ min (a.said + length bytes) most →
    ys ++ drop k (drop start a.memory.now) ≡ over bytes (drop start a.memory.now) →
    b.memory.now ≡ put_mid start k a.memory.now ys →
    b.memory.ghost_name ≡ a.memory.ghost_name →
    Says a bytes b
pasted a b bytes ys start k from count same_part stored name =
    let p = parts_alike a.said start a.memory.now from
    in record {
      count = omega (arith, count);
      memory =
          stored
          ∙ ap (λ t. take start a.memory.now ++ t) same_part
          ∙ ap (λ t. t ++ over bytes (drop start a.memory.now)) p.0
          ∙ ap (λ t. take a.said a.memory.now ++ over bytes t) p.1;
      lender = name;
    }

-- bytes for which there is room
pub copied :
    (a b : Page) (bytes ys : List ℕ) (start k : ℕ) →
    start ≡ min a.said (length a.memory.now) →
    length bytes ≤ length a.memory.now - start →
    k ≡ length bytes →
    ys ≡ bytes →
    b.said ≡ min (a.said + length bytes) most →
    b.memory.now ≡ put_mid start k a.memory.now ys →
    b.memory.ghost_name ≡ a.memory.ghost_name →
    Says a bytes b
copied a b bytes ys start k from room size same count stored name =
    let rest = drop start a.memory.now
    in let fits : length bytes ≤ length rest = omega (arith, length-drop start a.memory.now)
    in let same_part : ys ++ drop k rest ≡ over bytes rest =
    ap (λ t. t ++ drop k rest) same ∙ ap (λ n. bytes ++ drop n rest) size ∙ sym (all_of_it bytes rest fits)
    in pasted a b bytes ys start k from count same_part stored name

-- more bytes than there is room for
pub cut_off :
    (a b : Page) (bytes ys : List ℕ) (start k : ℕ) →
    start ≡ min a.said (length a.memory.now) →
    length a.memory.now - start ≤ length bytes →
    k ≡ length a.memory.now - start →
    ys ≡ take (length a.memory.now - start) bytes →
    b.said ≡ min (a.said + length bytes) most →
    b.memory.now ≡ put_mid start k a.memory.now ys →
    b.memory.ghost_name ≡ a.memory.ghost_name →
    Says a bytes b
cut_off a b bytes ys start k from room size same count stored name =
    let rest = drop start a.memory.now
    in let left : length rest ≡ length a.memory.now - start = length-drop start a.memory.now
    in let same_part : ys ++ drop k rest ≡ over bytes rest =
    ap (λ t. ys ++ t) (drop_all k rest (omega arith))
    ∙ append-nil ys
    ∙ same
    ∙ ap (λ n. take n bytes) (sym left)
    ∙ sym (part_of_it bytes rest (omega arith))
    in pasted a b bytes ys start k from count same_part stored name

finished :
    {a b : Page} {text : List ℕ} {r : Result ℕ ℕ} →
    a.said ≡ 0 →
    Says a text b →
    Answered b.said (length b.memory.now) r →
    Printed text a.memory.now r b.memory.now
finished {a} {b} {text} blank s (all room) =
    let stays = ap length (stands s) ∙ onto_length a.said text a.memory.now
    in let size : b.said ≡ length text = omega (arith, s.count, b.small, stays)
    in let is = stands s ∙ ap (λ n. onto n text a.memory.now) blank ∙ sym (from_front text a.memory.now)
    in let fits : length text ≤ length a.memory.now = omega arith
    in printed_of_eq (ap (λ n. Ok n) (sym size)) (sym (is ∙ all_of_it text a.memory.now fits)) (Printed.fits fits)
finished {a} {b} {text} blank s (part room) =
    let stays = ap length (stands s) ∙ onto_length a.said text a.memory.now
    in let size : b.said ≡ min most (length text) = omega (arith, s.count)
    in let is = stands s ∙ ap (λ n. onto n text a.memory.now) blank ∙ sym (from_front text a.memory.now)
    in let short : length a.memory.now < length text = omega (arith, stays)
    in printed_of_eq
    (ap (λ n. Err n) (sym size))
    (sym (is ∙ part_of_it text a.memory.now (omega arith)))
    (Printed.short short)

-- a page from its first byte to the answer, and the memory that was lent for it
pub printed :
    {a b : Page} {text was is : List ℕ} {r : Result ℕ ℕ} →
    a.said ≡ 0 →
    a.memory.now ≡ was →
    Says a text b →
    Answered b.said (length b.memory.now) r →
    b.memory.now ≡ is →
    Printed text was r is
printed {b} {text} {is} {r} blank before s answer after =
    printed_of_eq refl after (subst (λ m. Printed text m r b.memory.now) before (finished blank s answer))

-- one text has one answer, and leaves one memory
pub printed_once :
    (text memory is also : List ℕ) (r q : Result ℕ ℕ) → Printed text memory r is → Printed text memory q also → (q ≡ r) × (also ≡ is)
printed_once text memory is also r q (fits a) (fits b) = (refl, refl)
printed_once text memory is also r q (short a) (short b) = (refl, refl)
printed_once text memory is also r q (fits a) (short b) = absurd (omega arith)
printed_once text memory is also r q (short a) (fits b) = absurd (omega arith)

-- what stands there does not pass the memory
pub printed_within : {text was is : List ℕ} {r : Result ℕ ℕ} → Printed text was r is → IfOk r (λ n. n ≤ length was)
printed_within (fits room) = room
printed_within (short room) = tt
