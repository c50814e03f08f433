use Rattle.std.proofs.Common.{◌≡◌, ◌∷◌, [], ◌++◌, length, take, min, sym, ap, ◌∙◌, append_assoc, append-nil, arith, length-set}
use Rattle.std.specs.Slice.Iter.{chunks_rest}
use Rattle.std.proofs.lemmas.List.{nil_from_length, take_all, take_more_set}
use Rattle.replays.specs.Bytes.{words_of}
use Rattle.replays.proofs.FileWords.{first_word}
use Rattle.replays.proofs.words.read_words.Goals as goal

first : (c : goal.After-word_of) → words_of (chunks_rest c.loop-four.four-iterator) ≡ c.word_of.result ∷ words_of (chunks_rest c.next.new.self)
first c =
    let steps = c.in-Some.ensures.steps
    in let size = steps.1.1 ∙ ap (λ n. min n (length (chunks_rest c.loop-four.four-iterator))) c.loop-four.invariant.size
    in ap words_of steps.1.0
    ∙ first_word
    c.in-Some.four.now
    (chunks_rest c.next.new.self)
    c.word_of.result
    (size ∙ ap (λ ws. min 4 (length ws)) steps.1.0)
    (rw (← steps.1.0) steps.1.2)
    c.word_of.ensures

pub bounds-words-count : goal.bounds-words-count
bounds-words-count c = omega (arith, c.loop-four.invariant.room, ap length (first c))

pub loop-four-preserved : goal.loop-four-preserved
loop-four-preserved c =
    let known = c.loop-four.invariant
    in let steps = c.in-Some.ensures.steps
    in let count = c.loop-four.count
    in let words = c.loop-four.words
    in let left = words_of (chunks_rest c.next.new.self)
    in record {
      can_next = omega (arith, steps.0, known.size);
      is_finite = tt;
      size = steps.0 ∙ known.size;
      room = omega (arith, known.room, ap length (first c), length-set words count c.word_of.result);
      read =
          ap (λ ws. ws ++ left) (take_more_set words count c.word_of.result (bounds-words-count c))
          ∙ append_assoc (take count words) (c.word_of.result ∷ []) left
          ∙ ap (λ ws. take count words ++ ws) (sym (first c))
          ∙ known.read;
    }

pub returns : goal.returns
returns c =
    let none = nil_from_length (chunks_rest c.loop-four.four-iterator) c.in-None.ensures.steps.1.0
    in let known = c.loop-four.invariant
    in let full : length c.loop-four.words ≡ c.loop-four.count = omega (arith, known.room, ap (λ bs. length (words_of bs)) none)
    in sym (take_all c.loop-four.count c.loop-four.words (omega arith))
    ∙ sym (append-nil (take c.loop-four.count c.loop-four.words))
    ∙ ap (λ bs. take c.loop-four.count c.loop-four.words ++ words_of bs) (sym none)
    ∙ known.read
