use Rattle.std.proofs.Common.{◌≡◌, ◌+◌, ◌++◌, take, length}
use Rattle.std.specs.Slice.Iter.{chunks_rest, chunks_size}
use Rattle.replays.specs.Bytes.{words_of}
use Rattle.replays.proofs.words.read_words.Given as goal

abbrev pub invariant-loop-four : goal.invariant-loop-four
invariant-loop-four l =
    record {
      can_next : goal.iterator-loop-four.can_next l.four-iterator;
      is_finite : goal.iterator-loop-four.is_finite l.four-iterator;
      size : chunks_size l.four-iterator ≡ 4;
      room : l.count + length (words_of (chunks_rest l.four-iterator)) ≡ length l.words;
      read : take l.count l.words ++ words_of (chunks_rest l.four-iterator) ≡ words_of l.bytes;
    }
