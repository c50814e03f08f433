-- The memory of a replay, and what becomes of it.
use Rattle.std.specs.Prelude.{◌≡◌, ℕ, ◌+◌, ◌*◌, ◌<◌, ◌≤◌, min, List, [], length, Ok, Err, Result, MatchResult}
use Rattle.weights.specs.Weights.{Ops}
use Rattle.tables.specs.Emits.{sent_length}
use Rattle.tables.specs.Rows.{LegalTable}
use Rattle.pages.specs.declared.page.Page.{Page}
use Rattle.pages.specs.Pages.{most, SaysSome, PrintedSome}
use Rattle.replays.specs.declared.NoRoom.{NoRoom}
use Rattle.replays.specs.declared.short.Short.{Short}
use Rattle.replays.specs.declared.short.Short.TheVariants.{Words, Bytes}
use Rattle.replays.specs.Bytes.{words_of}
use Rattle.replays.specs.Replays.{LinesBehind, Record}

-- how many words the table and the frames take
abbrev pub wanted : List ℕ → List ℕ → ℕ
wanted table frames = length (words_of table) + length (words_of frames)

-- how many words are enough: those of the table and of the frames, and for each of the table the room of one emitted frame
abbrev pub enough : List ℕ → List ℕ → ℕ
enough table frames = length (words_of table) * (sent_length + 1) + length (words_of frames)

-- what becomes of a record with these first lines that needs so many words of room where so many are left: it is said, or the
-- table is legal, there are too few, and nothing is said
abbrev pub SaysRecord : Ops → List ℕ → List ℕ → List ℕ → ℕ → ℕ → Page → Result Unit NoRoom → Page → Type 0
SaysRecord o first table frames needs room old r new =
    MatchResult r (λ _. (LegalTable o table → needs ≤ room) × SaysSome (LinesBehind o first table frames) old new)
    (λ _. LegalTable o table × (room < needs) × (new ≡ old))

-- a length, or the bytes that would be enough
abbrev pub of_bytes : Result ℕ ℕ → Result ℕ Short
of_bytes (Ok n) = Ok n
of_bytes (Err n) = Err (Bytes n)

-- the record is printed, or there are too few words for it, and then nothing is
pub data Replayed (o : Ops) (table frames : List ℕ) (room : ℕ) (was : List ℕ) : Result ℕ Short → List ℕ → Type 0 where
  -- too few for the two files, or for what a legal table emits
  few_words :
      room < enough table frames →
      (wanted table frames ≤ room → LegalTable o (words_of table)) →
      Replayed o table frames room was (Err (Words (min most (enough table frames)))) was
  -- enough for the two files, and for what a legal table emits
  printed :
      {r : Result ℕ ℕ} {is : List ℕ} →
      wanted table frames ≤ room →
      (LegalTable o (words_of table) → enough table frames ≤ room) →
      PrintedSome (Record o (words_of table) (words_of frames)) was r is →
      Replayed o table frames room was (of_bytes r) is

-- how long a record without its first lines is, as far as a number can say it, or none where there are too few words
pub data LinesLength (o : Ops) (table frames : List ℕ) (room : ℕ) : ℕ → Type 0 where
  none : room < enough table frames → (wanted table frames ≤ room → LegalTable o (words_of table)) → LinesLength o table frames room 0
  measured :
      {text : List ℕ} →
      wanted table frames ≤ room →
      (LegalTable o (words_of table) → enough table frames ≤ room) →
      LinesBehind o [] (words_of table) (words_of frames) text →
      LinesLength o table frames room (min most (length text))
