-- What stands on a page, and what becomes of the memory that was lent for it.
use Rattle.std.specs.Prelude.{◌≡◌, ℕ, ◌+◌, ◌-◌, ◌^◌, ◌≤◌, ◌<◌, min, List, ◌++◌, length, take, drop, Ok, Err, Result}
use Rattle.pages.specs.declared.page.Page.{Page}

-- the greatest number that a size can be
abbrev pub most : ℕ
most = 2 ^ 64 - 1

-- memory with a text over its front, as much of it as fits
unfoldable pub over : List ℕ → List ℕ → List ℕ
over text memory = take (length memory) text ++ drop (length text) memory

-- a page on which a text is said behind what was said before
pub record Says (old : Page) (text : List ℕ) (new : Page) : Type 0 where
  pub count : new.said ≡ min most (old.said + length text)
  pub memory : new.memory.now ≡ take old.said old.memory.now ++ over text (drop old.said old.memory.now)
  pub lender : new.memory.ghost_name ≡ old.memory.ghost_name

-- all that was said, if it fits, and otherwise how much memory would have been enough
pub data Answered (said room : ℕ) : Result ℕ ℕ → Type 0 where
  all : said ≤ room → Answered said room (Ok said)
  part : room < said → Answered said room (Err said)

-- A text in lent memory: all of it, and what it does not need stays as it was; or as much as fits, and the answer says how long
-- the text is, or that it is longer than any memory.
pub data Printed (text memory : List ℕ) : Result ℕ ℕ → List ℕ → Type 0 where
  fits : length text ≤ length memory → Printed text memory (Ok (length text)) (text ++ drop (length text) memory)
  short : length memory < length text → Printed text memory (Err (min most (length text))) (take (length memory) text)

-- something of which this holds is said on a page
abbrev pub SaysSome : (List ℕ → Type 0) → Page → Page → Type 0
SaysSome P old new = (text : List ℕ) × P text × Says old text new

-- something of which this holds stands in lent memory, or as much of it as fits
abbrev pub PrintedSome : (List ℕ → Type 0) → List ℕ → Result ℕ ℕ → List ℕ → Type 0
PrintedSome P was r is = (text : List ℕ) × P text × Printed text was r is
