-- The limits of policies and of their texts, each named once.
use Rattle.std.specs.Prelude.{ℕ}

-- a text has at most this many bytes
abbrev pub text_limit : ℕ
text_limit = 16384

-- a policy has at most this many words
abbrev pub words_limit : ℕ
words_limit = 4096

-- at most this many `(` and `!` are unfinished at once
abbrev pub nesting_limit : ℕ
nesting_limit = 64

-- at most this many operands wait for their operator at once
abbrev pub waiting_limit : ℕ
waiting_limit = 256

-- a cost number is at most this
abbrev pub cost_limit : ℕ
cost_limit = 65535
