-- What a checked policy holds.
use Rattle.std.specs.Prelude.{ℕ, List}
use Rattle.checking.specs.declared.checked.CheckedPolicy.{CheckedPolicy}

-- the words of a checked policy
abbrev pub policy_words : CheckedPolicy → List ℕ
policy_words c = c.words.items
