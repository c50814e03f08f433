-- Replies by what the code answers.
use Rattle.std.specs.Prelude.{ℕ, List, take, Result, Ok, Err}
use Rattle.faults.specs.declared.layers.BenchFault.{BenchFault}
use Rattle.faults.specs.declared.layers.BenchFault.TheVariants.{Frame}
use Rattle.faults.specs.declared.layers.FrameFault.{FrameFault}
use Rattle.steps.specs.Steps.{Reply, Word, Installed, Written, Refused}

abbrev pub word_reply : Result ℕ BenchFault → Reply
word_reply (Ok w) = Word w
word_reply (Err f) = Refused f

abbrev pub install_reply : Result ℕ BenchFault → Reply
install_reply (Ok n) = Installed n
install_reply (Err f) = Refused f

-- the words written into memory
abbrev pub forward_reply : Result ℕ BenchFault → List ℕ → Reply
forward_reply (Ok n) out = Written (take n out)
forward_reply (Err f) out = Refused f

-- of a table that is on no bench
abbrev pub frame_reply : Result ℕ FrameFault → List ℕ → Reply
frame_reply (Ok n) out = Written (take n out)
frame_reply (Err f) out = Refused (Frame f)
