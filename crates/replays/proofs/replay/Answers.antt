use Rattle.std.proofs.Common.{◌≡◌, ◌≤◌, ◌<◌, min, List, length, ℕ, Ok, Err, refl, ap, sym, ◌∙◌, subst, arith}
use Rattle.weights.specs.Weights.{Ops}
use Rattle.tables.specs.Rows.{LegalTable}
use Rattle.pages.specs.Pages.{most}
use Rattle.pages.proofs.Saying.{printed, printed_within}
use Rattle.replays.specs.declared.short.Short.TheVariants.{Words}
use Rattle.replays.specs.Bytes.{words_of}
use Rattle.replays.specs.Memory.{wanted, enough, Replayed}
use Rattle.replays.proofs.replay.Goals as goal

-- too few words, where this many are enough and the memory stays
few_words :
    {o : Ops} (table frames : List ℕ) {room n : ℕ} {was is : List ℕ} →
    room < enough table frames →
    (wanted table frames ≤ room → LegalTable o (words_of table)) →
    min most (enough table frames) ≡ n →
    was ≡ is →
    Replayed o table frames room was (Err (Words n)) is
few_words {o} table frames {room} {n} {was} few legal same stays =
    subst (Replayed o table frames room was (Err (Words n))) stays
    (subst (λ m. Replayed o table frames room was (Err (Words m)) was) same (Replayed.few_words few legal))

pub returns-then-words-wanted-clause-record : goal.returns-then-words-wanted-clause-record
returns-then-words-wanted-clause-record c =
    let room : length c.args.words.now < wanted c.args.table.now c.args.frames.now = omega (arith, c.words_wanted-wanted.ensures, c.if-words-wanted.true)
    in few_words
    c.args.table.now
    c.args.frames.now
    (omega (arith, room))
    (λ all. absurd (omega (arith, room, all)))
    (omega (arith, c.count_words.ensures, c.count_words-2.ensures, c.saturating_mul-enough.ensures, c.saturating_add-enough.ensures))
    refl

pub returns-in-Ok-finish-clause-record : goal.returns-in-Ok-finish-clause-record
returns-in-Ok-finish-clause-record c =
    let (enough, told) = c.in-Ok.ensures
    in let blank = c.new-page.ensures
    in let end = c.in-Ok-finish.ensures
    in let out = c.out-1.given.1.1 (sym (told.2.lender ∙ blank.lender)) ∙ end.memory
    in let room : wanted c.args.table.now c.args.frames.now ≤ length c.args.words.now = omega (arith, c.words_wanted-wanted.ensures, c.if-words-wanted.false)
    in Replayed.printed {r = Ok c.in-Ok-finish.length} room enough (told.0, told.1, printed blank.said blank.memory told.2 end.answer (sym out))

pub returns-in-Err-finish-clause-record : goal.returns-in-Err-finish-clause-record
returns-in-Err-finish-clause-record c =
    let (enough, told) = c.in-Ok.ensures
    in let blank = c.new-page.ensures
    in let end = c.in-Err-finish.ensures
    in let out = c.out-1.given.1.1 (sym (told.2.lender ∙ blank.lender)) ∙ end.memory
    in let room : wanted c.args.table.now c.args.frames.now ≤ length c.args.words.now = omega (arith, c.words_wanted-wanted.ensures, c.if-words-wanted.false)
    in Replayed.printed {r = Err c.in-Err-finish.length} room enough (told.0, told.1, printed blank.said blank.memory told.2 end.answer (sym out))

pub returns-in-Err-clause-record : goal.returns-in-Err-clause-record
returns-in-Err-clause-record c =
    let (legal, room, blank) = c.in-Err.ensures
    in let new = c.new-page.ensures
    in let out = c.out-in-Err-1.given.1.1 (sym (ap (λ p. p.memory.ghost_name) blank ∙ new.lender)) ∙ ap (λ p. p.memory.now) blank ∙ new.memory
    in few_words
    c.args.table.now
    c.args.frames.now
    room
    (λ _. legal)
    (omega (arith, c.count_words.ensures, c.count_words-2.ensures, c.saturating_mul-enough.ensures, c.saturating_add-enough.ensures))
    (sym out)

pub returns-in-Ok-finish-clause-within : goal.returns-in-Ok-finish-clause-within
returns-in-Ok-finish-clause-within c =
    let told = c.in-Ok.ensures.1
    in let blank = c.new-page.ensures
    in let end = c.in-Ok-finish.ensures
    in printed_within (printed blank.said blank.memory told.2 end.answer refl)
