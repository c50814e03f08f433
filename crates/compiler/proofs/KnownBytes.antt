-- Texts read by the grammar, compiled by the rules, and written out as bytes.
use Rattle.std.proofs.Common.{◌≡◌, ℕ, ◌-◌, ◌≤◌, List, [], ◌∷◌, ◌++◌, length, set, Some, Ok, sym, refl, ◌∙◌, subst, arith, true≢false}
use Rattle.std.specs.Prelude.{codes}
use Rattle.std.proofs.lemmas.List.{drop_all, take_all, append-nil}
use native.Mathlib.Decide.{ℕ_discrete, dec_lt, dec_le}
use Rattle.format.specs.Actions.{keep_all}
use Rattle.format.specs.Limits.{text_limit, words_limit, nesting_limit}
use Rattle.format.specs.Policy.{Policy, postfix}
use Rattle.tokens.specs.declared.tokens.Symbol.{Symbol}
use Rattle.tokens.specs.declared.tokens.Symbol.TheVariants.{Field, Number, Mark}
use Rattle.tokens.specs.declared.tokens.Mark.TheVariants as mark
use Rattle.tokens.specs.Lexing.{Lexeme, word, number, mark, Starts, start, ahead}
use Rattle.tokens.specs.Symbols.{judged}
use Rattle.grammar.specs.Sentences.{Sum, one_chain, one_step, sequence, one_atom, test, sets, negation, needed}
use Rattle.grammar.specs.Reading.{Lexes}
use Rattle.grammar.proofs.Complete.{tree_unique}
use Rattle.faults.specs.declared.layers.CheckFault.TheVariants.{NoPredicate}
use Rattle.std.proofs.lemmas.Fmt.{decimal_digit}
use Rattle.faults.specs.Lines.{refused_line}
use Rattle.faults.specs.Shows.{shown}
use Rattle.weights.specs.Kinds.{reach_ops}
use Rattle.checking.specs.Checking.{Accepted as Checked}
use Rattle.meaning.specs.Leaves.{Cell}
use Rattle.meaning.specs.Diagrams.{Diagram, Leaf, Node}
use Rattle.requests.specs.Requests.{Request}
use Rattle.requests.specs.Rules.{Compiled, compiled_sequence, compiled_test, compiled_set, sequences_node, sequences_leaf, follows_next, follows_none, prefixes_leaf, joins_leaves, chooses_here, makes_node, narrows_leaf}
use Rattle.worked.specs.Cases.{moved, negated_set}
use Rattle.worked.proofs.Computed.{worked_cases}
use Rattle.policy.specs.Verdicts.{Reads, not_legal}
use Rattle.compiler.specs.Texts.{bytes_of_words, Compiles, compiled, no_policy}
use Rattle.compiler.specs.Known.{KnownTexts}
use Rattle.compiler.proofs.Once.{only_bytes}
use Rattle.compiler.proofs.ShortTexts.{shallow, shallow_words, few_fit}

-- one symbol more, the lexeme x, which ends before byte m
more :
    (text : List ℕ) {ss : List Symbol} {n : ℕ} → Lexes text ss n → (x : Lexeme) (s : Symbol) (m : ℕ) →
    Starts (ahead text n) x (m - start text n) → start text n ≤ m → judged x (start text n) ≡ Ok s → Lexes text (ss ++ (s ∷ [])) m
more text l x s m starts ends known = Lexes.more l (record { lexeme = x; starts = starts; ends = ends; known = known })

-- a sentence of few symbols, read to its end
reads :
    (text : List ℕ) {ss : List Symbol} {n : ℕ} (p : Policy) → Lexes text ss n → Sum ss p →
    length text ≤ start text n → length text ≤ text_limit → length ss ≤ nesting_limit → needed ss ≤ words_limit → Reads text (postfix p)
reads text {ss} {n} p l s e t d r =
    record {
      short = t;
      written =
          record {
            symbols = ss;
            bytes = n;
            lexed = l;
            ended = e;
            accepted =
                record {
                  viable = ([], p, subst (λ (us : List Symbol). Sum us p) (sym (append-nil ss)) s);
                  shallow = shallow ss d;
                  fits = r;
                };
            tree = p;
            sentence = s;
            unique = λ q t. tree_unique ss q p t s;
            count = refl;
            words = take_all (length (postfix p)) (postfix p) (omega arith);
            past = drop_all (length (postfix p)) (postfix p) (omega arith) ∙ sym (drop_all (length (postfix p)) [] (omega arith));
          };
    }

abbrev moved_text : List ℕ
moved_text = codes "pt=1;pt:=2"

abbrev moved_symbols : List Symbol
moved_symbols = Field 1 ∷ Mark mark.Equals ∷ Number 1 ∷ Mark mark.Semicolon ∷ Field 1 ∷ Mark mark.Assign ∷ Number 2 ∷ []

moved_lexed : Lexes moved_text moved_symbols 10
moved_lexed =
    let a = more moved_text Lexes.none (word (codes "pt")) (Field 1) 2 refl (omega arith) refl in
    let b = more moved_text a (mark mark.Equals) (Mark mark.Equals) 3 refl (omega arith) refl in
    let c = more moved_text b (number (codes "1")) (Number 1) 4 refl (omega arith) refl in
    let d = more moved_text c (mark mark.Semicolon) (Mark mark.Semicolon) 5 refl (omega arith) refl in
    let e = more moved_text d (word (codes "pt")) (Field 1) 7 refl (omega arith) refl in
    let f = more moved_text e (mark mark.Assign) (Mark mark.Assign) 9 refl (omega arith) refl in
    more moved_text f (number (codes "2")) (Number 2) 10 refl (omega arith) refl

moved_sentence : Sum moved_symbols moved
moved_sentence = one_chain (sequence (one_step (one_atom (test (omega arith) (omega arith)))) (one_atom (sets (omega arith) (omega arith))))

moved_read : Reads moved_text (postfix moved)
moved_read = reads moved_text moved moved_lexed moved_sentence (omega arith) (omega arith) (omega arith) (omega arith)

moved_accepted : Checked (postfix moved) moved
moved_accepted = record { legal = ((omega arith, omega arith), (omega arith, omega arith)); words = refl; short = omega arith; shallow = shallow_words (postfix moved) (omega arith) }

abbrev set_cells : List Cell
set_cells = (set keep_all 1 (Some 2), 1) ∷ []

abbrev moved_diagram : Diagram
moved_diagram = Node 1 1 (Leaf set_cells) (Leaf [])

moved_compiled : (asks : List Request) × Compiled reach_ops moved moved_diagram asks × (length asks ≤ 256)
unfolding ℕ_discrete dec_lt dec_le
moved_compiled = (
  _,
  compiled_sequence compiled_test compiled_set
      (sequences_node
      (sequences_leaf (follows_next prefixes_leaf joins_leaves follows_none))
      (sequences_leaf follows_none)
      (chooses_here refl (makes_node narrows_leaf narrows_leaf (λ e. true≢false (cc))))),
  omega arith,
)

pub a_port_moved : Compiles reach_ops moved_text (bytes_of_words (0xA1000001 ∷ 0xB1000001 ∷ 0xC0000001 ∷ 0xD1000002 ∷ 0xA0000000 ∷ 0xE0000002 ∷ []))
a_port_moved = (
  _,
  compiled (record { words = postfix moved; reads = moved_read; policy = moved; accepted = moved_accepted; compiled = moved_compiled.1 })
      (few_fit moved_compiled.0 moved_compiled.2) (omega arith),
  refl,
)

abbrev negated_text : List ℕ
negated_text = codes "!pt:=3"

abbrev negated_symbols : List Symbol
negated_symbols = Mark mark.Not ∷ Field 1 ∷ Mark mark.Assign ∷ Number 3 ∷ []

negated_lexed : Lexes negated_text negated_symbols 6
negated_lexed =
    let a = more negated_text Lexes.none (mark mark.Not) (Mark mark.Not) 1 refl (omega arith) refl in
    let b = more negated_text a (word (codes "pt")) (Field 1) 3 refl (omega arith) refl in
    let c = more negated_text b (mark mark.Assign) (Mark mark.Assign) 5 refl (omega arith) refl in
    more negated_text c (number (codes "3")) (Number 3) 6 refl (omega arith) refl

negated_sentence : Sum negated_symbols negated_set
negated_sentence = one_chain (one_step (one_atom (negation (sets (omega arith) (omega arith)))))

negated_read : Reads negated_text (postfix negated_set)
negated_read = reads negated_text negated_set negated_lexed negated_sentence (omega arith) (omega arith) (omega arith) (omega arith)

line : refused_line (shown 8 3 1) ≡ codes "refused 8 layer 3 place 1\n"
line = λ i. codes "refused " ++ (decimal_digit 8 (omega arith) i ++ (codes " layer " ++ (decimal_digit 3 (omega arith) i ++ (codes " place " ++ (decimal_digit 1 (omega arith) i ++ (10 ∷ []))))))

pub a_set_negated : Compiles reach_ops negated_text (codes "refused 8 layer 3 place 1\n")
a_set_negated = (_, no_policy (not_legal {f = NoPredicate 1} negated_read worked_cases.a_set_negated), sym line)

pub known_texts : KnownTexts
known_texts =
    record {
      a_port_moved = (a_port_moved, only_bytes _ _ _ a_port_moved);
      a_set_negated = (a_set_negated, only_bytes _ _ _ a_set_negated);
    }
