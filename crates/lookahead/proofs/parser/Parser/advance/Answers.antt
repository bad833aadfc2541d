use Rattle.std.proofs.Common.{◌≡◌, ℕ, true, List, Ok, sym, ap, subst}
use Rattle.words.specs.Words.{token}
use Rattle.words.specs.Texts.{words_from}
use Rattle.grammar.specs.Parsing.{over}
use Rattle.grammar.specs.Texts.{numbering, all_names}
use Rattle.lookahead.specs.Ended.{nothing_behind}
use Rattle.lookahead.specs.Ahead.{names_of, later, final, cons, size, Moves}
use Rattle.lookahead.proofs.Growth.{still}
use Rattle.lookahead.proofs.Numbering.{few_names, on_fault, on_word, read_short, last_word, word_number}
use Rattle.lookahead.proofs.parser.Parser.advance.Goals as goal

pub numbered-requires : goal.numbered-requires
numbered-requires c =
    let few = few_names c.args.names.now in
    read_short c.args.self.now.reader.text.now c.args.self.now.reader.at (names_of c.args.names.now) c.args.self.now.reader.within few _ _ _ c.in-Ok.ensures.value

pub returns-in-Ok : goal.returns-in-Ok
returns-in-Ok c =
    let few = few_names c.args.names.now in
    let m = on_word c.args.self.now.reader.text.now c.args.self.now.reader.at (names_of c.args.names.now) c.args.self.now.reader.within few _ _ _ (names_of c.numbered.new.names) _ c.in-Ok.ensures.value c.numbered.ensures.word c.numbered.ensures.names in
    let same : c.next.new.self.text.now ≡ c.args.self.now.reader.text.now = ap (λ r. r.now) c.next.ensures.same in
    let F : List ℕ → Type 0 = λ x. Moves (later (names_of c.args.names.now) c.args.self.now) (final (names_of c.args.names.now) c.args.self.now) (cons c.in-Ok.placed.place (Ok c.numbered.result) (numbering (names_of c.numbered.new.names) (words_from x c.next.new.self.at))) (all_names (names_of c.numbered.new.names) (words_from x c.next.new.self.at)) in
    let G : List ℕ → Type 0 = λ x. size (cons c.in-Ok.placed.place (Ok c.numbered.result) (numbering (names_of c.numbered.new.names) (words_from x c.next.new.self.at))) ≡ size (later (names_of c.args.names.now) c.args.self.now) in
    record { moves = subst F (sym same) m.0; grows = c.numbered.ensures.grows; size = subst G (sym same) m.1 }

pub returns-in-Err : goal.returns-in-Err
returns-in-Err c =
    let few = few_names c.args.names.now in
    let m = on_fault c.args.self.now.reader.text.now c.args.self.now.reader.at (names_of c.args.names.now) c.args.self.now.reader.within few _ _ (over 0) _ c.in-Err.ensures.value in
    record { moves = m.0; grows = still _; size = m.1 }

pub invariant_of-self : goal.invariant_of-self
invariant_of-self c =
    let few = few_names c.args.names.now in
    let same : c.next.new.self.text.now ≡ c.args.self.now.reader.text.now = ap (λ r. r.now) c.next.ensures.same in
    let m = last_word c.args.self.now.reader.text.now c.args.self.now.reader.at (names_of c.args.names.now) c.args.self.now.reader.within few _ _ _ c.numbered.result c.in-Ok.ensures.value c.numbered.ensures.word in
    let F : List ℕ → Type 0 = λ x. nothing_behind (Ok c.numbered.result) (words_from x c.next.new.self.at) ≡ true in
    record { ended = subst F (sym same) m; numbered = word_number (names_of c.args.names.now) (token c.in-Ok.placed.word) c.numbered.result c.numbered.ensures.word }
