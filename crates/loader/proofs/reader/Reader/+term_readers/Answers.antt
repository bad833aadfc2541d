use Rattle.std.proofs.Common.{◌≡◌, Ok, ◌⊎◌, ⊎_elim, sym, refl, ap, ◌∙◌, arith, rules}
use Rattle.std.proofs.lemmas.Result.{err_from_is_err_and}
use Rattle.std.proofs.lemmas.Bool.{and_from}
use Rattle.terms.specs.Terms.{done, atom, node}
use Rattle.terms.specs.declared.items.Quoting.TheVariants.{Plain as plain, Quoted as quoted}
use Rattle.grammar.specs.Parsing.{within}
use Rattle.faults.specs.Grammar.{number, place}
use Rattle.lookahead.specs.Ahead.{names_of, later}
use Rattle.terms.specs.declared.items.Node.{Node}
use Rattle.terms.specs.declared.items.Atom.{Atom}
use Rattle.lookahead.specs.declared.word.Word.TheVariants as w
use Rattle.lookahead.specs.Ended.{number_in_range}
use Rattle.loader.proofs.Runs
use Rattle.loader.proofs.Onward
use Rattle.loader.proofs.Turns
use Rattle.loader.proofs.Passing
use Rattle.loader.proofs.reader.Reader.+term_readers.Goals as goal

pub named_path-returns-in_default-clause-goes : goal.named_path-returns-in_default-clause-goes
named_path-returns-in_default-clause-goes t c =
    let not : c.args.self.now.parser.word ≡ Ok w.Less → ⊥ = λ q. grind arith in λ l h r f b d. Turns.by_number l _ _ _ _ _ c.misplaced.result (Runs.no_path l h r _ _ f b _ _ _ not) c.misplaced.ensures.number c.misplaced.ensures.place

pub named_path-returns-in-Ok-Less-clause-goes : goal.named_path-returns-in-Ok-Less-clause-goes
named_path-returns-in-Ok-Less-clause-goes t c = Turns.path_term _ _ _ _ _ _ _ _ _ _ _ c.path.ensures.goes

pub after_node-named_path-requires : goal.after_node-named_path-requires
after_node-named_path-requires t c =
    let q : c.args.self.now.parser.word ≡ Ok w.Colon = search rules in
    let z = Runs.one_word c.args.self.now.parser.place c.args.self.now.parser.word w.Colon _ _ q refl c.advance.ensures.size in
    (search rules, (omega arith, (c.requires.depth, c.requires.named)))

pub after_node-returns-in-Ok-Colon : goal.after_node-returns-in-Ok-Colon
after_node-returns-in-Ok-Colon t c =
    let q : c.args.self.now.parser.word ≡ Ok w.Colon = search rules in
    let z = Runs.one_word c.args.self.now.parser.place c.args.self.now.parser.word w.Colon _ _ q refl c.advance.ensures.size in
    record {
      goes = Turns.word_first _ _ _ _ _ _ _ _ _ _ _ _ _ c.advance.ensures.moves (λ l h r f b d. Runs.at_colon l h r f b _ _ _ _ q d) c.named_path.ensures.goes;
      less = λ e. omega (arith, c.named_path.ensures.less e);
      takes = record { onward = Onward.on _ _ _ c.advance.ensures.onward c.named_path.ensures.takes.onward; capacity = c.named_path.ensures.takes.capacity; each = λ e. omega (arith, c.named_path.ensures.takes.each e) };
    }

pub after_node-returns-in_default-clause-goes : goal.after_node-returns-in_default-clause-goes
after_node-returns-in_default-clause-goes t c =
    let not : c.args.self.now.parser.word ≡ Ok w.Colon → ⊥ = λ q. grind arith in Turns.one_term _ _ (node plain c.args.node done) (and_from _ _ c.requires.named refl) (omega arith) _ _ _ _ _ _ _ (Turns.stays _ _) c.push_reserved.ensures.items (λ l h r f b d. Runs.settled l h r _ f b _ _ _ not)

pub after_quote-returns-in-Ok-UnnumberedNode-clause-goes : goal.after_quote-returns-in-Ok-UnnumberedNode-clause-goes
after_quote-returns-in-Ok-UnnumberedNode-clause-goes t c =
    let q : c.args.self.now.parser.word ≡ Ok w.UnnumberedNode = search rules in λ l h r f b d. Turns.by_number l _ _ _ _ _ c.no_number.result (Runs.no_quoted_node l h r f b _ _ _ q (omega arith)) (ap number c.no_number.ensures) (ap place c.no_number.ensures)

pub after_quote-after_quoted_node-requires : goal.after_quote-after_quoted_node-requires
after_quote-after_quoted_node-requires t c =
    let q : c.args.self.now.parser.word ≡ Ok (w.Node c.in-Ok-Node.n) = search rules in
    let z = Runs.one_word c.args.self.now.parser.place c.args.self.now.parser.word (w.Node c.in-Ok-Node.n) _ _ q refl c.advance.ensures.size in
    (search rules, (omega arith, (c.requires.depth, sym (ap number_in_range q) ∙ c.args.self.now.parser.numbered)))

pub after_quote-returns-in-Ok-Less-clause-goes : goal.after_quote-returns-in-Ok-Less-clause-goes
after_quote-returns-in-Ok-Less-clause-goes t c = Turns.quoted_path_term _ _ _ _ _ _ _ _ _ c.path.ensures.goes

pub after_quote-returns-in-Ok-Node : goal.after_quote-returns-in-Ok-Node
after_quote-returns-in-Ok-Node t c =
    let e : c.args.self.now.parser.word ≡ Ok (w.Node c.in-Ok-Node.n) = search rules in
    let q = sym e in
    let z = Runs.one_word c.args.self.now.parser.place c.args.self.now.parser.word (w.Node c.in-Ok-Node.n) _ _ e refl c.advance.ensures.size in
    record {
      goes = Turns.word_first _ _ _ _ _ _ _ _ _ _ _ _ _ c.advance.ensures.moves (λ l h r f b d. Runs.at_quoted_node l h r f b _ _ _ _ q (sym (ap number_in_range e) ∙ c.args.self.now.parser.numbered) d) c.after_quoted_node.ensures.goes;
      less = λ e. omega (arith, c.after_quoted_node.ensures.less e);
      takes = record { onward = Onward.on _ _ _ c.advance.ensures.onward c.after_quoted_node.ensures.takes.onward; capacity = c.after_quoted_node.ensures.takes.capacity; each = λ e. omega (arith, c.after_quoted_node.ensures.takes.each e) };
    }

pub after_quote-returns-in_default-clause-goes : goal.after_quote-returns-in_default-clause-goes
after_quote-returns-in_default-clause-goes t c =
    let not_less : c.args.self.now.parser.word ≡ Ok w.Less → ⊥ = λ q. grind arith in
    let not_node : (n : Node) → c.args.self.now.parser.word ≡ Ok (w.Node n) → ⊥ = λ n q. grind arith in
    let not_unnumbered : c.args.self.now.parser.word ≡ Ok w.UnnumberedNode → ⊥ = λ q. grind arith in λ l h r f b d. Turns.by_number l _ _ _ _ _ c.misplaced.result (Runs.no_quoted l h r f b _ _ _ not_less not_node not_unnumbered) c.misplaced.ensures.number c.misplaced.ensures.place

pub after_quoted_node-named_path-requires : goal.after_quoted_node-named_path-requires
after_quoted_node-named_path-requires t c =
    let q : c.args.self.now.parser.word ≡ Ok w.Colon = search rules in
    let z = Runs.one_word c.args.self.now.parser.place c.args.self.now.parser.word w.Colon _ _ q refl c.advance.ensures.size in
    (search rules, (omega arith, (c.requires.depth, c.requires.named)))

pub after_quoted_node-returns-in-Ok-Colon : goal.after_quoted_node-returns-in-Ok-Colon
after_quoted_node-returns-in-Ok-Colon t c =
    let q : c.args.self.now.parser.word ≡ Ok w.Colon = search rules in
    let z = Runs.one_word c.args.self.now.parser.place c.args.self.now.parser.word w.Colon _ _ q refl c.advance.ensures.size in
    record {
      goes = Turns.word_first _ _ _ _ _ _ _ _ _ _ _ _ _ c.advance.ensures.moves (λ l h r f b d. Runs.at_quoted_colon l h r f b _ _ _ _ q d) c.named_path.ensures.goes;
      less = λ e. omega (arith, c.named_path.ensures.less e);
      takes = record { onward = Onward.on _ _ _ c.advance.ensures.onward c.named_path.ensures.takes.onward; capacity = c.named_path.ensures.takes.capacity; each = λ e. omega (arith, c.named_path.ensures.takes.each e) };
    }

pub after_quoted_node-returns-in_default-clause-goes : goal.after_quoted_node-returns-in_default-clause-goes
after_quoted_node-returns-in_default-clause-goes t c =
    let not_colon : c.args.self.now.parser.word ≡ Ok w.Colon → ⊥ = λ q. grind arith in
    let not_quote : c.args.self.now.parser.word ≡ Ok w.Quote → ⊥ = λ q. grind arith in λ l h r f b d. Turns.by_number l _ _ _ _ _ c.misplaced.result (Runs.no_node_end l h r _ f b _ _ _ not_colon not_quote) c.misplaced.ensures.number c.misplaced.ensures.place

pub after_quoted_node-returns-in-Ok-Quote : goal.after_quoted_node-returns-in-Ok-Quote
after_quoted_node-returns-in-Ok-Quote t c =
    let q : c.args.self.now.parser.word ≡ Ok w.Quote = search rules in
    let z = Runs.one_word c.args.self.now.parser.place c.args.self.now.parser.word w.Quote _ _ q refl c.advance-in-Ok-Quote.ensures.size in
    record {
      goes = Turns.one_term _ _ (node quoted c.args.node done) (and_from _ _ c.requires.named refl) (omega arith) _ _ _ _ _ _ _ c.advance-in-Ok-Quote.ensures.moves c.push_reserved.ensures.items (λ l h r f b d. Runs.at_node_end l h r f b _ _ _ _ q d);
      less = λ e. omega arith;
      takes = record { onward = c.advance-in-Ok-Quote.ensures.onward; capacity = c.push_reserved.ensures.capacity; each = λ e. omega (arith, c.push_reserved.ensures.len) };
    }

pub path-returns-then-left-eq0-clause-goes : goal.path-returns-then-left-eq0-clause-goes
path-returns-then-left-eq0-clause-goes t c = λ l h r f b d. Turns.with_names _ (Runs.at_fifth l h r f b _ _ _ c.args.quoting c.args.node c.requires.starts (omega arith))

pub path-push_reserved-requires : goal.path-push_reserved-requires
path-push_reserved-requires t c = omega (arith, Runs.one_word c.args.self.now.parser.place c.args.self.now.parser.word w.Less (later (names_of c.args.self.now.names.now) c.args.self.now.parser) (later (names_of c.args.self.now.names.now) c.args.self.now.parser) (Runs.only_less _ c.requires.starts) refl refl)

pub path-terms-requires : goal.path-terms-requires
path-terms-requires t c =
    let z = Runs.one_word c.args.self.now.parser.place c.args.self.now.parser.word w.Less _ _ (Runs.only_less _ c.requires.starts) refl c.advance.ensures.size in
    (search rules, (omega (arith, c.push_reserved.ensures.len, c.push_reserved.ensures.capacity), omega arith))

pub path-returns-in_err-terms-clause-goes : goal.path-returns-in_err-terms-clause-goes
path-returns-in_err-terms-clause-goes t c =
    let p = err_from_is_err_and c.from_residual.result c.from_residual.ensures.1 in
    rw (p.1, p.2) (λ l h r f b d. Turns.with_names _ (Runs.at_less l h r f b _ _ _ c.args.quoting c.args.node c.requires.starts (omega arith)) ∙ c.advance.ensures.moves l _ ∙ c.in_err-terms.ensures.goes l h r (within c.args.self.now.parser.place c.args.quoting c.args.node b f) done (omega arith))

pub path-returns-in_err-pass-clause-goes : goal.path-returns-in_err-pass-clause-goes
path-returns-in_err-pass-clause-goes t c =
    let told = c.in_ok-terms.ensures in
    let no = c.in_err-pass.ensures.passes in
    let p = err_from_is_err_and c.from_residual-in_err-pass.result c.from_residual-in_err-pass.ensures.1 in
    rw (p.1, p.2) (λ l h r f b d. Turns.path_inside c.args.left c.args.quoting c.args.node _ _ _ _ _ _ _ _ _ _ c.requires.starts (omega arith) c.advance.ensures.moves told.goes l h r f b d ∙ Turns.by_number l _ _ _ _ _ c.in_err-pass.field-0.0 (Runs.no_close l h r _ c.args.quoting c.args.node b f _ _ _ _ (told.stops refl) no.other) no.kind no.at)

pub path-push_reserved-requires-2 : goal.path-push_reserved-requires-2
path-push_reserved-requires-2 t c =
    let told = c.in_ok-terms.ensures in
    let close = c.in_ok-pass.ensures.passes in
    let z = Runs.one_word c.args.self.now.parser.place c.args.self.now.parser.word w.Less _ _ (Runs.only_less _ c.requires.starts) refl c.advance.ensures.size in
    let g = Runs.one_word c.terms.new.self.parser.place c.terms.new.self.parser.word w.Greater _ _ close.ahead refl close.taken in
    omega (arith, told.takes.each refl, told.takes.capacity, c.requires.room, c.push_reserved.ensures.len, c.push_reserved.ensures.capacity)

pub path-returns-in-Plain : goal.path-returns-in-Plain
path-returns-in-Plain t c =
    let told = c.in_ok-terms.ensures in
    let close = c.in_ok-pass.ensures.passes in
    let z₁ = Runs.one_word c.args.self.now.parser.place c.args.self.now.parser.word w.Less _ _ (Runs.only_less _ c.requires.starts) refl c.advance.ensures.size in
    let z₂ = Runs.one_word c.terms.new.self.parser.place c.terms.new.self.parser.word w.Greater _ _ close.ahead refl close.taken in
    record {
      goes = Turns.path_plain c.args.left c.args.quoting c.args.node _ _ _ _ _ _ _ _ _ _ _ _ _ _ _ _ c.requires.starts (omega arith) c.advance.ensures.moves told.goes close.ahead close.moves c.push_reserved.ensures.items c.push_reserved-2.ensures.items c.requires.named c.in-Plain.is;
      less = λ e. omega (arith, told.less refl);
      takes = record { onward = Onward.on _ _ _ (Onward.on _ _ _ c.advance.ensures.onward told.takes.onward) c.in_ok-pass.ensures.onward; capacity = c.push_reserved-2.ensures.capacity ∙ told.takes.capacity ∙ c.push_reserved.ensures.capacity; each = λ e. omega (arith, told.takes.each refl, c.push_reserved.ensures.len, c.push_reserved-2.ensures.len) };
    }

pub path-returns-in-Quoted : goal.path-returns-in-Quoted
path-returns-in-Quoted t c =
    let told = c.in_ok-terms.ensures in
    let close = c.in_ok-pass.ensures.passes in
    let end = c.pass-in-Quoted.ensures in
    let z₁ = Runs.one_word c.args.self.now.parser.place c.args.self.now.parser.word w.Less _ _ (Runs.only_less _ c.requires.starts) refl c.advance.ensures.size in
    let z₂ = Runs.one_word c.terms.new.self.parser.place c.terms.new.self.parser.word w.Greater _ _ close.ahead refl close.taken in
    record {
      goes = Turns.path_quoted c.args.left c.args.quoting c.args.node _ _ _ _ _ _ _ _ _ _ _ _ _ _ _ _ c.requires.starts (omega arith) c.advance.ensures.moves told.goes close.ahead close.moves c.push_reserved.ensures.items c.push_reserved-2.ensures.items c.requires.named _ _ _ c.in-Quoted.is (Passing.ends _ _ _ end.passes);
      less = λ e. omega (arith, told.less refl, Passing.fewer _ _ _ end.passes e);
      takes = record { onward = Onward.on _ _ _ (Onward.on _ _ _ (Onward.on _ _ _ c.advance.ensures.onward told.takes.onward) c.in_ok-pass.ensures.onward) end.onward; capacity = c.push_reserved-2.ensures.capacity ∙ told.takes.capacity ∙ c.push_reserved.ensures.capacity; each = λ e. omega (arith, told.takes.each refl, Passing.fewer _ _ _ end.passes e, c.push_reserved.ensures.len, c.push_reserved-2.ensures.len) };
    }

pub term-returns-in-Ok-Less-clause-goes : goal.term-returns-in-Ok-Less-clause-goes
term-returns-in-Ok-Less-clause-goes t c = Turns.plain_path_term _ _ _ _ _ _ _ _ _ c.requires.inside c.path.ensures.goes

pub terms-loop-self-init : goal.terms-loop-self-init
terms-loop-self-init t c = (Turns.nothing _ _ _ _, Onward.still _, omega arith, omega (arith, c.requires.room), omega arith, refl)

pub terms-loop-self-preserved : goal.terms-loop-self-preserved
terms-loop-self-preserved t c =
    let told = c.in_ok-term.ensures in
    (Turns.and_more _ _ _ _ _ _ _ _ _ _ _ c.loop-self.invariant.0 told.goes, Onward.on _ _ _ c.loop-self.invariant.1 told.takes.onward, omega (arith, told.less refl, c.loop-self.invariant.2), omega (arith, told.takes.each refl, told.takes.capacity, c.loop-self.invariant.3), omega (arith, told.takes.each refl, c.loop-self.invariant.4), told.takes.capacity ∙ c.loop-self.invariant.5)

pub unopened-push_reserved-requires : goal.unopened-push_reserved-requires
unopened-push_reserved-requires t c = omega (arith, Runs.fewer_start c.args.self.now.parser.place c.args.self.now.parser.word (later (names_of c.args.self.now.names.now) c.args.self.now.parser) c.requires.starts)

pub unopened-returns-in-Ok-Atom : goal.unopened-returns-in-Ok-Atom
unopened-returns-in-Ok-Atom t c =
    let q : c.args.self.now.parser.word ≡ Ok (w.Atom c.in-Ok-Atom.a) = search rules in
    let n = sym (ap number_in_range q) ∙ c.args.self.now.parser.numbered in
    let z = Runs.one_start c.args.self.now.parser.place c.args.self.now.parser.word _ _ c.requires.starts c.advance.ensures.size in
    record {
      goes = Turns.one_term _ _ (atom c.in-Ok-Atom.a done) (and_from _ _ n refl) (omega arith) _ _ _ _ _ _ _ c.advance.ensures.moves c.push_reserved.ensures.items (λ l h r f b d. Runs.at_atom l h r f b _ _ _ _ (sym q) n d);
      less = λ e. omega arith;
      takes = record { onward = c.advance.ensures.onward; capacity = c.push_reserved.ensures.capacity; each = λ e. omega (arith, c.push_reserved.ensures.len) };
    }

pub unopened-returns-in-Ok-UnnumberedAtom-clause-goes : goal.unopened-returns-in-Ok-UnnumberedAtom-clause-goes
unopened-returns-in-Ok-UnnumberedAtom-clause-goes t c =
    let q : (c.args.self.now.parser.word ≡ Ok w.UnnumberedAtom) ⊎ (c.args.self.now.parser.word ≡ Ok w.UnnumberedNode) = search rules in λ l h r f b d. Turns.by_number l _ _ _ _ _ c.no_number.result (⊎_elim (λ q. Runs.no_atom l h r f b _ _ _ q (omega arith)) (λ q. Runs.no_node l h r f b _ _ _ q (omega arith)) q) (ap number c.no_number.ensures) (ap place c.no_number.ensures)

pub unopened-after_node-requires : goal.unopened-after_node-requires
unopened-after_node-requires t c =
    let q : c.args.self.now.parser.word ≡ Ok (w.Node c.in-Ok-Node.n) = search rules in
    let z = Runs.one_start c.args.self.now.parser.place c.args.self.now.parser.word _ _ c.requires.starts c.advance-in-Ok-Node.ensures.size in
    (search rules, (omega arith, (c.requires.depth, sym (ap number_in_range q) ∙ c.args.self.now.parser.numbered)))

pub unopened-returns-in-Ok-Node : goal.unopened-returns-in-Ok-Node
unopened-returns-in-Ok-Node t c =
    let q : c.args.self.now.parser.word ≡ Ok (w.Node c.in-Ok-Node.n) = search rules in
    let z = Runs.one_start c.args.self.now.parser.place c.args.self.now.parser.word _ _ c.requires.starts c.advance-in-Ok-Node.ensures.size in
    record {
      goes = Turns.word_first _ _ _ _ _ _ _ _ _ _ _ _ _ c.advance-in-Ok-Node.ensures.moves (λ l h r f b d. Runs.at_node l h r f b _ _ _ _ (sym q) (sym (ap number_in_range q) ∙ c.args.self.now.parser.numbered) d) c.after_node.ensures.goes;
      less = λ e. omega (arith, c.after_node.ensures.less e);
      takes = record { onward = Onward.on _ _ _ c.advance-in-Ok-Node.ensures.onward c.after_node.ensures.takes.onward; capacity = c.after_node.ensures.takes.capacity; each = λ e. omega (arith, c.after_node.ensures.takes.each e) };
    }

pub unopened-after_quote-requires : goal.unopened-after_quote-requires
unopened-after_quote-requires t c =
    let z = Runs.one_start c.args.self.now.parser.place c.args.self.now.parser.word _ _ c.requires.starts c.advance-in_default.ensures.size in
    (search rules, (omega arith, c.requires.depth))

pub unopened-returns-in_default : goal.unopened-returns-in_default
unopened-returns-in_default t c =
    let z = Runs.one_start c.args.self.now.parser.place c.args.self.now.parser.word _ _ c.requires.starts c.advance-in_default.ensures.size in
    let not_atom : (a : Atom) → c.args.self.now.parser.word ≡ Ok (w.Atom a) → ⊥ = λ a q. grind arith in
    let not_node : (n : Node) → c.args.self.now.parser.word ≡ Ok (w.Node n) → ⊥ = λ n q. grind arith in
    let no_atom : c.args.self.now.parser.word ≡ Ok w.UnnumberedAtom → ⊥ = λ q. grind arith in
    let no_node : c.args.self.now.parser.word ≡ Ok w.UnnumberedNode → ⊥ = λ q. grind arith in
    let q = Runs.quote_only c.args.self.now.parser.word c.requires.starts c.requires.unopened not_atom not_node no_atom no_node in
    record {
      goes = Turns.word_first _ _ _ _ _ _ _ _ _ _ _ _ _ c.advance-in_default.ensures.moves (λ l h r f b d. Runs.at_quote l h r f b _ _ _ q d) c.after_quote.ensures.goes;
      less = λ e. omega (arith, c.after_quote.ensures.less e);
      takes = record { onward = Onward.on _ _ _ c.advance-in_default.ensures.onward c.after_quote.ensures.takes.onward; capacity = c.after_quote.ensures.takes.capacity; each = λ e. omega (arith, c.after_quote.ensures.takes.each e) };
    }
