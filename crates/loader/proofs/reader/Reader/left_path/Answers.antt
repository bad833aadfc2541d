use Rattle.std.proofs.Common.{◌≡◌, Ok, rules, List, [], ◌∷◌, ◌++◌, vec_items, sym, refl, ap, ◌∙◌, arith}
use Rattle.std.proofs.lemmas.Result.{err_from_is_err_and}
use Rattle.terms.specs.declared.items.Atom.{Atom}
use Rattle.terms.specs.Maps.{every, atom_in_range}
use Rattle.grammar.specs.Parsing.{lefting, lefted}
use Rattle.faults.specs.Grammar.{number, place}
use Rattle.lookahead.specs.Ahead.{names_of, rest, final, later, gives}
use Rattle.loader.proofs.Onward
use Rattle.lookahead.specs.declared.word.Word.TheVariants as w
use Rattle.lookahead.specs.Ended.{number_in_range}
use Rattle.loader.proofs.Runs
use Rattle.loader.proofs.Turns
use Rattle.loader.proofs.Lefts
use Rattle.loader.proofs.reader.Reader.left_path.Goals as goal

pub loop-self-init : goal.loop-self-init
loop-self-init c =
    let z = Runs.one_word c.args.self.now.parser.place c.args.self.now.parser.word w.Less _ _ (Runs.only_less _ c.requires.starts) refl c.advance.ensures.size in (
      (λ m f s. ap (λ (ls : List Atom). gives m (rest (names_of c.advance.new.self.names.now) c.advance.new.self.parser) (final (names_of c.advance.new.self.names.now) c.advance.new.self.parser) (lefting f s ls)) (sym c.clear.ensures.items)),
      ap (every atom_in_range) c.clear.ensures.items,
      Onward.still _,
      omega arith,
      omega (arith, c.clear.ensures.len, c.clear.ensures.capacity, c.requires.room),
      refl,
    )

pub returns-in-Ok-UnnumberedAtom-clause-goes : goal.returns-in-Ok-UnnumberedAtom-clause-goes
returns-in-Ok-UnnumberedAtom-clause-goes c =
    let q : c.loop-self.self.parser.word ≡ Ok w.UnnumberedAtom = search rules in λ l f. Turns.with_names _ (Lefts.at_less l f c.args.self.now.parser.place c.args.self.now.parser.word (later (names_of c.args.self.now.names.now) c.args.self.now.parser) c.requires.starts) ∙ c.advance.ensures.moves l (lefting f c.args.self.now.parser.place []) ∙ c.loop-self.invariant.0 l f c.args.self.now.parser.place ∙ Turns.by_number l _ _ _ _ _ c.no_number.result (Lefts.no_atom l f _ _ _ _ _ q) (ap number c.no_number.ensures) (ap place c.no_number.ensures)

pub push_reserved-requires : goal.push_reserved-requires
push_reserved-requires c =
    let q : c.loop-self.self.parser.word ≡ Ok (w.Atom c.in-Ok-Atom.a) = search rules in
    let z = Runs.one_word c.loop-self.self.parser.place c.loop-self.self.parser.word (w.Atom c.in-Ok-Atom.a) (later (names_of c.loop-self.self.names.now) c.loop-self.self.parser) (later (names_of c.loop-self.self.names.now) c.loop-self.self.parser) q refl refl in omega (arith, c.loop-self.invariant.4)

pub loop-self-smaller : goal.loop-self-smaller
loop-self-smaller c =
    let q : c.loop-self.self.parser.word ≡ Ok (w.Atom c.in-Ok-Atom.a) = search rules in
    let z = Runs.one_word c.loop-self.self.parser.place c.loop-self.self.parser.word (w.Atom c.in-Ok-Atom.a) _ _ q refl c.advance-in-Ok-Atom.ensures.size in
    omega arith

pub loop-self-preserved : goal.loop-self-preserved
loop-self-preserved c =
    let q : c.loop-self.self.parser.word ≡ Ok (w.Atom c.in-Ok-Atom.a) = search rules in
    let z = Runs.one_word c.loop-self.self.parser.place c.loop-self.self.parser.word (w.Atom c.in-Ok-Atom.a) _ _ q refl c.advance-in-Ok-Atom.ensures.size in (
      (λ m f s. c.loop-self.invariant.0 m f s ∙ Turns.with_names _ (Lefts.at_atom m f _ _ _ s _ c.in-Ok-Atom.a (sym q) (sym (ap number_in_range q) ∙ c.loop-self.self.parser.numbered)) ∙ c.advance-in-Ok-Atom.ensures.moves m (lefting f s (vec_items c.loop-self.left ++ c.in-Ok-Atom.a ∷ [])) ∙ ap (λ (ls : List Atom). gives m (rest (names_of c.advance-in-Ok-Atom.new.self.names.now) c.advance-in-Ok-Atom.new.self.parser) (final (names_of c.advance-in-Ok-Atom.new.self.names.now) c.advance-in-Ok-Atom.new.self.parser) (lefting f s ls)) (sym c.push_reserved.ensures.items)),
      ap (every atom_in_range) c.push_reserved.ensures.items ∙ Lefts.every_more (vec_items c.loop-self.left) c.in-Ok-Atom.a c.loop-self.invariant.1 (sym (ap number_in_range q) ∙ c.loop-self.self.parser.numbered),
      Onward.on _ _ _ c.loop-self.invariant.2 c.advance-in-Ok-Atom.ensures.onward,
      omega (arith, c.loop-self.invariant.3),
      omega (arith, c.loop-self.invariant.4, c.push_reserved.ensures.len, c.push_reserved.ensures.capacity),
      c.push_reserved.ensures.capacity ∙ c.loop-self.invariant.5,
    )

pub returns-in_err-pass-clause-goes : goal.returns-in_err-pass-clause-goes
returns-in_err-pass-clause-goes c =
    let not_atom : (a : Atom) → c.loop-self.self.parser.word ≡ Ok (w.Atom a) → ⊥ = λ a q. grind arith in
    let no_atom : c.loop-self.self.parser.word ≡ Ok w.UnnumberedAtom → ⊥ = λ q. grind arith in
    let no = c.in_err-pass.ensures.passes in
    let p = err_from_is_err_and c.from_residual.result c.from_residual.ensures.1 in
    rw (p.1, p.2) (λ l f. Turns.with_names _ (Lefts.at_less l f c.args.self.now.parser.place c.args.self.now.parser.word (later (names_of c.args.self.now.names.now) c.args.self.now.parser) c.requires.starts) ∙ c.advance.ensures.moves l (lefting f c.args.self.now.parser.place []) ∙ c.loop-self.invariant.0 l f c.args.self.now.parser.place ∙ Turns.by_number l _ _ _ _ _ c.in_err-pass.field-0.0 (Lefts.no_greater l f _ _ _ _ _ not_atom no_atom no.other) no.kind no.at)

pub returns-in_err-pass-2-clause-goes : goal.returns-in_err-pass-2-clause-goes
returns-in_err-pass-2-clause-goes c =
    let greater = c.in_ok-pass.ensures.passes in
    let no = c.in_err-pass-2.ensures.passes in
    let p = err_from_is_err_and c.from_residual-in_err-pass-2.result c.from_residual-in_err-pass-2.ensures.1 in
    rw (p.1, p.2) (λ l f. Turns.with_names _ (Lefts.at_less l f c.args.self.now.parser.place c.args.self.now.parser.word (later (names_of c.args.self.now.names.now) c.args.self.now.parser) c.requires.starts) ∙ c.advance.ensures.moves l (lefting f c.args.self.now.parser.place []) ∙ c.loop-self.invariant.0 l f c.args.self.now.parser.place ∙ Turns.with_names _ (Lefts.at_greater l f _ _ _ _ _ greater.ahead) ∙ greater.moves l (lefted (record { front = f; place = c.args.self.now.parser.place; left = vec_items c.loop-self.left })) ∙ Turns.by_number l _ _ _ _ _ c.in_err-pass-2.field-0.0 (Lefts.no_equals l _ _ _ _ no.other) no.kind no.at)

pub returns : goal.returns
returns c =
    let greater = c.in_ok-pass.ensures.passes in
    let equals = c.in_ok-pass-2.ensures.passes in
    let z₁ = Runs.one_word c.args.self.now.parser.place c.args.self.now.parser.word w.Less _ _ (Runs.only_less _ c.requires.starts) refl c.advance.ensures.size in
    let z₂ = Runs.one_word c.loop-self.self.parser.place c.loop-self.self.parser.word w.Greater _ _ greater.ahead refl greater.taken in
    let z₃ = Runs.one_word c.pass.new.self.parser.place c.pass.new.self.parser.word w.Equals _ _ equals.ahead refl equals.taken in
    record {
      goes = record {
        in_range = c.loop-self.invariant.1;
        comes = λ l f. Turns.with_names _ (Lefts.at_less l f c.args.self.now.parser.place c.args.self.now.parser.word (later (names_of c.args.self.now.names.now) c.args.self.now.parser) c.requires.starts) ∙ c.advance.ensures.moves l (lefting f c.args.self.now.parser.place []) ∙ c.loop-self.invariant.0 l f c.args.self.now.parser.place ∙ Turns.with_names _ (Lefts.at_greater l f _ _ _ _ _ greater.ahead) ∙ greater.moves l (lefted (record { front = f; place = c.args.self.now.parser.place; left = vec_items c.loop-self.left })) ∙ Turns.with_names _ (Lefts.at_equals l _ _ _ _ equals.ahead) ∙ equals.moves l _;
      };
      onward = Onward.on _ _ _ (Onward.on _ _ _ (Onward.on _ _ _ c.advance.ensures.onward c.loop-self.invariant.2) c.in_ok-pass.ensures.onward) c.in_ok-pass-2.ensures.onward;
      less = λ e. omega (arith, c.loop-self.invariant.3);
      capacity = c.loop-self.invariant.5 ∙ c.clear.ensures.capacity;
    }
