-- What is written is read back.
use Rattle.std.proofs.Common.{◌≡◌, ℕ, ◌≤◌, true, List, [], ◌∷◌, ◌++◌, map, length, Some, sym, refl, ap, ◌∙◌, subst, append-nil, arith}
use Rattle.std.proofs.lemmas.Bool.{and_from, lt-ltb}
use Rattle.terms.specs.declared.items.Atom.{Atom}
use Rattle.terms.specs.Limits.{node_limit, atom_limit, path_limit}
use Rattle.terms.specs.Maps.{every, atom_in_range}
use Rattle.names.specs.Numbers.{name_at}
use Rattle.words.specs.Words.{Sign, Token}
use Rattle.words.specs.Texts.{Words, words_of}
use Rattle.grammar.specs.Texts.{Names, all_names}
use Rattle.questions.specs.Lines.{atom_of}
use Rattle.questions.specs.Questions.{Are, ended, next, question_words}
use Rattle.questions.proofs.Exactly.{is_read_rightly}
use Rattle.lines.specs.Bytes.{question_bytes, value_bytes}
use Rattle.read_back.specs.Spellings.{node_name, atom_name, Spellable}
use Rattle.read_back.specs.Theorems.{QuestionsComeBack, ValuesComeBack, NamesStaySpellable}
use Rattle.read_back.proofs.Words.{question_are, value_are}
use Rattle.read_back.proofs.Tables.{every_at, inside, number_at, met_at, AllNamed, done, also, all_named}
use Rattle.read_back.proofs.Spelt.{still_spellable}

-- ---- atoms and their names
module _ (ns : Names) (s : Spellable ns) where
  spelt : (l : List Atom) (xs : List (List ℕ)) → AllNamed ns.atoms l xs → every atom_name xs ≡ true
  spelt l xs done = refl
  spelt l xs (also {a = a} {l = l'} {x = x} {xs = xs'} e h) = and_from (atom_name x) (every atom_name xs') (every_at atom_name ns.atoms a.0 x s.atoms e) (spelt l' xs' h)

  numbered : (l : List Atom) (xs : List (List ℕ)) → AllNamed ns.atoms l xs → map (atom_of ns) xs ≡ l
  numbered l xs done = refl
  numbered l xs (also {a = a} {l = l'} {x = x} {xs = xs'} e h) =
      ap (λ (k : ℕ). record { 0 = k } ∷ map (atom_of ns) xs') (number_at ns.atoms a.0 x s.atoms_apart e) ∙ ap (λ (l : List Atom). a ∷ l) (numbered l' xs' h)

  in_range : length ns.atoms ≤ atom_limit → (l : List Atom) (xs : List (List ℕ)) → AllNamed ns.atoms l xs → every atom_in_range l ≡ true
  in_range k l xs done = refl
  in_range k l xs (also {a = a} {l = l'} {x = x} {xs = xs'} e h) =
      let i = inside ns.atoms a.0 x e in
      and_from (atom_in_range a) (every atom_in_range l') (lt-ltb a.0 atom_limit (omega arith)) (in_range k l' xs' h)

  as_long : (l : List Atom) (xs : List (List ℕ)) → AllNamed ns.atoms l xs → length xs ≡ length l
  as_long l xs done = refl
  as_long l xs (also {a = a} {l = l'} {x = x} {xs = xs'} e h) = let n = as_long l' xs' h in omega arith

  -- words of names that are there add none
  atoms_there : (ts : List Token) → ((W : Words) → Are ts W → all_names ns W ≡ ns)
      → (l : List Atom) (xs : List (List ℕ)) → AllNamed ns.atoms l xs → (W : Words) → Are (map Token.atom xs ++ ts) W → all_names ns W ≡ ns
  unfolding all_names
  atoms_there ts f l xs done W w = f W w
  atoms_there ts f l xs (also {a = a} {l = l'} {x = x} {xs = xs'} e h) W (next {more = more} w) =
      ap (λ (ys : List (List ℕ)). all_names (record { nodes = ns.nodes; atoms = ys }) more) (met_at ns.atoms a.0 x s.atoms_apart e) ∙ atoms_there ts f l' xs' h more w

  greater_there : (W : Words) → Are (Token.sign Sign.greater ∷ []) W → all_names ns W ≡ ns
  unfolding all_names
  greater_there W (next ended) = refl

  nothing_there : (W : Words) → Are [] W → all_names ns W ≡ ns
  unfolding all_names
  nothing_there W ended = refl

  question_there : (k : ℕ) (x : List ℕ) (l : List Atom) (xs : List (List ℕ)) → name_at ns.nodes k ≡ Some x → AllNamed ns.atoms l xs → (W : Words) → Are (question_words x xs) W
      → all_names ns W ≡ ns
  unfolding all_names
  question_there k x l xs e h W (next (next (next {more = more} w))) =
      ap (λ (ys : List (List ℕ)). all_names (record { nodes = ys; atoms = ns.atoms }) more) (met_at ns.nodes k x s.nodes_apart e)
      ∙ atoms_there (Token.sign Sign.greater ∷ []) greater_there l xs h more w

-- ---- the theorems
pub questions_come_back_lem : QuestionsComeBack
questions_come_back_lem ns s n l x xs e q =
    let h = all_named ns.atoms l xs q in
    let w = question_are x xs (every_at node_name ns.nodes n.0 x s.nodes e) (spelt ns s l xs h) in
    let i = inside ns.nodes n.0 x e in record {
      words = w;
      read = λ m few short. ((is_read_rightly ns (question_bytes x xs)).question n l ns).1 (record {
        short = short;
        name = x;
        path = xs;
        words = w;
        few = subst (λ (k : ℕ). k ≤ path_limit) (sym (as_long ns s l xs h)) few;
        names = sym (question_there ns s n.0 x l xs e h (words_of (question_bytes x xs)) w);
        node = ap (λ (k : ℕ). record { 0 = k }) (sym (number_at ns.nodes n.0 x s.nodes_apart e));
        atoms = sym (numbered ns s l xs h);
        node_numbered = lt-ltb n.0 node_limit (omega (arith, m.nodes));
        atoms_numbered = in_range ns s m.atoms l xs h;
      });
    }

pub values_come_back_lem : ValuesComeBack
values_come_back_lem ns s v xs q =
    let h = all_named ns.atoms v xs q in
    let w = value_are xs (spelt ns s v xs h) in record {
      words = w;
      numbers = numbered ns s v xs h;
      names =
          atoms_there ns s [] (nothing_there ns s) v xs h (words_of (value_bytes xs))
          (subst (λ (ts : List Token). Are ts (words_of (value_bytes xs))) (sym (append-nil (map Token.atom xs))) w);
    }

pub names_stay_spellable_lem : NamesStaySpellable
names_stay_spellable_lem = record {
  none = record { nodes = refl; atoms = refl; nodes_apart = refl; atoms_apart = refl };
  text = λ ns s bytes. still_spellable ns bytes s;
  line = λ ns s bytes n l ns' e. subst Spellable (sym (((is_read_rightly ns bytes).question n l ns').0 e).names) (still_spellable ns bytes s);
}
