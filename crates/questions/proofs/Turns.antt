-- One turn of reading a path's atoms.
use Rattle.std.proofs.Common.{◌≡◌, ℕ, suc, ◌+◌, ◌<◌, ◌≤◌, min, Bool, true, false, cond, ltb, leb, List, [], ◌∷◌, ◌++◌, length, take, Some, None, Ok, Err, Option, Result, is_ok, IsOk, OnOk, OnErr, ◌↔◌, sym, refl, ap, ◌∙◌, arith, length-append, Bor}
use Rattle.std.proofs.lemmas.Bool.{cond-true, cond-false, ltb-true, ltb-false, leb-true, le-leb, lt-leb}
use Rattle.std.specs.Option.{option_map}
use Rattle.std.proofs.lemmas.Bool.Decides.{nat_tests}
use Rattle.std.proofs.lemmas.List.{length-take, take_all, take-append-le}
use Rattle.terms.specs.declared.items.Node.{Node}
use Rattle.terms.specs.declared.items.Atom.{Atom}
use Rattle.terms.specs.Limits.{atom_limit, path_limit}
use Rattle.path.specs.declared.Path.{Path}
use Rattle.path.specs.declared.PathFull.{PathFull}
use Rattle.path.specs.Atoms.{atoms_of}
use Rattle.names.specs.Numbers as numbers
use Rattle.words.specs.declared.faults.WordRefusal.{WordRefusal}
use Rattle.words.specs.declared.word.Word.{Word}
use Rattle.words.specs.declared.word.Word.TheVariants as word
use Rattle.words.specs.Words as words
use Rattle.words.specs.Words.{Token, token}
use Rattle.words.specs.Texts.{Words, fault_at, onward, word_count}
use Rattle.grammar.specs.Texts.{Names, token_names}
use Rattle.faults.specs.declared.kinds.NameFault.{NameFault}
use Rattle.questions.specs.Lines.{rejected, atom_of, is_greater, is_sign, to_the_end, in_path}
use Rattle.questions.specs.Steps.{Grown, atom_or_fault, names_with_atom, within}
use Rattle.questions.proofs.Growth

-- The path as far as it is read: `fits` tells whether it holds all of its atoms.
pub record Reading (ns : Names) (W : Words) (p : Path) (fits : Bool) (ns' : Names) (W' : Words) : Type 0 where
  pub atoms : List Atom
  pub held : atoms_of p ≡ take path_limit atoms
  pub fit : fits ≡ leb (length atoms) path_limit
  pub comes : (n : Node) → in_path n [] ns W ≡ in_path n atoms ns' W'
  pub grows : Grown ns ns'

pub begun : (ns : Names) (W : Words) (p : Path) → atoms_of p ≡ [] → Reading ns W p true ns W
begun ns W p e = record { atoms = []; held = e; fit = refl; comes = λ n. refl; grows = Growth.still ns }

pub ok_is : {A E : Type 0} {a b : A} → ◌≡◌ {A = Result A E} (Ok a) (Ok b) → a ≡ b
ok_is e = cc

pub no_ok : {A E : Type 0} {a : A} {y : E} → ◌≡◌ {A = Result A E} (Ok a) (Err y) → ⊥
no_ok e = let z : ◌≡◌ {A = ℕ} 0 1 = cc in omega arith

-- one atom more
held_more : (p q a : List Atom) (x : Atom) (b : Bool) → p ≡ take path_limit a → b ≡ ltb (length p) path_limit → q ≡ cond b (p ++ x ∷ []) p
    → (q ≡ take path_limit (a ++ x ∷ [])) × (b ≡ leb (length (a ++ x ∷ [])) path_limit)
held_more p q a x b e eb eq = go b refl
  where
    n : length p ≡ length (take path_limit a)
    n = ap length e

    m : length (take path_limit a) ≡ min path_limit (length a)
    m = length-take path_limit a

    l : length (a ++ x ∷ []) ≡ length a + 1
    l = length-append a (x ∷ [])

    go : (c : Bool) → b ≡ c → (q ≡ take path_limit (a ++ x ∷ [])) × (b ≡ leb (length (a ++ x ∷ [])) path_limit)
    go true t =
        let h : length p < path_limit = ltb-true (length p) path_limit (sym eb ∙ t) in
        let k : length a < path_limit = omega (arith, n, m) in
        let i : p ≡ a = e ∙ take_all path_limit a (omega arith) in (
          eq ∙ cond-true b _ _ t ∙ ap (λ (v : List Atom). v ++ x ∷ []) i ∙ sym (take_all path_limit (a ++ x ∷ []) (omega (arith, l))),
          t ∙ sym (le-leb (length (a ++ x ∷ [])) path_limit (omega (arith, l))),
        )
    go false t =
        let h : path_limit ≤ length p = ltb-false (length p) path_limit (sym eb ∙ t) in
        let k : path_limit ≤ length a = omega (arith, n, m) in (
          eq ∙ cond-false b _ _ t ∙ e ∙ sym (take-append-le path_limit a (x ∷ []) k),
          t ∙ sym (lt-leb (length (a ++ x ∷ [])) path_limit (omega (arith, l))),
        )

-- what a push did
abbrev pub Pushed : List Atom → Atom → Result (Unit {0}) PathFull → List Atom → Type 0
Pushed p a r q = (is_ok r ≡ ltb (length p) path_limit) × (q ≡ cond (is_ok r) (p ++ a ∷ []) p)

pub pushed : (p q : List Atom) (a : Atom) (r : Result (Unit {0}) PathFull) → (IsOk r ↔ (length p < path_limit)) → OnOk r (q ≡ p ++ a ∷ []) → OnErr r (q ≡ p)
    → Pushed p a r q
pushed p q a (Ok x) f o e = grind (arith, nat_tests)
pushed p q a (Err x) f o e = grind (arith, nat_tests)

-- what is not an atom
pub no_atom : (w : Word) → ((x : Bor (List ℕ)) → w ≡ word.Atom x → ⊥) → (x : List ℕ) → token w ≡ Token.atom x → ⊥
no_atom word.Less f x e = let z : ◌≡◌ {A = ℕ} 0 1 = cc in omega arith
no_atom word.Greater f x e = let z : ◌≡◌ {A = ℕ} 0 1 = cc in omega arith
no_atom word.Colon f x e = let z : ◌≡◌ {A = ℕ} 0 1 = cc in omega arith
no_atom word.Equals f x e = let z : ◌≡◌ {A = ℕ} 0 1 = cc in omega arith
no_atom word.Stop f x e = let z : ◌≡◌ {A = ℕ} 0 1 = cc in omega arith
no_atom word.Quote f x e = let z : ◌≡◌ {A = ℕ} 0 1 = cc in omega arith
no_atom word.Open f x e = let z : ◌≡◌ {A = ℕ} 0 1 = cc in omega arith
no_atom word.Close f x e = let z : ◌≡◌ {A = ℕ} 0 1 = cc in omega arith
no_atom (word.Node y) f x e = let z : ◌≡◌ {A = ℕ} 0 1 = cc in omega arith
no_atom (word.Atom y) f x e = f y refl
no_atom word.Stray f x e = let z : ◌≡◌ {A = ℕ} 0 1 = cc in omega arith
no_atom word.End f x e = let z : ◌≡◌ {A = ℕ} 0 1 = cc in omega arith

no_greater : (w : Word) → (w ≡ word.Greater → ⊥) → is_sign is_greater (token w) ≡ false
no_greater word.Less f = refl
no_greater word.Greater f = absurd (f refl)
no_greater word.Colon f = refl
no_greater word.Equals f = refl
no_greater word.Stop f = refl
no_greater word.Quote f = refl
no_greater word.Open f = refl
no_greater word.Close f = refl
no_greater (word.Node y) f = refl
no_greater (word.Atom y) f = refl
no_greater word.Stray f = refl
no_greater word.End f = refl

-- what a word comes to within a path
neither : (n : Node) (l : List Atom) (ns : Names) (t : Token) (s e : ℕ) (f : ℕ → Words) → ((x : List ℕ) → t ≡ Token.atom x → ⊥) → is_sign is_greater t ≡ false
    → in_path n l ns (onward s t e f) ≡ rejected 4 s
unfolding in_path
neither n l ns (Token.sign x) s e f g h = cond-false _ _ _ h
neither n l ns (Token.node x) s e f g h = refl
neither n l ns (Token.atom x) s e f g h = absurd (g x refl)
neither n l ns Token.text_end s e f g h = refl

greater : (n : Node) (l : List Atom) (ns : Names) (t : Token) (s e : ℕ) (f : ℕ → Words) → is_sign is_greater t ≡ true
    → in_path n l ns (onward s t e f) ≡ to_the_end n l ns (f e)
unfolding in_path
greater n l ns (Token.sign x) s e f h = cond-true _ _ _ h
greater n l ns (Token.node x) s e f h = let z : ◌≡◌ {A = ℕ} 0 1 = cc in absurd (omega arith)
greater n l ns (Token.atom x) s e f h = let z : ◌≡◌ {A = ℕ} 0 1 = cc in absurd (omega arith)
greater n l ns Token.text_end s e f h = let z : ◌≡◌ {A = ℕ} 0 1 = cc in absurd (omega arith)

an_atom : (n : Node) (l : List Atom) (ns : Names) (x : List ℕ) (s e : ℕ) (f : ℕ → Words)
    → in_path n l ns (onward s (Token.atom x) e f)
    ≡ cond (ltb (numbers.number ns.atoms x) atom_limit) (in_path n (l ++ atom_of ns x ∷ []) (token_names ns (Token.atom x)) (f e)) (rejected 10 s)
unfolding in_path
an_atom n l ns x s e f = refl

module _ (ns : Names) (W : Words) (p : Path) (fits : Bool) (ns' : Names) (W' : Words) (h : Reading ns W p fits ns' W') where
  pub at_fault : (r : WordRefusal) (s : ℕ) → W' ≡ fault_at r s → (n : Node) → in_path n [] ns W ≡ rejected (words.number r) s
  unfolding in_path
  at_fault r s q n = h.comes n ∙ ap (in_path n h.atoms ns') q

  pub at_other : (w : Word) (s e : ℕ) (f : ℕ → Words) → W' ≡ onward s (token w) e f → ((x : Bor (List ℕ)) → w ≡ word.Atom x → ⊥) → (w ≡ word.Greater → ⊥)
      → (n : Node) → in_path n [] ns W ≡ rejected 4 s
  at_other w s e f q g i n = h.comes n ∙ ap (in_path n h.atoms ns') q ∙ neither n h.atoms ns' (token w) s e f (no_atom w g) (no_greater w i)

  pub at_greater : (w : Word) (s e : ℕ) (f : ℕ → Words) → W' ≡ onward s (token w) e f → w ≡ word.Greater
      → (n : Node) → in_path n [] ns W ≡ to_the_end n h.atoms ns' (f e)
  at_greater w s e f q i n =
      h.comes n ∙ ap (in_path n h.atoms ns') q ∙ greater n h.atoms ns' (token w) s e f (ap (λ (w : Word). is_sign is_greater (token w)) i)

  pub all_held : (r : Option Path) → r ≡ cond fits (Some p) None → option_map atoms_of r ≡ within h.atoms
  all_held r e = ap (option_map atoms_of) e ∙ go fits refl
    where
      go : (b : Bool) → fits ≡ b → option_map atoms_of (cond b (Some p) None) ≡ within h.atoms
      go true t =
          let k : length h.atoms ≤ path_limit = leb-true (length h.atoms) path_limit (sym h.fit ∙ t) in
          ap Some (h.held ∙ take_all path_limit h.atoms k) ∙ sym (cond-true _ _ _ (sym h.fit ∙ t))
      go false t = sym (cond-false _ _ _ (sym h.fit ∙ t))

  module _ (w : Word) (x : Bor (List ℕ)) (s e : ℕ) (f : ℕ → Words) (q : W' ≡ onward s (token w) e f) (is : w ≡ word.Atom x) where
    atom_here : W' ≡ onward s (Token.atom x.now) e f
    atom_here = q ∙ ap (λ (w : Word). onward s (token w) e f) is

    turn : (n : Node) → in_path n [] ns W ≡ cond (ltb (numbers.number ns'.atoms x.now) atom_limit) (in_path n (h.atoms ++ atom_of ns' x.now ∷ []) (token_names ns' (Token.atom x.now)) (f e)) (rejected 10 s)
    turn n = h.comes n ∙ ap (in_path n h.atoms ns') atom_here ∙ an_atom n h.atoms ns' x.now s e f

    pub fewer : word_count (f e) < word_count W'
    fewer = let m : word_count W' ≡ suc (word_count (f e)) = ap word_count atom_here in omega arith

    pub at_refused : (i : NameFault) → Err i ≡ atom_or_fault ns' x.now s → (n : Node) → in_path n [] ns W ≡ rejected 10 i.place
    at_refused i g n = turn n ∙ go (ltb (numbers.number ns'.atoms x.now) atom_limit) g
      where
        go : (b : Bool) → Err i ≡ cond b (Ok (atom_of ns' x.now)) (Err (record { place = s }))
            → cond b (in_path n (h.atoms ++ atom_of ns' x.now ∷ []) (token_names ns' (Token.atom x.now)) (f e)) (rejected 10 s) ≡ rejected 10 i.place
        go true g = let z : ◌≡◌ {A = ℕ} 0 1 = cc in absurd (omega arith)
        go false g = let z : i ≡ record { place = s } = cc in ap (λ (i : NameFault). rejected 10 i.place) (sym z)

    pub at_atom : (a : Atom) (ns'' : Names) (p' : Path) (r : Result (Unit {0}) PathFull) → Ok a ≡ atom_or_fault ns' x.now s → ns'' ≡ names_with_atom ns' x.now
        → Pushed (atoms_of p) a r (atoms_of p') → Reading ns W p' (is_ok r) ns'' (f e)
    at_atom a ns'' p' r g m pushed = go (ltb (numbers.number ns'.atoms x.now) atom_limit) refl
      where
        go : (b : Bool) → ltb (numbers.number ns'.atoms x.now) atom_limit ≡ b → Reading ns W p' (is_ok r) ns'' (f e)
        go true t =
            let z : a ≡ atom_of ns' x.now = ok_is (g ∙ cond-true _ _ _ t) in
            let y : ns'' ≡ token_names ns' (Token.atom x.now) = m ∙ cond-true _ _ _ t in
            let k = held_more (atoms_of p) (atoms_of p') h.atoms a (is_ok r) h.held pushed.0 pushed.1 in
            record {
              atoms = h.atoms ++ a ∷ [];
              held = k.0;
              fit = k.1;
              comes = λ n. turn n ∙ cond-true _ _ _ t ∙ ap (λ (a : Atom). in_path n (h.atoms ++ a ∷ []) (token_names ns' (Token.atom x.now)) (f e)) (sym z) ∙ ap (λ (m : Names). in_path n (h.atoms ++ a ∷ []) m (f e)) (sym y);
              grows = Growth.on ns ns' ns'' h.grows (Growth.by_atom ns' ns'' x.now m);
            }
        go false t = absurd (no_ok (g ∙ cond-false _ _ _ t))
