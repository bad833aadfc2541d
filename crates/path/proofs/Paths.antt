-- The atoms of a path, counted, joined and compared.
use Rattle.std.proofs.Common.{◌≡◌, ℕ, ◌+◌, ◌-◌, ◌<◌, ◌≤◌, Bool, eqb, List, [], ◌∷◌, ◌++◌, length, take, drop, sym, refl, ap, ◌∙◌, append_assoc, arith, length-append, length-drop}
use Rattle.std.specs.Prelude.{nat_eq, ◌&&◌}
use Rattle.std.specs.Ordering.{on}
use Rattle.std.specs.Cmp.Lexicographic.{pointwise}
use Rattle.std.proofs.lemmas.List.{length-take-le, take_all, take-append-le, take-append-drop}
use Rattle.terms.specs.declared.items.Atom.{Atom}
use Rattle.terms.specs.Limits.{path_limit}
use Rattle.terms.specs.Maps.{same_atoms}
use Rattle.path.specs.declared.Path.{Path}
use Rattle.path.specs.Atoms.{atoms_of}

-- as many atoms as the length says
pub length_atoms : (p : Path) → length (atoms_of p) ≡ p.len
length_atoms p = let h : p.len ≤ length p.atoms = omega (arith, p.fits, p.whole) in length-take-le p.len p.atoms h

-- the library compares atoms one by one as the definition does
pub pointwise_same : (x y : List Atom) → pointwise (on (λ (v : Atom). v.0) nat_eq) x y ≡ same_atoms x y
pointwise_same [] [] = refl
pointwise_same [] (b ∷ y) = refl
pointwise_same (a ∷ x) [] = refl
pointwise_same (a ∷ x) (b ∷ y) = ap (λ t. eqb a.0 b.0 && t) (pointwise_same x y)

pub matches_same : (x y : List Atom) (r : Bool) → r ≡ pointwise (on (λ (v : Atom). v.0) nat_eq) x y → r ≡ same_atoms x y
matches_same x y r m = m ∙ pointwise_same x y

-- a path that is full, and atoms that have no room
pub filled : (s u more : List Atom) (i : ℕ) → u ≡ s ++ take i more → length u ≡ path_limit → i < length more
    → (u ≡ take path_limit (s ++ more)) × (path_limit < length (s ++ more))
filled s u more i e l h =
    let w : s ++ more ≡ u ++ drop i more =
    ap (λ x. s ++ x) (sym (take-append-drop i more)) ∙ (sym (append_assoc s (take i more) (drop i more)) ∙ ap (λ x. x ++ drop i more) (sym e)) in
    let k : length (s ++ more) ≡ length u + (length more - i) = ap length w ∙ (length-append u (drop i more) ∙ ap (λ n. length u + n) (length-drop i more)) in (
      sym (ap (take path_limit) w ∙ (take-append-le path_limit u (drop i more) (omega arith) ∙ take_all path_limit u (omega arith))),
      omega arith,
    )
