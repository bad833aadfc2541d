-- The names of atoms, one more at the end or at the front.
use Rattle.std.proofs.Common.{◌≡◌, ℕ, ◌+◌, ◌<◌, ◌≤◌, false, eqb, List, [], ◌∷◌, ◌++◌, length, get_or, take, drop, sym, refl, ap, ◌∙◌, append_assoc}
use borrow.Author.Tests.{eqb-false}
use Rattle.std.proofs.lemmas.List.{append-nil, map_more, take_all}
use Rattle.terms.specs.declared.items.Atom.{Atom}
use Rattle.lines.specs.Bytes.{atom_bytes, value_bytes, spaced}
use Rattle.lines.specs.Names.{name_or_none, names_of}

value_push : (xs : List (List ℕ)) (x : List ℕ) → value_bytes xs ++ (32 ∷ atom_bytes x) ≡ value_bytes (xs ++ x ∷ [])
value_push [] x = sym (append-nil (32 ∷ atom_bytes x))
value_push (y ∷ ys) x =
    append_assoc (32 ∷ atom_bytes y) (value_bytes ys) (32 ∷ atom_bytes x) ∙ ap (λ l. (32 ∷ atom_bytes y) ++ l) (value_push ys x)

pub value_more : (names : List (List ℕ)) (atoms : List Atom) (i : ℕ) (d : Atom) → i < length atoms
    → value_bytes (names_of names (take i atoms)) ++ (32 ∷ atom_bytes (name_or_none names (get_or atoms i d).0))
    ≡ value_bytes (names_of names (take (i + 1) atoms))
value_more names atoms i d h =
    value_push (names_of names (take i atoms)) (name_or_none names (get_or atoms i d).0)
    ∙ ap value_bytes (sym (map_more (λ (a : Atom). name_or_none names a.0) atoms i d h))

pub value_all : (names : List (List ℕ)) (atoms : List Atom) (i : ℕ) → length atoms ≤ i
    → value_bytes (names_of names (take i atoms)) ≡ value_bytes (names_of names atoms)
value_all names atoms i h = ap (λ l. value_bytes (names_of names l)) (take_all i atoms h)

first_of : (names : List (List ℕ)) (atoms : List Atom) (d : Atom) → eqb (length atoms) 0 ≡ false
    → atom_bytes (name_or_none names (get_or atoms 0 d).0) ++ value_bytes (names_of names (drop 1 atoms)) ≡ spaced (names_of names atoms)
first_of names [] d h = absurd (eqb-false 0 0 h refl)
first_of names (a ∷ atoms) d h = refl
