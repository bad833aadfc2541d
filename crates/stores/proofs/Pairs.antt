-- What the tests of a pair say.
use Rattle.std.proofs.Common.{◌≡◌, ℕ, true, false, eqb, List, [], ◌∷◌, Decides, sym, refl, ap, arith}
use Rattle.std.proofs.lemmas.Bool.{eq-eqb, eqb-true, and_parts, and_from}
use Rattle.terms.specs.declared.items.Node.{Node}
use Rattle.terms.specs.declared.items.Atom.{Atom}
use Rattle.terms.specs.Maps.{same_atoms}
use Rattle.stores.specs.Sentences.{Sentence, is_pair}

pub never : {P : Type 0} → true ≡ false → P
never e = absurd (let z : ◌≡◌ {A = ℕ} 0 1 = cc in omega arith)

pub atoms_decide : (xs ys : List Atom) → Decides (same_atoms xs ys) (xs ≡ ys)
atoms_decide [] [] = (λ h. refl, λ h. refl)
atoms_decide [] (y ∷ ys) = (λ h. never (sym h), λ h. absurd (let z : ◌≡◌ {A = ℕ} 0 1 = cc in omega arith))
atoms_decide (x ∷ xs) [] = (λ h. never (sym h), λ h. absurd (let z : ◌≡◌ {A = ℕ} 0 1 = cc in omega arith))
atoms_decide (x ∷ xs) (y ∷ ys) =
    let r = atoms_decide xs ys in (
      λ h. let a = and_parts (eqb x.0 y.0) (same_atoms xs ys) h in
          let f : x ≡ y = ap (λ i. record { 0 = i }) (eqb-true x.0 y.0 a.0) in
          let t = r.0 a.1 in cc,
      λ h. let e : x ≡ y = cc in let t : xs ≡ ys = cc in
          and_from (eqb x.0 y.0) (same_atoms xs ys) (eq-eqb x.0 y.0 (ap (λ (w : Atom). w.0) e)) (r.1 t),
    )

pub pair_is : (n : Node) (l : List Atom) (s : Sentence) → is_pair n l s ≡ true → (n ≡ s.node) × (l ≡ s.left)
pair_is n l s h =
    let p = and_parts (eqb n.0 s.node.0) (same_atoms l s.left) h in
    (ap (λ i. record { 0 = i }) (eqb-true n.0 s.node.0 p.0), (atoms_decide l s.left).0 p.1)

pub own_pair : (n : Node) (l : List Atom) (s : Sentence) → n ≡ s.node → l ≡ s.left → is_pair n l s ≡ true
own_pair n l s e f = and_from (eqb n.0 s.node.0) (same_atoms l s.left) (eq-eqb n.0 s.node.0 (ap (λ (w : Node). w.0) e)) ((atoms_decide l s.left).1 f)
