-- `==` of nodes and of atoms decides whether they are the same.
use Rattle.std.proofs.Common.{◌≡◌, Decides, ap, eqb-true, eq-eqb}
use Rattle.std.specs.Prelude.{nat_eq}
use Rattle.std.specs.Ordering.{on}
use Rattle.terms.specs.declared.items.Node.{Node}
use Rattle.terms.specs.declared.items.Atom.{Atom}

pub node_eq_decides : (x y : Node) → Decides (on (λ (v : Node). v.0) nat_eq x y) (x ≡ y)
node_eq_decides x y = (λ h. ap (λ i. record { 0 = i }) (eqb-true x.0 y.0 h), λ h. eq-eqb x.0 y.0 (ap (λ (w : Node). w.0) h))

pub atom_eq_decides : (x y : Atom) → Decides (on (λ (v : Atom). v.0) nat_eq x y) (x ≡ y)
atom_eq_decides x y = (λ h. ap (λ i. record { 0 = i }) (eqb-true x.0 y.0 h), λ h. eq-eqb x.0 y.0 (ap (λ (w : Atom). w.0) h))
