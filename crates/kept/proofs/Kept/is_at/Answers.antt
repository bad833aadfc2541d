use Rattle.std.proofs.Common.{◌<◌, length, vec_items, refl, ap, ◌∙◌, arith}
use Rattle.std.proofs.lemmas.Slice.Eq.{slice_eq-Decides}
use Rattle.terms.proofs.Equality.{atom_eq_decides}
use Rattle.kept.specs.Held.{kept_in}
use Rattle.kept.specs.Parts.{part_of}
use Rattle.kept.proofs.Looks.{pair_of_other_node, pair_of_node}
use Rattle.kept.proofs.Kept.is_at.Goals as goal

pub returns-then-eq : goal.returns-then-eq
returns-then-eq c =
    let k = c.self.inside in
    let l : c.args.number < length (vec_items k.records) = omega arith in
    pair_of_node (vec_items k.records) (vec_items k.records) (vec_items k.atoms) (vec_items k.items) _ c.args.number c.args.node c.args.left.now refl (ap kept_in c.self.view_is) c.index.result.now l c.index.ensures c.of.result.now
    c.eq-then-eq.result c.if-eq.ensures (c.of.ensures ∙ ap (λ v. part_of v c.index.result.now.left) c.deref.ensures.value) (slice_eq-Decides atom_eq_decides c.args.left.now c.of.result.now c.eq-then-eq.result c.eq-then-eq.ensures)

pub returns-else-eq : goal.returns-else-eq
returns-else-eq c =
    let k = c.self.inside in
    let l : c.args.number < length (vec_items k.records) = omega arith in
    c.if-eq.false
    ∙ pair_of_other_node (vec_items k.records) (vec_items k.records) (vec_items k.atoms) (vec_items k.items) _ c.args.number c.args.node c.args.left.now refl (ap kept_in c.self.view_is) c.index.result.now l c.index.ensures c.if-eq.ensures
