use Rattle.std.proofs.Common.{◌≡◌, sym, ap, ◌∙◌, rules}
use Rattle.terms.specs.LookUp.{look_up, length_found}
use Rattle.stores.specs.Piles.{larger}
use Rattle.stores.proofs.Longest.{found_either}
use Rattle.addendum.specs.Held.{meaning_in}
use Rattle.pile.proofs.PileStore.find.Goals as goal

pub returns : goal.returns
returns g c =
    let s = c.args.self.now in
    let n = c.args.node in
    let p = c.args.path.now in
    let e : c.max.result ≡ larger c.find-upper.result c.find-lower.result = search rules in
    e ∙ ap (λ o. larger o c.find-lower.result) c.find-upper.ensures ∙ ap (larger (length_found (look_up ((meaning_in s.addendum).map n) p))) c.find-lower.ensures
    ∙ sym (found_either ((meaning_in s.addendum).map n) ((g.S.Store.means s.below).map n) p)
