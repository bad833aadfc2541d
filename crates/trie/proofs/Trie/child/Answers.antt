use Rattle.std.proofs.Common.{◌≡◌, suc, ◌+◌, map, Some, vec_items, sym, ap, ◌∙◌, arith, rules}
use Rattle.chains.specs.Held.{buckets_in}
use Rattle.trie.specs.Ways.{edge_of, end}
use Rattle.trie.proofs.Childs.{edge_found}
use Rattle.trie.proofs.Trie.child.Goals as goal

pub returns-in_err-last : goal.returns-in_err-last
returns-in_err-last c =
    let s = c.args.self.now in
    let e = edge_found (map edge_of (vec_items s.places)) (buckets_in s.chains) c.args.edge.parent c.args.edge.label c.bucket_of.result _ c.find.result s.chained c.bucket_of.ensures.is (λ i r a. search rules) c.find.ensures.found c.find.ensures.none in
    c.from_residual.ensures ∙ ap end (sym c.in_err-last.was ∙ e)

pub returns : goal.returns
returns c =
    let s = c.args.self.now in
    let e = edge_found (map edge_of (vec_items s.places)) (buckets_in s.chains) c.args.edge.parent c.args.edge.label c.bucket_of.result _ c.find.result s.chained c.bucket_of.ensures.is (λ i r a. search rules) c.find.ensures.found c.find.ensures.none in
    let z : c.in_ok-last.last + 1 ≡ suc c.in_ok-last.last = omega arith in
    ap Some z ∙ ap end (sym c.in_ok-last.was ∙ e)
