use Rattle.std.proofs.Common.{◌<◌, ◌≤◌, length, sym, ap, ◌∙◌, rules}
use Rattle.std.specs.Str.{bytes_eq}
use Rattle.std.proofs.lemmas.List.{length-map}
use Rattle.std.proofs.lemmas.Bool.{le-ltb}
use Rattle.names.specs.Held.{names_in}
use Rattle.names.proofs.Laws.{eq_told}
use Rattle.names.proofs.Apart.{at_is, at_none}
use Rattle.names.proofs.table.NameTable.is_name.Goals as goal

pub returns-then-k-len : goal.returns-then-k-len
returns-then-k-len c =
    let h : c.args.k < length (names_in c.args.self.now) = search (rules, length-map) in
    eq_told c.part.result.now c.args.name.now _ c.eq.ensures ∙ ap (λ x. bytes_eq x c.args.name.now) c.part.ensures ∙ sym (at_is _ _ _ h)

pub returns-else-k-len : goal.returns-else-k-len
returns-else-k-len c =
    let h : length (names_in c.args.self.now) ≤ c.args.k = search (rules, length-map) in
    le-ltb c.args.k c.len.result c.if-k-len.false ∙ sym (at_none _ _ _ h)
