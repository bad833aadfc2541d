use Rattle.std.proofs.Common.{◌≡◌, ℕ, length, ap, ◌∙◌, rules}
use Rattle.std.specs.Option.{unwrap_or}
use Rattle.std.proofs.lemmas.List.{length-map}
use Rattle.chains.specs.Held.{buckets_in}
use Rattle.names.specs.Held.{names_in}
use Rattle.names.proofs.Apart.{found}
use Rattle.names.proofs.table.NameTable.number.Goals as goal

pub returns : goal.returns
returns c =
    let s = c.args.self.now in
    let l : c.len.result ≡ length (names_in s) = search (rules, length-map) in
    c.unwrap_or.ensures ∙ ap (λ (n : ℕ). unwrap_or c.find.result n) l
    ∙ found (names_in s) (buckets_in s.chains) c.args.name.now s.chained s.apart c.bucket_of.result c.bucket_of.ensures.is _ (λ i b a. search rules) c.find.result c.find.ensures.found c.find.ensures.none
