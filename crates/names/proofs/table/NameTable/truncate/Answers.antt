use Rattle.std.proofs.Common.{◌≡◌, ℕ, ◌<◌, length, take, vec_items, vec_len, ap, ◌∙◌, arith, rules}
use lib.ListN.{length-map}
use Rattle.chains.specs.Held.{buckets_in, width_in}
use Rattle.names.specs.declared.part.Part.{Part}
use Rattle.names.specs.Parts.{part_of, parts_of}
use Rattle.names.specs.Held.{names_in}
use Rattle.names.proofs.Laws.{ordered_take, names_take, part_within}
use Rattle.names.proofs.Apart.{table_take}
use Rattle.names.proofs.table.NameTable.truncate.Goals as goal

pub invariant_of-self : goal.invariant_of-self
invariant_of-self c =
    let t = c.args.self.now in
    let l : c.args.n < length (vec_items t.parts) = omega (arith, length-map (vec_items t.parts) (part_of (vec_items t.bytes))) in
    let cut : parts_of (vec_items c.truncate.new.self) (vec_items c.truncate-then-n-len.new.self) ≡ take c.args.n (names_in t) =
    ap (λ b. parts_of b (vec_items c.truncate-then-n-len.new.self)) c.truncate.ensures.items
    ∙ ap (parts_of (take c.index.result.now.start (vec_items t.bytes))) c.truncate-then-n-len.ensures.items
    ∙ ap (λ (k : ℕ). parts_of (take k (vec_items t.bytes)) (take c.args.n (vec_items t.parts))) (ap (λ (q : Part). q.start) c.index.ensures)
    ∙ names_take (vec_items t.bytes) (vec_items t.parts) (vec_len t.bytes) c.args.n c.index.result.now t.ordered l in
    let p = table_take (names_in t) _ t.chains c.truncate-then-n-len-2.new.self c.args.n t.chained cut c.truncate-then-n-len-2.ensures t.apart in
    let wide = t.wide in record {
      ordered = search (rules, ordered_take, part_within);
      few = search rules;
      small = search rules;
      parts_room = search rules;
      bytes_room = search rules;
      chains_room = rw p.0 t.chains_room;
      wide = ap width_in p.0 ∙ wide;
      chained = ap buckets_in p.0;
      apart = p.1;
    }

pub returns-then-n-len : goal.returns-then-n-len
returns-then-n-len c =
    let t = c.args.self.now in
    let l : c.args.n < length (vec_items t.parts) = omega (arith, length-map (vec_items t.parts) (part_of (vec_items t.bytes))) in search (rules, names_take)
