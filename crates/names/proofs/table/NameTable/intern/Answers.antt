use Rattle.std.proofs.Common.{◌≡◌, ℕ, true, [], ◌∷◌, ◌++◌, length, is_ok, vec_items, vec_len, refl, ap, ◌∙◌, subst, arith, rules}
use Rattle.std.proofs.lemmas.List.{length-map}
use Rattle.std.proofs.lemmas.Bool.{cond-true}
use Rattle.names.specs.Parts.{parts_of, in_order}
use Rattle.names.specs.Held.{names_in}
use Rattle.names.proofs.Laws.{span, ordered_grown, names_push, there_names, new_names}
use Rattle.chains.specs.Held.{buckets_in, width_in}
use Rattle.names.proofs.Apart.{table_push}
use Rattle.names.proofs.table.NameTable.intern.Goals as goal

pub returns-then-n-len : goal.returns-then-n-len
returns-then-n-len c =
    let l : length (names_in c.args.self.now) ≡ vec_len c.args.self.now.parts = search (rules, length-map) in
    let r = there_names c.args.self.now.limit (names_in c.args.self.now) c.args.name.now (omega arith) (omega arith) c.number-n.result c.number-n.ensures (omega arith) in
    record { gives = r.0; names = r.1; limit = refl }

pub invariant_of-self : goal.invariant_of-self
invariant_of-self c =
    let t = c.args.self.now in
    let l : length (names_in t) ≡ vec_len t.parts = search (rules, length-map) in
    let s = (span 0 (vec_items t.parts) (vec_len t.bytes) t.ordered).1 in
    let ok : is_ok c.extend_from_slice.result ≡ true = c.extend_from_slice.ensures.succeeds (omega (arith, s, t.parts.ok.0)) in
    let P : ℕ → Type 0 = λ n. in_order 0 (vec_items t.parts) n ≡ true in
    let ordered : in_order 0 (vec_items t.parts) (length (vec_items t.bytes)) ≡ true = subst P t.bytes.ok.0 t.ordered in
    let start : c.len-start.result ≡ length (vec_items t.bytes) = c.len-start.ensures ∙ t.bytes.ok.0 in
    let grown : parts_of (vec_items c.extend_from_slice.new.self) (vec_items c.push_reserved.new.self) ≡ names_in t ++ c.args.name.now ∷ [] =
    ap (λ b. parts_of b (vec_items c.push_reserved.new.self)) (c.extend_from_slice.ensures.items ∙ cond-true _ _ _ ok)
    ∙ ap (parts_of (vec_items t.bytes ++ c.args.name.now)) c.push_reserved.ensures.items
    ∙ names_push (vec_items t.bytes) c.args.name.now (vec_items t.parts) _ ordered start refl in
    let n = c.number-n.ensures in
    let wide = t.wide in
    let p = table_push (names_in t) _ t.chains c.push.new.self c.args.name.now c.bucket_of.result c.push.result t.chained grown c.bucket_of.ensures.is c.push.ensures.gives (omega (arith, c.bucket_of.ensures.small)) (omega arith) c.push.ensures.entries t.apart (omega arith) in record {
      ordered = ordered_grown _ _ _ _ _ t.ordered c.push_reserved.ensures.items (c.extend_from_slice.ensures.len ∙ cond-true _ _ _ ok) c.len-start.ensures (omega arith);
      few = search rules;
      small = search rules;
      parts_room = search rules;
      bytes_room = search rules;
      chains_room = rw p.0 t.chains_room;
      wide = ap width_in p.0 ∙ wide;
      chained = ap buckets_in p.0;
      apart = p.1;
    }

pub returns : goal.returns
returns c =
    let l : length (names_in c.args.self.now) ≡ vec_len c.args.self.now.parts = search (rules, length-map) in
    let s = (span 0 (vec_items c.args.self.now.parts) (vec_len c.args.self.now.bytes) c.args.self.now.ordered).1 in
    let ok : is_ok c.extend_from_slice.result ≡ true = c.extend_from_slice.ensures.succeeds (omega (arith, s, c.args.self.now.parts.ok.0)) in
    let P : ℕ → Type 0 = λ n. in_order 0 (vec_items c.args.self.now.parts) n ≡ true in
    let ordered : in_order 0 (vec_items c.args.self.now.parts) (length (vec_items c.args.self.now.bytes)) ≡ true =
    subst P c.args.self.now.bytes.ok.0 c.args.self.now.ordered in
    let start : c.len-start.result ≡ length (vec_items c.args.self.now.bytes) = c.len-start.ensures ∙ c.args.self.now.bytes.ok.0 in
    let r = new_names c.args.self.now.limit (names_in c.args.self.now) c.args.name.now (omega arith) c.number-n.result c.number-n.ensures (omega arith) (omega arith) in
    record {
      gives = r.0;
      names =
          ap (λ b. parts_of b (vec_items c.push_reserved.new.self)) (c.extend_from_slice.ensures.items ∙ cond-true _ _ _ ok)
          ∙ ap (parts_of (vec_items c.args.self.now.bytes ++ c.args.name.now)) c.push_reserved.ensures.items
          ∙ names_push (vec_items c.args.self.now.bytes) c.args.name.now (vec_items c.args.self.now.parts) _ ordered start refl ∙ r.1;
      limit = refl;
    }
