-- Reading by the number of a sentence.
use Rattle.std.proofs.Common.{◌≡◌, ℕ, Bool, true, false, ◌&&◌, eqb, Decides, subst, ◌<◌, ◌≤◌, List, length, get_or, Some, None, sym, ap, ◌∙◌, arith}
use Rattle.std.specs.List.{slice_get}
use Rattle.std.proofs.lemmas.List.{length-map, get_or-map}
use Rattle.std.proofs.lemmas.Bool.Decides.{same_from_decides}
use Rattle.std.proofs.lemmas.Option.{slice_get-get_or, slice_get_past}
use Rattle.terms.specs.declared.items.Atom.{Atom}
use Rattle.terms.specs.declared.items.Item.{Item}
use Rattle.terms.specs.declared.items.Node.{Node}
use Rattle.terms.specs.Maps.{same_atoms}
use Rattle.stores.specs.Sentences.{Sentence}
use Rattle.stores.proofs.Pairs.{atoms_decide}
use Rattle.kept.specs.Held.{of_pair}
use Rattle.kept.specs.declared.Record.{Record}
use Rattle.kept.specs.Parts.{part_of, sentence_of, sentences}

-- the sentence of a number, from its record
pub sentence_at : (rs : List Record) (bs : List Atom) (is : List Item) (k : ℕ) (r : Record) → k < length rs → r ≡ get_or rs k r → slice_get (sentences rs bs is) k ≡ Some (sentence_of bs is r)
sentence_at rs bs is k r l e =
    let m : k < length (sentences rs bs is) = simp length-map (omega arith) in
    slice_get-get_or (sentences rs bs is) k (sentence_of bs is r) m ∙ ap Some (get_or-map (sentence_of bs is) rs k r (sentence_of bs is r) l ∙ ap (sentence_of bs is) (sym e))

pub sentence_past : (rs : List Record) (bs : List Atom) (is : List Item) (k : ℕ) → length rs ≤ k → slice_get (sentences rs bs is) k ≡ None
sentence_past rs bs is k l =
    let m : length (sentences rs bs is) ≤ k = simp length-map (omega arith) in
    slice_get_past (sentences rs bs is) k m

-- ---- whether the sentence of a number is of a pair, by its record
module _ (rs rs' : List Record) (bs : List Atom) (is : List Item) (ss : List Sentence) (k : ℕ) (n : Node) (l : List Atom) (same : rs' ≡ rs) (held : sentences rs bs is ≡ ss) where
  pub pair_past : length rs' ≤ k → false ≡ of_pair (slice_get ss k) n l
  pair_past p =
      let e = ap length same in
      sym (ap (λ o. of_pair o n l) (ap (λ v. slice_get v k) (sym held) ∙ sentence_past rs bs is k (omega arith)))

  module _ (r : Record) (there : k < length rs') (is_at : r ≡ get_or rs' k r) where
    read : slice_get ss k ≡ Some (sentence_of bs is r)
    read = let e = ap length same in ap (λ v. slice_get v k) (sym held) ∙ sentence_at rs bs is k r (omega arith) (is_at ∙ ap (λ v. get_or v k r) same)

    pub pair_of_other_node : false ≡ eqb n.0 r.node.0 → false ≡ of_pair (slice_get ss k) n l
    pair_of_other_node h = ap (λ b. b && same_atoms l (part_of bs r.left)) h ∙ sym (ap (λ o. of_pair o n l) read)

    pub pair_of_node : (own : List Atom) (b : Bool) → true ≡ eqb n.0 r.node.0 → own ≡ part_of bs r.left → Decides b (l ≡ own) → b ≡ of_pair (slice_get ss k) n l
    pair_of_node own b h eo d =
        let w : b ≡ same_atoms l (part_of bs r.left) = same_from_decides b (same_atoms l (part_of bs r.left)) (subst (λ q. Decides b (l ≡ q)) eo d) (atoms_decide l (part_of bs r.left)) in
        w ∙ ap (λ v. v && same_atoms l (part_of bs r.left)) h ∙ sym (ap (λ o. of_pair o n l) read)
