-- What one more sentence makes of the parts.
use Rattle.std.proofs.Common.{◌≡◌, ℕ, suc, ◌+◌, ◌<◌, ◌≤◌, List, [], ◌∷◌, ◌++◌, length, take, drop, sym, refl, ap, ◌∙◌, subst, ⊎_elim, arith, length-append, length-drop}
use Rattle.std.proofs.lemmas.List.{map_push, drop-append-le, take-append-le, drop_at, take_all, length_push, get_or_push, get_or_append_left}
use Rattle.std.proofs.str.Laws.{order}
use Rattle.terms.specs.declared.items.Node.{Node}
use Rattle.terms.specs.declared.items.Atom.{Atom}
use Rattle.terms.specs.declared.items.Item.{Item}
use Rattle.stores.specs.Sentences.{sentence}
use Rattle.kept.specs.declared.Record.{Record}
use Rattle.kept.specs.Parts.{sentence_of, sentences, blank, Inside}

part_kept : {X : Type 0} (xs ys : List X) (a n : ℕ) → a + n ≤ length xs → take n (drop a (xs ++ ys)) ≡ take n (drop a xs)
part_kept xs ys a n h =
    let m : a ≤ length xs = omega arith in
    let k : n ≤ length (drop a xs) = simp length-drop (omega arith) in
    ap (take n) (drop-append-le a xs ys m) ∙ take-append-le n (drop a xs) ys k

part_new : {X : Type 0} (xs ys : List X) → take (length ys) (drop (length xs) (xs ++ ys)) ≡ ys
part_new xs ys = ap (take (length ys)) (drop_at xs ys (length xs) refl) ∙ take_all (length ys) ys (omega arith)

abbrev pub record_of : Node → List Atom → List Item → List Atom → List Item → Record
record_of n bs is l r = record { node = n; left = record { start = length bs; len = length l }; right = record { start = length is; len = length r } }

sentences_kept : (rs : List Record) (bs l : List Atom) (is r : List Item) → Inside rs (length bs) (length is) → sentences rs (bs ++ l) (is ++ r) ≡ sentences rs bs is
sentences_kept [] bs l is r h = refl
sentences_kept (x ∷ rs) bs l is r h =
    let w = h 0 (omega arith) in
    let a = part_kept bs l x.left.start x.left.len w.0 in
    let i = part_kept is r x.right.start x.right.len w.1 in
    let t = sentences_kept rs bs l is r (λ k q. h (suc k) (omega arith)) in
    cc

pub sentences_more : (rs : List Record) (bs l : List Atom) (is r : List Item) (n : Node) → Inside rs (length bs) (length is)
    → sentences (rs ++ record_of n bs is l r ∷ []) (bs ++ l) (is ++ r) ≡ sentences rs bs is ++ sentence n l r ∷ []
sentences_more rs bs l is r n h =
    let a = part_new bs l in
    let i = part_new is r in
    let m = map_push (sentence_of (bs ++ l) (is ++ r)) rs (record_of n bs is l r) in
    let t = sentences_kept rs bs l is r h in
    cc

pub inside_more : (rs : List Record) (x : Record) (a i b j : ℕ) → Inside rs a i → a ≤ b → i ≤ j → (x.left.start + x.left.len ≤ b) × (x.right.start + x.right.len ≤ j) → Inside (rs ++ x ∷ []) b j
inside_more rs x a i b j h p q w k l =
    let n = length_push rs x in
    ⊎_elim
    (λ (o : k < length rs). let v = h k o in subst (λ (y : Record). (y.left.start + y.left.len ≤ b) × (y.right.start + y.right.len ≤ j)) (sym (get_or_append_left rs (x ∷ []) blank k o)) (omega arith, omega arith))
    (λ (o : length rs ≤ k). let e : length rs ≡ k = omega arith in subst (λ (y : Record). (y.left.start + y.left.len ≤ b) × (y.right.start + y.right.len ≤ j)) (sym (get_or_push rs x blank k e)) w)
    (order k (length rs))

-- what `put` leaves, from what its three writes leave
pub put_leaves : (rs rs' : List Record) (bs bs' l : List Atom) (is is' r : List Item) (n : Node) (a i : ℕ)
    → rs' ≡ rs ++ record { node = n; left = record { start = a; len = length l }; right = record { start = i; len = length r } } ∷ [] → bs' ≡ bs ++ l → is' ≡ is ++ r → a ≡ length bs → i ≡ length is
    → Inside rs (length bs) (length is) → (sentences rs' bs' is' ≡ sentences rs bs is ++ sentence n l r ∷ []) × Inside rs' (length bs') (length is')
put_leaves rs rs' bs bs' l is is' r n a i er eb ei ea eo h =
    let p = ap length eb ∙ length-append bs l in
    let q = ap length ei ∙ length-append is r in
    let m = sentences_more rs bs l is r n h in
    let x : Record = record { node = n; left = record { start = a; len = length l }; right = record { start = i; len = length r } } in
    let f : sentences rs' bs' is' ≡ sentences rs bs is ++ sentence n l r ∷ [] = cc in
    (f, subst (λ ys. Inside ys (length bs') (length is')) (sym er) (inside_more rs x (length bs) (length is) (length bs') (length is') h (omega arith) (omega arith) (omega arith, omega arith)))
