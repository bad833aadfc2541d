-- The steps of reading a right side.
use Rattle.std.proofs.Common.{◌≡◌, ℕ, zero, suc, ◌+◌, ◌<◌, ◌≤◌, List, [], ◌∷◌, ◌++◌, length, get_or, take, set, Some, None, Option, sym, refl, ap, ◌∙◌, arith}
use Rattle.std.proofs.lemmas.List.{take_more, take_more_set, take_all}
use Rattle.terms.specs.declared.items.Node.{Node}
use Rattle.terms.specs.declared.items.Atom.{Atom}
use Rattle.terms.specs.declared.items.Item.{Item}
use Rattle.terms.specs.Terms.{Terms}
use Rattle.terms.specs.Maps.{Meaning, Fitting}
use Rattle.stores.specs.Items.{item_at, items_of}

-- an item that there is
pub item_some : (is : List Item) (n : ℕ) (x d : Item) → Some x ≡ item_at is n → (n < length is) × (get_or is n d ≡ x)
item_some [] n x d e = let z : ◌≡◌ {A = ℕ} 0 1 = cc in absurd (omega arith)
item_some (i ∷ is) zero x d e = (omega arith, cc)
item_some (i ∷ is) (suc n) x d e = let p = item_some is n x d e in (let k = p.0 in omega arith, p.1)

item_none : (is : List Item) (n : ℕ) → None ≡ item_at is n → length is ≤ n
item_none [] n e = omega arith
item_none (i ∷ is) zero e = let z : ◌≡◌ {A = ℕ} 0 1 = cc in absurd (omega arith)
item_none (i ∷ is) (suc n) e = let p = item_none is n e in omega arith

-- no right side that a store means has over 64 items
few : (n : Node) (l : List Atom) (o : Option Terms) → ((t : Terms) → o ≡ Some t → Fitting n l t) → length (items_of o) ≤ 64
few n l None h = omega arith
few n l (Some t) h = (h t refl).right_length

pub items_few : (m : Meaning) (n : Node) (l : List Atom) → length (items_of (m.map n l)) ≤ 64
items_few m n l = few n l (m.map n l) (m.lawful n l)

pub read_more : (is into : List Item) (n : ℕ) (x : Item) → Some x ≡ item_at is n → n < length into → take n into ≡ take n is → take (n + 1) (set into n x) ≡ take (n + 1) is
read_more is into n x e l h =
    let p = item_some is n x x e in
    take_more_set into n x l ∙ ap (λ (y : List Item). y ++ x ∷ []) h ∙ ap (λ y. take n is ++ y ∷ []) (sym p.1) ∙ sym (take_more is n x p.0)

pub read_all : (is into : List Item) (n : ℕ) → None ≡ item_at is n → n ≤ length is → take n into ≡ take n is → (n ≡ length is) × (take n into ≡ is)
read_all is into n e l h = let k = item_none is n e in (omega arith, h ∙ take_all n is k)

pub read_full : (is into : List Item) (n : ℕ) → length is ≤ 64 → n ≡ 64 → n ≤ length is → take n into ≡ take n is → (64 ≡ length is) × (take 64 into ≡ is)
read_full is into n f e l h = let z : length is ≤ n = omega arith in (omega arith, ap (λ k. take k into) (sym e) ∙ h ∙ take_all n is z)
