-- What stands at a place of a right side.
use Rattle.std.proofs.Common.{◌≡◌, ℕ, zero, suc, List, [], ◌∷◌, ◌++◌, drop, Some, None, sym, refl, ap, ◌∙◌, subst, append_assoc, append-nil, arith}
use Rattle.terms.specs.declared.items.Item.{Item}
use Rattle.terms.specs.Terms.{Terms, done, atom, node, path, Reading, flat, read, in_path}
use Rattle.stores.specs.Items.{item_at}
use Rattle.terms.specs.declared.items.Item.TheVariants as item

-- terms with the first of a reading behind them
abbrev join : Terms → Terms → Terms
join done s = s
join (atom a t) s = atom a (join t s)
join (node c n t) s = node c n (join t s)
join (path c n i t) s = path c n i (join t s)

join_done : (t : Terms) → join t done ≡ t
join_done done = refl
join_done (atom a t) = ap (atom a) (join_done t)
join_done (node c n t) = ap (node c n) (join_done t)
join_done (path c n i t) = ap (path c n i) (join_done t)

abbrev joined : Terms → Reading → Reading
joined t r = record { first = join t r.first; behind = r.behind }

pub read_flat_on : (t : Terms) (more : List Item) → read (flat t ++ more) ≡ joined t (read more)
unfolding read
read_flat_on done more = refl
read_flat_on (atom a t) more = ap (λ r. record { first = atom a r.first; behind = r.behind }) (read_flat_on t more)
read_flat_on (node c n t) more = ap (λ r. record { first = node c n r.first; behind = r.behind }) (read_flat_on t more)
read_flat_on (path c n i t) more =
    ap (λ x. in_path c n (read x).first (read x).behind) (append_assoc (flat i) (item.Close ∷ flat t) more)
    ∙ (ap (λ r. in_path c n r.first r.behind) (read_flat_on i (item.Close ∷ (flat t ++ more)))
    ∙ (ap (λ r. record { first = path c n (join i done) r.first; behind = r.behind }) (read_flat_on t more)
    ∙ ap (λ x. record { first = path c n x (join t (read more).first); behind = (read more).behind }) (join_done i)))

pub read_flat : (t : Terms) → read (flat t) ≡ record { first = t; behind = [] }
unfolding read
read_flat t = ap read (sym (append-nil (flat t))) ∙ (read_flat_on t [] ∙ ap (λ x. record { first = x; behind = [] }) (join_done t))

-- every path that is opened is closed
abbrev pub Shut : List Item → Type 0
Shut [] = Unit {0}
Shut (item.Atom a ∷ more) = Shut more
Shut (item.Node c n ∷ more) = Shut more
Shut (item.Open c n ∷ more) = (t : Terms) × (ts : List Terms) × ((read more).behind ≡ t ∷ ts) × Shut more
Shut (item.Close ∷ more) = Shut more

pub shut_flat : (t : Terms) (more : List Item) → Shut more → Shut (flat t ++ more)
unfolding read
shut_flat done more h = h
shut_flat (atom a t) more h = shut_flat t more h
shut_flat (node c n t) more h = shut_flat t more h
shut_flat (path c n i t) more h =
    let e : (flat i ++ (item.Close ∷ flat t)) ++ more ≡ flat i ++ (item.Close ∷ (flat t ++ more)) = append_assoc (flat i) (item.Close ∷ flat t) more in
    let s : Shut (flat i ++ (item.Close ∷ (flat t ++ more))) = shut_flat i (item.Close ∷ (flat t ++ more)) (shut_flat t more h) in (
      (read (flat t ++ more)).first,
      (read (flat t ++ more)).behind,
      ap (λ x. (read x).behind) e ∙ ap (λ r. r.behind) (read_flat_on i (item.Close ∷ (flat t ++ more))),
      subst Shut (sym e) s,
    )

pub shut_drop : (k : ℕ) (items : List Item) → Shut items → Shut (drop k items)
shut_drop zero items h = h
shut_drop (suc k) [] h = h
shut_drop (suc k) (item.Atom a ∷ more) h = shut_drop k more h
shut_drop (suc k) (item.Node c n ∷ more) h = shut_drop k more h
shut_drop (suc k) (item.Open c n ∷ more) h = shut_drop k more h.3
shut_drop (suc k) (item.Close ∷ more) h = shut_drop k more h

-- the item at a place stands first from there on
pub drop_some : (items : List Item) (k : ℕ) (i : Item) → item_at items k ≡ Some i → drop k items ≡ i ∷ drop (suc k) items
drop_some [] k i e = absurd (none_some e)
  where
    none_some : None ≡ Some i → ⊥
    none_some p = let z : ◌≡◌ {A = ℕ} 0 1 = cc in omega arith
drop_some (j ∷ items) zero i e = let h : j ≡ i = cc in ap (λ x. x ∷ items) h
drop_some (j ∷ items) (suc k) i e = drop_some items k i e

pub drop_none : (items : List Item) (k : ℕ) → item_at items k ≡ None → drop k items ≡ []
drop_none [] zero e = refl
drop_none [] (suc k) e = refl
drop_none (j ∷ items) zero e = let z : ◌≡◌ {A = ℕ} 0 1 = cc in absurd (omega arith)
drop_none (j ∷ items) (suc k) e = drop_none items k e
