-- An item that is taken keeps what stays in range.
use Rattle.std.proofs.Common.{◌≡◌, ℕ, zero, suc, ◌+◌, ◌-◌, ◌*◌, ◌<◌, ◌≤◌, Bool, true, false, ◌&&◌, ltb, List, [], ◌∷◌, length, take, drop, Some, None, Option, sym, refl, ap, ◌∙◌, subst, add-one, arith}
use Rattle.std.proofs.lemmas.Bool.Decides.{nat_tests}
use Rattle.terms.specs.declared.items.Atom.{Atom}
use Rattle.terms.specs.declared.items.Item.{Item}
use Rattle.terms.specs.Limits.{item_limit, nesting_limit, open_limit}
use Rattle.terms.specs.Terms.{Terms, flat, read, in_path, balanced}
use Rattle.terms.specs.Maps.{Map, Lawful}
use Rattle.rules.specs.Questions.{Question}
use Rattle.rules.specs.Table.{site, node_asks_lem, path_asks_lem}
use Rattle.rules.specs.Outcomes.{Stop}
use Rattle.rules.specs.Evaluation.{barred}
use Rattle.terms.specs.LookUp.{Look, found, nothing, look_up, length_found}
use Rattle.terms.proofs.Balance.{balanced_items_are_term_lists_lem}
use Rattle.terms.proofs.LookUp.{Tells, look_tells}
use Rattle.machine.specs.Steps.{Built, whole, inside, room, full, put, asks, stops, allowed, pose}
use Rattle.stores.specs.Items.{item_at, items_of}
use Rattle.machine.specs.Items.{Position, position, onward, right_side, standing, questions_at, working, reached, closed, took_item, took, looked_up}
use Rattle.machine.specs.Bounds.{inside_limit, insides, paths_open, InsidesMatch, work_left}
use Rattle.machine.proofs.Standing.{read_flat, Shut, shut_drop, drop_some, drop_none}
use Rattle.machine.proofs.Items.{shut_side}
use Rattle.terms.specs.declared.items.Item.TheVariants as item

-- balanced items: as many terms stand behind as paths are open
and_left : (a b : Bool) → (a && b) ≡ true → a ≡ true
and_left true b e = refl
and_left false b e = e

and_right : (a b : Bool) → (a && b) ≡ true → b ≡ true
and_right true b e = e
and_right false b e = absurd (let z : ◌≡◌ {A = ℕ} 0 1 = cc in omega arith)

after_path : (c n : _) (t : Terms) (ts : List Terms) (d : ℕ) → length ts ≡ suc d → length (in_path c n t ts).behind ≡ d
after_path c n t [] d e = absurd (omega arith)
after_path c n t (r ∷ ts) d e = omega arith

balanced_read : (d : ℕ) (items : List Item) → balanced d items ≡ true → length (read items).behind ≡ d
unfolding balanced read
balanced_read zero [] e = refl
balanced_read (suc d) [] e = absurd (let z : ◌≡◌ {A = ℕ} 0 1 = cc in omega arith)
balanced_read d (item.Atom a ∷ more) e = balanced_read d more e
balanced_read d (item.Node c n ∷ more) e = balanced_read d more e
balanced_read d (item.Open c n ∷ more) e =
    after_path c n (read more).first (read more).behind d (balanced_read (suc d) more (and_right (ltb d nesting_limit) (balanced (suc d) more) e))
balanced_read zero (item.Close ∷ more) e = absurd (let z : ◌≡◌ {A = ℕ} 0 1 = cc in omega arith)
balanced_read (suc d) (item.Close ∷ more) e = ap suc (balanced_read d more e)

balanced_drop : (d : ℕ) (items : List Item) → balanced d items ≡ true → d ≤ nesting_limit → (k : ℕ) → (e : ℕ) × (balanced e (drop k items) ≡ true) × (e ≤ nesting_limit)
unfolding balanced
balanced_drop d items b h zero = (d, b, h)
balanced_drop d [] b h (suc k) = (d, b, h)
balanced_drop d (item.Atom a ∷ more) b h (suc k) = balanced_drop d more b h k
balanced_drop d (item.Node c n ∷ more) b h (suc k) = balanced_drop d more b h k
balanced_drop d (item.Open c n ∷ more) b h (suc k) =
    let l : ltb d nesting_limit ≡ true = and_left (ltb d nesting_limit) (balanced (suc d) more) b in
    let s : suc d ≤ nesting_limit = grind (arith, nat_tests) in
    balanced_drop (suc d) more (and_right (ltb d nesting_limit) (balanced (suc d) more) b) s k
balanced_drop zero (item.Close ∷ more) b h (suc k) = absurd (let z : ◌≡◌ {A = ℕ} 0 1 = cc in omega arith)
balanced_drop (suc d) (item.Close ∷ more) b h (suc k) = balanced_drop d more b (omega arith) k

-- the right side at a place
lawful_side : (M : Map) → Lawful M → (o : Position) → (length (right_side M o) ≤ item_limit) × (balanced 0 (right_side M o) ≡ true)
unfolding balanced
lawful_side M l o = by (M o.at.node (take o.left o.at.path)) refl
  where
    by : (x : Option Terms) → M o.at.node (take o.left o.at.path) ≡ x → (length (items_of x) ≤ item_limit) × (balanced 0 (items_of x) ≡ true)
    by (Some t) e =
        let f = l o.at.node (take o.left o.at.path) t e in
        (f.right_length, (balanced_items_are_term_lists_lem (flat t)).1 (t, refl, f.right_nesting))
    by None e = (omega arith, refl)

item_in : (items : List Item) (k : ℕ) (i : Item) → item_at items k ≡ Some i → k < length items
item_in [] k i e = absurd (let z : ◌≡◌ {A = ℕ} 0 1 = cc in omega arith)
item_in (j ∷ items) zero i e = omega arith
item_in (j ∷ items) (suc k) i e = let h = item_in items k i e in omega arith

-- an item stands at one of item-limit places
pub small_place : (M : Map) → Lawful M → (o : Position) (i : Item) → item_at (right_side M o) o.place ≡ Some i → o.place < item_limit
small_place M l o i e = let h = item_in (right_side M o) o.place i e in omega (arith, (lawful_side M l o).0)

paths_most : (M : Map) → Lawful M → (o : Position) → length (standing M o).behind ≤ nesting_limit
paths_most M l o =
    let b = balanced_drop 0 (right_side M o) (lawful_side M l o).1 (omega arith) o.place in
    omega (arith, balanced_read b.0 (drop o.place (right_side M o)) b.1, b.2)

paths_open_most : (M : Map) → Lawful M → (os : List Position) → paths_open M os ≤ nesting_limit * length os
paths_open_most M l [] = omega arith
paths_open_most M l (o ∷ os) = let h = paths_open_most M l os in omega (arith, paths_most M l o)

paths_before_open : (M : Map) → Lawful M → (o : Position) (c n : _) → item_at (right_side M o) o.place ≡ Some (item.Open c n) → length (standing M o).behind < nesting_limit
unfolding balanced
paths_before_open M l o c n e =
    let b = balanced_drop 0 (right_side M o) (lawful_side M l o).1 (omega arith) o.place in
    let d = drop_some (right_side M o) o.place (item.Open c n) e in
    let more = drop (suc o.place) (right_side M o) in
    let t : ltb b.0 nesting_limit ≡ true = and_left (ltb b.0 nesting_limit) (balanced (suc b.0) more) (sym (ap (balanced b.0) d) ∙ b.1) in
    let s : b.0 < nesting_limit = grind (arith, nat_tests) in
    omega (arith, balanced_read b.0 (drop o.place (right_side M o)) b.1)

-- there is room for one more inside
pub path_room : (M : Map) → Lawful M → (o : Position) (os : List Position) (h : Built) (c n : _) → InsidesMatch M (working (o ∷ os) h) → length os < open_limit
    → item_at (right_side M o) o.place ≡ Some (item.Open c n) → insides h < inside_limit
path_room M l o os h c n v s e = omega (arith, paths_before_open M l o c n e, paths_open_most M l os)

-- the insides stay those of the paths that are open
allowed_insides : (M : Map) (b : Option Stop) (left : ℕ) (q : Question) (os : List Position) (h : Built) → insides h ≡ paths_open M os
    → InsidesMatch M (reached (allowed b left (asks q os h)))
allowed_insides M (Some s) left q os h e = tt
allowed_insides M None zero q os h e = tt
allowed_insides M None (suc left) q os h e = e

pose_insides : (M : Map) (qs : List Question) (q : Question) (os : List Position) (h : Built) → insides h ≡ paths_open M os → InsidesMatch M (reached (pose qs q os h))
unfolding pose
pose_insides M qs q os h e = allowed_insides M (barred qs q) (open_limit - length qs) q os h e

insides_put : (v : List Atom) (h : Built) → insides (put v h) ≡ insides h
insides_put v (whole u) = refl
insides_put v (inside c n u h) = refl

item_insides : (M : Map) (i : Item) (more : List Item) (o : Position) (os : List Position) (h : Built) → Shut (i ∷ more)
    → drop (o.place + 1) (right_side M o) ≡ more → insides h ≡ length (read (i ∷ more)).behind + paths_open M os
    → InsidesMatch M (took_item i o os h)
unfolding read
item_insides M (item.Atom a) more o os h s e v = by_room (room h)
  where
    by_room : (m : ℕ) → InsidesMatch M (elim m [ zero ↦ reached (stops (full h)) | suc r ↦ working (onward o ∷ os) (put (a ∷ []) h) ])
    by_room zero = tt
    by_room (suc m) = insides_put (a ∷ []) h ∙ (v ∙ sym (ap (λ x. length (read x).behind + paths_open M os) e))
item_insides M (item.Node c n) more o os h s e v =
    pose_insides M (o.at ∷ questions_at os) (node_asks_lem (site o.at o.left) c n) (onward o ∷ os) h
    (v ∙ sym (ap (λ x. length (read x).behind + paths_open M os) e))
item_insides M (item.Open c n) more o os h s e v =
    let a : length (read more).behind ≡ suc (length s.1) = ap length s.2 in
    let b : length (in_path c n (read more).first (read more).behind).behind ≡ length s.1 = after_path c n (read more).first (read more).behind (length s.1) a in
    let w : length (standing M (onward o)).behind ≡ length (read more).behind = ap (λ x. length (read x).behind) e in
    omega (arith, v)
item_insides M item.Close more o os (whole u) s e v = tt
item_insides M item.Close more o os (inside c n u g) s e v =
    let w : length (standing M (onward o)).behind ≡ length (read more).behind = ap (λ x. length (read x).behind) e in
    pose_insides M (o.at ∷ questions_at os) (path_asks_lem (site o.at o.left) c n u) (onward o ∷ os) g (omega (arith, v))

closed_insides : (M : Map) (os : List Position) (h : Built) → insides h ≡ paths_open M os → InsidesMatch M (closed os h)
closed_insides M [] h e = tt
closed_insides M (o ∷ os) h e = e

pub took_insides : (M : Map) (o : Position) (os : List Position) (h : Built) (i : Option Item) → item_at (right_side M o) o.place ≡ i
    → InsidesMatch M (working (o ∷ os) h) → InsidesMatch M (took i (working (o ∷ os) h))
unfolding read
took_insides M o os h None e v =
    let z : length (standing M o).behind ≡ 0 = ap (λ x. length (read x).behind) (drop_none (right_side M o) o.place e) in
    closed_insides M os h (omega (arith, v))
took_insides M o os h (Some i) e v =
    let d : drop o.place (right_side M o) ≡ i ∷ drop (suc o.place) (right_side M o) = drop_some (right_side M o) o.place i e in
    item_insides M i (drop (suc o.place) (right_side M o)) o os h
    (subst Shut d (shut_drop o.place (right_side M o) (shut_side (M o.at.node (take o.left o.at.path)))))
    (ap (λ k. drop k (right_side M o)) (add-one o.place))
    (v ∙ ap (λ x. length (read x).behind + paths_open M os) d)

-- what is to come falls
closed_falls : (o : Position) (os : List Position) (h : Built) → work_left (closed os h) < work_left (working (o ∷ os) h)
closed_falls o [] h = omega arith
closed_falls o (p ∷ os) h = omega arith

item_falls : (i : Item) (o : Position) (os : List Position) (h : Built) → o.place < item_limit → work_left (took_item i o os h) < work_left (working (o ∷ os) h)
item_falls (item.Atom a) o os h s = by_room (room h)
  where
    by_room : (m : ℕ) → work_left (elim m [ zero ↦ reached (stops (full h)) | suc r ↦ working (onward o ∷ os) (put (a ∷ []) h) ]) < work_left (working (o ∷ os) h)
    by_room zero = omega arith
    by_room (suc m) = omega arith
item_falls (item.Node c n) o os h s = omega arith
item_falls (item.Open c n) o os h s = omega arith
item_falls item.Close o os h s = omega arith

pub took_falls : (M : Map) → Lawful M → (o : Position) (os : List Position) (h : Built) (i : Option Item) → item_at (right_side M o) o.place ≡ i
    → work_left (took i (working (o ∷ os) h)) < work_left (working (o ∷ os) h)
took_falls M l o os h None e = closed_falls o os h
took_falls M l o os h (Some i) e = item_falls i o os h (small_place M l o i e)

-- a look-up opens no path
pub looked_up_insides : (M : Map) (q : Question) (os : List Position) (h : Built) → InsidesMatch M (reached (asks q os h))
    → InsidesMatch M (looked_up (length_found (look_up (M q.node) q.path)) q os h)
looked_up_insides M q os h v = by_look (look_up (M q.node) q.path) (look_tells (M q.node) q.path)
  where
    by_look : (x : Look) → Tells (M q.node) q.path x → InsidesMatch M (looked_up (length_found x) q os h)
    by_look nothing f = tt
    by_look (found k t) f =
        let z : length (standing M (position q k 0)).behind ≡ 0 = ap (λ r. length r.behind) (ap (λ x. read (items_of x)) f.1 ∙ read_flat t) in
        omega (arith, v)
