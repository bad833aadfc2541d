-- How often the store is asked.
use Rattle.std.proofs.Common.{◌≡◌, ℕ, zero, suc, ◌+◌, ◌-◌, ◌*◌, ◌<◌, ◌≤◌, List, [], ◌∷◌, length, Some, None, Option, refl, ap, arith}
use lib.ListN.{length-map}
use Rattle.terms.specs.declared.items.Item.{Item}
use Rattle.terms.specs.declared.items.Item.TheVariants as item
use Rattle.terms.specs.Limits.{item_limit, open_limit}
use Rattle.terms.specs.Maps.{Map, Lawful}
use Rattle.terms.specs.LookUp.{look_up, length_found}
use Rattle.rules.specs.Questions.{Question}
use Rattle.rules.specs.Table.{site, node_asks_lem, path_asks_lem}
use Rattle.rules.specs.Outcomes.{Stop}
use Rattle.rules.specs.Evaluation.{barred}
use Rattle.stores.specs.Items.{item_at}
use Rattle.machine.specs.Steps.{Built, whole, inside, room, full, put, asks, stops, allowed, pose}
use Rattle.machine.specs.Items.{Position, onward, right_side, questions_at, Progress, working, reached, took_item, took, looked_up}
use Rattle.machine.specs.Bounds.{FewOpen, items_left, work_left, Asked, not_yet, for_a_look_up, for_an_item, asked_limit}
use Rattle.machine.specs.Theorems.{StoreIsAskedWithinLimit}
use Rattle.machine.proofs.Bounds.{took_falls}

pub items_left_most : (os : List Position) → items_left os ≤ (item_limit + 1) * length os
items_left_most [] = omega arith
items_left_most (o ∷ os) = let h = items_left_most os in omega arith

-- no more than open-limit sentences are open
allowed_few : (b : Option Stop) (left : ℕ) (q : Question) (os : List Position) (g : Built) → (0 < left → length os < open_limit)
    → FewOpen (reached (allowed b left (asks q os g)))
allowed_few (Some s) left q os g h = tt
allowed_few None zero q os g h = tt
allowed_few None (suc left) q os g h = h (omega arith)

pose_few : (qs : List Question) (q : Question) (os : List Position) (g : Built) → length qs ≡ length os → FewOpen (reached (pose qs q os g))
unfolding pose
pose_few qs q os g e = allowed_few (barred qs q) (open_limit - length qs) q os g (λ h. omega arith)

length_questions : (os : List Position) → length (questions_at os) ≡ length os
length_questions os = length-map os (λ o. o.at)

item_few : (i : Item) (o : Position) (os : List Position) (b : Built) → length (o ∷ os) ≤ open_limit → FewOpen (took_item i o os b)
item_few (item.Atom a) o os b h = by_room (room b)
  where
    by_room : (m : ℕ) → FewOpen (elim m [ zero ↦ reached (stops (full b)) | suc r ↦ working (onward o ∷ os) (put (a ∷ []) b) ])
    by_room zero = tt
    by_room (suc m) = h
item_few (item.Node c n) o os b h =
    pose_few (o.at ∷ questions_at os) (node_asks_lem (site o.at o.left) c n) (onward o ∷ os) b (ap suc (length_questions os))
item_few (item.Open c n) o os b h = h
item_few item.Close o os (whole v) h = tt
item_few item.Close o os (inside c n u g) h =
    pose_few (o.at ∷ questions_at os) (path_asks_lem (site o.at o.left) c n u) (onward o ∷ os) g (ap suc (length_questions os))

took_few : (i : Option Item) (o : Position) (os : List Position) (b : Built) → length (o ∷ os) ≤ open_limit → FewOpen (took i (working (o ∷ os) b))
took_few (Some i) o os b h = item_few i o os b h
took_few None o [] b h = tt
took_few None o (p ∷ os) b h = omega arith

looked_up_few : (k : Option ℕ) (q : Question) (os : List Position) (b : Built) → length os < open_limit
    → FewOpen (looked_up k q os b) × (work_left (looked_up k q os b) + 1 ≤ asked_limit)
looked_up_few None q os b h = (tt, omega arith)
looked_up_few (Some k) q os b h = (h, omega (arith, items_left_most os))

-- what is asked and what can still be asked in the step
pub asked_bounded : (M : Map) → Lawful M → (w : Progress Position) → FewOpen w → (steps n : ℕ) (z : Progress Position) → Asked M w steps n z
    → FewOpen z × (n + work_left z ≤ asked_limit * steps + work_left w)
asked_bounded M l w f _ _ _ not_yet = (f, omega arith)
asked_bounded M l w f _ _ _ (for_a_look_up {steps} {n} q os b a) =
    let h = asked_bounded M l w f steps n (reached (asks q os b)) a in
    let k = looked_up_few (length_found (look_up (M q.node) q.path)) q os b h.0 in
    (k.0, omega (arith, h.1, k.1))
asked_bounded M l w f _ _ _ (for_an_item {steps} {n} o os b a) =
    let h = asked_bounded M l w f steps n (working (o ∷ os) b) a in (
      took_few (item_at (right_side M o) o.place) o os b h.0,
      omega (arith, h.1, took_falls M l o os b (item_at (right_side M o) o.place) refl),
    )

pub store_is_asked_within_limit_lem : StoreIsAskedWithinLimit
store_is_asked_within_limit_lem M l q steps n z a =
    omega (arith, (asked_bounded M l (reached (pose [] q [] (whole []))) (pose_few [] q [] (whole []) refl) steps n z a).1)
