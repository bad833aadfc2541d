-- An item that is taken leaves what the step comes to.
use Rattle.std.proofs.Common.{◌≡◌, ℕ, zero, suc, ◌+◌, ◌-◌, List, [], ◌∷◌, map, length, take, drop, Some, None, Option, sym, refl, ap, ◌∙◌, subst, append-nil, add-one}
use Rattle.terms.specs.declared.items.Item.{Item}
use Rattle.terms.specs.Limits.{open_limit}
use Rattle.terms.specs.Terms.{Terms, flat, read, in_path}
use Rattle.terms.specs.Maps.{Map}
use Rattle.rules.specs.Questions.{Question}
use Rattle.rules.specs.Table.{site, node_asks_lem, path_asks_lem}
use Rattle.rules.specs.Outcomes.{Stop}
use Rattle.rules.specs.Evaluation.{barred}
use Rattle.terms.specs.LookUp.{Look, found, nothing, look_up, length_found}
use Rattle.terms.proofs.LookUp.{Tells, look_tells}
use Rattle.machine.specs.Steps.{Built, whole, inside, room, full, put, open_sentence, questions, asks, stops, allowed, pose, work_terms, work_sentences, looked, next}
use Rattle.stores.specs.Items.{item_at, items_of}
use Rattle.machine.specs.Items.{Position, position, onward, right_side, reading, standing, questions_at, working, reached, meant_state, meant, comes_to, closed, took_item, took, looked_up}
use Rattle.machine.proofs.Standing.{read_flat, Shut, shut_flat, shut_drop, drop_some, drop_none}
use Rattle.terms.specs.declared.items.Item.TheVariants as item

questions_standing : (M : Map) (os : List Position) → questions_at os ≡ questions (map (standing M) os)
questions_standing M [] = refl
questions_standing M (o ∷ os) = ap (λ qs. o.at ∷ qs) (questions_standing M os)

-- a new question in both
allowed_meant : (M : Map) (b : Option Stop) (left : ℕ) (q : Question) (os : List Position) (h : Built)
    → meant_state M (allowed b left (asks q os h)) ≡ allowed b left (asks q (map (standing M) os) h)
allowed_meant M (Some s) left q os h = refl
allowed_meant M None zero q os h = refl
allowed_meant M None (suc left) q os h = refl

pose_meant : (M : Map) (qs : List Question) (q : Question) (os : List Position) (h : Built)
    → meant_state M (pose qs q os h) ≡ pose qs q (map (standing M) os) h
unfolding pose
pose_meant M qs q os h = allowed_meant M (barred qs q) (open_limit - length qs) q os h

-- a new question, with the open-sentence that asks it moved on
asked_meant : (M : Map) (q : Question) (o : Position) (os : List Position) (h : Built) (more : List Item) → drop (o.place + 1) (right_side M o) ≡ more
    → meant_state M (pose (o.at ∷ questions_at os) q (onward o ∷ os) h)
    ≡ pose (o.at ∷ questions (map (standing M) os)) q (reading o (read more) ∷ map (standing M) os) h
asked_meant M q o os h more e =
    pose_meant M (o.at ∷ questions_at os) q (onward o ∷ os) h
    ∙ (ap (λ qs. pose (o.at ∷ qs) q (standing M (onward o) ∷ map (standing M) os) h) (questions_standing M os)
    ∙ ap (λ x. pose (o.at ∷ questions (map (standing M) os)) q (reading o (read x) ∷ map (standing M) os) h) e)

-- an item, with those behind it
item_comes_to : (M : Map) (i : Item) (more : List Item) (o : Position) (os : List Position) (h : Built)
    → Shut (i ∷ more) → drop (o.place + 1) (right_side M o) ≡ more
    → comes_to (meant M (took_item i o os h)) ≡ work_sentences (reading o (read (i ∷ more)) ∷ map (standing M) os) h
unfolding work_sentences work_terms read
item_comes_to M (item.Atom a) more o os h s e = by_room (room h)
  where
    by_room : (m : ℕ)
        → comes_to (meant M (elim m [ zero ↦ reached (stops (full h)) | suc r ↦ working (onward o ∷ os) (put (a ∷ []) h) ]))
        ≡ (elim m [ zero ↦ stops (full h) | suc r ↦ work_sentences (reading o (read more) ∷ map (standing M) os) (put (a ∷ []) h) ])
    by_room zero = refl
    by_room (suc m) = ap (λ x. work_sentences (reading o (read x) ∷ map (standing M) os) (put (a ∷ []) h)) e
item_comes_to M (item.Node c n) more o os h s e = asked_meant M (node_asks_lem (site o.at o.left) c n) o os h more e
item_comes_to M (item.Open c n) more o os h s e =
    ap (λ x. work_sentences (reading o (read x) ∷ map (standing M) os) (inside c n [] h)) e
    ∙ (ap (λ b. work_sentences (open_sentence o.at o.left (read more).first b ∷ map (standing M) os) (inside c n [] h)) s.2
    ∙ sym (ap (λ b. work_sentences (reading o (in_path c n (read more).first b) ∷ map (standing M) os) h) s.2))
item_comes_to M item.Close more o os (whole v) s e = refl
item_comes_to M item.Close more o os (inside c n u g) s e = asked_meant M (path_asks_lem (site o.at o.left) c n u) o os g more e

pub shut_side : (o : Option Terms) → Shut (items_of o)
shut_side (Some t) = subst Shut (append-nil (flat t)) (shut_flat t [] tt)
shut_side None = tt

closed_comes_to : (M : Map) (os : List Position) (h : Built) → comes_to (meant M (closed os h)) ≡ work_sentences (map (standing M) os) h
unfolding work_sentences
closed_comes_to M [] h = refl
closed_comes_to M (o ∷ os) h = refl

-- What the step comes to is the same once the item is taken that stands at the place of the last open-sentence opened.
pub took_comes_to : (M : Map) (o : Position) (os : List Position) (h : Built) (i : Option Item) → item_at (right_side M o) o.place ≡ i
    → comes_to (meant M (took i (working (o ∷ os) h))) ≡ comes_to (meant M (working (o ∷ os) h))
unfolding work_sentences work_terms read
took_comes_to M o os h None e =
    closed_comes_to M os h ∙ sym (ap (λ x. work_sentences (reading o (read x) ∷ map (standing M) os) h) (drop_none (right_side M o) o.place e))
took_comes_to M o os h (Some i) e =
    let d : drop o.place (right_side M o) ≡ i ∷ drop (suc o.place) (right_side M o) = drop_some (right_side M o) o.place i e in
    item_comes_to M i (drop (suc o.place) (right_side M o)) o os h
    (subst Shut d (shut_drop o.place (right_side M o) (shut_side (M o.at.node (take o.left o.at.path)))))
    (ap (λ k. drop k (right_side M o)) (add-one o.place))
    ∙ sym (ap (λ x. work_sentences (reading o (read x) ∷ map (standing M) os) h) d)

-- A look-up's answer begins the work of a step.
pub looked_up_comes_to : (M : Map) (q : Question) (os : List Position) (h : Built)
    → comes_to (meant M (looked_up (length_found (look_up (M q.node) q.path)) q os h)) ≡ next M (meant_state M (asks q os h))
unfolding next
looked_up_comes_to M q os h = by_look (look_up (M q.node) q.path) (look_tells (M q.node) q.path)
  where
    by_look : (x : Look) → Tells (M q.node) q.path x
        → comes_to (meant M (looked_up (length_found x) q os h)) ≡ looked q (map (standing M) os) h x
    by_look nothing f = refl
    by_look (found k t) f =
        ap (λ r. work_sentences (reading (position q k 0) r ∷ map (standing M) os) h) (ap (λ x. read (items_of x)) f.1 ∙ read_flat t)
