-- What an item and a look-up do to a machine, over a map within the limits.
use Rattle.std.proofs.Common.{◌≡◌, ℕ, suc, ◌+◌, ◌<◌, ◌≤◌, true, false, List, [], ◌∷◌, length, Some, None, vec_items, vec_len, Option, sym, refl, ap, ◌∙◌, subst, add-zero, add-suc, add-one, arith}
use Rattle.std.proofs.lemmas.Bool.Decides.{nat_tests}
use Rattle.terms.specs.declared.items.Atom.{Atom}
use Rattle.terms.specs.declared.items.Item.{Item}
use Rattle.terms.specs.declared.items.Item.TheVariants as item
use Rattle.terms.specs.Limits.{open_limit}
use Rattle.terms.specs.Maps.{Map, Lawful}
use Rattle.terms.specs.LookUp.{look_up, length_found, Look, found, nothing}
use Rattle.terms.proofs.LookUp.{Tells, look_tells}
use Rattle.machine.specs.Steps.{Built, whole, inside, next, asks, stops}
use Rattle.machine.specs.Items.{Position, Progress, working, reached, took, looked_up, meant, comes_to}
use Rattle.machine.specs.Bounds.{InsidesMatch, work_left, insides, Asked, not_yet, for_a_look_up, for_an_item, asked_limit}
use Rattle.machine.proofs.Items.{took_comes_to, looked_up_comes_to}
use Rattle.machine.proofs.Bounds.{small_place, path_room, took_insides, took_falls, looked_up_insides}
use Rattle.machine.proofs.Asked.{items_left_most}
use Rattle.path.specs.Atoms.{atoms_of}
use Rattle.sentences.specs.declared.table.Question.{Question as Kept}
use Rattle.sentences.specs.declared.table.Open.{Open}
use Rattle.sentences.specs.declared.table.Inside.{Inside}
use Rattle.engine.specs.declared.table.Phase.{Phase}
use Rattle.engine.specs.declared.table.Phase.TheVariants as phase
use Rattle.engine.specs.declared.inner.Machine.{Machine}
use Rattle.engine.specs.Phases.{most_open}
use Rattle.sentences.specs.Kept.{question_of}
use Rattle.engine.specs.States.{positions_of, built_of, progress_of, parts, positions_in, built_in, WantedInRange, Room, roomy, LeftWithin, answered}
use Rattle.engine.specs.Between.{state_in, next_item, Rests}
use Rattle.engine.proofs.Working.{at_work, SomeOpen, some_is_open, length_stacked}

-- the test for a place
pub room_yes : (i : Option Item) (n : ℕ) → true ≡ roomy i n → Room i n
room_yes None n e = tt
room_yes (Some (item.Atom a)) n e = tt
room_yes (Some (item.Node c m)) n e = tt
room_yes (Some (item.Open c m)) n e = grind (arith, nat_tests)
room_yes (Some item.Close) n e = tt

pub room_no : (i : Option Item) (n : ℕ) → false ≡ roomy i n → Room i n → ⊥
room_no None n e r = let z : ◌≡◌ {A = ℕ} 0 1 = cc in omega arith
room_no (Some (item.Atom a)) n e r = let z : ◌≡◌ {A = ℕ} 0 1 = cc in omega arith
room_no (Some (item.Node c m)) n e r = let z : ◌≡◌ {A = ℕ} 0 1 = cc in omega arith
room_no (Some (item.Open c m)) n e r = grind (arith, nat_tests)
room_no (Some item.Close) n e r = let z : ◌≡◌ {A = ℕ} 0 1 = cc in omega arith

insides_built : (is : List Inside) (b : Built) → insides (built_of is b) ≡ length is + insides b
insides_built [] b = omega arith
insides_built (i ∷ is) b = insides_built is (inside i.quoting i.node (atoms_of i.atoms) b) ∙ omega arith

module _ (M : Map) (lawful : Lawful M) where
  in_range : (os : List Position) (i : Option Item) → next_item M os ≡ i → WantedInRange i os
  in_range os None e = tt
  in_range [] (Some j) e = tt
  in_range (o ∷ os) (Some j) e = small_place M lawful o j e

  room_there : (os : List Position) (b : Built) (i : Option Item) → length os ≤ open_limit → InsidesMatch M (working os b) → next_item M os ≡ i
      → Room i (insides b)
  room_there os b None l v e = tt
  room_there os b (Some (item.Atom a)) l v e = tt
  room_there os b (Some (item.Node c n)) l v e = tt
  room_there [] b (Some (item.Open c n)) l v e = omega (arith, v)
  room_there (o ∷ os) b (Some (item.Open c n)) l v e = path_room M lawful o os b c n v (omega arith) e
  room_there os b (Some item.Close) l v e = tt

  -- what a turn from w to z keeps, and that it asks the store once
  pub record Turned (w z : Progress Position) : Type 0 where
    pub insides : InsidesMatch M z
    pub same : comes_to (meant M z) ≡ comes_to (meant M w)
    pub once_more : (x : Progress Position) (steps n : ℕ) → Asked M x steps n w → Asked M x steps (n + 1) z

  turned : (os : List Position) (b : Built) → SomeOpen os → InsidesMatch M (working os b)
      → Turned (working os b) (took (next_item M os) (working os b))
  turned [] b s v = absurd (omega (arith, ap length s.2))
  turned (o ∷ os) b s v = record {
    insides = took_insides M o os b (next_item M (o ∷ os)) refl v;
    same = took_comes_to M o os b (next_item M (o ∷ os)) refl;
    once_more = λ x steps n a.
        subst (λ k. Asked M x steps k (took (next_item M (o ∷ os)) (working (o ∷ os) b))) (sym (add-one n)) (for_an_item o os b a);
  }

  falls : (os : List Position) (b : Built) (i : Option Item) → SomeOpen os → next_item M os ≡ i
      → work_left (took i (working os b)) < work_left (working os b)
  falls [] b i s e = absurd (omega (arith, ap length s.2))
  falls (o ∷ os) b i s e = took_falls M lawful o os b i e

  some_left : (os : List Position) (b : Built) → SomeOpen os → 0 < work_left (working os b)
  some_left [] b s = absurd (omega (arith, ap length s.2))
  some_left (o ∷ os) b s = omega arith

  module _ (m : Machine) (p : m.phase ≡ phase.Works) where
    -- without a place for an inside the work ends
    pub end_falls : (z : Machine) (s : _) → progress_of z ≡ reached (stops s) → work_left (progress_of z) < work_left (progress_of m)
    end_falls z s f =
        subst (λ w. work_left (progress_of z) < work_left w) (sym (at_work m p))
        (subst (λ x. work_left x < work_left (working (positions_in m) (built_in m))) (sym f) (some_left (positions_in m) (built_in m) (some_is_open m p)))

    module _ (i : Option Item) (e : i ≡ next_item M (positions_in m)) where
      pub wanted_in_range : WantedInRange i (positions_in m)
      wanted_in_range = in_range (positions_in m) i (sym e)

      pub turn_falls : (z : Machine) → progress_of z ≡ took i (progress_of m) → work_left (progress_of z) < work_left (progress_of m)
      turn_falls z f =
          let g : progress_of z ≡ took i (working (positions_in m) (built_in m)) = f ∙ ap (took i) (at_work m p) in
          subst (λ w. work_left (progress_of z) < work_left w) (sym (at_work m p))
          (subst (λ x. work_left x < work_left (working (positions_in m) (built_in m))) (sym g)
          (falls (positions_in m) (built_in m) i (some_is_open m p) (sym e)))

      pub wanted_has_room : InsidesMatch M (progress_of m) → Room i (vec_len m.insides)
      wanted_has_room v =
          let t : most_open m.phase ≡ open_limit = ap most_open p in
          let l : length (positions_in m) ≡ length (vec_items m.table) + 0 = length_stacked (vec_items m.table) [] in
          let d : insides (built_in m) ≡ vec_len m.insides =
          insides_built (vec_items m.insides) (whole (vec_items m.value)) ∙ omega (arith, m.insides.ok.0) in
          subst (Room i) d
          (room_there (positions_in m) (built_in m) i (omega (arith, m.most, m.table.ok.0)) (subst (InsidesMatch M) (at_work m p) v) (sym e))

    pub turn : InsidesMatch M (progress_of m) → (z : Machine) → progress_of z ≡ took (next_item M (positions_in m)) (progress_of m)
        → Turned (progress_of m) (progress_of z)
    turn v z f =
        let w : Progress Position = working (positions_in m) (built_in m) in
        let t : Turned w (took (next_item M (positions_in m)) w) =
        turned (positions_in m) (built_in m) (some_is_open m p) (subst (InsidesMatch M) (at_work m p) v) in
        let g : progress_of z ≡ took (next_item M (positions_in m)) w = f ∙ ap (took (next_item M (positions_in m))) (at_work m p) in
        subst (λ x. Turned x (progress_of z)) (sym (at_work m p)) (subst (λ x. Turned w x) (sym g) t)

  -- the look-up for the question that a machine asks
  module _ (m : Machine) (p : m.phase ≡ phase.Asks) (k : Option ℕ) (e : k ≡ length_found (look_up (M m.asked.node) (atoms_of m.asked.path))) where
    at_ask : progress_of m ≡ reached (asks (question_of m.asked) (positions_in m) (built_in m))
    at_ask = ap (λ x. parts x m.asked (vec_items m.table) (vec_items m.insides) (vec_items m.value)) p

    found_within : (x : Look) → Tells (M m.asked.node) (atoms_of m.asked.path) x → LeftWithin (length_found x) m.asked
    found_within (found j t) h = h.0
    found_within nothing h = tt

    pub left_within : LeftWithin k m.asked
    left_within =
        subst (λ x. LeftWithin x m.asked) (sym e)
        (found_within (look_up (M m.asked.node) (atoms_of m.asked.path)) (look_tells (M m.asked.node) (atoms_of m.asked.path)))

    module _ (z : Machine) (f : progress_of z ≡ answered k (progress_of m)) where
      found_is : progress_of z
          ≡ looked_up (length_found (look_up (M m.asked.node) (atoms_of m.asked.path))) (question_of m.asked) (positions_in m) (built_in m)
      found_is = f ∙ (ap (answered k) at_ask ∙ ap (λ x. looked_up x (question_of m.asked) (positions_in m) (built_in m)) e)

      pub found_insides : InsidesMatch M (progress_of m) → InsidesMatch M (progress_of z)
      found_insides v =
          subst (InsidesMatch M) (sym found_is)
          (looked_up_insides M (question_of m.asked) (positions_in m) (built_in m) (subst (InsidesMatch M) at_ask v))

      pub found_next : state_in M z ≡ next M (state_in M m)
      found_next =
          ap (λ w. comes_to (meant M w)) found_is
          ∙ (looked_up_comes_to M (question_of m.asked) (positions_in m) (built_in m) ∙ sym (ap (λ w. next M (comes_to (meant M w))) at_ask))

      pub found_asked : Asked M (progress_of m) 1 1 (progress_of z)
      found_asked =
          subst (λ w. Asked M w 1 1 (progress_of z)) (sym at_ask)
          (subst (Asked M (reached (asks (question_of m.asked) (positions_in m) (built_in m))) 1 1) (sym found_is)
          (for_a_look_up (question_of m.asked) (positions_in m) (built_in m) not_yet))

pub rests : (p : Phase) → (p ≡ phase.Works → ⊥) → Rests p
rests phase.Asks f = tt
rests phase.Works f = f refl
rests phase.Has f = tt
rests (phase.Stops s) f = tt

-- how many items a step can take at most
most_open_limit : (p : Phase) → most_open p ≤ open_limit
most_open_limit phase.Asks = omega arith
most_open_limit phase.Works = omega arith
most_open_limit phase.Has = omega arith
most_open_limit (phase.Stops s) = omega arith

work_left_parts : (p : Phase) (q : Kept) (os : List Open) (is : List Inside) (v : List Atom) → length os ≤ open_limit
    → work_left (parts p q os is v) + 1 ≤ asked_limit
work_left_parts phase.Asks q os is v h = omega arith
work_left_parts phase.Works q os is v h = omega (arith, items_left_most (positions_of os), length_stacked os [])
work_left_parts phase.Has q os is v h = omega arith
work_left_parts (phase.Stops s) q os is v h = omega arith

pub work_left_most : (m : Machine) → work_left (progress_of m) + 1 ≤ asked_limit
work_left_most m =
    work_left_parts m.phase m.asked (vec_items m.table) (vec_items m.insides) (vec_items m.value)
    (omega (arith, m.most, m.table.ok.0, most_open_limit m.phase))

-- one evaluation after another
pub asked_on : (M : Map) (w x z : Progress Position) (s n t k : ℕ) → Asked M w s n x → Asked M x t k z → Asked M w (s + t) (n + k) z
asked_on M w x _ s n _ _ a not_yet = subst (λ i. Asked M w i (n + 0) x) (sym (add-zero s)) (subst (λ i. Asked M w s i x) (sym (add-zero n)) a)
asked_on M w x _ s n _ _ a (for_a_look_up {steps = t} {n = k} q os b c) =
    let z : Progress Position = looked_up (length_found (look_up (M q.node) q.path)) q os b in
    subst (λ i. Asked M w i (n + suc k) z) (sym (add-suc s t))
    (subst (λ i. Asked M w (suc (s + t)) i z) (sym (add-suc n k)) (for_a_look_up q os b (asked_on M w x (reached (asks q os b)) s n t k a c)))
asked_on M w x _ s n _ _ a (for_an_item {steps = t} {n = k} o os b c) =
    subst (λ i. Asked M w (s + t) i (took (next_item M (o ∷ os)) (working (o ∷ os) b))) (sym (add-suc n k))
    (for_an_item o os b (asked_on M w x (working (o ∷ os) b) s n t k a c))
