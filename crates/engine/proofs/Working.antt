-- A machine at work, and what an item does to it.
use Rattle.std.proofs.Common.{◌≡◌, zero, suc, ◌+◌, ◌-◌, ◌<◌, ◌≤◌, Bool, true, false, leb, List, [], ◌∷◌, length, Some, None, Ok, Err, vec_items, Option, sym, refl, ap, ◌∙◌, arith}
use lib.ListN.{length-map}
use Rattle.std.proofs.lemmas.Bool.Decides.{nat_tests}
use Rattle.terms.specs.declared.items.Atom.{Atom}
use Rattle.terms.specs.Limits.{path_limit, open_limit}
use Rattle.rules.specs.Questions.{Question}
use Rattle.rules.specs.Table.{site, node_asks_lem, path_asks_lem}
use Rattle.rules.specs.Evaluation.{among, barred}
use Rattle.machine.specs.Steps.{Built, inside, full, put, asks, stops, allowed, pose}
use Rattle.machine.specs.Items.{Position, onward, questions_at, Progress, working, reached, closed, took}
use Rattle.path.specs.Atoms.{atoms_of}
use Rattle.path.proofs.Paths.{length_atoms}
use Rattle.sentences.specs.declared.table.Question.{Question as Kept}
use Rattle.sentences.specs.declared.table.Open.{Open}
use Rattle.engine.specs.declared.table.Stop.{Stop}
use Rattle.engine.specs.declared.inner.Machine.{Machine}
use Rattle.engine.specs.Phases.{least_open}
use Rattle.sentences.specs.Kept.{question_of, position_of, Asks}
use Rattle.engine.proofs.Stacks.{posed_asks}
use Rattle.engine.specs.States.{stop_of, stacked, positions_of, parts, progress_of, built_in, positions_in, top_onward, posed, Gathered}
use Rattle.terms.specs.declared.items.Item.TheVariants as item
use Rattle.rules.specs.Outcomes as outcomes
use Rattle.engine.specs.declared.table.Phase.TheVariants as phase

pub at_work : (m : Machine) → m.phase ≡ phase.Works → progress_of m ≡ working (positions_in m) (built_in m)
at_work m e = ap (λ p. parts p m.asked (vec_items m.table) (vec_items m.insides) (vec_items m.value)) e

-- a table that is not empty
abbrev pub SomeOpen : List Position → Type 0
SomeOpen os = (o : Position) × (below : List Position) × (os ≡ o ∷ below)

some_stacked : (os : List Open) (o : Position) (below : List Position) → SomeOpen (stacked os (o ∷ below))
some_stacked [] o below = (o, below, refl)
some_stacked (p ∷ os) o below = some_stacked os (position_of p) (o ∷ below)

pub some_position : (os : List Open) → 0 < length os → SomeOpen (positions_of os)
some_position [] h = absurd (omega arith)
some_position (o ∷ os) h = some_stacked os (position_of o) []

pub some_is_open : (m : Machine) → m.phase ≡ phase.Works → SomeOpen (positions_in m)
some_is_open m e =
    let l : least_open m.phase ≡ 1 = ap least_open e in
    some_position (vec_items m.table) (omega (arith, m.least, m.table.ok.0))

-- what the items do, at a table that is not empty
module _ (os : List Position) (some : SomeOpen os) where
  pub took_atom : (h g : Built) (a : Atom) → Gathered (Ok tt) h a g → working (top_onward os) g ≡ took (Some (item.Atom a)) (working os h)
  took_atom h g a r =
      let e = some.2 in
      ap (λ p. working (top_onward p) g) e
      ∙ (ap (working (onward some.0 ∷ some.1)) r.1
      ∙ (sym (ap (λ m. elim m as (λ _. Progress Position) [ zero ↦ reached (stops (full h)) | suc k ↦ working (onward some.0 ∷ some.1) (put (a ∷ []) h) ]) r.0.1)
      ∙ sym (ap (λ p. took (Some (item.Atom a)) (working p h)) e)))

  pub took_none : (h g : Built) (a : Atom) (s : Stop) → Gathered (Err s) h a g → reached (stops (stop_of s)) ≡ took (Some (item.Atom a)) (working os h)
  took_none h g a s r =
      let e = some.2 in
      ap (λ x. reached (stops x)) r.1
      ∙ (sym (ap (λ m. elim m as (λ _. Progress Position) [ zero ↦ reached (stops (full h)) | suc k ↦ working (onward some.0 ∷ some.1) (put (a ∷ []) h) ]) r.0)
      ∙ sym (ap (λ p. took (Some (item.Atom a)) (working p h)) e))

  pub took_open : (h : Built) (c n : _) → working (top_onward os) (inside c n [] h) ≡ took (Some (item.Open c n)) (working os h)
  took_open h c n = ap (λ p. working (top_onward p) (inside c n [] h)) some.2 ∙ sym (ap (λ p. took (Some (item.Open c n)) (working p h)) some.2)

-- a new question, by its tests
pub length_stacked : (os : List Open) (below : List Position) → length (stacked os below) ≡ length os + length below
length_stacked [] below = omega arith
length_stacked (o ∷ os) below = length_stacked os (position_of o ∷ below) ∙ omega arith

abbrev told : Bool → Option outcomes.Stop
told b = elim b [ true ↦ Some outcomes.Stop.circular | false ↦ None ]

barred_is : (q : Kept) (opened : List Question) (b : Bool) → among (question_of q) opened ≡ b → barred opened (question_of q) ≡ told b
unfolding barred
barred_is q opened b e =
    let l : leb (length (atoms_of q.path)) path_limit ≡ true = let h = length_atoms q.path in let k = q.path.fits in grind (arith, nat_tests) in
    ap (λ t. elim t as (λ _. Option outcomes.Stop) [ false ↦ Some outcomes.Stop.path | true ↦ told (among (question_of q) opened) ]) l ∙ ap told e

module _ (q : Kept) (os : List Open) (h : Built) where
  pub posed_circular : true ≡ among (question_of q) (questions_at (positions_of os)) → posed (Some q) (positions_of os) h ≡ stops outcomes.Stop.circular
  unfolding pose
  posed_circular e =
      ap (λ b. allowed b (open_limit - length (questions_at (positions_of os))) (asks (question_of q) (positions_of os) h)) (barred_is q (questions_at (positions_of os)) true (sym e))

  length_all : length (questions_at (positions_of os)) ≡ length os
  length_all = length-map (positions_of os) (λ o. o.at) ∙ (length_stacked os [] ∙ omega arith)

  pub posed_depth : false ≡ among (question_of q) (questions_at (positions_of os)) → open_limit ≤ length os → posed (Some q) (positions_of os) h ≡ stops outcomes.Stop.depth
  unfolding pose
  posed_depth e l =
      let z : open_limit - length (questions_at (positions_of os)) ≡ zero = omega (arith, length_all) in
      ap (λ b. allowed b (open_limit - length (questions_at (positions_of os))) (asks (question_of q) (positions_of os) h)) (barred_is q (questions_at (positions_of os)) false (sym e))
      ∙ ap (λ n. allowed None n (asks (question_of q) (positions_of os) h)) z

  pub posed_next : false ≡ among (question_of q) (questions_at (positions_of os)) → length os < open_limit → posed (Some q) (positions_of os) h ≡ asks (question_of q) (positions_of os) h
  unfolding pose
  posed_next e l =
      let z : open_limit - length (questions_at (positions_of os)) ≡ suc (open_limit - 1 - length os) = omega (arith, length_all) in
      ap (λ b. allowed b (open_limit - length (questions_at (positions_of os))) (asks (question_of q) (positions_of os) h)) (barred_is q (questions_at (positions_of os)) false (sym e))
      ∙ ap (λ n. allowed None n (asks (question_of q) (positions_of os) h)) z

-- items that ask
pub took_node : (o : Position) (os : List Position) (h : Built) (c n : _) (r : Option Kept) → Asks r (node_asks_lem (site o.at o.left) c n)
    → reached (posed r (onward o ∷ os) h) ≡ took (Some (item.Node c n)) (working (o ∷ os) h)
took_node o os h c n r a = ap reached (posed_asks r (node_asks_lem (site o.at o.left) c n) (onward o ∷ os) h a)

pub took_close : (o : Position) (os : List Position) (h : Built) (c n : _) (u : List Atom) (r : Option Kept) → Asks r (path_asks_lem (site o.at o.left) c n u)
    → reached (posed r (onward o ∷ os) h) ≡ took (Some item.Close) (working (o ∷ os) (inside c n u h))
took_close o os h c n u r a = ap reached (posed_asks r (path_asks_lem (site o.at o.left) c n u) (onward o ∷ os) h a)

pub closed_some : (os : List Position) (h : Built) → SomeOpen os → closed os h ≡ working os h
closed_some os h s = ap (λ p. closed p h) s.2 ∙ sym (ap (λ p. working p h) s.2)

-- a first question passes all tests
pub first_asks : {O : Type 0} (q : Kept) (h : Built) → pose {O = O} [] (question_of q) [] h ≡ asks (question_of q) [] h
unfolding pose
first_asks {O} q h = ap (λ b. allowed {O = O} b open_limit (asks (question_of q) [] h)) (barred_is q [] false refl)
