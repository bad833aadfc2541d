-- The same with each open sentence kept as a position among the items of its right side; and what one item does.
use Rattle.std.specs.Prelude.{ℕ, zero, suc, ◌+◌, List, [], ◌∷◌, map, take, drop, Some, None, Option}
use Rattle.terms.specs.declared.items.Item.{Item}
use Rattle.terms.specs.declared.items.Item.TheVariants as item
use Rattle.terms.specs.Terms.{Reading, read}
use Rattle.terms.specs.Maps.{Map}
use Rattle.rules.specs.Questions.{Question}
use Rattle.rules.specs.Table.{site, node_asks_lem, path_asks_lem}
use Rattle.rules.specs.Outcomes.{Stop}
use Rattle.stores.specs.Items.{items_of}
use Rattle.machine.specs.Steps.{Built, inside, room, full, put, so_far, close, Open, open_sentence, State, asks, has, stops, pose, work_sentences}

-- An open sentence, by the number of items that are worked.
pub record Position : Type 0 where
  pub at : Question
  pub left : ℕ
  pub place : ℕ

abbrev pub position : Question → ℕ → ℕ → Position
position q k i = record { at = q; left = k; place = i }

abbrev pub onward : Position → Position
onward o = record { at = o.at; left = o.left; place = o.place + 1 }

abbrev pub right_side : Map → Position → List Item
right_side M o = items_of (M o.at.node (take o.left o.at.path))

-- the open sentence that a position stands for
abbrev pub reading : Position → Reading → Open
reading o r = open_sentence o.at o.left r.first r.behind

abbrev pub standing : Map → Position → Open
standing M o = reading o (read (drop o.place (right_side M o)))

abbrev pub questions_at : List Position → List Question
questions_at os = map (λ o. o.at) os

-- How far a step is: at work, or at the state that it comes to.
pub data Progress (O : Type 0) : Type 0 where
  working : List O → Built → Progress O
  reached : State O → Progress O

abbrev pub meant_state : Map → State Position → State Open
meant_state M (asks q os b) = asks q (map (standing M) os) b
meant_state M (has v) = has v
meant_state M (stops s) = stops s

abbrev pub meant : Map → Progress Position → Progress Open
meant M (working os b) = working (map (standing M) os) b
meant M (reached p) = reached (meant_state M p)

-- the state that the step comes to
abbrev pub comes_to : Progress Open → State Open
comes_to (working os b) = work_sentences os b
comes_to (reached p) = p

-- What one item of the sentence opened last does, or that there is none.
abbrev pub closed : {O : Type 0} → List O → Built → Progress O
closed [] b = reached (has (so_far b))
closed (o ∷ os) b = working (o ∷ os) b

abbrev pub took_item : Item → Position → List Position → Built → Progress Position
took_item (item.Atom a) o os b = elim (room b) [ zero ↦ reached (stops (full b)) | suc m ↦ working (onward o ∷ os) (put (a ∷ []) b) ]
took_item (item.Node c n) o os b = reached (pose (o.at ∷ questions_at os) (node_asks_lem (site o.at o.left) c n) (onward o ∷ os) b)
took_item (item.Open c n) o os b = working (onward o ∷ os) (inside c n [] b)
took_item item.Close o os b =
    reached (close b (stops Stop.undefined) (λ c n u g. pose (o.at ∷ questions_at os) (path_asks_lem (site o.at o.left) c n u) (onward o ∷ os) g))

abbrev pub took : Option Item → Progress Position → Progress Position
took i (reached p) = reached p
took i (working [] b) = reached (has (so_far b))
took None (working (o ∷ os) b) = closed os b
took (Some i) (working (o ∷ os) b) = took_item i o os b

-- What a look-up's answer does.
abbrev pub looked_up : Option ℕ → Question → List Position → Built → Progress Position
looked_up None q os b = reached (stops Stop.undefined)
looked_up (Some k) q os b = working (position q k 0 ∷ os) b
