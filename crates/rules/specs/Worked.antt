-- The worked theory, and what its questions come to.
use Rattle.std.specs.Prelude.{◌≡◌, List, [], ◌∷◌}
use Rattle.terms.specs.declared.items.Node.{Node}
use Rattle.terms.specs.declared.items.Atom.{Atom}
use Rattle.terms.specs.Terms.{Terms}
use Rattle.rules.specs.Questions.{own}
use Rattle.rules.specs.Outcomes.{Stop, value, stopped}
use Rattle.rules.specs.Evaluation.{outcome}
use Rattle.rules.specs.Shown.{shown, reported, unfinished, shows}
use Rattle.rules.specs.Theories.{node, atom, Sentence, says, map_of, end, word, inherits, pair, local, quoted, quoted_pair, global, Row, row, ComesTo}

abbrev pub Word : Node
Word = node 0

abbrev pub Lamp : Node
Lamp = node 1

abbrev pub Child : Node
Child = node 2

abbrev pub Echo : Node
Echo = node 3

abbrev pub Twice : Node
Twice = node 4

abbrev pub Loop : Node
Loop = node 5

abbrev pub Grow : Node
Grow = node 6

abbrev pub Relay : Node
Relay = node 7

abbrev pub Here : Node
Here = node 8

abbrev pub There : Node
There = node 9

abbrev pub class : Atom
class = atom 0

abbrev pub noun : Atom
noun = atom 1

abbrev pub many : Atom
many = atom 2

abbrev pub stem : Atom
stem = atom 3

abbrev pub ending : Atom
ending = atom 4

abbrev pub one : Atom
one = atom 5

abbrev pub en : Atom
en = atom 6

abbrev pub lamp : Atom
lamp = atom 7

abbrev pub kind : Atom
kind = atom 8

abbrev pub er : Atom
er = atom 9

abbrev pub old : Atom
old = atom 10

abbrev pub a : Atom
a = atom 11

abbrev pub b : Atom
b = atom 12

abbrev pub x : Atom
x = atom 13

abbrev pub t : Atom
t = atom 14

abbrev pub s : Atom
s = atom 15

abbrev pub u : Atom
u = atom 16

abbrev pub done : Atom
done = atom 17

abbrev pub c : Atom
c = atom 18

abbrev pub q : Atom
q = atom 19

-- Word: <class> == noun <many> == "<stem>" <ending>
--   <one> == "<stem>" <ending> == en.
-- Lamp: <> == Word <stem> == lamp.
-- Child: <> == Word <stem> == kind <ending> == er
--   <many old> == "Lamp".
-- Echo: <> == <a> == a <> <b> == b <>.
-- Twice: <> == "Echo".
-- Loop: <> == Loop.
-- Grow: <> == <x>.
-- Relay: <> == "<t>".
-- Here: <s> == Relay:<> <t> == "There:<u>".
-- There: <u> == Relay:<> <t> == done.
abbrev pub worked : List Sentence
worked =
    says Word (class ∷ []) (word noun)
    ∷ says Word (many ∷ []) (global (word stem) (local (word ending) end))
    ∷ says Word (one ∷ []) (global (word stem) end)
    ∷ says Word (ending ∷ []) (word en)
    ∷ says Lamp [] (inherits Word end)
    ∷ says Lamp (stem ∷ []) (word lamp)
    ∷ says Child [] (inherits Word end)
    ∷ says Child (stem ∷ []) (word kind)
    ∷ says Child (ending ∷ []) (word er)
    ∷ says Child (many ∷ old ∷ []) (quoted Lamp end)
    ∷ says Echo [] end
    ∷ says Echo (a ∷ []) (Terms.atom a (local end end))
    ∷ says Echo (b ∷ []) (Terms.atom b (local end end))
    ∷ says Twice [] (quoted Echo end)
    ∷ says Loop [] (inherits Loop end)
    ∷ says Grow [] (local (word x) end)
    ∷ says Relay [] (global (word t) end)
    ∷ says Here (s ∷ []) (pair Relay end end)
    ∷ says Here (t ∷ []) (quoted_pair There (word u) end)
    ∷ says There (u ∷ []) (pair Relay end end)
    ∷ says There (t ∷ []) (word done)
    ∷ []

-- Three readings that must not be taken would show here. If the first left path that fits were taken and not the longest, Child:<many>
-- would lose its stem. If a quoted node asked with the first path alone, without the extension, Twice:<a b> would be a b. If the test
-- for a circle left out the context, Here:<s> would be circular, since Relay:<> is asked again within another one.
abbrev pub rows : List Row
rows =
    row Lamp (many ∷ []) (value (lamp ∷ en ∷ []) 4)
    ∷ row Child (many ∷ []) (value (kind ∷ en ∷ []) 4)
    ∷ row Child (many ∷ old ∷ []) (value (lamp ∷ en ∷ []) 5)
    ∷ row Twice (a ∷ b ∷ []) (value (a ∷ b ∷ a ∷ b ∷ []) 6)
    ∷ row Echo [] (value [] 1)
    ∷ row Echo (c ∷ []) (value [] 1)
    ∷ row Word (stem ∷ []) (stopped Stop.undefined 1)
    ∷ row Word (many ∷ []) (stopped Stop.undefined 2)
    ∷ row Loop (q ∷ []) (stopped Stop.circular 1)
    ∷ row Grow [] (stopped Stop.path 33)
    ∷ row Here (s ∷ []) (value (done ∷ []) 6)
    ∷ []

-- Lamp:<many> is unfinished after 3 steps, all of which are reported; it has its value after 4, and reports no more.
pub record LampBySteps : Type 0 where
  pub unfinished_after_3 : shown (outcome (map_of worked) (own Lamp (many ∷ []))) 3 ≡ unfinished
  pub reports_3 : reported (outcome (map_of worked) (own Lamp (many ∷ []))) 3 ≡ 3
  pub shown_after_4 : shown (outcome (map_of worked) (own Lamp (many ∷ []))) 4 ≡ shows (lamp ∷ en ∷ [])
  pub reports_4 : reported (outcome (map_of worked) (own Lamp (many ∷ []))) 1000 ≡ 4

abbrev pub WorkedTheoryComesTo : Type 0
WorkedTheoryComesTo = ComesTo (map_of worked) rows
