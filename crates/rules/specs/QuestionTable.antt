-- A theory whose values tell the question that was asked: it pins each row of the table of questions.
use Rattle.std.specs.Prelude.{List, [], ◌∷◌, map}
use Rattle.terms.specs.declared.items.Node.{Node}
use Rattle.terms.specs.declared.items.Atom.{Atom}
use Rattle.terms.specs.Terms.{Terms}
use Rattle.rules.specs.Outcomes.{value}
use Rattle.rules.specs.Theories.{Sentence, says, map_of, end, word, inherits, pair, local, quoted, quoted_pair, global, Row, row, ComesTo}
use Rattle.rules.specs.Theories as theories

abbrev Global : Node
Global = theories.node 0

abbrev Local : Node
Local = theories.node 1

abbrev Other : Node
Other = theories.node 2

abbrev Spell : Node
Spell = theories.node 3

abbrev one : Atom
one = theories.atom 0

abbrev two : Atom
two = theories.atom 1

abbrev three : Atom
three = theories.atom 2

abbrev four : Atom
four = theories.atom 3

abbrev five : Atom
five = theories.atom 4

abbrev six : Atom
six = theories.atom 5

abbrev seven : Atom
seven = theories.atom 6

abbrev eight : Atom
eight = theories.atom 7

abbrev at : Atom
at = theories.atom 8

abbrev x : Atom
x = theories.atom 9

abbrev told : Atom
told = theories.atom 10

abbrev who : Atom
who = theories.atom 11

abbrev is_global : Atom
is_global = theories.atom 12

abbrev is_local : Atom
is_local = theories.atom 13

abbrev is_other : Atom
is_other = theories.atom 14

-- Spell: <> == <a> == a <> ..
abbrev spells : Atom → Sentence
spells a = says Spell (a ∷ []) (Terms.atom a (local end end))

-- its node, Spell "<who>" "Spell": the node and the path of the question, its context's node, and its context's path with the extension
abbrev reply : Atom → Terms
reply name = Terms.atom name (inherits Spell (global (word who) (quoted Spell end)))

-- Global: <> == Local:<at> <who> == is-global <told> == is-global Spell "<who>" "Spell".
-- Local: <who> == is-local <told> == is-local Spell "<who>" "Spell"
--   <at one> == Other <at two> == Other:<told> <at three> == <told>
--   <at four> == "Other" <at five> == "Other:<told>" <at six> == "<told>"
--   <at seven> == Other:<Spell "<who>"> <at eight> == "Other:<told>" "Spell".
-- Other: <> == is-other Spell "<who>" "Spell" <who> == is-other.
abbrev pub telling : List Sentence
telling =
    says Global [] (pair Local (word at) end)
    ∷ says Global (who ∷ []) (word is_global)
    ∷ says Global (told ∷ []) (reply is_global)
    ∷ says Local (who ∷ []) (word is_local)
    ∷ says Local (told ∷ []) (reply is_local)
    ∷ says Local (at ∷ one ∷ []) (inherits Other end)
    ∷ says Local (at ∷ two ∷ []) (pair Other (word told) end)
    ∷ says Local (at ∷ three ∷ []) (local (word told) end)
    ∷ says Local (at ∷ four ∷ []) (quoted Other end)
    ∷ says Local (at ∷ five ∷ []) (quoted_pair Other (word told) end)
    ∷ says Local (at ∷ six ∷ []) (global (word told) end)
    ∷ says Local (at ∷ seven ∷ []) (pair Other (inherits Spell (global (word who) end)) end)
    ∷ says Local (at ∷ eight ∷ []) (quoted_pair Other (word told) (quoted Spell end))
    ∷ says Other [] (reply is_other)
    ∷ says Other (who ∷ []) (word is_other)
    ∷ says Spell [] end
    ∷ map spells (one ∷ two ∷ three ∷ four ∷ five ∷ six ∷ seven ∷ eight ∷ at ∷ x ∷ told ∷ is_global ∷ [])

-- Global:<one x> asks Local:<at one x> within the context Global:<one x>, where the left path <at one> leaves the extension <x>; and so on.
abbrev pub rows : List Row
rows =
    -- N' asks N':<p>, same context
    row Global (one ∷ x ∷ []) (value (is_other ∷ at ∷ one ∷ x ∷ is_global ∷ one ∷ x ∷ at ∷ one ∷ x ∷ []) 14)
    -- N':<T> asks N':<v e>, same context
    ∷ row Global (two ∷ x ∷ []) (value (is_other ∷ told ∷ x ∷ is_global ∷ two ∷ x ∷ told ∷ x ∷ []) 12)
    -- <T> asks N:<v e>, same context
    ∷ row Global (three ∷ x ∷ []) (value (is_local ∷ told ∷ x ∷ is_global ∷ three ∷ x ∷ x ∷ []) 11)
    -- "N'" asks N':<P e>, its own context; with P alone there would be one x less
    ∷ row Global (four ∷ x ∷ []) (value (is_other ∷ four ∷ x ∷ x ∷ is_other ∷ four ∷ x ∷ x ∷ four ∷ x ∷ x ∷ []) 15)
    -- "N':<T>" asks N':<v e>, its own context
    ∷ row Global (five ∷ x ∷ []) (value (is_other ∷ told ∷ x ∷ is_other ∷ told ∷ x ∷ told ∷ x ∷ []) 12)
    -- "<T>" asks G:<v e>, its own context
    ∷ row Global (six ∷ x ∷ []) (value (is_global ∷ told ∷ x ∷ is_global ∷ told ∷ x ∷ x ∷ []) 11)
    -- T is worked with the same N, p, e and context
    ∷ row Global (seven ∷ x ∷ []) (value (is_other ∷ at ∷ seven ∷ x ∷ is_global ∷ x ∷ is_global ∷ seven ∷ x ∷ at ∷ seven ∷ x ∷ is_global ∷ x ∷ []) 23)
    -- a context holds for its own question only: the next term has the old one
    ∷ row Global (eight ∷ x ∷ []) (value (is_other ∷ told ∷ x ∷ is_other ∷ told ∷ x ∷ told ∷ x ∷ eight ∷ x ∷ x ∷ []) 16)
    ∷ []

abbrev pub QuestionsAreAsInTheTable : Type 0
QuestionsAreAsInTheTable = ComesTo (map_of telling) rows
