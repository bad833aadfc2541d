-- The bytes of each line that is written.
use Rattle.std.specs.Prelude.{ℕ, Bool, true, false, cond, ◌&&◌, List, [], ◌∷◌, ◌++◌, Some, None, codes, decimal, Option}
use Rattle.terms.specs.declared.items.Atom.{Atom}
use Rattle.terms.specs.Maps.{every}
use Rattle.rules.specs.Outcomes as outcomes
use Rattle.rules.specs.Questions.{Question}
use Rattle.rules.specs.Shown.{Shown, unfinished, shows, ended}
use Rattle.classes.specs.declared.ByteClass.{ByteClass}
use Rattle.classes.specs.declared.ByteClass.TheVariants as class
use Rattle.classes.specs.Classes.{class_of}
use Rattle.words.specs.Words.{of_name}
use Rattle.names.specs.Numbers.{name_at}

abbrev pub is_plain : ByteClass → Bool
is_plain class.Blank = false
is_plain class.Bad = false
is_plain (class.Mark m) = false
is_plain class.Capital = false
is_plain class.Plain = true

-- a name that a text has without quotes for an atom: it begins with a plain byte, and has only capitals and plain bytes
abbrev pub bare : List ℕ → Bool
bare [] = false
bare (b ∷ bs) = is_plain (class_of b) && every (of_name false) (b ∷ bs)

-- an atom's name, in quotes where it is not bare
abbrev pub atom_bytes : List ℕ → List ℕ
atom_bytes x = cond (bare x) x (39 ∷ (x ++ 39 ∷ []))

-- the names of atoms with a blank in front of each
abbrev pub value_bytes : List (List ℕ) → List ℕ
value_bytes [] = []
value_bytes (x ∷ xs) = (32 ∷ atom_bytes x) ++ value_bytes xs

-- the names of atoms with a blank between each two
abbrev pub spaced : List (List ℕ) → List ℕ
spaced [] = []
spaced (x ∷ xs) = atom_bytes x ++ value_bytes xs

-- a question: the node's name as it is, and the names of the path's atoms
abbrev pub question_bytes : List ℕ → List (List ℕ) → List ℕ
question_bytes node path = node ++ (codes ":<" ++ (spaced path ++ codes ">"))

-- what is said of it: = and the value, or : and why there is none
abbrev pub stop_bytes : outcomes.Stop → List ℕ
stop_bytes outcomes.Stop.undefined = codes ": undefined"
stop_bytes outcomes.Stop.path = codes ": path"
stop_bytes outcomes.Stop.circular = codes ": circular"
stop_bytes outcomes.Stop.depth = codes ": depth"
stop_bytes outcomes.Stop.length = codes ": length"

abbrev pub unfinished_bytes : List ℕ
unfinished_bytes = codes ": unfinished"

abbrev pub equals_bytes : List (List ℕ) → List ℕ
equals_bytes value = codes "=" ++ value_bytes value

-- a line: the question, what is said of it, and the steps
abbrev pub line_bytes : List ℕ → List (List ℕ) → List ℕ → ℕ → List ℕ
line_bytes node path said steps =
    question_bytes node path ++ (codes " " ++ (said ++ (codes " [" ++ (decimal steps ++ codes "]\n"))))

-- a number and a place
abbrev pub placed_bytes : ℕ → ℕ → List ℕ
placed_bytes number place = decimal number ++ (codes " " ++ (decimal place ++ codes "\n"))

-- the line of a question that is refused
abbrev pub refusal_bytes : ℕ → ℕ → List ℕ
refusal_bytes number place = codes "? " ++ placed_bytes number place

-- the line of a text that is refused, with its title
abbrev pub title_bytes : List ℕ → ℕ → ℕ → List ℕ
title_bytes title number place = title ++ (codes " : " ++ placed_bytes number place)

-- the names of atoms, or none where one has none
abbrev pub name_more : Option (List ℕ) → Option (List (List ℕ)) → Option (List (List ℕ))
name_more None xs = None
name_more (Some x) None = None
name_more (Some x) (Some xs) = Some (x ∷ xs)

abbrev pub names_at : List (List ℕ) → List Atom → Option (List (List ℕ))
names_at atoms [] = Some []
names_at atoms (a ∷ more) = name_more (name_at atoms a.0) (names_at atoms more)

-- what is said of what is shown, or none where an atom of the value has no name
abbrev pub value_said : Option (List (List ℕ)) → Option (List ℕ)
value_said None = None
value_said (Some xs) = Some (equals_bytes xs)

abbrev pub said : List (List ℕ) → Shown → Option (List ℕ)
said atoms unfinished = Some unfinished_bytes
said atoms (shows v) = value_said (names_at atoms v)
said atoms (ended s) = Some (stop_bytes s)

-- A line, or the number by which it is refused.
pub data Line : Type 0 where
  line : List ℕ → Line
  refused : ℕ → Line

-- by 12 where a name is wanting
abbrev pub named_line : Option (List ℕ) → Option (List (List ℕ)) → Option (List ℕ) → ℕ → Line
named_line None path said steps = refused 12
named_line (Some n) None said steps = refused 12
named_line (Some n) (Some p) None steps = refused 12
named_line (Some n) (Some p) (Some s) steps = line (line_bytes n p s steps)

-- The line of what is shown of a question under the names of nodes and atoms, with the steps; by 14 while there is none.
abbrev pub shown_line : List (List ℕ) → List (List ℕ) → Option Question → Option Shown → ℕ → Line
shown_line nodes atoms None out steps = refused 14
shown_line nodes atoms (Some q) None steps = refused 14
shown_line nodes atoms (Some q) (Some out) steps = named_line (name_at nodes q.node.0) (names_at atoms q.path) (said atoms out) steps
