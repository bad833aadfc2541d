-- When a keeper refuses a sentence, and what it keeps after.
use Rattle.std.specs.Prelude.{◌≡◌, ℕ, ◌+◌, ◌-◌, ◌≤◌, Bool, true, false, cond, not, ◌&&◌, ◌||◌, ◌↔◌, List, [], ◌∷◌, ◌++◌, length, is_some, Some, None, Ok, Err, Option, Result, ◌==◌, nat_lt}
use Rattle.terms.specs.declared.items.Item.{Item}
use Rattle.terms.specs.declared.items.Item.TheVariants as item
use Rattle.terms.specs.Terms.{Terms, flat, nesting}
use Rattle.terms.specs.Limits.{path_limit, item_limit, nesting_limit}
use Rattle.terms.specs.Maps.{every, node_in_range, atom_in_range, item_in_range}
use Rattle.stores.specs.declared.refusals.Refusal.{Refusal}
use Rattle.stores.specs.declared.refusals.Refusal.TheVariants as refused
use Rattle.stores.specs.Sentences.{Sentence, map_of, atoms_in, items_in}

-- the number of each refusal
abbrev pub number : Refusal → ℕ
number refused.Malformed = 4
number refused.TooDeep = 5
number refused.LeftTooLong = 6
number refused.RightTooLong = 7
number refused.AlreadyKept = 8
number refused.Full = 9

-- How many paths are open after an item, where most may be open at a time; none where one too many opens, or one closes that is not open.
abbrev pub open_after : ℕ → ℕ → Item → Option ℕ
open_after most d (item.Atom a) = Some d
open_after most d (item.Node q n) = Some d
open_after most d (item.Open q n) = cond (nat_lt d most) (Some (d + 1)) None
open_after most d item.Close = cond (d == 0) None (Some (d - 1))

-- whether every path that is open, or opens, is closed
abbrev pub closes : ℕ → Option ℕ → List Item → Bool
closes most None is = false
closes most (Some d) [] = d == 0
closes most (Some d) (i ∷ is) = closes most (open_after most d i) is

-- Every close has its opening and every opening its close, however deep: no more paths open than there are items.
abbrev pub paired : List Item → Bool
paired is = closes (length is) (Some 0) is

-- besides, no path is nested a fifth time
abbrev pub shallow : List Item → Bool
shallow is = closes nesting_limit (Some 0) is

-- Items that are let pass by the first are those of a list of terms, and those let pass by both are nested within the limit.
abbrev pub PairedItemsAreTermLists : Type 0
PairedItemsAreTermLists = (is : List Item) → (paired is ≡ true) ↔ ((t : Terms) × (flat t ≡ is))

abbrev pub ShallowItemsNestFourDeep : Type 0
ShallowItemsNestFourDeep = (t : Terms) → (shallow (flat t) ≡ true) ↔ (nesting t ≤ nesting_limit)

-- balanced items, and every number in range
abbrev pub well_formed : Sentence → Bool
well_formed s = (node_in_range s.node && every atom_in_range s.left) && (every item_in_range s.right && paired s.right)

-- refusals 4 to 7, which the sentence alone decides
abbrev pub unfit : Sentence → Option Refusal
unfit s =
    cond (well_formed s)
    (cond (shallow s.right)
    (cond (nat_lt path_limit (length s.left)) (Some refused.LeftTooLong)
    (cond (nat_lt item_limit (length s.right)) (Some refused.RightTooLong) None))
    (Some refused.TooDeep))
    (Some refused.Malformed)

-- a sentence that these let pass
abbrev pub fits : Sentence → Bool
fits s = not (is_some (unfit s))

-- how much a keeper holds at most
pub record Limits : Type 0 where
  pub sentences : ℕ
  pub atoms : ℕ
  pub items : ℕ

-- whether one sentence more passes one of the limits
abbrev pub over : Limits → List Sentence → Sentence → Bool
over k ss s = nat_lt k.sentences (length ss + 1) || (nat_lt k.atoms (atoms_in ss + length s.left) || nat_lt k.items (items_in ss + length s.right))

abbrev pub or_else : Option Refusal → Option Refusal → Option Refusal
or_else (Some f) o = Some f
or_else None o = o

-- the refusal of one sentence more, 4 to 9 in their order
abbrev pub refusal : Limits → List Sentence → Sentence → Option Refusal
refusal k ss s = or_else (unfit s) (cond (is_some (map_of ss s.node s.left)) (Some refused.AlreadyKept) (cond (over k ss s) (Some refused.Full) None))

abbrev pub answer : Option Refusal → Result (Unit {0}) Refusal
answer None = Ok tt
answer (Some f) = Err f

-- what is kept after it was added: the same where it is refused
abbrev pub kept_after : Option Refusal → List Sentence → Sentence → List Sentence
kept_after None ss s = ss ++ s ∷ []
kept_after (Some f) ss s = ss
