-- Outcomes at the limits, on both sides of each; the order of the tests, and that of the terms.
use Rattle.std.specs.Prelude.{ℕ, suc, true, false, List, [], ◌∷◌, replicate, Some, None, ◌==◌}
use Rattle.terms.specs.declared.items.Atom.{Atom}
use Rattle.terms.specs.Terms.{Terms}
use Rattle.terms.specs.Maps.{Map}
use Rattle.rules.specs.Outcomes.{Stop, value, stopped}
use Rattle.rules.specs.Theories.{node, Sentence, says, map_of, end, words, inherits, pair, local, Row, row, ComesTo}
use Rattle.rules.specs.Theories as theories

abbrev a : Atom
a = theories.atom 7

-- At the node k stands `last`; each node before it inherits from the next.
abbrev chain : ℕ → Terms → Map
chain k last n [] = elim (n.0 == k) [ true ↦ Some last | false ↦ Some (inherits (node (suc n.0)) end) ]
chain k last n (b ∷ p) = None

-- each node before k inherits from the next twice
abbrev doubling : ℕ → Map
doubling k n [] =
    elim (n.0 == k) [
      | true ↦ Some (words 1 a end)
      | false ↦ Some (inherits (node (suc n.0)) (inherits (node (suc n.0)) end))
    ]
doubling k n (b ∷ p) = None

-- 96 nodes in a chain give a value in 96 steps; 97 end by depth in 96.
abbrev pub OpenSentencesEndAt96 : Type 0
OpenSentencesEndAt96 =
    ComesTo (chain 95 (words 1 a end)) (row (node 0) [] (value (a ∷ []) 96) ∷ [])
    × ComesTo (chain 96 (words 1 a end)) (row (node 0) [] (stopped Stop.depth 96) ∷ [])

-- A value of 256 atoms stands; a 257th ends it by length.
abbrev pub ValuesEndAt256 : Type 0
ValuesEndAt256 =
    ComesTo (doubling 8) (row (node 0) [] (value (replicate 256 a) 511) ∷ [])
    × ComesTo (map_of (says (node 0) [] (words 256 a end) ∷ [])) (row (node 0) [] (value (replicate 256 a) 1) ∷ [])
    × ComesTo (map_of (says (node 0) [] (words 257 a (inherits (node 0) end)) ∷ [])) (row (node 0) [] (stopped Stop.length 1) ∷ [])
    × ComesTo (doubling 9) (row (node 0) [] (stopped Stop.length 521) ∷ [])

-- At 0 a pair of the node 1, with so many atoms inside and `last` behind them; a at 1, and nothing at 2.
abbrev inside : ℕ → Terms → List Sentence
inside k last = says (node 0) [] (pair (node 1) (words k a last) end) ∷ says (node 1) [] (words 1 a end) ∷ says (node 2) [] end ∷ []

abbrev of_32 : List Row
of_32 =
    row (node 1) (replicate 32 a) (value (a ∷ []) 1)
    ∷ row (node 1) (replicate 33 a) (stopped Stop.path 0)
    ∷ row (node 0) [] (value (a ∷ []) 2)
    ∷ row (node 0) (a ∷ []) (stopped Stop.path 1)
    ∷ []

-- A question of 32 atoms is asked; one of 33 ends by path, before any look-up of it. The inside of a path has 32 atoms; a 33rd ends
-- it there and then, with the terms behind it left alone.
abbrev pub PathsEndAt32 : Type 0
PathsEndAt32 =
    ComesTo (map_of (inside 32 end)) of_32
    × ComesTo (map_of (inside 32 (inherits (node 2) end))) (row (node 0) [] (value (a ∷ []) 3) ∷ [])
    × ComesTo (map_of (inside 33 (inherits (node 2) end))) (row (node 0) [] (stopped Stop.path 1) ∷ [])

-- With 96 sentences open, a circle and a path that is too long come before the depth. (They never meet: no open sentence's question is too
-- long.)
abbrev pub TestsComeInOrder : Type 0
TestsComeInOrder =
    ComesTo (chain 95 (inherits (node 0) end)) (row (node 0) [] (stopped Stop.circular 96) ∷ [])
    × ComesTo (chain 95 (local (words 32 a end) end)) (row (node 0) (a ∷ []) (stopped Stop.path 96) ∷ [])
    × ComesTo (chain 95 (local (words 32 a end) end)) (row (node 0) [] (stopped Stop.depth 96) ∷ [])

-- The node 1 is undefined, since there is no 3, and 2 is circular; 0 has both, and 4 has them the other way round.
abbrev both_stop : List Sentence
both_stop =
    says (node 0) [] (inherits (node 1) (inherits (node 2) end))
    ∷ says (node 1) [] (inherits (node 3) end)
    ∷ says (node 2) [] (inherits (node 2) end)
    ∷ says (node 4) [] (inherits (node 2) (inherits (node 1) end))
    ∷ []

-- the first term that stops says why
abbrev pub TermsAreWorkedFromLeftToRight : Type 0
TermsAreWorkedFromLeftToRight =
    ComesTo (map_of both_stop) (row (node 0) [] (stopped Stop.undefined 3) ∷ row (node 4) [] (stopped Stop.circular 2) ∷ [])
