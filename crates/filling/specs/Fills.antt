-- Sentences added one by one.
use Rattle.std.specs.Prelude.{◌≡◌, ◌≤◌, Bool, true, not, ◌&&◌, ◌⊎◌, ◌↔◌, List, [], ◌∷◌, ◌++◌, map, length, Some, None, Option}
use Rattle.terms.specs.declared.items.Node.{Node}
use Rattle.terms.specs.declared.items.Atom.{Atom}
use Rattle.terms.specs.Terms.{Terms, flat}
use Rattle.terms.specs.Maps.{Map, every}
use Rattle.stores.specs.declared.refusals.Refusal.{Refusal}
use Rattle.stores.specs.Sentences.{Sentence, sentence, is_pair, map_of, atoms_in, items_in}
use Rattle.stores.specs.Refusals.{Limits, fits, refusal, or_else}
use Rattle.filling.specs.declared.given.Given.{Given}

-- the sentence that is given
abbrev pub sentence_of : Given → Sentence
sentence_of g = sentence g.node g.left.now g.right.now

abbrev pub sentences_of : List Given → List Sentence
sentences_of gs = map sentence_of gs

-- the first refusal where some are kept, if there is one
abbrev pub first_refusal : Limits → List Sentence → List Sentence → Option Refusal
first_refusal k ss [] = None
first_refusal k ss (t ∷ ts) = or_else (refusal k ss t) (first_refusal k (ss ++ t ∷ []) ts)

-- what is kept after them: those in front of the first that is refused
abbrev pub unless : {X : Type 0} → Option Refusal → X → X → X
unless (Some f) x y = x
unless None x y = y

abbrev pub kept_from : Limits → List Sentence → List Sentence → List Sentence
kept_from k ss [] = ss
kept_from k ss (t ∷ ts) = unless (refusal k ss t) ss (kept_from k (ss ++ t ∷ []) ts)

-- no two sentences of one pair
abbrev pub apart : List Sentence → Bool
apart [] = true
apart (t ∷ ts) = every (λ u. not (is_pair u.node u.left t)) ts && apart ts

-- each fits, no pair comes twice, and the limits are kept
pub record Acceptable (k : Limits) (ts : List Sentence) : Type 0 where
  pub fit : every fits ts ≡ true
  pub pairs : apart ts ≡ true
  pub sentences : length ts ≤ k.sentences
  pub atoms : atoms_in ts ≤ k.atoms
  pub items : items_in ts ≤ k.items

abbrev pub Among : Sentence → List Sentence → Type 0
Among s [] = ⊥
Among s (t ∷ ts) = (s ≡ t) ⊎ Among s ts

-- a map has a right side exactly where there is a sentence of it
abbrev pub Exactly : Map → List Sentence → Type 0
Exactly M ts = (n : Node) (l : List Atom) (t : Terms) → (M n l ≡ Some t) ↔ Among (sentence n l (flat t)) ts

-- the map is that of the sentences, and has exactly them
pub record Filled (M : Map) (ts : List Sentence) : Type 0 where
  pub is : M ≡ map_of ts
  pub has : Exactly M ts
