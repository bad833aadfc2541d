-- Loading: the grammar with its limits, word by word.
use Rattle.std.specs.Prelude.{ℕ, Bool, true, cond, List, length, is_some, Some, None, Option, nat_lt}
use Rattle.terms.specs.Limits.{nesting_limit, path_limit, item_limit}
use Rattle.terms.specs.Maps.{node_in_range, atom_in_range}
use Rattle.stores.specs.declared.refusals.Refusal.{Refusal}
use Rattle.stores.specs.Sentences.{Sentence, map_of}
use Rattle.stores.specs.declared.refusals.Refusal.TheVariants as refusals
use Rattle.stores.specs.Refusals.{Limits, number, over as over_limits}
use Rattle.grammar.specs.Trees.{Word, AtomName, NodeName, Less, Greater, Quote, Colon, Is, Stop, Open, Close, Stray}
use Rattle.grammar.specs.Parsing.{Stream, word, over, broken, State, Step, go, ends, bad, step, finish, Outcome, refused, so_far, depth}

-- a name's number is below the limit
abbrev pub numbered : Word → Bool
numbered (AtomName a) = atom_in_range a
numbered (NodeName n) = node_in_range n
numbered Less = true
numbered Greater = true
numbered Quote = true
numbered Colon = true
numbered Is = true
numbered Stop = true
numbered Open = true
numbered Close = true
numbered Stray = true

-- Refusals 6 to 9 of a sentence, over those that are kept: those that a keeper has left to decide once the grammar is content.
abbrev pub late_refusal : Limits → List Sentence → Sentence → Option Refusal
late_refusal l kept x =
    cond (nat_lt path_limit (length x.left)) (Some refusals.LeftTooLong)
    (cond (nat_lt item_limit (length x.right)) (Some refusals.RightTooLong)
    (cond (is_some (map_of kept x.node x.left)) (Some refusals.AlreadyKept) (cond (over_limits l kept x) (Some refusals.Full) None)))

abbrev pub kept_or : Option Refusal → ℕ → Outcome → Outcome
kept_or None p o = o
kept_or (Some r) p o = refused (number r) p

-- at one word: 4, then 5, then 10, then 6 to 9 of the sentence ending
abbrev pub within_limits : ℕ → Word → State → Outcome → Outcome
within_limits s w σ o = cond (nat_lt nesting_limit (depth σ)) (refused 5 s) (cond (numbered w) o (refused 10 s))

abbrev pub checked : Limits → List Sentence → ℕ → Word → Step → (State → Outcome) → Outcome
checked l kept s w (go σ) k = within_limits s w σ (k σ)
checked l kept s w (ends p x σ) k = within_limits s w σ (kept_or (late_refusal l kept x) p (k σ))
checked l kept s w bad k = refused 4 s

unfoldable pub load : Limits → Stream → State → Outcome
load l (word s w S) σ = checked l (so_far σ) s w (step σ s w) (load l S)
load l (over s) σ = finish σ s
load l (broken n p) σ = refused n p
