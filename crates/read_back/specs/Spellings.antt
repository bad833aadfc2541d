-- The names that a text can spell.
use Rattle.std.specs.Prelude.{◌≡◌, ℕ, ◌≤◌, Bool, true, false, ◌&&◌, List, [], ◌∷◌, length, nat_le}
use Rattle.terms.specs.Limits.{node_limit, atom_limit}
use Rattle.terms.specs.Maps.{every}
use Rattle.classes.specs.declared.ByteClass.{ByteClass}
use Rattle.classes.specs.declared.ByteClass.TheVariants as class
use Rattle.classes.specs.Classes.{class_of}
use Rattle.names.specs.Distinct.{distinct}
use Rattle.words.specs.Words.{of_name, name_limit}
use Rattle.grammar.specs.Texts.{Names}

abbrev pub is_capital : ByteClass → Bool
is_capital class.Blank = false
is_capital class.Bad = false
is_capital (class.Mark m) = false
is_capital class.Capital = true
is_capital class.Plain = false

-- a node's name: a capital, and then capitals and plain bytes, 32 at most
abbrev pub node_name : List ℕ → Bool
node_name [] = false
node_name (b ∷ bs) = is_capital (class_of b) && (every (of_name false) bs && nat_le (length (b ∷ bs)) name_limit)

-- an atom's name: 1 to 32 bytes, no control byte and no quote among them
abbrev pub atom_name : List ℕ → Bool
atom_name x = every (of_name true) x && (nat_le 1 (length x) && nat_le (length x) name_limit)

-- names that texts can spell, none of them twice
pub record Spellable (ns : Names) : Type 0 where
  pub nodes : every node_name ns.nodes ≡ true
  pub atoms : every atom_name ns.atoms ≡ true
  pub nodes_apart : distinct ns.nodes ≡ true
  pub atoms_apart : distinct ns.atoms ≡ true

-- and no more than there may be
pub record Within (ns : Names) : Type 0 where
  pub nodes : length ns.nodes ≤ node_limit
  pub atoms : length ns.atoms ≤ atom_limit
