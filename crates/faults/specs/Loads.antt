-- The number, place and layer of a fault of a load.
use Rattle.std.specs.Prelude.{cond, ℕ, nat_le}
use Rattle.faults.specs.declared.kinds.GrammarFault.{GrammarFault}
use Rattle.faults.specs.declared.kinds.GrammarFault.TheVariants as grammar
use Rattle.faults.specs.declared.kinds.LoadFault.{LoadFault}
use Rattle.faults.specs.declared.kinds.LoadFault.TheVariants.{TooLong, Grammar}
use Rattle.faults.specs.declared.kinds.Layer.{Layer}
use Rattle.faults.specs.declared.kinds.Layer.TheVariants as layers
use Rattle.faults.specs.Grammar as rest

abbrev pub number : LoadFault → ℕ
number TooLong = 11
number (Grammar e) = rest.number e

abbrev pub place : LoadFault → ℕ
place TooLong = 65536
place (Grammar e) = rest.place e

abbrev pub grammar_layer_lem : GrammarFault → Layer
grammar_layer_lem (grammar.Word e) = layers.Words
grammar_layer_lem (grammar.Own r p) = layers.Grammar
grammar_layer_lem (grammar.Name e) = layers.Names
grammar_layer_lem (grammar.Keeper e) = layers.Keeper

abbrev pub layer : LoadFault → Layer
layer TooLong = layers.Loader
layer (Grammar e) = grammar_layer_lem e

-- the layer of each number: words 1 to 3, grammar 4 and 5, keeper 6 to 9, names 10, loader 11
abbrev pub layer_of : ℕ → Layer
layer_of n = cond (nat_le n 3) layers.Words (cond (nat_le n 5) layers.Grammar (cond (nat_le n 9) layers.Keeper (cond (nat_le n 10) layers.Names layers.Loader)))
