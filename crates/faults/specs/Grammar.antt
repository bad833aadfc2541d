-- The number and place of a fault that the grammar carries.
use Rattle.std.specs.Prelude.{ℕ}
use Rattle.stores.specs.Refusals as stores
use Rattle.words.specs.Words as words
use Rattle.faults.specs.declared.kinds.GrammarFault.{GrammarFault}
use Rattle.faults.specs.declared.kinds.GrammarFault.TheVariants as fault
use Rattle.faults.specs.declared.kinds.GrammarRefusal.{GrammarRefusal}
use Rattle.faults.specs.declared.kinds.GrammarRefusal.TheVariants as refusal

abbrev pub own_number_lem : GrammarRefusal → ℕ
own_number_lem refusal.Misplaced = 4
own_number_lem refusal.TooDeep = 5

abbrev pub number : GrammarFault → ℕ
number (fault.Word e) = words.number e.refusal
number (fault.Own r p) = own_number_lem r
number (fault.Name e) = 10
number (fault.Keeper e) = stores.number e.refusal

abbrev pub place : GrammarFault → ℕ
place (fault.Word e) = e.place
place (fault.Own r p) = p
place (fault.Name e) = e.place
place (fault.Keeper e) = e.place
