-- The numbers of the refusals.
use Rattle.std.specs.Prelude.{ℕ, Ok, Err, Result}
use Rattle.lines.specs.declared.refusals.LineRefusal.{LineRefusal}
use Rattle.lines.specs.declared.refusals.LineRefusal.TheVariants as refusal

abbrev pub number : LineRefusal → ℕ
number refusal.Idle = 14
number refusal.NoName = 12
number refusal.NoRoom = 15

-- an answer with the number of its refusal
abbrev pub numbered : {T : Type 0} → Result T LineRefusal → Result T ℕ
numbered (Ok x) = Ok x
numbered (Err r) = Err (number r)
