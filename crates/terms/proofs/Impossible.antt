-- Equations that cannot be.
use Rattle.std.proofs.Common.{◌≡◌, ℕ, arith}

-- `impossible (cc)` closes any goal where an equation in scope joins two constructors
pub impossible : {X : Type 0} → ◌≡◌ {A = ℕ} 0 1 → X
impossible z = absurd (omega arith)
