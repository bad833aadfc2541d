-- A pen that spells one thing behind the other.
use Rattle.std.proofs.Common.{◌≡◌, ℕ, List, [], ◌++◌, refl, ◌∙◌, subst}
use Rattle.lines.specs.declared.pen.Pen.{Pen}
use Rattle.lines.specs.Pens.{Spells}
use Rattle.lines.proofs.Spelled as spelled

pub nothing : (p : Pen) → Spells p [] p
nothing p = record { same_reference = refl; same_length = refl; spelled = spelled.none p.page.now p.at p.in_range }

pub then : {p q r : Pen} {a b : List ℕ} → Spells p a q → Spells q b r → Spells p (a ++ b) r
then {p} {q} {r} {a} {b} x y = record {
  same_reference = y.same_reference ∙ x.same_reference;
  same_length = y.same_length ∙ x.same_length;
  spelled = spelled.then p.countable x.same_length x.spelled y.spelled;
}

pub spells : {p q : Pen} {a b : List ℕ} → a ≡ b → Spells p a q → Spells p b q
spells {p} {q} same x = subst (λ l. Spells p l q) same x
