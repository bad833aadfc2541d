-- Laws of results and holds.
use Rattle.std.proofs.Common.{◌≡◌, ℕ, ◌+◌, ◌-◌, List, [], ◌++◌, length, sym, refl, ap, append_assoc, append-nil, add-zero, add_assoc, zero-add, arith, length-append}
use Rattle.terms.specs.declared.items.Atom.{Atom}
use Rattle.rules.specs.Outcomes.{Outcome, value, stopped, later, behind, then}
use Rattle.machine.specs.Steps.{Built, whole, inside, room, full, put}

pub later_zero : (r : Outcome) → later 0 r ≡ r
later_zero (value v n) = ap (λ m. value v m) (zero-add n)
later_zero (stopped s n) = ap (λ m. stopped s m) (zero-add n)

pub later_later : (m n : ℕ) (r : Outcome) → later (m + n) r ≡ later m (later n r)
later_later m n (value v k) = ap (λ i. value v i) (add_assoc m n k)
later_later m n (stopped s k) = ap (λ i. stopped s i) (add_assoc m n k)

pub then_same : (r : Outcome) (f g : List Atom → Outcome) → ((v : List Atom) → f v ≡ g v) → then r f ≡ then r g
then_same (value v n) f g e = ap (later n) (e v)
then_same (stopped s n) f g e = refl

pub then_value : (r : Outcome) → then r (λ v. value v 0) ≡ r
then_value (value v n) = ap (λ m. value v m) (add-zero n)
then_value (stopped s n) = refl

pub then_later : (n : ℕ) (r : Outcome) (f : List Atom → Outcome) → then (later n r) f ≡ later n (then r f)
then_later n (value v m) f = later_later n m (f v)
then_later n (stopped s m) f = refl

pub then_behind : (u : List Atom) (r : Outcome) (f : List Atom → Outcome) → then (behind u r) f ≡ then r (λ v. f (u ++ v))
then_behind u (value v m) f = refl
then_behind u (stopped s m) f = refl

pub then_then : (r : Outcome) (f g : List Atom → Outcome) → then (then r f) g ≡ then r (λ v. then (f v) g)
then_then (value v n) f g = then_later n (f v) g
then_then (stopped s n) f g = refl

pub put_none : (h : Built) → put [] h ≡ h
put_none (whole v) = ap whole (append-nil v)
put_none (inside q n u h) = ap (λ w. inside q n w h) (append-nil u)

pub put_put : (v w : List Atom) (h : Built) → put (v ++ w) h ≡ put w (put v h)
put_put v w (whole u) = ap whole (sym (append_assoc u v w))
put_put v w (inside q n u h) = ap (λ x. inside q n x h) (sym (append_assoc u v w))

pub room_put : (v : List Atom) (h : Built) → room (put v h) ≡ room h - length v
room_put v (whole u) = simp length-append (omega arith)
room_put v (inside q n u h) = simp length-append (omega arith)

pub full_put : (v : List Atom) (h : Built) → full (put v h) ≡ full h
full_put v (whole u) = refl
full_put v (inside q n u h) = refl
