-- What a limit that is not passed says.
use Rattle.std.proofs.Common.{Bool, true, cond, Ok, Err, Result, refl, ◌≡◌, ℕ, ◌+◌, ◌≤◌, min, false, ◌||◌, ltb, List, length, ap, arith}
use Rattle.std.proofs.lemmas.Bool.{or_parts, ltb-false}
use Rattle.stores.specs.Sentences.{Sentence, atoms_in, items_in}
use Rattle.stores.specs.declared.refusals.Refusal.{Refusal}
use Rattle.kept.specs.declared.Room.{Room}
use Rattle.kept.specs.Held.{passes, smaller}

pub record Within (k : Room) (ss : List Sentence) (a i : ℕ) : Type 0 where
  pub sentences : length ss + 1 ≤ k.sentences
  pub atoms : atoms_in ss + a ≤ k.atoms
  pub items : items_in ss + i ≤ k.items

pub within : (k : Room) (ss : List Sentence) (a i : ℕ) → passes k ss a i ≡ false → Within k ss a i
within k ss a i h =
    let p = or_parts (ltb k.sentences (length ss + 1)) (ltb k.atoms (atoms_in ss + a) || ltb k.items (items_in ss + i)) h in
    let q = or_parts (ltb k.atoms (atoms_in ss + a)) (ltb k.items (items_in ss + i)) p.1 in
    record {
      sentences = ltb-false k.sentences (length ss + 1) p.0;
      atoms = ltb-false k.atoms (atoms_in ss + a) q.0;
      items = ltb-false k.items (items_in ss + i) q.1;
    }

-- what the smaller of two does not pass, neither does
pub within_smaller : (j k : Room) (ss : List Sentence) (a i : ℕ) → Within (smaller j k) ss a i → Within k ss a i
within_smaller j k ss a i w =
    let x = w.sentences in
    let y = w.atoms in
    let z = w.items in
    record { sentences = omega arith; atoms = omega arith; items = omega arith }

-- the smaller of two rooms that are the same
pub smaller_same : (m r : Room) → m ≡ r → smaller m r ≡ r
smaller_same m r e =
    let s = ap (λ (v : Room). v.sentences) e in
    let a = ap (λ (v : Room). v.atoms) e in
    let i = ap (λ (v : Room). v.items) e in
    let s' : min m.sentences r.sentences ≡ r.sentences = omega arith in
    let a' : min m.atoms r.atoms ≡ r.atoms = omega arith in
    let i' : min m.items r.items ≡ r.items = omega arith in
    λ j. record { sentences = s' j; atoms = a' j; items = i' j }

-- what `put` keeps is within
pub not_passed : (b : Bool) (e : Refusal) → ◌≡◌ {A = Result (Unit {0}) Refusal} (Ok tt) (cond b (Err e) (Ok tt)) → b ≡ false
not_passed true e h = absurd (let z : ◌≡◌ {A = ℕ} 0 1 = cc in omega arith)
not_passed false e h = refl
