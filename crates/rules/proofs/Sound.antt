-- What the outcome shows as a value is derived, within the limits, in as many uses of Def as there were steps.
use Rattle.std.proofs.Common.{◌≡◌, ℕ, zero, suc, ◌+◌, ◌-◌, ◌≤◌, List, [], ◌∷◌, ◌++◌, length, Some, None, Option, refl, subst, arith, length-append}
use Rattle.terms.specs.declared.items.Node.{Node}
use Rattle.terms.specs.declared.items.Atom.{Atom}
use Rattle.terms.specs.declared.items.Quoting.{Quoting}
use Rattle.terms.specs.Limits.{path_limit, open_limit, value_limit}
use Rattle.terms.specs.Terms.{Terms}
use Rattle.terms.specs.Maps.{Map, Longest}
use Rattle.rules.specs.Questions.{Question}
use Rattle.rules.specs.Table.{Site, site, node_asks_lem, path_asks_lem, Answers, Works, def, end, atom, node, path, uses, uses_in, deepest, deepest_in, Narrow, NarrowIn, Fits}
use Rattle.rules.specs.Outcomes.{Stop, Outcome, value, stopped, later, behind, then}
use Rattle.terms.specs.LookUp.{Look, found, nothing, look_up}
use Rattle.rules.specs.Evaluation.{barred, unless, step, work, ask, outcome}
use Rattle.terms.proofs.LookUp.{Tells, look_tells, as_longest}
use Rattle.rules.proofs.Tests.{passed_narrow}

-- a derivation of v in n uses of Def, with at most `left` of them on a branch and at most `room` atoms
pub record Derived (M : Map) (q : Question) (left room : ℕ) (v : List Atom) (n : ℕ) : Type 0 where
  pub tree : Answers M q v
  pub counts : uses tree ≡ n
  pub narrow : Narrow tree
  pub branches : deepest tree ≤ left
  pub short : length v ≤ room

pub record Worked (M : Map) (s : Site) (t : Terms) (left room : ℕ) (v : List Atom) (n : ℕ) : Type 0 where
  pub tree : Works M s t v
  pub counts : uses_in tree ≡ n
  pub narrow : NarrowIn tree
  pub branches : deepest_in tree ≤ left
  pub short : length v ≤ room

-- P holds of the value, if there is one
abbrev pub Holds : (List Atom → ℕ → Type 0) → Outcome → Type 0
Holds P (value v n) = P v n
Holds P (stopped s n) = Unit {0}

later_holds : (P Q : List Atom → ℕ → Type 0) (n : ℕ) (r : Outcome) → Holds P r → ((v : List Atom) (m : ℕ) → P v m → Q v (n + m)) → Holds Q (later n r)
later_holds P Q n (value v m) h f = f v m h
later_holds P Q n (stopped s m) h f = tt

behind_holds : (P Q : List Atom → ℕ → Type 0) (v : List Atom) (r : Outcome) → Holds P r
    → ((w : List Atom) (m : ℕ) → P w m → Q (v ++ w) m) → Holds Q (behind v r)
behind_holds P Q v (value w m) h f = f w m h
behind_holds P Q v (stopped s m) h f = tt

-- the rest of a list of terms, behind v and n steps later
rest_holds : (P Q : List Atom → ℕ → Type 0) (v : List Atom) (n : ℕ) (r : Outcome) → Holds P r
    → ((w : List Atom) (m : ℕ) → P w m → Q (v ++ w) (n + m)) → Holds Q (later n (behind v r))
rest_holds P Q v n (value w m) h f = f w m h
rest_holds P Q v n (stopped s m) h f = tt

then_holds : (P Q : List Atom → ℕ → Type 0) (r : Outcome) (f : List Atom → Outcome) → Holds P r
    → ((v : List Atom) (n : ℕ) → P v n → Holds Q (later n (f v))) → Holds Q (then r f)
then_holds P Q (value v n) f h g = g v n h
then_holds P Q (stopped s n) f h g = tt

unless_holds : (P : List Atom → ℕ → Type 0) (b : Option Stop) (f : Unit {0} → Outcome) → (b ≡ None → Holds P (f tt)) → Holds P (unless b f)
unless_holds P (Some s) f h = tt
unless_holds P None f h = h refl

step_holds : (P : List Atom → ℕ → Type 0) (L : List Atom → Option Terms) (p : List Atom) (x : Look) (f : ℕ → Terms → Outcome) → Tells L p x
    → ((k : ℕ) (t : Terms) → Tells L p (found k t) → Holds P (later 1 (f k t))) → Holds P (step x f)
step_holds P L p nothing f t h = tt
step_holds P L p (found k u) f t h = h k u t

-- the parts of a longer list of terms
join_node : {M : Map} {s : Site} {q : Quoting} {n : Node} {rest : Terms} {left room : ℕ} (v w : List Atom) (i j : ℕ)
    → Derived M (node_asks_lem s q n) left room v i → Worked M s rest left (room - length v) w j
    → Worked M s (Terms.node q n rest) left room (v ++ w) (i + j)
join_node v w i j a b = record {
  tree = node a.tree b.tree;
  counts = omega arith;
  narrow = (a.narrow, b.narrow);
  branches = omega arith;
  short = simp length-append (omega arith);
}

join_path : {M : Map} {s : Site} {q : Quoting} {n : Option Node} {inside rest : Terms} {left room : ℕ} (u v w : List Atom) (h i j : ℕ)
    → Worked M s inside left path_limit u h → Derived M (path_asks_lem s q n u) left room v i → Worked M s rest left (room - length v) w j
    → Worked M s (Terms.path q n inside rest) left room (v ++ w) (h + (i + j))
join_path u v w h i j a b c = record {
  tree = path a.tree b.tree c.tree;
  counts = omega arith;
  narrow = (a.short, a.narrow, b.narrow, c.narrow);
  branches = omega arith;
  short = simp length-append (omega arith);
}

sound_work : (M : Map) (left : ℕ) (f : Question → ℕ → Stop → Outcome)
    → ((q : Question) (room : ℕ) (full : Stop) → Holds (Derived M q left room) (f q room full))
    → (s : Site) (t : Terms) (room : ℕ) (full : Stop) → Holds (Worked M s t left room) (work f s t room full)
unfolding work
sound_work M left f sound s Terms.done room full =
    record { tree = end; counts = refl; narrow = tt; branches = omega arith; short = omega arith }
sound_work M left f sound s (Terms.atom a rest) zero full = tt
sound_work M left f sound s (Terms.atom a rest) (suc room) full =
    behind_holds (Worked M s rest left room) (Worked M s (Terms.atom a rest) left (suc room)) (a ∷ []) _
    (sound_work M left f sound s rest room full)
    (λ w m b. record { tree = atom b.tree; counts = b.counts; narrow = b.narrow; branches = b.branches; short = omega arith })
sound_work M left f sound s (Terms.node q n rest) room full =
    then_holds (Derived M (node_asks_lem s q n) left room) (Worked M s (Terms.node q n rest) left room) _ _
    (sound (node_asks_lem s q n) room full)
    (λ v i a. rest_holds (Worked M s rest left (room - length v)) (Worked M s (Terms.node q n rest) left room) v i _
    (sound_work M left f sound s rest (room - length v) full)
    (λ w j b. join_node v w i j a b))
sound_work M left f sound s (Terms.path q n inside rest) room full =
    then_holds (Worked M s inside left path_limit) (Worked M s (Terms.path q n inside rest) left room) _ _
    (sound_work M left f sound s inside path_limit Stop.path)
    (λ u h a. later_holds (λ w m. Worked M s (Terms.path q n inside rest) left room w (h + m)) (Worked M s (Terms.path q n inside rest) left room) h _
    (then_holds (Derived M (path_asks_lem s q n u) left room) (λ w m. Worked M s (Terms.path q n inside rest) left room w (h + m)) _ _
    (sound (path_asks_lem s q n u) room full)
    (λ v i b. rest_holds (Worked M s rest left (room - length v)) (λ w m. Worked M s (Terms.path q n inside rest) left room w (h + m)) v i _
    (sound_work M left f sound s rest (room - length v) full)
    (λ w j c. join_path u v w h i j a b c)))
    (λ w m x. x))

join_def : {M : Map} {q : Question} {left room : ℕ} (k : ℕ) (t : Terms) (v : List Atom) (n : ℕ) → length q.path ≤ path_limit
    → Longest M q.node q.path k t → Worked M (site q k) t left room v n → Derived M q (suc left) room v (1 + n)
join_def k t v n h l a = record {
  tree = def k t l a.tree;
  counts = omega arith;
  narrow = (h, a.narrow);
  branches = omega arith;
  short = a.short;
}

pub sound_ask : (M : Map) (left : ℕ) (opened : List Question) (q : Question) (room : ℕ) (full : Stop)
    → Holds (Derived M q left room) (ask M left opened q room full)
unfolding ask
sound_ask M zero opened q room full = unless_holds (Derived M q zero room) (barred opened q) (λ _. stopped Stop.depth 0) (λ _. tt)
sound_ask M (suc left) opened q room full =
    unless_holds (Derived M q (suc left) room) (barred opened q)
    (λ _. step (look_up (M q.node) q.path) (λ k t. work (ask M left (q ∷ opened)) (site q k) t room full))
    (λ e. step_holds (Derived M q (suc left) room) (M q.node) q.path (look_up (M q.node) q.path)
    (λ k t. work (ask M left (q ∷ opened)) (site q k) t room full)
    (look_tells (M q.node) q.path)
    (λ k t l. later_holds (Worked M (site q k) t left room) (Derived M q (suc left) room) 1 _
    (sound_work M left (ask M left (q ∷ opened)) (λ r. sound_ask M left (q ∷ opened) r) (site q k) t room full)
    (λ v n a. join_def k t v n (passed_narrow opened q e) (as_longest M q.node q.path k t l) a)))

pub sound : (M : Map) (q : Question) (v : List Atom) (n : ℕ) → outcome M q ≡ value v n → (d : Answers M q v) × Fits d × (uses d ≡ n)
unfolding outcome
sound M q v n e =
    let P : Outcome → Type 0 = λ r. Holds (Derived M q open_limit value_limit) r in
    let h : Derived M q open_limit value_limit v n = subst P e (sound_ask M open_limit [] q value_limit Stop.length) in
    (h.tree, record { narrow = h.narrow; branches = h.branches; short = h.short }, h.counts)
