-- Where there is a derivation, the outcome is its value in as many steps as it has uses of Def, or names a limit that it breaks.
use Rattle.std.proofs.Common.{◌≡◌, ℕ, zero, suc, ◌+◌, ◌-◌, ◌<◌, ◌≤◌, true, ◌⊎◌, List, [], ◌∷◌, ◌++◌, length, Some, None, Option, sym, refl, ap, subst, inl, inr, arith, length-append}
use Rattle.std.proofs.lemmas.Bool.{or_cases}
use Rattle.terms.specs.declared.items.Node.{Node}
use Rattle.terms.specs.declared.items.Atom.{Atom}
use Rattle.terms.specs.Limits.{path_limit, open_limit, value_limit}
use Rattle.terms.specs.Terms.{Terms}
use Rattle.terms.specs.Maps.{Map, Longest}
use Rattle.terms.proofs.Impossible.{impossible}
use Rattle.rules.specs.Questions.{Question}
use Rattle.rules.specs.Table.{Site, site, node_asks_lem, path_asks_lem, Answers, Works, def, end, atom, node, path, uses, uses_in, deepest, deepest_in, Narrow, NarrowIn, Fits}
use Rattle.rules.specs.Outcomes.{Stop, Outcome, value, stopped, later, behind, then}
use Rattle.terms.specs.LookUp.{Look, found, nothing, look_up}
use Rattle.rules.specs.Evaluation.{same_question, among, barred, unless, step, work, ask, outcome}
use Rattle.terms.proofs.LookUp.{one_longest, Tells, look_tells, as_longest}
use Rattle.rules.proofs.Tests.{Bars, barred_tells, questions_equal}
use Rattle.rules.proofs.Unique.{move, same_answer}

-- Which limit is broken, by the outcome that names it. `full` is what it is called when an atom comes that there is no room for.
data Breaks (Narrow : Type 0) (deepest left len room : ℕ) (full : Stop) : Stop → Type 0 where
  wide : (Narrow → ⊥) → Breaks Narrow deepest left len room full Stop.path
  deep : left < deepest → Breaks Narrow deepest left len room full Stop.depth
  long : room < len → Breaks Narrow deepest left len room full full

-- the value v in n steps, or a stop for which there is a reason
abbrev Right : (Stop → Type 0) → List Atom → ℕ → Outcome → Type 0
Right W v n (value w m) = (w ≡ v) × (m ≡ n)
Right W v n (stopped s m) = W s

later_right : (W X : Stop → Type 0) (n : ℕ) (w : List Atom) (m : ℕ) (r : Outcome) → Right W w m r → ((s : Stop) → W s → X s) → Right X w (n + m) (later n r)
later_right W X n w m (value x k) h f = (h.0, ap (λ j. n + j) h.1)
later_right W X n w m (stopped s k) h f = f s h

one_later_right : (W X : Stop → Type 0) (w : List Atom) (m : ℕ) (r : Outcome) → Right W w m r → ((s : Stop) → W s → X s) → Right X w (suc m) (later 1 r)
one_later_right W X w m (value x k) h f = (h.0, omega (arith, h.1))
one_later_right W X w m (stopped s k) h f = f s h

behind_right : (W X : Stop → Type 0) (v w : List Atom) (m : ℕ) (r : Outcome) → Right W w m r → ((s : Stop) → W s → X s) → Right X (v ++ w) m (behind v r)
behind_right W X v w m (value x k) h f = (ap (λ y. v ++ y) h.0, h.1)
behind_right W X v w m (stopped s k) h f = f s h

then_right : (W X : Stop → Type 0) (v : List Atom) (n : ℕ) (w : List Atom) (m : ℕ) (r : Outcome) (g : List Atom → Outcome) → Right W v n r
    → ((s : Stop) → W s → X s) → Right X w m (later n (g v)) → Right X w m (then r g)
then_right W X v n w m (value x k) g h f t =
    let P : List Atom → Type 0 = λ y. Right X w m (later k (g y)) in
    let Q : ℕ → Type 0 = λ j. Right X w m (later j (g v)) in
    subst P (sym h.0) (subst Q (sym h.1) t)
then_right W X v n w m (stopped s k) g h f t = f s h

unless_right : (W : Stop → Type 0) (v : List Atom) (n : ℕ) (opened : List Question) (q : Question) (b : Option Stop) (g : Unit {0} → Outcome)
    → Bars opened q b → (path_limit < length q.path → W Stop.path) → (among q opened ≡ true → ⊥) → Right W v n (g tt) → Right W v n (unless b g)
unless_right W v n opened q (Some Stop.undefined) g b w c h = absurd b
unless_right W v n opened q (Some Stop.path) g b w c h = w b
unless_right W v n opened q (Some Stop.circular) g b w c h = absurd (c b)
unless_right W v n opened q (Some Stop.depth) g b w c h = absurd b
unless_right W v n opened q (Some Stop.length) g b w c h = absurd b
unless_right W v n opened q None g b w c h = h

step_right : (W : Stop → Type 0) (v : List Atom) (n : ℕ) (M : Map) (o : Node) (p : List Atom) (x : Look) (k : ℕ) (t : Terms) (g : ℕ → Terms → Outcome)
    → Tells (M o) p x → Longest M o p k t → Right W v n (later 1 (g k t)) → Right W v n (step x g)
step_right W v n M o p nothing k t g h l r =
    let a = h k l.within in
    let b = l.sentence in
    impossible (cc)
step_right W v n M o p (found k' t') k t g h l r =
    let e = one_longest l (as_longest M o p k' t' h) in
    let P : ℕ → Type 0 = λ j. Right W v n (later 1 (g j t)) in
    let Q : Terms → Type 0 = λ y. Right W v n (later 1 (g k' y)) in
    subst Q e.1 (subst P e.0 r)

-- every derivation of an open question uses Def more than u times
abbrev Over : Map → ℕ → List Question → Type 0
Over M u [] = Unit {0}
Over M u (q ∷ opened) = ((w : List Atom) (d : Answers M q w) → u < uses d) × Over M u opened

over_less : (M : Map) (u u' : ℕ) (opened : List Question) → u' ≤ u → Over M u opened → Over M u' opened
over_less M u u' [] h o = tt
over_less M u u' (q ∷ opened) h o = (λ w d. let k = o.0 w d in omega arith, over_less M u u' opened h o.1)

over_among : (M : Map) (u : ℕ) (q : Question) (opened : List Question) → among q opened ≡ true → Over M u opened
    → (w : List Atom) (d : Answers M q w) → u < uses d
over_among M u q [] e o w d = impossible (cc)
over_among M u q (r ∷ opened) e o w d = go (or_cases (same_question q r) (among q opened) e) (λ x. over_among M u q opened x o.1 w d)
  where
    go : (same_question q r ≡ true) ⊎ (among q opened ≡ true) → (among q opened ≡ true → u < uses d) → u < uses d
    go (inl x) f =
        let m = move (sym (questions_equal q r x)) d in
        let k = o.0 w m.0 in
        omega (arith, m.1)
    go (inr x) f = f x

-- the limits that a derivation breaks, with `left` uses of Def on a branch and `room` atoms
abbrev Broken : {M : Map} {q : Question} {v : List Atom} → Answers M q v → ℕ → ℕ → Stop → Stop → Type 0
Broken {v = v} d left room full = Breaks (Narrow d) (deepest d) left (length v) room full

abbrev BrokenIn : {M : Map} {s : Site} {t : Terms} {v : List Atom} → Works M s t v → ℕ → ℕ → Stop → Stop → Type 0
BrokenIn {v = v} d left room full = Breaks (NarrowIn d) (deepest_in d) left (length v) room full

-- a limit that a part breaks is broken by the whole
part_breaks : (P N : Type 0) (d d' left l l' room room' : ℕ) (full : Stop) → (N → P) → d ≤ d' → (room < l → room' < l') → (x : Stop)
    → Breaks P d left l room full x → Breaks N d' left l' room' full x
part_breaks P N d d' left l l' room room' full f h g x (wide w) = wide (λ n. w (f n))
part_breaks P N d d' left l l' room room' full f h g x (deep w) = deep (omega arith)
part_breaks P N d d' left l l' room room' full f h g x (long w) = long (g w)

-- an inside that is too long is too wide
inside_breaks : (P N : Type 0) (d d' left l l' room' : ℕ) (full : Stop) → (N → P) → (N → l ≤ path_limit) → d ≤ d' → (x : Stop)
    → Breaks P d left l path_limit Stop.path x → Breaks N d' left l' room' full x
inside_breaks P N d d' left l l' room' full f g h x (wide w) = wide (λ n. w (f n))
inside_breaks P N d d' left l l' room' full f g h x (deep w) = deep (omega arith)
inside_breaks P N d d' left l l' room' full f g h x (long w) = wide (λ n. let k = g n in omega arith)

def_breaks : (P N : Type 0) (d left l room : ℕ) (full : Stop) → (N → P) → (x : Stop) → Breaks P d left l room full x → Breaks N (suc d) (suc left) l room full x
def_breaks P N d left l room full f x (wide w) = wide (λ n. w (f n))
def_breaks P N d left l room full f x (deep w) = deep (omega arith)
def_breaks P N d left l room full f x (long w) = long w

front_long : (v w : List Atom) (room : ℕ) → room < length v → room < length (v ++ w)
front_long v w room h = simp length-append (omega arith)

back_long : (v w : List Atom) (room : ℕ) → room - length v < length w → room < length (v ++ w)
back_long v w room h = simp length-append (omega arith)

-- what is to be shown of a way to ask
abbrev Asks : Map → ℕ → List Question → (Question → ℕ → Stop → Outcome) → Type 0
Asks M left opened f = (q : Question) (v : List Atom) (d : Answers M q v) → Over M (uses d) opened
    → (room : ℕ) (full : Stop) → Right (Broken d left room full) v (uses d) (f q room full)

whole_work : (M : Map) (left : ℕ) (opened : List Question) (f : Question → ℕ → Stop → Outcome) → Asks M left opened f
    → {s : Site} {t : Terms} {v : List Atom} (d : Works M s t v) → Over M (uses_in d) opened
    → (room : ℕ) (full : Stop) → Right (BrokenIn d left room full) v (uses_in d) (work f s t room full)
unfolding work
whole_work M left opened f asks end o room full = (refl, refl)
whole_work M left opened f asks (atom d) o zero full = long (omega arith)
whole_work M left opened f asks (atom {a = a} {v = v} d) o (suc room) full =
    behind_right (BrokenIn d left room full) (BrokenIn (atom {a = a} d) left (suc room) full) (a ∷ []) v (uses_in d) _
    (whole_work M left opened f asks d o room full)
    (part_breaks _ _ _ _ _ _ _ _ _ full (λ n. n) (omega arith) (λ h. omega arith))
whole_work M left opened f asks (node {s = s} {q = q} {n = n} {rest = rest} {v = v} {w = w} a b) o room full =
    let X : Stop → Type 0 = BrokenIn (node {s = s} {q = q} {n = n} {rest = rest} a b) left room full in
    then_right (Broken a left room full) X v (uses a) (v ++ w) (uses a + uses_in b) _ _
    (asks (node_asks_lem s q n) v a (over_less M (uses a + uses_in b) (uses a) opened (omega arith) o) room full)
    (part_breaks _ _ _ _ _ _ _ _ _ full (λ n. n.0) (omega arith) (front_long v w room))
    (later_right X X (uses a) (v ++ w) (uses_in b) _
    (behind_right (BrokenIn b left (room - length v) full) X v w (uses_in b) _
    (whole_work M left opened f asks b (over_less M (uses a + uses_in b) (uses_in b) opened (omega arith) o) (room - length v) full)
    (part_breaks _ _ _ _ _ _ _ _ _ full (λ n. n.1) (omega arith) (back_long v w room)))
    (λ s x. x))
whole_work M left opened f asks (path {s = s} {q = q} {n = n} {inside = inside} {rest = rest} {u = u} {v = v} {w = w} a b c) o room full =
    let X : Stop → Type 0 = BrokenIn (path {s = s} {q = q} {n = n} {inside = inside} {rest = rest} a b c) left room full in
    let all : ℕ = uses_in a + (uses b + uses_in c) in
    then_right (BrokenIn a left path_limit Stop.path) X u (uses_in a) (v ++ w) all _ _
    (whole_work M left opened f asks a (over_less M all (uses_in a) opened (omega arith) o) path_limit Stop.path)
    (inside_breaks _ _ _ _ _ _ _ _ full (λ n. n.1) (λ n. n.0) (omega arith))
    (later_right X X (uses_in a) (v ++ w) (uses b + uses_in c) _
    (then_right (Broken b left room full) X v (uses b) (v ++ w) (uses b + uses_in c) _ _
    (asks (path_asks_lem s q n u) v b (over_less M all (uses b) opened (omega arith) o) room full)
    (part_breaks _ _ _ _ _ _ _ _ _ full (λ n. n.2) (omega arith) (front_long v w room))
    (later_right X X (uses b) (v ++ w) (uses_in c) _
    (behind_right (BrokenIn c left (room - length v) full) X v w (uses_in c) _
    (whole_work M left opened f asks c (over_less M all (uses_in c) opened (omega arith) o) (room - length v) full)
    (part_breaks _ _ _ _ _ _ _ _ _ full (λ n. n.3) (omega arith) (back_long v w room)))
    (λ s x. x)))
    (λ s x. x))

whole_ask : (M : Map) (left : ℕ) (opened : List Question) → Asks M left opened (ask M left opened)
unfolding ask
whole_ask M zero opened q v (def k t l d) o room full =
    unless_right (Broken (def {q = q} k t l d) zero room full) v (suc (uses_in d)) opened q (barred opened q) (λ _. stopped Stop.depth 0)
    (barred_tells opened q)
    (λ h. wide (λ x. let g = x.0 in omega arith))
    (λ e. let h = over_among M (suc (uses_in d)) q opened e o v (def k t l d) in omega arith)
    (deep (omega arith))
whole_ask M (suc left) opened q v (def k t l d) o room full =
    let X : Stop → Type 0 = Broken (def {q = q} k t l d) (suc left) room full in
    let g : ℕ → Terms → Outcome = λ k t. work (ask M left (q ∷ opened)) (site q k) t room full in
    unless_right X v (suc (uses_in d)) opened q (barred opened q) (λ _. step (look_up (M q.node) q.path) g)
    (barred_tells opened q)
    (λ h. wide (λ x. let g = x.0 in omega arith))
    (λ e. let h = over_among M (suc (uses_in d)) q opened e o v (def k t l d) in omega arith)
    (step_right X v (suc (uses_in d)) M q.node q.path (look_up (M q.node) q.path) k t g
    (look_tells (M q.node) q.path) l
    (one_later_right (BrokenIn d left room full) X v (uses_in d) _
    (whole_work M left (q ∷ opened) (ask M left (q ∷ opened)) (whole_ask M left (q ∷ opened)) d
    (λ w e. omega (arith, (same_answer (def k t l d) e).1), over_less M (suc (uses_in d)) (uses_in d) opened (omega arith) o)
    room full)
    (def_breaks _ _ _ _ _ _ full (λ n. n.1))))

-- what a stop says of each derivation of the question
abbrev pub Names : Type 0 → ℕ → ℕ → Stop → Type 0
Names N deepest atoms Stop.undefined = ⊥
Names N deepest atoms Stop.circular = ⊥
Names N deepest atoms Stop.path = N → ⊥
Names N deepest atoms Stop.depth = open_limit < deepest
Names N deepest atoms Stop.length = value_limit < atoms

names : (N : Type 0) (deepest len : ℕ) (s : Stop) → Breaks N deepest open_limit len value_limit Stop.length s → Names N deepest len s
names N deepest len s (wide w) = w
names N deepest len s (deep w) = w
names N deepest len s (long w) = w

right_fits : {M : Map} {q : Question} {v : List Atom} (d : Answers M q v) → Fits d → (r : Outcome) → Right (Broken d open_limit value_limit Stop.length) v (uses d) r
    → r ≡ value v (uses d)
right_fits d f (value w m) h = λ i. value (h.0 i) (h.1 i)
right_fits {v = v} d f (stopped s m) h = absurd (none s (names (Narrow d) (deepest d) (length v) s h))
  where
    none : (s : Stop) → Names (Narrow d) (deepest d) (length v) s → ⊥
    none Stop.undefined x = x
    none Stop.path x = x f.narrow
    none Stop.circular x = x
    none Stop.depth x = let h = f.branches in omega arith
    none Stop.length x = let h = f.short in omega arith

-- the outcome, where there is a derivation
whole_outcome : (M : Map) (q : Question) (v : List Atom) (d : Answers M q v) → Right (Broken d open_limit value_limit Stop.length) v (uses d) (outcome M q)
unfolding outcome
whole_outcome M q v d = whole_ask M open_limit [] q v d tt value_limit Stop.length

pub complete : (M : Map) (q : Question) (v : List Atom) (d : Answers M q v) → Fits d → outcome M q ≡ value v (uses d)
complete M q v d f = right_fits d f (outcome M q) (whole_outcome M q v d)

pub stops_say : (M : Map) (q : Question) (s : Stop) (n : ℕ) → outcome M q ≡ stopped s n
    → (v : List Atom) (d : Answers M q v) → Names (Narrow d) (deepest d) (length v) s
stops_say M q s n e v d =
    let P : Outcome → Type 0 = λ r. Right (Broken d open_limit value_limit Stop.length) v (uses d) r in
    let h : Broken d open_limit value_limit Stop.length s = subst P e (whole_outcome M q v d) in
    names (Narrow d) (deepest d) (length v) s h
