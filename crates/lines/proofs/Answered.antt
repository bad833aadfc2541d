-- The line of what is shown, by whether all its names are there.
use Rattle.std.proofs.Common.{◌≡◌, ℕ, Bool, true, false, cond, ◌&&◌, List, [], ◌∷◌, is_some, Some, None, vec_items, Option, unwrap_or, sym, refl, ap, ◌∙◌, arith}
use Rattle.terms.specs.declared.items.Node.{Node}
use Rattle.terms.specs.declared.items.Atom.{Atom}
use Rattle.terms.specs.Maps.{every}
use Rattle.rules.specs.Outcomes as outcomes
use Rattle.rules.specs.Questions.{Question}
use Rattle.rules.specs.Shown.{Shown, unfinished, shows, ended}
use Rattle.names.specs.declared.tables.Names.{Names}
use Rattle.names.specs.Numbers.{name_at}
use Rattle.names.specs.Tables.{nodes_in, atoms_in}
use Rattle.sentences.specs.declared.table.Question.{Question as Kept}
use Rattle.engine.specs.declared.table.Phase.{Phase}
use Rattle.engine.specs.declared.table.Phase.TheVariants as phase
use Rattle.evaluator.specs.declared.answers.Outcome.{Outcome}
use Rattle.evaluator.specs.Shown.{outcome_of, value_of}
use Rattle.evaluator.specs.declared.evaluator.Evaluator.{Evaluator}
use Rattle.evaluator.specs.Holds.{holding, holding_of, question_in, shown_in, shown_by}
use Rattle.lines.specs.Bytes.{Line, line, refused, line_bytes, equals_bytes, name_more, names_at, value_said, said, named_line, shown_line}
use Rattle.lines.specs.Names.{name_or_none, names_of, named, all_named}
use Rattle.lines.specs.Lines.{said_by, line_by}

-- what is there if a test holds
abbrev if_so : {A : Type 0} → Bool → A → Option A
if_so b x = cond b (Some x) None

known : {A : Type 0} (x : Option A) (d : A) → x ≡ if_so (is_some x) (unwrap_or x d)
known None d = refl
known (Some x) d = refl

more_known : (x : Option (List ℕ)) (b : Bool) (xs : List (List ℕ)) → name_more x (if_so b xs) ≡ if_so (is_some x && b) (unwrap_or x [] ∷ xs)
more_known None b xs = refl
more_known (Some x) true xs = refl
more_known (Some x) false xs = refl

names_known : (names : List (List ℕ)) (atoms : List Atom) → names_at names atoms ≡ if_so (every (named names) atoms) (names_of names atoms)
names_known names [] = refl
names_known names (a ∷ atoms) =
    ap (name_more (name_at names a.0)) (names_known names atoms) ∙ more_known (name_at names a.0) (every (named names) atoms) (names_of names atoms)

value_known : (b : Bool) (xs : List (List ℕ)) → value_said (if_so b xs) ≡ if_so b (equals_bytes xs)
value_known true xs = refl
value_known false xs = refl

said_known : (atoms : List (List ℕ)) (s : Shown)
    → said atoms s ≡ if_so (every (named atoms) (value_of (Some s))) (said_by (outcome_of (Some s)) (names_of atoms (value_of (Some s))))
said_known atoms unfinished = refl
said_known atoms (shows v) = ap value_said (names_known atoms v) ∙ value_known (every (named atoms) v) (names_of atoms v)
said_known atoms (ended outcomes.Stop.undefined) = refl
said_known atoms (ended outcomes.Stop.path) = refl
said_known atoms (ended outcomes.Stop.circular) = refl
said_known atoms (ended outcomes.Stop.depth) = refl
said_known atoms (ended outcomes.Stop.length) = refl

line_known : (a b c : Bool) (x : List ℕ) (p : List (List ℕ)) (s : List ℕ) (k : ℕ)
    → named_line (if_so a x) (if_so b p) (if_so c s) k ≡ cond (a && (b && c)) (line (line_bytes x p s k)) (refused 12)
line_known false b c x p s k = refl
line_known true false c x p s k = refl
line_known true true false x p s k = refl
line_known true true true x p s k = refl

abbrev spelled : Names → Question → List Atom → Outcome → ℕ → List ℕ
spelled names q v w k =
    line_bytes (name_or_none (nodes_in names) q.node.0) (names_of (atoms_in names) q.path) (said_by w (names_of (atoms_in names) v)) k

-- a line of what is shown: all that it spells has a name, or it is refused
abbrev spelled_if_named : List (List ℕ) → List (List ℕ) → Node → List Atom → List Atom → Outcome → ℕ → Line
spelled_if_named nodes atoms n p v w k =
    cond (all_named nodes atoms n p v) (line (line_bytes (name_or_none nodes n.0) (names_of atoms p) (said_by w (names_of atoms v)) k)) (refused 12)

shown_named : (nodes atoms : List (List ℕ)) (q : Question) (s : Shown) (k : ℕ)
    → shown_line nodes atoms (Some q) (Some s) k ≡ spelled_if_named nodes atoms q.node q.path (value_of (Some s)) (outcome_of (Some s)) k
shown_named nodes atoms q s k =
    let x = name_at nodes q.node.0 in
    let b = every (named atoms) q.path in
    let c = every (named atoms) (value_of (Some s)) in
    let y = said_by (outcome_of (Some s)) (names_of atoms (value_of (Some s))) in
    ap (λ o. named_line o (names_at atoms q.path) (said atoms s) k) (known x [])
    ∙ (ap (λ o. named_line (if_so (is_some x) (unwrap_or x [])) o (said atoms s) k) (names_known atoms q.path)
    ∙ (ap (λ o. named_line (if_so (is_some x) (unwrap_or x [])) (if_so b (names_of atoms q.path)) o k) (said_known atoms s)
    ∙ line_known (is_some x) b c (unwrap_or x []) (names_of atoms q.path) y k))

-- an evaluator that holds a question shows something
shows_some : (o : Option Kept) (granted : ℕ) (p : Phase) (v : List Atom) (q : Question) → Some q ≡ question_in (holding o granted)
    → (s : Shown) × (shown_in o p v ≡ Some s)
shows_some None granted p v q e = let z : ◌≡◌ {A = ℕ} 0 1 = cc in absurd (omega arith)
shows_some (Some k) granted phase.Asks v q e = (unfinished, refl)
shows_some (Some k) granted phase.Works v q e = (unfinished, refl)
shows_some (Some k) granted phase.Has v q e = (shows v, refl)
shows_some (Some k) granted (phase.Stops s) v q e = (ended _, refl)

with_all : (nodes atoms : List (List ℕ)) (o : Option Question) (out : Option Shown) (q : Question) (s : Shown) (v : List Atom) (w : Outcome) (k : ℕ)
    → Some q ≡ o → out ≡ Some s → v ≡ value_of out → w ≡ outcome_of out
    → shown_line nodes atoms o out k ≡ spelled_if_named nodes atoms q.node q.path v w k
with_all nodes atoms o out q s v w k e f same_value same_outcome =
    sym (ap (λ x. shown_line nodes atoms x out k) e) ∙ (ap (λ x. shown_line nodes atoms (Some q) x k) f ∙ (shown_named nodes atoms q s k
    ∙ sym (ap (λ x. spelled_if_named nodes atoms q.node q.path x w k) (same_value ∙ ap value_of f)
    ∙ ap (λ x. spelled_if_named nodes atoms q.node q.path (value_of (Some s)) x k) (same_outcome ∙ ap outcome_of f))))

-- the test, put to the node and the path of a question
pub tested : (names : Names) (q : Question) (n : Node) (p v : List Atom) (b : Bool) → n ≡ q.node → p ≡ q.path
    → b ≡ all_named (nodes_in names) (atoms_in names) n p v → b ≡ all_named (nodes_in names) (atoms_in names) q.node q.path v
tested names q n p v b e f t =
    t ∙ (ap (λ x. all_named (nodes_in names) (atoms_in names) x p v) e ∙ ap (λ x. all_named (nodes_in names) (atoms_in names) q.node x v) f)

line_of : {S : Type 0} (names : Names) (e : Evaluator S) (q : Question) (v : List Atom) (w : Outcome) (b : Bool)
    → Some q ≡ question_in (holding_of e) → v ≡ value_of (shown_by e) → w ≡ outcome_of (shown_by e)
    → b ≡ all_named (nodes_in names) (atoms_in names) q.node q.path v
    → line_by names e ≡ cond b (line (spelled names q v w e.steps)) (refused 12)
line_of names e q v w b held same_value same_outcome t =
    let some = shows_some e.question e.granted e.machine.phase (vec_items e.machine.value) q held in
    with_all (nodes_in names) (atoms_in names) (question_in (holding_of e)) (shown_by e) q some.0 v w e.steps held some.1 same_value same_outcome
    ∙ sym (ap (λ x. cond x (line (spelled names q v w e.steps)) (refused 12)) t)

pub refused_without_names : {S : Type 0} (names : Names) (e : Evaluator S) (q : Question) (v : List Atom)
    → Some q ≡ question_in (holding_of e) → v ≡ value_of (shown_by e) → false ≡ all_named (nodes_in names) (atoms_in names) q.node q.path v
    → line_by names e ≡ refused 12
refused_without_names names e q v held same_value t = line_of names e q v (outcome_of (shown_by e)) false held same_value refl t

pub line_with_names : {S : Type 0} (names : Names) (e : Evaluator S) (q : Question) (v : List Atom) (w : Outcome) (k : ℕ)
    → Some q ≡ question_in (holding_of e) → v ≡ value_of (shown_by e) → w ≡ outcome_of (shown_by e) → k ≡ e.steps
    → true ≡ all_named (nodes_in names) (atoms_in names) q.node q.path v
    → line_by names e ≡ line (spelled names q v w k)
line_with_names names e q v w k held same_value same_outcome same_steps t =
    line_of names e q v w true held same_value same_outcome t ∙ ap (λ x. line (spelled names q v w x)) (sym same_steps)

-- what is promised of a line holds of one that is the same
pub of_line : {A : Type 0} (f : Line → A) {x : A} {l m : Line} → x ≡ f m → l ≡ m → x ≡ f l
of_line f e same = e ∙ ap f (sym same)
