-- How long lines can be.
use Rattle.std.proofs.Common.{◌≡◌, ℕ, zero, suc, ◌+◌, ◌-◌, ◌*◌, ◌^◌, ◌<◌, ◌≤◌, Bool, true, false, cond, eqb, leb, List, [], ◌∷◌, ◌++◌, length, drop, IfSome, Some, None, vec_items, vec_len, decimal, Option, refl, ap, subst, arith, length-append, length-take}
use Rattle.std.proofs.lemmas.Bool.{and_parts, leb-true}
use Rattle.std.proofs.lemmas.Fmt.{length-decimal-le}
use Rattle.terms.specs.declared.items.Atom.{Atom}
use Rattle.names.specs.declared.part.Part.{Part}
use Rattle.names.specs.declared.table.NameTable.{NameTable}
use Rattle.names.specs.Numbers.{name_at}
use Rattle.names.specs.Parts.{part_of, parts_of, fit, in_order}
use Rattle.names.specs.Held.{names_in}
use Rattle.names.specs.declared.tables.Names.{Names}
use Rattle.names.specs.Tables.{nodes_in, atoms_in}
use Rattle.rules.specs.Outcomes as outcomes
use Rattle.rules.specs.Shown.{Shown, unfinished, shows, ended}
use Rattle.sentences.specs.declared.table.Question.{Question as Kept}
use Rattle.path.specs.declared.Path.{Path}
use Rattle.path.specs.Atoms.{atoms_of}
use Rattle.evaluator.specs.declared.evaluator.Evaluator.{Evaluator}
use Rattle.evaluator.specs.Shown.{value_of}
use Rattle.evaluator.specs.Holds.{holding, question_in, shown_by}
use Rattle.evaluator.proofs.Came.{right_after}
use Rattle.lines.specs.Bytes.{line, refused, bare, atom_bytes, value_bytes, spaced, line_bytes, name_more, names_at, value_said, said, named_line, shown_line}
use Rattle.lines.specs.Lengths.{line_limit, LineWithinLimit}

-- names have at most 32 bytes
abbrev Short : Option (List ℕ) → Type 0
Short x = IfSome x (λ l. length l ≤ 32)

part_short : (bytes : List ℕ) (p : Part) → p.len ≤ 32 → length (part_of bytes p) ≤ 32
part_short bytes p h = let e = length-take p.len (drop p.start bytes) in omega arith

parts_short : (bytes : List ℕ) (from : ℕ) (ps : List Part) (end k : ℕ) → in_order from ps end ≡ true → Short (name_at (parts_of bytes ps) k)
parts_short bytes from [] end k h = tt
parts_short bytes from (p ∷ ps) end zero h =
    let b = and_parts (fit from p) (in_order (from + p.len) ps end) h in
    let f = and_parts (eqb p.start from) (leb p.len 32) b.0 in
    part_short bytes p (leb-true p.len 32 f.1)
parts_short bytes from (p ∷ ps) end (suc k) h =
    parts_short bytes (from + p.len) ps end k (and_parts (fit from p) (in_order (from + p.len) ps end) h).1

name_short : (t : NameTable) (k : ℕ) → Short (name_at (names_in t) k)
name_short t k = parts_short (vec_items t.bytes) 0 (vec_items t.parts) (vec_len t.bytes) k t.ordered

-- so many names, each of at most 32 bytes
abbrev AllShort : List (List ℕ) → Type 0
AllShort [] = Unit {0}
AllShort (x ∷ xs) = (length x ≤ 32) × AllShort xs

abbrev Few : Option (List (List ℕ)) → ℕ → Type 0
Few xs n = IfSome xs (λ l. (length l ≡ n) × AllShort l)

more_few : (x : Option (List ℕ)) (xs : Option (List (List ℕ))) (n : ℕ) → Short x → Few xs n → Few (name_more x xs) (suc n)
more_few None xs n h hs = tt
more_few (Some x) None n h hs = tt
more_few (Some x) (Some xs) n h hs = (ap suc hs.0, (h, hs.1))

names_few : (t : NameTable) (atoms : List Atom) → Few (names_at (names_in t) atoms) (length atoms)
names_few t [] = (refl, tt)
names_few t (a ∷ atoms) =
    more_few (name_at (names_in t) a.0) (names_at (names_in t) atoms) (length atoms) (name_short t a.0) (names_few t atoms)

atom_length : (x : List ℕ) → length x ≤ 32 → length (atom_bytes x) ≤ 34
atom_length x h = by (bare x)
  where
    by : (b : Bool) → length (cond b x (39 ∷ (x ++ 39 ∷ []))) ≤ 34
    by true = omega arith
    by false = let e = length-append x (39 ∷ []) in omega arith

value_length : (xs : List (List ℕ)) → AllShort xs → length (value_bytes xs) ≤ 35 * length xs
value_length [] h = omega arith
value_length (x ∷ xs) h =
    let e = length-append (32 ∷ atom_bytes x) (value_bytes xs) in
    let a = atom_length x h.0 in
    let r = value_length xs h.1 in
    omega arith

path_length : (xs : List (List ℕ)) → AllShort xs → length (spaced xs) ≤ 35 * length xs - 1
path_length [] h = omega arith
path_length (x ∷ xs) h =
    let e = length-append (atom_bytes x) (value_bytes xs) in
    let a = atom_length x h.0 in
    let r = value_length xs h.1 in
    omega arith

-- what is said of a question has at most so many bytes
abbrev said_limit : ℕ
said_limit = 8961

abbrev SaidShort : Option (List ℕ) → Type 0
SaidShort y = IfSome y (λ l. length l ≤ said_limit)

value_said_short : (xs : Option (List (List ℕ))) (n : ℕ) → Few xs n → n ≤ 256 → SaidShort (value_said xs)
value_said_short None n h few = tt
value_said_short (Some xs) n h few = let v = value_length xs h.1 in let e = h.0 in omega arith

said_short : (t : NameTable) (s : Shown) → length (value_of (Some s)) ≤ 256 → SaidShort (said (names_in t) s)
said_short t unfinished h = omega arith
said_short t (shows v) h = value_said_short (names_at (names_in t) v) (length v) (names_few t v) h
said_short t (ended outcomes.Stop.undefined) h = omega arith
said_short t (ended outcomes.Stop.path) h = omega arith
said_short t (ended outcomes.Stop.circular) h = omega arith
said_short t (ended outcomes.Stop.depth) h = omega arith
said_short t (ended outcomes.Stop.length) h = omega arith

line_length : (x : List ℕ) (p : List (List ℕ)) (y : List ℕ) (k : ℕ) → length x ≤ 32 → length (spaced p) ≤ 1119 → length y ≤ said_limit → length (decimal k) ≤ 7
    → length (line_bytes x p y k) ≤ line_limit
line_length x p y k a b c d = simp length-append (omega arith)

same_line : (a b : List ℕ) → line a ≡ line b → a ≡ b
same_line a b e = cc

not_refused : (k : ℕ) (b : List ℕ) → refused k ≡ line b → ⊥
not_refused k b e = let z : ◌≡◌ {A = ℕ} 0 1 = cc in omega arith

named_line_length : (x : Option (List ℕ)) (p : Option (List (List ℕ))) (y : Option (List ℕ)) (n k : ℕ) (bytes : List ℕ)
    → Short x → Few p n → n ≤ 32 → SaidShort y → length (decimal k) ≤ 7 → named_line x p y k ≡ line bytes → length bytes ≤ line_limit
named_line_length None p y n k bytes a b few c d e = absurd (not_refused 12 bytes e)
named_line_length (Some x) None y n k bytes a b few c d e = absurd (not_refused 12 bytes e)
named_line_length (Some x) (Some p) None n k bytes a b few c d e = absurd (not_refused 12 bytes e)
named_line_length (Some x) (Some p) (Some y) n k bytes a b few c d e =
    let f = b.0 in
    let l = path_length p b.1 in
    subst (λ z. length z ≤ line_limit) (same_line (line_bytes x p y k) bytes e) (line_length x p y k a (omega arith) c d)

path_few : (p : Path) → length (atoms_of p) ≤ 32
path_few p = let e = length-take p.len p.atoms in let f = p.fits in omega arith

shown_length : (names : Names) (o : Option Kept) (granted : ℕ) (out : Option Shown) (k : ℕ) (bytes : List ℕ)
    → length (value_of out) ≤ 256 → length (decimal k) ≤ 7
    → shown_line (nodes_in names) (atoms_in names) (question_in (holding o granted)) out k ≡ line bytes → length bytes ≤ line_limit
shown_length names None granted out k bytes v d e = absurd (not_refused 14 bytes e)
shown_length names (Some q) granted None k bytes v d e = absurd (not_refused 14 bytes e)
shown_length names (Some q) granted (Some s) k bytes v d e =
    named_line_length (name_at (nodes_in names) q.node.0) (names_at (atoms_in names) (atoms_of q.path)) (said (atoms_in names) s) (length (atoms_of q.path)) k bytes
    (name_short names.nodes q.node.0) (names_few names.atoms (atoms_of q.path)) (path_few q.path) (said_short names.atoms s v) d e

value_few : (out : Option Shown) → ((v : List Atom) → out ≡ Some (shows v) → length v ≤ 256) → length (value_of out) ≤ 256
value_few None f = omega arith
value_few (Some unfinished) f = omega arith
value_few (Some (shows v)) f = f v refl
value_few (Some (ended s)) f = omega arith

pub within_limit : {S : Type 0} (names : Names) (e : Evaluator S) → LineWithinLimit names e
within_limit names e means acts came bytes same =
    let r = right_after means acts e came in
    let steps : e.steps < 10 ^ 7 = let l = e.limited in let w = e.within in omega arith in
    shown_length names e.question e.granted (shown_by e) e.steps bytes
    (value_few (shown_by e) (λ v shown. ((r.value_if_derived_in_time v).0 shown).2.1.short))
    (length-decimal-le 7 e.steps (omega arith) steps (omega arith)) same
