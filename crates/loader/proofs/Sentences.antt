-- Equations, sentences and blocks.
use Rattle.std.proofs.Common.{◌≡◌, ℕ, suc, ◌+◌, ◌-◌, Bool, true, false, ltb, List, [], ◌∷◌, ◌++◌, length, take, drop, Some, None, Ok, Err, Option, Result, sym, refl, ap, ◌∙◌, subst, append-nil, arith, length-append}
use Rattle.std.proofs.lemmas.Bool.{and_parts, and_from}
use Rattle.terms.specs.declared.items.Node.{Node}
use Rattle.terms.specs.declared.items.Atom.{Atom}
use Rattle.terms.specs.declared.items.Item.{Item}
use Rattle.terms.specs.declared.items.Item.TheVariants as item
use Rattle.terms.specs.declared.items.Quoting.TheVariants.{Plain as plain}
use Rattle.terms.specs.Terms.{Terms, done, path, flat}
use Rattle.terms.specs.Maps.{every, atom_in_range, item_in_range}
use Rattle.stores.specs.declared.refusals.Refusal.{Refusal}
use Rattle.stores.specs.Sentences.{Sentence, sentence}
use Rattle.stores.specs.Refusals.{Limits}
use Rattle.stores.specs.Refusals as stores
use Rattle.grammar.specs.Trees as T
use Rattle.grammar.specs.Parsing as Parsing
use Rattle.grammar.specs.Trees.{Block, sentences}
use Rattle.grammar.specs.Parsing.{Stream, State, between, naming, body, begun, side, ready, closed, outside, Front, Head, Step, ends, step, whole, with_equation, said, atoms_of, next_left, front_sentences, more_atoms}
use Rattle.grammar.specs.Loading.{load, late_refusal}
use Rattle.grammar.specs.Texts.{Names, rejected}
use Rattle.grammar.proofs.Spelled.{more}
use Rattle.grammar.proofs.Steps.{more_said, whole_said}
use Rattle.words.specs.declared.faults.WordRefusal.{WordRefusal}
use Rattle.lookahead.specs.declared.word.Word.{Word}
use Rattle.lookahead.specs.declared.word.Word.TheVariants as w
use Rattle.loader.specs.declared.ends.Due.{Due}
use Rattle.loader.specs.declared.ends.Due.TheVariants.{Equation, RightSide}
use Rattle.faults.specs.declared.kinds.GrammarFault.{GrammarFault}
use Rattle.loader.specs.declared.ends.NextEquation.{NextEquation}
use Rattle.faults.specs.Grammar.{number, place}
use Rattle.lookahead.specs.Ahead.{cons, gives, Moves, fault_number}
use Rattle.loader.specs.Readings.{starts, ThroughSide, ThroughNext, GoesSide, Stops}
use Rattle.loader.specs.Equations.{collected}
use Rattle.loader.specs.Blocks.{IsFront, head, state_at, at_side, Reaches, GoesOn, ThroughBlock}
use Rattle.loader.proofs.Turns.{with_names, by_number}
use Rattle.loader.proofs.Atoms.{atoms_in_items}
use Rattle.loader.proofs.Marks

-- ---- what is due in a block
module _ (l : Limits) (n : Node) (kept : List Sentence) where
  pub block_ends : (s : ℕ) (k : Result Word WordRefusal) (R S' : Stream) (F F' : Names) (left : List Atom) → k ≡ Ok w.Stop → every atom_in_range left ≡ true → Moves R F S' F' → Reaches l n (cons s k R) F body kept None S' F' left kept
  block_ends s k R S' F F' left e a m = record {
    in_range = a;
    comes = λ f i. record { front = f; is = i; comes = ap (λ (k : Result Word WordRefusal). gives l (cons s k R) F (body f)) e ∙ with_names F (Marks.at_stop l s R f) ∙ m l (between (whole f)) };
  }

-- ---- a sentence that ends

-- what is due behind the word that ends a right side, with ( ) and without
abbrev pub due_behind : Bool → Option Due
due_behind true = Some Equation
due_behind false = None

same_sentence : (n m : Node) (left : List Atom) (out : List Item) (t : Terms) → n ≡ m → out ≡ flat t → sentence n left (flat t) ≡ sentence m left out
same_sentence n m left out t p q = ap (λ (k : Node). sentence k left (flat t)) p ∙ ap (λ (o : List Item). sentence m left o) (sym q)

module _ (n : Node) (left : List Atom) (t : Terms) (out : List Item) (is : out ≡ flat t) where
  -- the sentences with one more
  one_more : (kept kept' : List Sentence) (p : ℕ) (r : Bool) (f : Front) → IsFront n kept f → kept' ≡ kept ++ sentence n left out ∷ [] → IsFront n kept' (with_equation (head p left f) r t)
  one_more kept kept' p r f i k = record {
    named = i.named;
    says = more_said (head p left f) r t ∙ ap (λ (ss : List Sentence). ss ++ said (head p left f) r t ∷ []) i.says
        ∙ ap (λ (x : Sentence). kept ++ x ∷ []) (same_sentence f.name n left out t i.named is) ∙ sym k;
  }

  module _ (l : Limits) (kept : List Sentence) (p s : ℕ) (R : Stream) (f : Front) (i : IsFront n kept f) where
    side_kept : (b : Bool) → late_refusal l kept (sentence n left out) ≡ None → load l (cons s (Marks.side_end b) R) (side (head p left f) b ready outside t) ≡ load l R (state_at (due_behind b) left (with_equation (head p left f) b t))
    side_kept true e = Marks.keeps l s T.Close R (side (head p left f) true ready outside t) (state_at (due_behind true) left (with_equation (head p left f) true t)) p (sentence n left out) (said (head p left f) true t) kept refl (omega arith) refl (same_sentence f.name n left out t i.named is) i.says e
    side_kept false e = Marks.keeps l s T.Stop R (side (head p left f) false ready outside t) (state_at (due_behind false) left (with_equation (head p left f) false t)) p (sentence n left out) (said (head p left f) false t) kept refl (omega arith) refl (same_sentence f.name n left out t i.named is) i.says e

    side_refused : (b : Bool) (g : Refusal) → late_refusal l kept (sentence n left out) ≡ Some g → load l (cons s (Marks.side_end b) R) (side (head p left f) b ready outside t) ≡ Parsing.refused (stores.number g) p
    side_refused true g e = Marks.refuses l s T.Close R (side (head p left f) true ready outside t) (state_at (due_behind true) left (with_equation (head p left f) true t)) p (sentence n left out) (said (head p left f) true t) kept refl (omega arith) refl (same_sentence f.name n left out t i.named is) i.says g e
    side_refused false g e = Marks.refuses l s T.Stop R (side (head p left f) false ready outside t) (state_at (due_behind false) left (with_equation (head p left f) false t)) p (sentence n left out) (said (head p left f) false t) kept refl (omega arith) refl (same_sentence f.name n left out t i.named is) i.says g e

    next_kept : (q : ℕ) (j : Terms) (ls : List Atom) → atoms_of j ≡ Some ls → late_refusal l kept (sentence n left out) ≡ None → load l (cons s (Ok w.Equals) R) (side (head p left f) false (closed q j) outside t) ≡ load l R (begun (head q ls (with_equation (head p left f) false t)))
    next_kept q j ls a e = Marks.keeps l s T.Is R (side (head p left f) false (closed q j) outside t) (begun (head q ls (with_equation (head p left f) false t))) p (sentence n left out) (said (head p left f) false t) kept (ap (next_left (head p left f) t q) a) (omega arith) refl (same_sentence f.name n left out t i.named is) i.says e

    next_refused : (q : ℕ) (j : Terms) (ls : List Atom) → atoms_of j ≡ Some ls → (g : Refusal) → late_refusal l kept (sentence n left out) ≡ Some g → load l (cons s (Ok w.Equals) R) (side (head p left f) false (closed q j) outside t) ≡ Parsing.refused (stores.number g) p
    next_refused q j ls a g e = Marks.refuses l s T.Is R (side (head p left f) false (closed q j) outside t) (begun (head q ls (with_equation (head p left f) false t))) p (sentence n left out) (said (head p left f) false t) kept (ap (next_left (head p left f) t q) a) (omega arith) refl (same_sentence f.name n left out t i.named is) i.says g e

pub as_sentence : (n : Node) (a b : List Atom) (i j : List Item) → a ≡ b → i ≡ j → sentence n a i ≡ sentence n b j
as_sentence n a b i j p q = ap (λ (a : List Atom). sentence n a i) p ∙ ap (λ (i : List Item). sentence n b i) q

-- ---- the terms of a right side, up to the word that ends them

-- how a right side ended
pub ended_so : (r : Bool) (S S' : Stream) (F F' : Names) (out out' : List Item) (k : Result Word WordRefusal) (o o' : Option NextEquation) → o ≡ o' → GoesSide r S F out (Ok o) S' F' out' → Stops r (Ok o) k → GoesSide r S F out (Ok o') S' F' out' × Stops r (Ok o') k
ended_so r S S' F F' out out' k o o' e x s = let P : Option NextEquation → Type 0 = λ o. GoesSide r S F out (Ok o) S' F' out' × Stops r (Ok o) k in subst P e (x, s)

-- within ( ) no path begins the next equation
pub round_side_lem : (S S' : Stream) (F F' : Names) (out out' : List Item) (k : Result Word WordRefusal) (o : Option NextEquation) → GoesSide true S F out (Ok o) S' F' out' → Stops true (Ok o) k → ThroughSide true S F out S' F' out' × (starts k ≡ false)
round_side_lem S S' F F' out out' k None x e = (x, e)
round_side_lem S S' F F' out out' k (Some n) x e = absurd (grind arith)

module _ (r : Bool) (S R : Stream) (F F₁ : Names) (s : ℕ) (k : Result Word WordRefusal) (out₀ out : List Item) (none : out₀ ≡ []) (x : ThroughSide r S F out₀ (cons s k R) F₁ out) where
  pub side_flat : out ≡ flat x.terms
  side_flat = x.items ∙ ap (λ (o : List Item). o ++ flat x.terms) none

  module _ (l : Limits) (n : Node) (kept : List Sentence) (p : ℕ) (left : List Atom) where
    pub side_ends : k ≡ Marks.side_end r → every atom_in_range left ≡ true → (y : Sentence) → y ≡ sentence n left out → late_refusal l kept y ≡ None → (kept' : List Sentence) → kept' ≡ kept ++ y ∷ [] → (S₂ : Stream) (F₂ : Names) → Moves R F₁ S₂ F₂ → Reaches l n S F (at_side r p left) kept (due_behind r) S₂ F₂ left kept'
    side_ends e a y z q kept' g S₂ F₂ m = record {
      in_range = a;
      comes = λ f i. record {
        front = with_equation (head p left f) r x.terms;
        is = one_more n left x.terms out side_flat kept kept' p r f i (g ∙ ap (λ (y : Sentence). kept ++ y ∷ []) z);
        comes = x.comes l (head p left f) ∙ ap (λ (k : Result Word WordRefusal). gives l (cons s k R) F₁ (side (head p left f) r ready outside x.terms)) e
            ∙ with_names F₁ (side_kept n left x.terms out side_flat l kept p s R f i r (sym (ap (late_refusal l kept) z) ∙ q)) ∙ m l _;
      };
    }

    pub side_ends_refused : k ≡ Marks.side_end r → (y : Sentence) → y ≡ sentence n left out → (g : Refusal) → late_refusal l kept y ≡ Some g → (e : GrammarFault) → number e ≡ stores.number g → place e ≡ p → (f : Front) → IsFront n kept f → gives l S F (at_side r p left f) ≡ rejected (number e) (place e)
    side_ends_refused q y z g h e a b f i =
        x.comes l (head p left f) ∙ ap (λ (k : Result Word WordRefusal). gives l (cons s k R) F₁ (side (head p left f) r ready outside x.terms)) q
        ∙ by_number l _ F₁ _ _ _ e (side_refused n left x.terms out side_flat l kept p s R f i r g (sym (ap (late_refusal l kept) z) ∙ h)) a b

    pub side_bad : starts k ≡ false → (k ≡ Marks.side_end r → ⊥) → (e : GrammarFault) → number e ≡ fault_number k → place e ≡ s → (f : Front) → IsFront n kept f → gives l S F (at_side r p left f) ≡ rejected (number e) (place e)
    side_bad a b e c d f i = x.comes l (head p left f) ∙ by_number l _ F₁ _ _ _ e (Marks.no_side_end l (head p left f) r x.terms s k R a b) c d

-- ---- a path that is the next left path
front_part : (xs ys : List Item) → take (length xs) (xs ++ ys) ≡ xs
front_part [] ys = refl
front_part (x ∷ xs) ys = ap (λ (l : List Item). x ∷ l) (front_part xs ys)

back_part : (xs : List Item) (a : Item) (ys : List Item) → drop (suc (length xs)) (xs ++ a ∷ ys) ≡ ys
back_part [] a ys = refl
back_part (x ∷ xs) a ys = back_part xs a ys

module _ (t i : Terms) (m : ℕ) (out₀ out : List Item) (none : out₀ ≡ []) (is : out ≡ (out₀ ++ flat t) ++ flat (path plain None i done)) (mark : m ≡ length (out₀ ++ flat t)) where
  marked : m ≡ length (flat t)
  marked = mark ∙ ap (λ (o : List Item). length (o ++ flat t)) none

  parts : out ≡ flat t ++ (item.Open plain None ∷ (flat i ++ item.Close ∷ []))
  parts = is ∙ ap (λ (o : List Item). (o ++ flat t) ++ flat (path plain None i done)) none

  pub sized : length out ≡ m + suc (length (flat i) + 1)
  sized = ap length parts ∙ length-append (flat t) (item.Open plain None ∷ (flat i ++ item.Close ∷ [])) ∙ ap (λ (k : ℕ). length (flat t) + suc k) (length-append (flat i) (item.Close ∷ [])) ∙ ap (λ (k : ℕ). k + suc (length (flat i) + 1)) (sym marked)

  pub right_part : (xs : List Item) → xs ≡ out → take (m - 0) xs ≡ flat t
  right_part xs e =
      let y = marked in
      let z : m - 0 ≡ length (flat t) = omega arith in
      ap (λ (k : ℕ). take k xs) z ∙ ap (take (length (flat t))) (e ∙ parts) ∙ front_part (flat t) _

  pub inside_part : (xs : List Item) (n : ℕ) → xs ≡ out → n ≡ length out → take ((n - 1) - (m + 1)) (drop (m + 1) xs) ≡ flat i
  inside_part xs n e q =
      let z = sized in
      let u : (n - 1) - (m + 1) ≡ length (flat i) = omega arith in
      let v : m + 1 ≡ suc (length (flat t)) = (let y = marked in omega arith) in
      ap (λ (k : ℕ). take k (drop (m + 1) xs)) u ∙ ap (λ (k : ℕ). take (length (flat i)) (drop k xs)) v ∙ ap (λ (o : List Item). take (length (flat i)) (drop (suc (length (flat t))) o)) (e ∙ parts)
      ∙ ap (take (length (flat i))) (back_part (flat t) (item.Open plain None) (flat i ++ item.Close ∷ [])) ∙ front_part (flat i) (item.Close ∷ [])

-- the atoms that are collected are in range
every_front : (xs ys : List Item) → every item_in_range (xs ++ ys) ≡ true → every item_in_range xs ≡ true
every_front [] ys e = refl
every_front (x ∷ xs) ys e = let p = and_parts (item_in_range x) (every item_in_range (xs ++ ys)) e in and_from (item_in_range x) (every item_in_range xs) p.0 (every_front xs ys p.1)

collected_in_range : (is : List Item) (ls : List Atom) → collected is ≡ Some ls → every item_in_range is ≡ true → every atom_in_range ls ≡ true
collected_in_range [] ls e r = let z : ls ≡ [] = cc in ap (every atom_in_range) z
collected_in_range (item.Atom a ∷ is) ls e r =
    let p = and_parts (atom_in_range a) (every item_in_range is) r in
    let q = more a (collected is) ls e in
    ap (every atom_in_range) q.1.1 ∙ and_from (atom_in_range a) (every atom_in_range q.0) p.0 (collected_in_range is q.0 q.1.0 p.1)
collected_in_range (item.Node q m ∷ is) ls e r = absurd (grind arith)
collected_in_range (item.Open q m ∷ is) ls e r = absurd (grind arith)
collected_in_range (item.Close ∷ is) ls e r = absurd (grind arith)

module _ (S R : Stream) (F F₁ : Names) (s m q : ℕ) (k : Result Word WordRefusal) (out₀ out : List Item) (x : ThroughNext false S F out₀ m q (cons s k R) F₁ out) (is : k ≡ Ok w.Equals) (l : Limits) (n : Node) (kept : List Sentence) (p : ℕ) (left : List Atom) where
  to_equals : (f : Front) → gives l S F (at_side false p left f) ≡ gives l (cons s (Ok w.Equals) R) F₁ (side (head p left f) false (closed q x.inside) outside x.terms)
  to_equals f = x.comes l (head p left f) ∙ ap (λ (k : Result Word WordRefusal). gives l (cons s k R) F₁ (side (head p left f) false (closed q x.inside) outside x.terms)) is

  module _ (right : List Item) (e : right ≡ flat x.terms) (left' : List Atom) (c : collected (flat x.inside) ≡ Some left') (y : Sentence) (z : y ≡ sentence n left right) where
    only_atoms : atoms_of x.inside ≡ Some left'
    only_atoms = sym (atoms_in_items x.inside) ∙ c

    pub next_left_read : late_refusal l kept y ≡ None → (kept' : List Sentence) → kept' ≡ kept ++ y ∷ [] → (S₂ : Stream) (F₂ : Names) → Moves R F₁ S₂ F₂ → Reaches l n S F (at_side false p left) kept (Some (RightSide q)) S₂ F₂ left' kept'
    next_left_read g kept' h S₂ F₂ v = record {
      in_range = collected_in_range (flat x.inside) left' c (every_front (flat x.inside) (item.Close ∷ []) x.inside_in_range);
      comes = λ f i. record {
        front = with_equation (head p left f) false x.terms;
        is = one_more n left x.terms right e kept kept' p false f i (h ∙ ap (λ (y : Sentence). kept ++ y ∷ []) z);
        comes = to_equals f ∙ with_names F₁ (next_kept n left x.terms right e l kept p s R f i q x.inside left' only_atoms (sym (ap (late_refusal l kept) z) ∙ g)) ∙ v l _;
      };
    }

    pub next_left_refused : (g : Refusal) → late_refusal l kept y ≡ Some g → (e : GrammarFault) → number e ≡ stores.number g → place e ≡ p → (f : Front) → IsFront n kept f → gives l S F (at_side false p left f) ≡ rejected (number e) (place e)
    next_left_refused g h v a b f i =
        to_equals f ∙ by_number l _ F₁ _ _ _ v (next_refused n left x.terms right e l kept p s R f i q x.inside left' only_atoms g (sym (ap (late_refusal l kept) z) ∙ h)) a b

  pub next_left_bad : collected (flat x.inside) ≡ None → (e : GrammarFault) → number e ≡ fault_number k → place e ≡ s → (f : Front) → IsFront n kept f → gives l S F (at_side false p left f) ≡ rejected (number e) (place e)
  next_left_bad c e a b f i = to_equals f ∙ by_number l _ F₁ _ _ _ e (Marks.no_left l (head p left f) x.terms q x.inside s R (sym (atoms_in_items x.inside) ∙ c)) (a ∙ ap fault_number is) b

-- ---- one part of a block after the other
module _ (l : Limits) (n : Node) (σ τ : Front → State) (S S₁ : Stream) (F F₁ : Names) (e : (f : Front) → gives l S F (σ f) ≡ gives l S₁ F₁ (τ f)) where
  pub from_state : (kept : List Sentence) (r : Result (Option Due) GrammarFault) (S₂ : Stream) (F₂ : Names) (left : List Atom) (kept' : List Sentence) → GoesOn l n τ S₁ F₁ kept r S₂ F₂ left kept' → GoesOn l n σ S F kept r S₂ F₂ left kept'
  from_state kept (Ok due) S₂ F₂ left kept' y = record { in_range = y.in_range; comes = λ f i. let z = y.comes f i in record { front = z.front; is = z.is; comes = e f ∙ z.comes } }
  from_state kept (Err v) S₂ F₂ left kept' y = λ f i. e f ∙ y f i

pub due_equation : (l : Limits) (S : Stream) (F : Names) (left : List Atom) (due : Due) → due ≡ Equation → (f : Front) → gives l S F (state_at (Some due) left f) ≡ gives l S F (body f)
due_equation l S F left due e f = ap (λ (d : Due). gives l S F (state_at (Some d) left f)) e

module _ (l : Limits) (left : List Atom) (due : Due) (p : ℕ) (is : due ≡ RightSide p) (s : ℕ) (k : Result Word WordRefusal) (R : Stream) (F : Names) where
  pub due_round : k ≡ Ok w.Open → (S₁ : Stream) (F₁ : Names) → Moves R F S₁ F₁ → (f : Front) → gives l (cons s k R) F (state_at (Some due) left f) ≡ gives l S₁ F₁ (at_side true p left f)
  due_round o S₁ F₁ m f =
      ap (λ (d : Due). gives l (cons s k R) F (state_at (Some d) left f)) is ∙ ap (λ (k : Result Word WordRefusal). gives l (cons s k R) F (begun (head p left f))) o
      ∙ with_names F (Marks.at_open l s R (head p left f)) ∙ m l (at_side true p left f)

  pub due_bare : (k ≡ Ok w.Open → ⊥) → (f : Front) → gives l (cons s k R) F (state_at (Some due) left f) ≡ gives l (cons s k R) F (at_side false p left f)
  due_bare o f = ap (λ (d : Due). gives l (cons s k R) F (state_at (Some d) left f)) is ∙ with_names F (Marks.no_open l (head p left f) s k R o)

module _ (l : Limits) (n : Node) (σ : Front → State) (S S₁ : Stream) (F F₁ : Names) (kept kept₁ : List Sentence) (left₁ : List Atom) (next : Option Due) (due : Due) (e : next ≡ Some due) (x : Reaches l n S F σ kept next S₁ F₁ left₁ kept₁) where
  here : Reaches l n S F σ kept (Some due) S₁ F₁ left₁ kept₁
  here = let P : Option Due → Type 0 = λ o. Reaches l n S F σ kept o S₁ F₁ left₁ kept₁ in subst P e x

  pub part_read : (o : Option Due) (S₂ : Stream) (F₂ : Names) (left₂ : List Atom) (kept₂ : List Sentence) → Reaches l n S₁ F₁ (state_at (Some due) left₁) kept₁ o S₂ F₂ left₂ kept₂ → Reaches l n S F σ kept o S₂ F₂ left₂ kept₂
  part_read o S₂ F₂ left₂ kept₂ y = record {
    in_range = y.in_range;
    comes = λ f i. let a = here.comes f i in let b = y.comes a.front a.is in record { front = b.front; is = b.is; comes = a.comes ∙ b.comes };
  }

  pub part_refused : (v : GrammarFault) → ((f : Front) → IsFront n kept₁ f → gives l S₁ F₁ (state_at (Some due) left₁ f) ≡ rejected (number v) (place v)) → (f : Front) → IsFront n kept f → gives l S F (σ f) ≡ rejected (number v) (place v)
  part_refused v y f i = let a = here.comes f i in a.comes ∙ y a.front a.is

-- ---- a block
abbrev pub opened : List Block → Node → Front
opened bs n = record { blocks = bs; name = n; equations = [] }

opened_says : (bs : List Block) (n : Node) (kept : List Sentence) → sentences bs ≡ kept → IsFront n kept (opened bs n)
opened_says bs n kept e = record { named = refl; says = append-nil (sentences bs) ∙ e }

module _ (l : Limits) (n : Node) (s : ℕ) (k : Result Word WordRefusal) (R : Stream) (F : Names) (is : k ≡ Ok (w.Node n)) where
  named : ltb n.0 1024 ≡ true → (S₁ : Stream) (F₁ : Names) → Moves R F S₁ F₁ → (bs : List Block) → gives l (cons s k R) F (between bs) ≡ gives l S₁ F₁ (naming bs n)
  named h S₁ F₁ m bs = ap (λ (k : Result Word WordRefusal). gives l (cons s k R) F (between bs)) is ∙ with_names F (Marks.at_node l s R bs n h) ∙ m l (naming bs n)

  module _ (h : ltb n.0 1024 ≡ true) (s₁ : ℕ) (k₁ : Result Word WordRefusal) (R₁ : Stream) (F₁ : Names) (m : Moves R F (cons s₁ k₁ R₁) F₁) where
    pub no_colon : (k₁ ≡ Ok w.Colon → ⊥) → (e : GrammarFault) → number e ≡ fault_number k₁ → place e ≡ s₁ → (bs : List Block) → gives l (cons s k R) F (between bs) ≡ rejected (number e) (place e)
    no_colon c e a b bs = named h _ F₁ m bs ∙ by_number l _ F₁ _ _ _ e (Marks.no_colon l bs n s₁ k₁ R₁ c) a b

    module _ (c : k₁ ≡ Ok w.Colon) (S₂ : Stream) (F₂ : Names) (m₂ : Moves R₁ F₁ S₂ F₂) (kept : List Sentence) where
      begins : (bs : List Block) → gives l (cons s k R) F (between bs) ≡ gives l S₂ F₂ (body (opened bs n))
      begins bs = named h _ F₁ m bs ∙ ap (λ (k : Result Word WordRefusal). gives l (cons s₁ k R₁) F₁ (naming bs n)) c ∙ with_names F₁ (Marks.at_colon l s₁ R₁ bs n) ∙ m₂ l (body (opened bs n))

      pub block_read : (next : Option Due) → next ≡ None → (S₃ : Stream) (F₃ : Names) (left : List Atom) (kept' : List Sentence) → Reaches l n S₂ F₂ body kept next S₃ F₃ left kept' → (bs : List Block) → sentences bs ≡ kept → ThroughBlock l (cons s k R) F bs S₃ F₃ kept'
      block_read next e S₃ F₃ left kept' x bs q =
          let P : Option Due → Type 0 = λ o. Reaches l n S₂ F₂ body kept o S₃ F₃ left kept' in
          let y = subst P e x in
          let z = y.comes (opened bs n) (opened_says bs n kept q) in
          record { blocks = whole z.front; says = whole_said z.front ∙ z.is.says; comes = begins bs ∙ z.comes }

      pub block_refused : (e : GrammarFault) → ((f : Front) → IsFront n kept f → gives l S₂ F₂ (body f) ≡ rejected (number e) (place e)) → (bs : List Block) → sentences bs ≡ kept → gives l (cons s k R) F (between bs) ≡ rejected (number e) (place e)
      block_refused e x bs q = begins bs ∙ x (opened bs n) (opened_says bs n kept q)
