-- What is loaded are the trees within the limits.
use Rattle.std.proofs.Common.{◌≡◌, ℕ, ◌≤◌, Bool, true, false, cond, ltb, List, [], ◌∷◌, ◌++◌, length, is_some, Some, None, Option, sym, refl, ap, ◌∙◌, subst, append_assoc, append-nil, arith}
use Rattle.std.proofs.lemmas.Bool.{ltb-false, le-ltb}
use Rattle.stores.specs.Sentences.{Sentence, map_of}
use Rattle.terms.specs.Limits.{path_limit, item_limit}
use Rattle.stores.specs.declared.refusals.Refusal.{Refusal}
use Rattle.stores.specs.declared.refusals.Refusal.TheVariants as refusals
use Rattle.stores.specs.Refusals.{Limits, number}
use Rattle.stores.specs.Refusals as stores
use Rattle.grammar.specs.Trees.{Word, Block, sentences, theory_nesting}
use Rattle.grammar.specs.Parsing
use Rattle.grammar.specs.Parsing.{Stream, word, over, broken, State, Step, go, ends, bad, depth, so_far, between, Outcome, accepted, refused, parse, follow, finish}
use Rattle.grammar.specs.Loading.{load, late_refusal, checked, kept_or, numbered}
use Rattle.grammar.specs.Theorems.{contents, Named, Taken, Fits}
use Rattle.grammar.proofs.Steps.{deep, Well, well}
use Rattle.grammar.proofs.Sound.{sound, never}
use Rattle.grammar.proofs.Complete.{complete}

-- From a point where d is nested and the sentences kept are read, all that comes is within the limits.
record Later (l : Limits) (kept : List Sentence) (d : ℕ) (o : Outcome) (ws : List Word) (bs : List Block) : Type 0 where
  parsed : o ≡ accepted bs
  shallow : d ≤ 4 → theory_nesting bs ≤ 4
  names : Named ws
  new : List Sentence
  are : kept ++ new ≡ sentences bs
  taken : Taken l kept new

passed : (c n : Bool) (s : ℕ) (o : Outcome) (bs : List Block) → cond c (refused 5 s) (cond n o (refused 10 s)) ≡ accepted bs → (c ≡ false) × ((n ≡ true) × (o ≡ accepted bs))
passed true n s o bs e = never 5 s bs e
passed false true s o bs e = (refl, (refl, e))
passed false false s o bs e = never 10 s bs e

taken_in : (r : Option Refusal) (p : ℕ) (o : Outcome) (bs : List Block) → kept_or r p o ≡ accepted bs → (r ≡ None) × (o ≡ accepted bs)
taken_in None p o bs e = (refl, e)
taken_in (Some r) p o bs e = never (number r) p bs e

later_on : (l : Limits) (kept : List Sentence) (d : ℕ) (s : ℕ) (w : Word) (S : Stream) (bs : List Block) (x : Step) → Well kept d x → ((σ : State) → load l S σ ≡ accepted bs → Later l (so_far σ) (deep σ) (parse S σ) (contents S) bs) → checked l kept s w x (load l S) ≡ accepted bs → Later l kept d (follow x s (parse S)) (w ∷ contents S) bs
later_on l kept d s w S bs (go σ) v k e =
    let q = passed (ltb 4 (depth σ)) (numbered w) s (load l S σ) bs e in
    let y = k σ q.1.1 in
    let f = ltb-false 4 (depth σ) q.0 in
    record {
      parsed = y.parsed;
      shallow = λ h. y.shallow (v.1.is h f);
      names = (q.1.0, y.names);
      new = y.new;
      are = ap (λ (m : List Sentence). m ++ y.new) (sym v.0) ∙ y.are;
      taken = subst (λ (m : List Sentence). Taken l m y.new) v.0 y.taken;
    }
later_on l kept d s w S bs (ends p x σ) v k e =
    let q = passed (ltb 4 (depth σ)) (numbered w) s (kept_or (late_refusal l kept x) p (load l S σ)) bs e in
    let t = taken_in (late_refusal l kept x) p (load l S σ) bs q.1.1 in
    let y = k σ t.1 in
    let f = ltb-false 4 (depth σ) q.0 in
    record {
      parsed = y.parsed;
      shallow = λ h. y.shallow (v.1.is h f);
      names = (q.1.0, y.names);
      new = x ∷ y.new;
      are = sym (append_assoc kept (x ∷ []) y.new) ∙ ap (λ (m : List Sentence). m ++ y.new) (sym v.0) ∙ y.are;
      taken = (t.0, subst (λ (m : List Sentence). Taken l m y.new) v.0 y.taken);
    }
later_on l kept d s w S bs bad v k e = never 4 s bs e

-- at the end all is read
ended : (σ : State) (s : ℕ) (bs : List Block) → finish σ s ≡ accepted bs → between bs ≡ σ
ended (between cs) s bs e = let z : bs ≡ cs = cc in ap between z
ended (Parsing.naming cs n) s bs e = never 4 s bs e
ended (Parsing.body f) s bs e = never 4 s bs e
ended (Parsing.lefting f p ls) s bs e = never 4 s bs e
ended (Parsing.lefted h) s bs e = never 4 s bs e
ended (Parsing.begun h) s bs e = never 4 s bs e
ended (Parsing.side h r ph f t) s bs e = never 4 s bs e

later : (l : Limits) (S : Stream) (bs : List Block) (σ : State) → load l S σ ≡ accepted bs → Later l (so_far σ) (deep σ) (parse S σ) (contents S) bs
unfolding load parse
later l (word s w S) bs σ e = later_on l (so_far σ) (deep σ) s w S bs (Parsing.step σ s w) (well σ s w) (later l S bs) e
later l (over s) bs σ e =
    let z = ended σ s bs e in
    record { parsed = e; shallow = λ h. subst (λ (τ : State). deep τ ≤ 4) (sym z) h; names = tt; new = []; are = append-nil (so_far σ) ∙ ap so_far (sym z); taken = tt }
later l (broken n p) bs σ e = never n p bs e

pub load_fits : (l : Limits) (S : Stream) (bs : List Block) → load l S (between []) ≡ accepted bs → Fits l bs S
load_fits l S bs e =
    let y = later l S bs (between []) e in
    let p = sound S bs y.parsed in
    record {
      spells = p;
      nests = y.shallow (omega arith);
      names = subst Named p.same y.names;
      keeps = subst (Taken l []) y.are y.taken;
    }

-- What is accepted without limits has read no more than it says.
record Before (kept : List Sentence) (d : ℕ) (bs : List Block) : Type 0 where
  shallow : theory_nesting bs ≤ 4 → d ≤ 4
  new : List Sentence
  are : kept ++ new ≡ sentences bs

before_on : (kept : List Sentence) (d : ℕ) (s : ℕ) (S : Stream) (bs : List Block) (x : Step) → Well kept d x → ((σ : State) → parse S σ ≡ accepted bs → Before (so_far σ) (deep σ) bs) → follow x s (parse S) ≡ accepted bs → Before kept d bs
before_on kept d s S bs (go σ) v k e = let y = k σ e in record { shallow = λ h. v.1.was (y.shallow h); new = y.new; are = ap (λ (m : List Sentence). m ++ y.new) (sym v.0) ∙ y.are }
before_on kept d s S bs (ends p x σ) v k e = let y = k σ e in record { shallow = λ h. v.1.was (y.shallow h); new = x ∷ y.new; are = sym (append_assoc kept (x ∷ []) y.new) ∙ ap (λ (m : List Sentence). m ++ y.new) (sym v.0) ∙ y.are }
before_on kept d s S bs bad v k e = never 4 s bs e

before : (S : Stream) (bs : List Block) (σ : State) → parse S σ ≡ accepted bs → Before (so_far σ) (deep σ) bs
unfolding parse
before (word s w S) bs σ e = before_on (so_far σ) (deep σ) s S bs (Parsing.step σ s w) (well σ s w) (before S bs) e
before (over s) bs σ e = let z = ended σ s bs e in record { shallow = λ h. subst (λ (τ : State). deep τ ≤ 4) z h; new = []; are = append-nil (so_far σ) ∙ ap so_far (sym z) }
before (broken n p) bs σ e = never n p bs e

abbrev Takes : Limits → List Sentence → List Block → Type 0
Takes l kept bs = (new : List Sentence) → kept ++ new ≡ sentences bs → Taken l kept new

passes : (c n : Bool) (s : ℕ) (o o' : Outcome) → c ≡ false → n ≡ true → o ≡ o' → cond c (refused 5 s) (cond n o (refused 10 s)) ≡ o'
passes true n s o o' a b e = absurd (grind arith)
passes false true s o o' a b e = e
passes false false s o o' a b e = absurd (grind arith)

takes : (r : Option Refusal) (p : ℕ) (o o' : Outcome) → r ≡ None → o ≡ o' → kept_or r p o ≡ o'
takes None p o o' e f = f
takes (Some n) p o o' e f = absurd (grind arith)

back_on : (l : Limits) (kept : List Sentence) (d : ℕ) (s : ℕ) (w : Word) (S : Stream) (bs : List Block) (x : Step) → Well kept d x → theory_nesting bs ≤ 4 → numbered w ≡ true → Takes l kept bs → ((σ : State) → parse S σ ≡ accepted bs → Takes l (so_far σ) bs → load l S σ ≡ accepted bs) → follow x s (parse S) ≡ accepted bs → checked l kept s w x (load l S) ≡ accepted bs
back_on l kept d s w S bs (go σ) v h m t k e =
    let y = before S bs σ e in
    passes (ltb 4 (depth σ)) (numbered w) s (load l S σ) (accepted bs) (le-ltb 4 (depth σ) (v.1.opened (y.shallow h))) m
    (k σ e (subst (λ (n : List Sentence). Takes l n bs) (sym v.0) t))
back_on l kept d s w S bs (ends p x σ) v h m t k e =
    let y = before S bs σ e in
    let cons : (new : List Sentence) → so_far σ ++ new ≡ sentences bs → Taken l kept (x ∷ new) = (λ new q. t (x ∷ new) (sym (append_assoc kept (x ∷ []) new) ∙ ap (λ (n : List Sentence). n ++ new) (sym v.0) ∙ q)) in
    passes (ltb 4 (depth σ)) (numbered w) s (kept_or (late_refusal l kept x) p (load l S σ)) (accepted bs) (le-ltb 4 (depth σ) (v.1.opened (y.shallow h))) m
    (takes (late_refusal l kept x) p (load l S σ) (accepted bs) (cons y.new y.are).0
    (k σ e (λ new q. subst (λ (n : List Sentence). Taken l n new) (sym v.0) (cons new q).1)))
back_on l kept d s w S bs bad v h m t k e = never 4 s bs e

back : (l : Limits) (S : Stream) (bs : List Block) → theory_nesting bs ≤ 4 → Named (contents S) → (σ : State) → parse S σ ≡ accepted bs → Takes l (so_far σ) bs → load l S σ ≡ accepted bs
unfolding load parse
back l (word s w S) bs h m σ e t = back_on l (so_far σ) (deep σ) s w S bs (Parsing.step σ s w) (well σ s w) h m.0 t (back l S bs h m.1) e
back l (over s) bs h m σ e t = e
back l (broken n p) bs h m σ e t = e

pub fits_load : (l : Limits) (S : Stream) (bs : List Block) → Fits l bs S → load l S (between []) ≡ accepted bs
fits_load l S bs x = back l S bs x.nests (subst Named (sym x.spells.same) x.names) (between []) (complete S bs x.spells) (λ new q. subst (Taken l []) (sym q) x.keeps)

-- Loading refuses by 4 only where the grammar does.
not_four : (l : Limits) (kept : List Sentence) (x : Sentence) (p q : ℕ) (o : Outcome) → kept_or (late_refusal l kept x) p o ≡ refused 4 q → o ≡ refused 4 q
not_four l kept x p q o e =
    by_test (ltb path_limit (length x.left)) (ltb item_limit (length x.right)) (is_some (map_of kept x.node x.left)) (stores.over l kept x) e
  where
    by_test : (a b c d : Bool) → kept_or (cond a (Some refusals.LeftTooLong) (cond b (Some refusals.RightTooLong) (cond c (Some refusals.AlreadyKept) (cond d (Some refusals.Full) None)))) p o ≡ refused 4 q → o ≡ refused 4 q
    by_test true b c d e = absurd (grind arith)
    by_test false true c d e = absurd (grind arith)
    by_test false false true d e = absurd (grind arith)
    by_test false false false true e = absurd (grind arith)
    by_test false false false false e = e

four_passed : (c n : Bool) (s q : ℕ) (o : Outcome) → cond c (refused 5 s) (cond n o (refused 10 s)) ≡ refused 4 q → o ≡ refused 4 q
four_passed true n s q o e = absurd (grind arith)
four_passed false true s q o e = e
four_passed false false s q o e = absurd (grind arith)

four_on : (l : Limits) (kept : List Sentence) (s : ℕ) (w : Word) (S : Stream) (q : ℕ) (x : Step) → ((σ : State) → load l S σ ≡ refused 4 q → parse S σ ≡ refused 4 q) → checked l kept s w x (load l S) ≡ refused 4 q → follow x s (parse S) ≡ refused 4 q
four_on l kept s w S q (go σ) k e = k σ (four_passed (ltb 4 (depth σ)) (numbered w) s q (load l S σ) e)
four_on l kept s w S q (ends p x σ) k e = k σ (not_four l kept x p q (load l S σ) (four_passed (ltb 4 (depth σ)) (numbered w) s q (kept_or (late_refusal l kept x) p (load l S σ)) e))
four_on l kept s w S q bad k e = e

pub four : (l : Limits) (S : Stream) (q : ℕ) (σ : State) → load l S σ ≡ refused 4 q → parse S σ ≡ refused 4 q
unfolding load parse
four l (word s w S) q σ e = four_on l (so_far σ) s w S q (Parsing.step σ s w) (four l S q) e
four l (over s) q σ e = e
four l (broken n p) q σ e = e
