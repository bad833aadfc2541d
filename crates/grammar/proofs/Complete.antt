-- Every tree's words are accepted.
use Rattle.std.proofs.Common.{◌≡◌, ℕ, Bool, true, false, List, [], ◌∷◌, ◌++◌, Some, None, Option, sym, refl, ap, ◌∙◌, subst, append_assoc, append-nil, arith}
use Rattle.terms.specs.declared.items.Node.{Node}
use Rattle.terms.specs.declared.items.Atom.{Atom}
use Rattle.terms.specs.declared.items.Quoting.{Quoting}
use Rattle.terms.specs.declared.items.Quoting.TheVariants.{Plain as plain, Quoted as quoted}
use Rattle.terms.specs.Terms.{Terms, done, atom, node, path}
use Rattle.grammar.specs.Trees.{Word, AtomName, NodeName, Less, Greater, Quote, Colon, Is, Stop, Open, Close, Stray, Equation, Block, words, opens, closes, atom_words, side_words, equation_words, equations_words, block_words, theory_words}
use Rattle.grammar.specs.Parsing
use Rattle.grammar.specs.Parsing.{Stream, word, over, broken, parse, Head, Front, Frames, outside, within, side, ready, then, between, begun, body, lefting, lefted, State}
use Rattle.grammar.specs.Theorems.{contents, intact, Spells, Reads}

pub split : (ws vs : List Word) (S R : Stream) → Reads (ws ++ vs) S R → (M : Stream) × (Reads ws S M × Reads vs M R)
split [] vs S R x = (S, (refl, x))
split (w ∷ ws) vs S R x = let y = split ws vs x.1.0 R x.1.1.1 in (y.0, ((x.0, (x.1.0, (x.1.1.0, y.1.0))), y.1.1))

-- a word that goes with nothing that was begun
abbrev pub calm_word : Word → Bool
calm_word (AtomName a) = true
calm_word (NodeName n') = true
calm_word Less = true
calm_word Greater = true
calm_word Quote = true
calm_word Colon = false
calm_word Is = false
calm_word Stop = true
calm_word Open = false
calm_word Close = true
calm_word Stray = true

abbrev pub calm : Stream → Bool
calm (word s w S) = calm_word w
calm (over s) = true
calm (broken n p) = true

settle_noded : (h : Head) (r : Bool) (n : Node) (f : Frames) (t : Terms) (S : Stream) → calm S ≡ true → parse S (side h r (Parsing.noded n) f t) ≡ parse S (side h r ready f (then t (node plain n done)))
unfolding parse
settle_noded h r n f t (word s (AtomName a) S) c = refl
settle_noded h r n f t (word s (NodeName n') S) c = refl
settle_noded h r n f t (word s Less S) c = refl
settle_noded h r n f t (word s Greater S) c = refl
settle_noded h r n f t (word s Quote S) c = refl
settle_noded h r n f t (word s Colon S) c = absurd (grind arith)
settle_noded h r n f t (word s Is S) c = absurd (grind arith)
settle_noded h r n f t (word s Stop S) c = refl
settle_noded h r n f t (word s Open S) c = absurd (grind arith)
settle_noded h r n f t (word s Close S) c = refl
settle_noded h r n f t (word s Stray S) c = refl
settle_noded h r n f t (over s) c = refl
settle_noded h r n f t (broken k p) c = refl

settle_closed : (h : Head) (r : Bool) (q : ℕ) (i : Terms) (f : Frames) (t : Terms) (S : Stream) → calm S ≡ true → parse S (side h r (Parsing.closed q i) f t) ≡ parse S (side h r ready f (then t (path plain None i done)))
unfolding parse
settle_closed h r q i f t (word s (AtomName a) S) c = refl
settle_closed h r q i f t (word s (NodeName n') S) c = refl
settle_closed h r q i f t (word s Less S) c = refl
settle_closed h r q i f t (word s Greater S) c = refl
settle_closed h r q i f t (word s Quote S) c = refl
settle_closed h r q i f t (word s Colon S) c = absurd (grind arith)
settle_closed h r q i f t (word s Is S) c = absurd (grind arith)
settle_closed h r q i f t (word s Stop S) c = refl
settle_closed h r q i f t (word s Open S) c = absurd (grind arith)
settle_closed h r q i f t (word s Close S) c = refl
settle_closed h r q i f t (word s Stray S) c = refl
settle_closed h r q i f t (over s) c = refl
settle_closed h r q i f t (broken k p) c = refl

settle_begun : (h : Head) (S : Stream) → calm S ≡ true → parse S (begun h) ≡ parse S (side h false ready outside done)
unfolding parse
settle_begun h (word s (AtomName a) S) c = refl
settle_begun h (word s (NodeName n') S) c = refl
settle_begun h (word s Less S) c = refl
settle_begun h (word s Greater S) c = refl
settle_begun h (word s Quote S) c = refl
settle_begun h (word s Colon S) c = absurd (grind arith)
settle_begun h (word s Is S) c = absurd (grind arith)
settle_begun h (word s Stop S) c = refl
settle_begun h (word s Open S) c = absurd (grind arith)
settle_begun h (word s Close S) c = refl
settle_begun h (word s Stray S) c = refl
settle_begun h (over s) c = refl
settle_begun h (broken k p) c = refl

then_done : (t : Terms) → then t done ≡ t
then_done done = refl
then_done (atom a t) = ap (atom a) (then_done t)
then_done (node q n t) = ap (node q n) (then_done t)
then_done (path q n i t) = ap (path q n i) (then_done t)

then_then : (t u v : Terms) → then (then t u) v ≡ then t (then u v)
then_then done u v = refl
then_then (atom a t) u v = ap (atom a) (then_then t u v)
then_then (node q n t) u v = ap (node q n) (then_then t u v)
then_then (path q n i t) u v = ap (path q n i) (then_then t u v)

calm_words : (t : Terms) (S R : Stream) → Reads (words t) S R → calm R ≡ true → calm S ≡ true
calm_words done S R x c = ap calm x ∙ c
calm_words (atom a t) S R x c = ap calm x.1.1.0
calm_words (node plain n t) S R x c = ap calm x.1.1.0
calm_words (node quoted n t) S R x c = ap calm x.1.1.0
calm_words (path plain None i t) S R x c = ap calm x.1.1.0
calm_words (path plain (Some n) i t) S R x c = ap calm x.1.1.0
calm_words (path quoted None i t) S R x c = ap calm x.1.1.0
calm_words (path quoted (Some n) i t) S R x c = ap calm x.1.1.0

calm_closes : (q : Quoting) (S R : Stream) → Reads (closes q) S R → calm S ≡ true
calm_closes plain S R x = ap calm x.1.1.0
calm_closes quoted S R x = ap calm x.1.1.0

opened : (h : Head) (r : Bool) (f : Frames) (b : Terms) (q : Quoting) (n : Option Node) (S M : Stream) → Reads (opens q n) S M → (p : ℕ) × (parse S (side h r ready f b) ≡ parse M (side h r ready (within p q n b f) done))
unfolding parse
opened h r f b plain None S M x = (x.0, ap (λ (T : Stream). parse T (side h r ready f b)) x.1.1.0 ∙ ap (λ (T : Stream). parse T (side h r ready (within x.0 plain None b f) done)) x.1.1.1)
opened h r f b plain (Some n) S M x =
    let y = x.1.1.1 in let z = y.1.1.1 in (
      z.0,
      ap (λ (T : Stream). parse T (side h r ready f b)) x.1.1.0
          ∙ ap (λ (T : Stream). parse T (side h r (Parsing.noded n) f b)) y.1.1.0
          ∙ ap (λ (T : Stream). parse T (side h r (Parsing.coloned plain n) f b)) z.1.1.0
          ∙ ap (λ (T : Stream). parse T (side h r ready (within z.0 plain (Some n) b f) done)) z.1.1.1,
    )
opened h r f b quoted None S M x =
    let y = x.1.1.1 in (
      y.0,
      ap (λ (T : Stream). parse T (side h r ready f b)) x.1.1.0
          ∙ ap (λ (T : Stream). parse T (side h r Parsing.quoting f b)) y.1.1.0
          ∙ ap (λ (T : Stream). parse T (side h r ready (within y.0 quoted None b f) done)) y.1.1.1,
    )
opened h r f b quoted (Some n) S M x =
    let y = x.1.1.1 in let z = y.1.1.1 in let v = z.1.1.1 in (
      v.0,
      ap (λ (T : Stream). parse T (side h r ready f b)) x.1.1.0
          ∙ ap (λ (T : Stream). parse T (side h r Parsing.quoting f b)) y.1.1.0
          ∙ ap (λ (T : Stream). parse T (side h r (Parsing.quoted_node n) f b)) z.1.1.0
          ∙ ap (λ (T : Stream). parse T (side h r (Parsing.coloned quoted n) f b)) v.1.1.0
          ∙ ap (λ (T : Stream). parse T (side h r ready (within v.0 quoted (Some n) b f) done)) v.1.1.1,
    )

shut : (h : Head) (r : Bool) (p : ℕ) (f : Frames) (b : Terms) (q : Quoting) (n : Option Node) (i : Terms) (S M : Stream) → Reads (closes q) S M → calm M ≡ true → parse S (side h r ready (within p q n b f) i) ≡ parse M (side h r ready f (then b (path q n i done)))
unfolding parse
shut h r p f b plain None i S M x c =
    ap (λ (T : Stream). parse T (side h r ready (within p plain None b f) i)) x.1.1.0
    ∙ ap (λ (T : Stream). parse T (side h r (Parsing.closed p i) f b)) x.1.1.1
    ∙ settle_closed h r p i f b M c
shut h r p f b plain (Some n) i S M x c =
    ap (λ (T : Stream). parse T (side h r ready (within p plain (Some n) b f) i)) x.1.1.0
    ∙ ap (λ (T : Stream). parse T (side h r ready f (then b (path plain (Some n) i done)))) x.1.1.1
shut h r p f b quoted n i S M x c =
    let y = x.1.1.1 in
    ap (λ (T : Stream). parse T (side h r ready (within p quoted n b f) i)) x.1.1.0
    ∙ ap (λ (T : Stream). parse T (side h r (Parsing.unquoting n i) f b)) y.1.1.0
    ∙ ap (λ (T : Stream). parse T (side h r ready f (then b (path quoted n i done)))) y.1.1.1

-- a list of terms is read through
through : (t : Terms) (h : Head) (r : Bool) (f : Frames) (b : Terms) (S R : Stream) → Reads (words t) S R → calm R ≡ true → parse S (side h r ready f b) ≡ parse R (side h r ready f (then b t))
unfolding parse
through done h r f b S R x c = ap (λ (T : Stream). parse T (side h r ready f b)) x ∙ ap (λ (u : Terms). parse R (side h r ready f u)) (sym (then_done b))
through (atom a t) h r f b S R x c =
    ap (λ (T : Stream). parse T (side h r ready f b)) x.1.1.0
    ∙ through t h r f (then b (atom a done)) x.1.0 R x.1.1.1 c
    ∙ ap (λ (u : Terms). parse R (side h r ready f u)) (then_then b (atom a done) t)
through (node plain n t) h r f b S R x c =
    ap (λ (T : Stream). parse T (side h r ready f b)) x.1.1.0
    ∙ settle_noded h r n f b x.1.0 (calm_words t x.1.0 R x.1.1.1 c)
    ∙ through t h r f (then b (node plain n done)) x.1.0 R x.1.1.1 c
    ∙ ap (λ (u : Terms). parse R (side h r ready f u)) (then_then b (node plain n done) t)
through (node quoted n t) h r f b S R x c =
    let y = x.1.1.1 in let z = y.1.1.1 in
    ap (λ (T : Stream). parse T (side h r ready f b)) x.1.1.0
    ∙ ap (λ (T : Stream). parse T (side h r Parsing.quoting f b)) y.1.1.0
    ∙ ap (λ (T : Stream). parse T (side h r (Parsing.quoted_node n) f b)) z.1.1.0
    ∙ through t h r f (then b (node quoted n done)) z.1.0 R z.1.1.1 c
    ∙ ap (λ (u : Terms). parse R (side h r ready f u)) (then_then b (node quoted n done) t)
through (path q n i t) h r f b S R x c =
    let m₁ = split (opens q n) (words i ++ (closes q ++ words t)) S R x in
    let m₂ = split (words i) (closes q ++ words t) m₁.0 R m₁.1.1 in
    let m₃ = split (closes q) (words t) m₂.0 R m₂.1.1 in
    let o = opened h r f b q n S m₁.0 m₁.1.0 in
    o.1
    ∙ through i h r (within o.0 q n b f) done m₁.0 m₂.0 m₂.1.0 (calm_closes q m₂.0 m₃.0 m₃.1.0)
    ∙ shut h r o.0 f b q n i m₂.0 m₃.0 m₃.1.0 (calm_words t m₃.0 R m₃.1.1 c)
    ∙ through t h r f (then b (path q n i done)) m₃.0 R m₃.1.1 c
    ∙ ap (λ (u : Terms). parse R (side h r ready f u)) (then_then b (path q n i done) t)

-- atoms as a list of terms
abbrev from_atoms : List Atom → Terms
from_atoms [] = done
from_atoms (a ∷ ls) = atom a (from_atoms ls)

from_words : (ls : List Atom) → words (from_atoms ls) ≡ atom_words ls
from_words [] = refl
from_words (a ∷ ls) = ap (λ (l : List Word). AtomName a ∷ l) (from_words ls)

from_only : (ls : List Atom) → Parsing.atoms_of (from_atoms ls) ≡ Some ls
from_only [] = refl
from_only (a ∷ ls) = ap (Parsing.more_atoms a) (from_only ls)

-- a left path's atoms
atoms_through : (ls : List Atom) (f : Front) (p : ℕ) (ms : List Atom) (S R : Stream) → Reads (atom_words ls) S R → parse S (lefting f p ms) ≡ parse R (lefting f p (ms ++ ls))
unfolding parse
atoms_through [] f p ms S R x = ap (λ (T : Stream). parse T (lefting f p ms)) x ∙ ap (λ (l : List Atom). parse R (lefting f p l)) (sym (append-nil ms))
atoms_through (a ∷ ls) f p ms S R x =
    ap (λ (T : Stream). parse T (lefting f p ms)) x.1.1.0
    ∙ atoms_through ls f p (ms ++ a ∷ []) x.1.0 R x.1.1.1
    ∙ ap (λ (l : List Atom). parse R (lefting f p l)) (append_assoc ms (a ∷ []) ls)

-- the words of the equations es and a full stop
abbrev to_stop : List Equation → List Word
to_stop es = equations_words es ++ Stop ∷ []

calm_equations : (es : List Equation) (S R : Stream) → Reads (to_stop es) S R → calm S ≡ true
calm_equations [] S R x = ap calm x.1.1.0
calm_equations (e ∷ es) S R x = ap calm x.1.1.0

-- the blocks, with an open block that gets the equations es and ends
abbrev ended : Front → List Equation → List Block
ended f es = f.blocks ++ (record { name = f.name; equations = f.equations ++ es }) ∷ []

record Goes (es : List Equation) : Type 0 where
  from_body : (f : Front) (S R : Stream) → Reads (to_stop es) S R → parse S (body f) ≡ parse R (between (ended f es))
  from_side : (h : Head) (t : Terms) (S R : Stream) → Reads (to_stop es) S R → parse S (side h false ready outside t) ≡ parse R (between (ended (Parsing.with_equation h false t) es))

-- from a left path and == on
from_begun : (e : Equation) (es : List Equation) → Goes es → (f : Front) (p : ℕ) (S M R : Stream) → Reads (side_words e.round e.right) S M → Reads (to_stop es) M R → parse S (begun (record { front = f; place = p; left = e.left })) ≡ parse R (between (ended f (e ∷ es)))
unfolding parse
from_begun e es g f p S M R = by e.round refl
  where
    h : Head
    h = record { front = f; place = p; left = e.left }

    more : (r : Bool) → e.round ≡ r → ended (Parsing.with_equation h r e.right) es ≡ ended f (e ∷ es)
    more r c = ap (λ (b : Bool). ended (Parsing.with_equation h b e.right) es) (sym c) ∙ ap (λ (l : List Equation). f.blocks ++ (record { name = f.name; equations = l }) ∷ []) (append_assoc f.equations (e ∷ []) es)

    by : (r : Bool) → e.round ≡ r → Reads (side_words r e.right) S M → Reads (to_stop es) M R → parse S (begun h) ≡ parse R (between (ended f (e ∷ es)))
    by false c x y =
        settle_begun h S (calm_words e.right S M x (calm_equations es M R y))
        ∙ through e.right h false outside done S M x (calm_equations es M R y)
        ∙ g.from_side h e.right M R y
        ∙ ap (λ (l : List Block). parse R (between l)) (more false c)
    by true c x y =
        let m = split (words e.right) (Close ∷ []) x.1.0 M x.1.1.1 in
        let z = m.1.1 in
        ap (λ (T : Stream). parse T (begun h)) x.1.1.0
        ∙ through e.right h true outside done x.1.0 m.0 m.1.0 (ap calm z.1.1.0)
        ∙ ap (λ (T : Stream). parse T (side h true ready outside e.right)) z.1.1.0
        ∙ ap (λ (T : Stream). parse T (body (Parsing.with_equation h true e.right))) z.1.1.1
        ∙ g.from_body (Parsing.with_equation h true e.right) M R y
        ∙ ap (λ (l : List Block). parse R (between l)) (more true c)

goes_none : Goes []
unfolding parse
goes_none = record {
  from_body = λ f S R x. ap (λ (T : Stream). parse T (body f)) x.1.1.0 ∙ ap (λ (T : Stream). parse T (between (Parsing.whole f))) x.1.1.1 ∙ ap (λ (l : List Equation). parse R (between (f.blocks ++ (record { name = f.name; equations = l }) ∷ []))) (sym (append-nil f.equations));
  from_side = λ h t S R x.
      let f = Parsing.with_equation h false t in
      ap (λ (T : Stream). parse T (side h false ready outside t)) x.1.1.0
      ∙ ap (λ (T : Stream). parse T (between (Parsing.whole f))) x.1.1.1 ∙ ap (λ (l : List Equation). parse R (between (f.blocks ++ (record { name = f.name; equations = l }) ∷ []))) (sym (append-nil f.equations));
}

goes_more : (e : Equation) (es : List Equation) → Goes es → Goes (e ∷ es)
unfolding parse
goes_more e es g = record { from_body = fb; from_side = fs }
  where
    -- behind the left path's <
    tail : List Word
    tail = Greater ∷ Is ∷ side_words e.round e.right

    fb : (f : Front) (S R : Stream) → Reads (to_stop (e ∷ es)) S R → parse S (body f) ≡ parse R (between (ended f (e ∷ es)))
    fb f S R x =
        let x' = subst (λ (l : List Word). Reads l S R) (append_assoc (equation_words e) (equations_words es) (Stop ∷ [])) x in
        let m = split (equation_words e) (to_stop es) S R x' in
        let y = m.1.0 in
        let v = split (atom_words e.left) tail y.1.0 m.0 y.1.1.1 in
        let z = v.1.1 in let u = z.1.1.1 in
        let h : Head = record { front = f; place = y.0; left = e.left } in
        ap (λ (T : Stream). parse T (body f)) y.1.1.0
        ∙ atoms_through e.left f y.0 [] y.1.0 v.0 v.1.0
        ∙ ap (λ (T : Stream). parse T (lefting f y.0 e.left)) z.1.1.0
        ∙ ap (λ (T : Stream). parse T (lefted h)) u.1.1.0
        ∙ from_begun e es g f y.0 u.1.0 m.0 R u.1.1.1 m.1.1

    fs : (h : Head) (t : Terms) (S R : Stream) → Reads (to_stop (e ∷ es)) S R → parse S (side h false ready outside t) ≡ parse R (between (ended (Parsing.with_equation h false t) (e ∷ es)))
    fs h t S R x =
        let x' = subst (λ (l : List Word). Reads l S R) (append_assoc (equation_words e) (equations_words es) (Stop ∷ [])) x in
        let m = split (equation_words e) (to_stop es) S R x' in
        let y = m.1.0 in
        let v = split (atom_words e.left) tail y.1.0 m.0 y.1.1.1 in
        let z = v.1.1 in let u = z.1.1.1 in
        let i : Terms = from_atoms e.left in
        let p = y.0 in
        ap (λ (T : Stream). parse T (side h false ready outside t)) y.1.1.0
        ∙ through i h false (within p plain None t outside) done y.1.0 v.0 (subst (λ (l : List Word). Reads l y.1.0 v.0) (sym (from_words e.left)) v.1.0) (ap calm z.1.1.0)
        ∙ ap (λ (T : Stream). parse T (side h false ready (within p plain None t outside) i)) z.1.1.0
        ∙ ap (λ (T : Stream). parse T (side h false (Parsing.closed p i) outside t)) u.1.1.0
        ∙ ap (λ (o : Option (List Atom)). Parsing.follow (Parsing.next_left h t p o) u.0 (parse u.1.0)) (from_only e.left)
        ∙ from_begun e es g (Parsing.with_equation h false t) p u.1.0 m.0 R u.1.1.1 m.1.1

goes : (es : List Equation) → Goes es
goes [] = goes_none
goes (e ∷ es) = goes_more e es (goes es)

blocks_through : (bs cs : List Block) (S R : Stream) → Reads (theory_words bs) S R → parse S (between cs) ≡ parse R (between (cs ++ bs))
unfolding parse
blocks_through [] cs S R x = ap (λ (T : Stream). parse T (between cs)) x ∙ ap (λ (l : List Block). parse R (between l)) (sym (append-nil cs))
blocks_through (b ∷ bs) cs S R x =
    let m = split (block_words b) (theory_words bs) S R x in
    let y = m.1.0 in let z = y.1.1.1 in
    ap (λ (T : Stream). parse T (between cs)) y.1.1.0
    ∙ ap (λ (T : Stream). parse T (Parsing.naming cs b.name)) z.1.1.0
    ∙ (goes b.equations).from_body (record { blocks = cs; name = b.name; equations = [] }) z.1.0 m.0 z.1.1.1
    ∙ blocks_through bs (cs ++ b ∷ []) m.0 R m.1.1
    ∙ ap (λ (l : List Block). parse R (between l)) (append_assoc cs (b ∷ []) bs)

reads_all : (S : Stream) → intact S ≡ true → (e : ℕ) × Reads (contents S) S (over e)
reads_all (word s w S) i = let x = reads_all S i in (x.0, (s, (S, (refl, x.1))))
reads_all (over s) i = (s, refl)
reads_all (broken n p) i = absurd (grind arith)

pub complete : (S : Stream) (bs : List Block) → Spells bs S → parse S (between []) ≡ Parsing.accepted bs
unfolding parse
complete S bs x =
    let y = reads_all S x.unbroken in
    blocks_through bs [] S (over y.0) (subst (λ (l : List Word). Reads l S (over y.0)) x.same y.1)

-- a stream of words with no places
unfoldable pub in_a_row : List Word → Stream
in_a_row [] = over 0
in_a_row (w ∷ ws) = word 0 w (in_a_row ws)

pub in_a_row_intact : (ws : List Word) → intact (in_a_row ws) ≡ true
unfolding in_a_row
in_a_row_intact [] = refl
in_a_row_intact (w ∷ ws) = in_a_row_intact ws

pub in_a_row_contents : (ws : List Word) → contents (in_a_row ws) ≡ ws
unfolding in_a_row
in_a_row_contents [] = refl
in_a_row_contents (w ∷ ws) = ap (λ (l : List Word). w ∷ l) (in_a_row_contents ws)

pub single : (bs cs : List Block) → theory_words bs ≡ theory_words cs → bs ≡ cs
single bs cs e =
    let S = in_a_row (theory_words bs) in
    let x = complete S bs (record { unbroken = in_a_row_intact (theory_words bs); same = in_a_row_contents (theory_words bs) }) in
    let y = complete S cs (record { unbroken = in_a_row_intact (theory_words bs); same = in_a_row_contents (theory_words bs) ∙ e }) in
    let z : Parsing.accepted bs ≡ Parsing.accepted cs = sym x ∙ y in
    cc
