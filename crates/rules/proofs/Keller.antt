-- The table of questions and Keller's rules derive the same values, with the same uses of Def.
use Rattle.std.proofs.Common.{◌≡◌, ℕ, suc, ◌+◌, ◌<◌, ◌≤◌, max, ◌⊎◌, List, [], ◌∷◌, ◌++◌, length, take, drop, Some, None, Option, sym, refl, ap, ◌∙◌, subst, inl, inr, append_assoc, append-nil, arith, length-append, take-append-drop, length-take-le}
use mathlib.Core.Path.{subst₃}
use lib.Seq.{take-append_seam, drop-append_seam}
use Rattle.std.proofs.lemmas.Bool.{cases_order}
use Rattle.terms.specs.declared.items.Node.{Node}
use Rattle.terms.specs.declared.items.Atom.{Atom}
use Rattle.terms.specs.declared.items.Quoting.{Quoting}
use Rattle.terms.specs.declared.items.Quoting.TheVariants.{Plain, Quoted}
use Rattle.terms.specs.Limits.{path_limit}
use Rattle.terms.specs.Terms.{Terms}
use Rattle.terms.specs.Maps.{Map, Longest}
use Rattle.terms.specs.LookUp.{found, look_up}
use Rattle.terms.proofs.Impossible.{impossible}
use Rattle.rules.specs.Questions.{Context, Question, own, same}
use Rattle.rules.specs.Table.{Site, site, path_asks_lem, Answers, Works, def, end, atom, node, path, uses, uses_in, deepest, deepest_in, Narrow, NarrowIn, Fits}
use Rattle.rules.specs.Keller.{Desc, Descs, ◌:⟨◌⟩, “◌:⟨◌⟩”, “⟨◌⟩”, “◌”, ε, ◌▸◌, ◌⧺◌, val, Theory, MostSpecific, context, ◌∣◌⊢◌⇒₍◌₎◌}
use Rattle.rules.specs.Keller.{Val, Def, Seq, Sub₁, Sub₂, Sub₃, Quo₁, Quo₂, Quo₃, Ext, def_uses, written_out, sentence_of, theory, def_depth, Slim, Within, Derives}
use Rattle.rules.specs.Theorems.{MostSpecificIsFound, TableDerivesAsKeller}
use Rattle.terms.proofs.LookUp.{look_up_finds_the_longest_lem}

-- the longest left path, by its length and as a prefix

no_sentence : (M : Map) (N : Node) (α : List Atom) (ψ : Descs) → M N α ≡ None → theory M N α ≡ Some ψ → ⊥
no_sentence M N α ψ e s = impossible (cc (ap (sentence_of N α) e))

most_specific : {M : Map} {N : Node} {p : List Atom} {k : ℕ} {t : Terms} → Longest M N p k t
    → MostSpecific (theory M) N (take k p) (drop k p) (written_out N (take k p) t)
most_specific {M} {N} {p} {k} {t} l = record {
  sentence = ap (sentence_of N (take k p)) l.sentence;
  longest = λ α γ ψ e s. go α γ ψ (e ∙ take-append-drop k p) s (cases_order k (length α));
}
  where
    go : (α γ : List Atom) (ψ : Descs) → α ++ γ ≡ p → theory M N α ≡ Some ψ → (k ≡ length α) ⊎ ((k < length α) ⊎ (length α < k)) → length α ≤ length (take k p)
    go α γ ψ e s (inl h) = omega (arith, length-take-le k p l.within)
    go α γ ψ e s (inr (inr h)) = omega (arith, length-take-le k p l.within)
    go α γ ψ e s (inr (inl h)) =
        let a : take (length α) p ≡ α = ap (take (length α)) (sym e) ∙ take-append_seam α γ in
        let b : length α ≤ length p = omega (arith, length-append α γ, ap length e) in
        let c : M N α ≡ None = rw a at (l.longest (length α) h b) in
        absurd (no_sentence M N α ψ c s)

-- a derivation by Keller's rules, in n uses of Def and k of them on a branch, slim if L holds
record Derived (T : Theory) (C : Context) (φ : Descs) (γ v : List Atom) (n k : ℕ) (L : Type 0) : Type 0 where
  tree : T ∣ C ⊢ φ ⇒₍ γ ₎ v
  counts : def_uses tree ≡ n
  depth : def_depth tree ≡ k
  slim : L → Slim tree

seq : {T : Theory} {C : Context} {φ ψ : Descs} {γ v w : List Atom} {i j k l : ℕ} {L K : Type 0} → Derived T C φ γ v i k L → Derived T C ψ γ w j l K
    → Derived T C (φ ⧺ ψ) γ (v ++ w) (i + j) (max k l) (L × K)
seq a b = record { tree = Seq a.tree b.tree; counts = omega arith; depth = omega arith; slim = λ x. (a.slim x.0, b.slim x.1) }

-- a question, of its path without the extension
ext : {T : Theory} {C : Context} {N : Node} {γ v p : List Atom} {i k : ℕ} {L : Type 0} (α : List Atom) → α ++ γ ≡ p
    → Derived T C (N :⟨ val p ⟩ ▸ ε) [] v i k L → Derived T C (N :⟨ val α ⟩ ▸ ε) γ v i k L
ext {T} {C} {N} {γ} {v} {p} {i} {k} {L} α h a =
    let P : List Atom → Type 0 = λ p. Derived T C (N :⟨ val p ⟩ ▸ ε) [] v i k L in
    let b : P (α ++ γ) = subst P (sym h) a in
    record { tree = Ext α b.tree; counts = b.counts; depth = b.depth; slim = b.slim }

quo₁ : {T : Theory} {C : Context} {N : Node} {γ v : List Atom} {i k : ℕ} {L : Type 0} (α : List Atom)
    → Derived T (context N (α ++ γ)) (N :⟨ val α ⟩ ▸ ε) γ v i k L → Derived T C (“ N :⟨ val α ⟩” ▸ ε) γ v i k L
quo₁ α a = record { tree = Quo₁ α a.tree; counts = a.counts; depth = a.depth; slim = a.slim }

quo₂ : {T : Theory} {C : Context} {γ v : List Atom} {i k : ℕ} {L : Type 0} (α : List Atom)
    → Derived T (context C.node (α ++ γ)) (C.node :⟨ val α ⟩ ▸ ε) γ v i k L → Derived T C (“⟨ val α ⟩” ▸ ε) γ v i k L
quo₂ α a = record { tree = Quo₂ α a.tree; counts = a.counts; depth = a.depth; slim = a.slim }

quo₃ : {T : Theory} {C : Context} {N : Node} {γ v : List Atom} {i k : ℕ} {L : Type 0}
    → Derived T (context N (C.path ++ γ)) (N :⟨ val C.path ⟩ ▸ ε) γ v i k L → Derived T C (“ N ” ▸ ε) γ v i k L
quo₃ {C = C} a = record { tree = Quo₃ C.path a.tree; counts = a.counts; depth = a.depth; slim = a.slim }

module _ {T : Theory} {C : Context} {φ : Descs} {γ u v : List Atom} {i j k l : ℕ} {L K : Type 0} (a : Derived T C φ γ u i k L) where
  sub₁ : {N : Node} → Derived T C (N :⟨ val u ⟩ ▸ ε) γ v j l K → Derived T C (N :⟨ φ ⟩ ▸ ε) γ v (i + j) (max k l) ((length u ≤ path_limit) × L × K)
  sub₁ b = record { tree = Sub₁ a.tree b.tree; counts = omega arith; depth = omega arith; slim = λ x. (x.0, a.slim x.1, b.slim x.2) }

  sub₂ : {N : Node} → Derived T C (“ N :⟨ val u ⟩” ▸ ε) γ v j l K → Derived T C (“ N :⟨ φ ⟩” ▸ ε) γ v (i + j) (max k l) ((length u ≤ path_limit) × L × K)
  sub₂ b = record { tree = Sub₂ a.tree b.tree; counts = omega arith; depth = omega arith; slim = λ x. (x.0, a.slim x.1, b.slim x.2) }

  sub₃ : Derived T C (“⟨ val u ⟩” ▸ ε) γ v j l K → Derived T C (“⟨ φ ⟩” ▸ ε) γ v (i + j) (max k l) ((length u ≤ path_limit) × L × K)
  sub₃ b = record { tree = Sub₃ a.tree b.tree; counts = omega arith; depth = omega arith; slim = λ x. (x.0, a.slim x.1, b.slim x.2) }

retold : {T : Theory} {C : Context} {φ : Descs} {γ v : List Atom} {i j k l : ℕ} {L K : Type 0} → i ≡ j → k ≡ l → (K → L)
    → Derived T C φ γ v i k L → Derived T C φ γ v j l K
retold e f g a = record { tree = a.tree; counts = a.counts ∙ e; depth = a.depth ∙ f; slim = λ x. a.slim (g x) }

mutual
  derives : {M : Map} {q : Question} {v : List Atom} (d : Answers M q v)
      → Derived (theory M) q.context (q.node :⟨ val q.path ⟩ ▸ ε) [] v (uses d) (deepest d) (Narrow d)
  derives {M} (def {q = q} {v = v} k t l w) =
      let a = derives_in w (take k q.path) (take-append-drop k q.path) in
      let e : take k q.path ++ drop k q.path ≡ q.path = take-append-drop k q.path in
      let P : List Atom → Type 0 = λ p. Derived (theory M) q.context (q.node :⟨ val p ⟩ ▸ ε) [] v (suc (uses_in w)) (suc (deepest_in w))
      ((length p ≤ path_limit) × NarrowIn w) in
      subst P e
      (record { tree = Def (most_specific l) a.tree; counts = ap suc a.counts; depth = ap suc a.depth; slim = λ x. (x.0, a.slim x.1) })

  derives_in : {M : Map} {s : Site} {t : Terms} {v : List Atom} (w : Works M s t v) (α : List Atom) → α ++ s.extension ≡ s.at.path
      → Derived (theory M) s.at.context (written_out s.at.node α t) s.extension v (uses_in w) (deepest_in w) (NarrowIn w)
  derives_in end α h = record { tree = Val; counts = refl; depth = refl; slim = λ x. tt }
  derives_in (atom {a = a} w) α h =
      let b = derives_in w α h in
      record { tree = Seq (Val {α = a ∷ []}) b.tree; counts = omega arith; depth = omega arith; slim = λ x. (tt, b.slim x) }
  derives_in (node {q = Plain} a b) α h = seq (ext α h (derives a)) (derives_in b α h)
  derives_in (node {s = s} {q = Quoted} a b) α h = seq (quo₃ (ext s.at.context.path refl (derives a))) (derives_in b α h)
  derives_in (path {q = Plain} {n = Some n} {u = u} a b c) α h =
      retold (omega arith) (omega arith) (λ x. ((x.0, x.1, x.2), x.3))
      (seq (sub₁ (derives_in a α h) (ext u refl (derives b))) (derives_in c α h))
  derives_in (path {q = Plain} {n = None} {u = u} a b c) α h =
      retold (omega arith) (omega arith) (λ x. ((x.0, x.1, x.2), x.3))
      (seq (sub₁ (derives_in a α h) (ext u refl (derives b))) (derives_in c α h))
  derives_in (path {q = Quoted} {n = Some n} {u = u} a b c) α h =
      retold (omega arith) (omega arith) (λ x. ((x.0, x.1, x.2), x.3))
      (seq (sub₂ (derives_in a α h) (quo₁ u (ext u refl (derives b)))) (derives_in c α h))
  derives_in (path {q = Quoted} {n = None} {u = u} a b c) α h =
      retold (omega arith) (omega arith) (λ x. ((x.0, x.1, x.2), x.3))
      (seq (sub₃ (derives_in a α h) (quo₂ u (ext u refl (derives b)))) (derives_in c α h))

-- from Keller's rules

-- a derivation by the table, in n uses of Def and k of them on a branch, narrow if L holds
pub record Asked (M : Map) (q : Question) (v : List Atom) (n k : ℕ) (L : Type 0) : Type 0 where
  pub tree : Answers M q v
  pub counts : uses tree ≡ n
  pub depth : deepest tree ≡ k
  pub narrow : L → Narrow tree

record Worked (M : Map) (s : Site) (t : Terms) (v : List Atom) (n k : ℕ) (L : Type 0) : Type 0 where
  tree : Works M s t v
  counts : uses_in tree ≡ n
  depth : deepest_in tree ≡ k
  narrow : L → NarrowIn tree

-- What a sequence of descriptors gives in the context C with the extension γ, and in how many uses of Def: the values of its parts, joined.
data Gives (M : Map) (C : Context) (γ : List Atom) (L : Type 0) : Descs → List Atom → ℕ → ℕ → Type 0 where
  nothing : Gives M C γ L ε [] 0 0
  itself : {a : Atom} {ψ : Descs} {w : List Atom} {n k : ℕ} → Gives M C γ L ψ w n k → Gives M C γ L (Desc.atom a ▸ ψ) (a ∷ w) n k
  pair : {N : Node} {φ ψ : Descs} {u v w : List Atom} {n k n' k' n'' k'' : ℕ}
      → Gives M C γ L φ u n k → Asked M (same C N (u ++ γ)) v n' k' L → Gives M C γ L ψ w n'' k''
      → Gives M C γ L (N :⟨ φ ⟩ ▸ ψ) (v ++ w) (n + (n' + n'')) (max k (max k' k''))
  quoted_pair : {N : Node} {φ ψ : Descs} {u v w : List Atom} {n k n' k' n'' k'' : ℕ}
      → Gives M C γ L φ u n k → Asked M (own N (u ++ γ)) v n' k' L → Gives M C γ L ψ w n'' k''
      → Gives M C γ L (“ N :⟨ φ ⟩” ▸ ψ) (v ++ w) (n + (n' + n'')) (max k (max k' k''))
  quoted_path : {φ ψ : Descs} {u v w : List Atom} {n k n' k' n'' k'' : ℕ}
      → Gives M C γ L φ u n k → Asked M (own C.node (u ++ γ)) v n' k' L → Gives M C γ L ψ w n'' k''
      → Gives M C γ L (“⟨ φ ⟩” ▸ ψ) (v ++ w) (n + (n' + n'')) (max k (max k' k''))
  quoted_node : {N : Node} {ψ : Descs} {v w : List Atom} {n k n' k' : ℕ}
      → Asked M (own N (C.path ++ γ)) v n k L → Gives M C γ L ψ w n' k'
      → Gives M C γ L (“ N ” ▸ ψ) (v ++ w) (n + n') (max k k')

to : {M : Map} {C : Context} {γ : List Atom} {L : Type 0} {φ : Descs} {v v' : List Atom} {n n' k k' : ℕ} → v ≡ v' → n ≡ n' → k ≡ k'
    → Gives M C γ L φ v n k → Gives M C γ L φ v' n' k'
to {M} {C} {γ} {L} {φ} d e f g = subst₃ (λ v n k. Gives M C γ L φ v n k) d e f g

asked_of : {M : Map} {q q' : Question} {v : List Atom} {n k : ℕ} {L : Type 0} → q ≡ q' → Asked M q v n k L → Asked M q' v n k L
asked_of {M} {q} {q'} {v} {n} {k} {L} e a = subst (λ q. Asked M q v n k L) e a

asked_to : {M : Map} {q : Question} {v v' : List Atom} {n n' k k' : ℕ} {L : Type 0} → v ≡ v' → n ≡ n' → k ≡ k' → Asked M q v n k L → Asked M q v' n' k' L
asked_to {M} {q} {L = L} d e f a = subst₃ (λ v n k. Asked M q v n k L) d e f a

asked_if : {M : Map} {q : Question} {v : List Atom} {n k : ℕ} {L K : Type 0} → (K → L) → Asked M q v n k L → Asked M q v n k K
asked_if f a = record { tree = a.tree; counts = a.counts; depth = a.depth; narrow = λ x. a.narrow (f x) }

gives_if : {M : Map} {C : Context} {γ : List Atom} {L K : Type 0} {φ : Descs} {v : List Atom} {n k : ℕ} → (K → L) → Gives M C γ L φ v n k → Gives M C γ K φ v n k
gives_if f nothing = nothing
gives_if f (itself g) = itself (gives_if f g)
gives_if f (pair a b g) = pair (gives_if f a) (asked_if f b) (gives_if f g)
gives_if f (quoted_pair a b g) = quoted_pair (gives_if f a) (asked_if f b) (gives_if f g)
gives_if f (quoted_path a b g) = quoted_path (gives_if f a) (asked_if f b) (gives_if f g)
gives_if f (quoted_node b g) = quoted_node (asked_if f b) (gives_if f g)

-- a value gives itself, and nothing else

gives_val : {M : Map} {C : Context} {γ : List Atom} {L : Type 0} (α : List Atom) → Gives M C γ L (val α) α 0 0
gives_val [] = nothing
gives_val (a ∷ α) = itself (gives_val α)

val_gives : {M : Map} {C : Context} {γ : List Atom} {L : Type 0} (α : List Atom) {v : List Atom} {n k : ℕ} → Gives M C γ L (val α) v n k
    → (v ≡ α) × (n ≡ 0) × (k ≡ 0)
val_gives [] nothing = (refl, refl, refl)
val_gives (a ∷ α) (itself g) = let h = val_gives α g in (ap (λ v. a ∷ v) h.0, h.1, h.2)

module _ {M : Map} {C : Context} {γ : List Atom} {L : Type 0} where
  -- one descriptor
  a_pair : {N : Node} {φ : Descs} {u v : List Atom} {n k n' k' : ℕ} → Gives M C γ L φ u n k → Asked M (same C N (u ++ γ)) v n' k' L
      → Gives M C γ L (N :⟨ φ ⟩ ▸ ε) v (n + n') (max k k')
  a_pair {v = v} g a = to (append-nil v) (omega arith) (omega arith) (pair g a nothing)

  a_quoted_pair : {N : Node} {φ : Descs} {u v : List Atom} {n k n' k' : ℕ} → Gives M C γ L φ u n k → Asked M (own N (u ++ γ)) v n' k' L
      → Gives M C γ L (“ N :⟨ φ ⟩” ▸ ε) v (n + n') (max k k')
  a_quoted_pair {v = v} g a = to (append-nil v) (omega arith) (omega arith) (quoted_pair g a nothing)

  a_quoted_path : {φ : Descs} {u v : List Atom} {n k n' k' : ℕ} → Gives M C γ L φ u n k → Asked M (own C.node (u ++ γ)) v n' k' L
      → Gives M C γ L (“⟨ φ ⟩” ▸ ε) v (n + n') (max k k')
  a_quoted_path {v = v} g a = to (append-nil v) (omega arith) (omega arith) (quoted_path g a nothing)

  a_quoted_node : {N : Node} {v : List Atom} {n k : ℕ} → Asked M (own N (C.path ++ γ)) v n k L → Gives M C γ L (“ N ” ▸ ε) v n k
  a_quoted_node {v = v} a = to (append-nil v) (omega arith) (omega arith) (quoted_node a nothing)

  of_pair : {N : Node} (α : List Atom) {v : List Atom} {n k : ℕ} → Gives M C γ L (N :⟨ val α ⟩ ▸ ε) v n k → Asked M (same C N (α ++ γ)) v n k L
  of_pair {N} α (pair {v = v} g a nothing) =
      let h = val_gives α g in
      asked_of (ap (λ u. same C N (u ++ γ)) h.0) (asked_to (sym (append-nil v)) (omega arith) (omega arith) a)

  of_quoted_pair : {N : Node} (α : List Atom) {v : List Atom} {n k : ℕ} → Gives M C γ L (“ N :⟨ val α ⟩” ▸ ε) v n k → Asked M (own N (α ++ γ)) v n k L
  of_quoted_pair {N} α (quoted_pair {v = v} g a nothing) =
      let h = val_gives α g in
      asked_of (ap (λ u. own N (u ++ γ)) h.0) (asked_to (sym (append-nil v)) (omega arith) (omega arith) a)

  of_quoted_path : (α : List Atom) {v : List Atom} {n k : ℕ} → Gives M C γ L (“⟨ val α ⟩” ▸ ε) v n k → Asked M (own C.node (α ++ γ)) v n k L
  of_quoted_path α (quoted_path {v = v} g a nothing) =
      let h = val_gives α g in
      asked_of (ap (λ u. own C.node (u ++ γ)) h.0) (asked_to (sym (append-nil v)) (omega arith) (omega arith) a)

  -- sequences joined
  gives_seq : {φ ψ : Descs} {v w : List Atom} {n k n' k' : ℕ} → Gives M C γ L φ v n k → Gives M C γ L ψ w n' k'
      → Gives M C γ L (φ ⧺ ψ) (v ++ w) (n + n') (max k k')
  gives_seq nothing h = to refl (omega arith) (omega arith) h
  gives_seq (itself g) h = itself (gives_seq g h)
  gives_seq {w = z} (pair {v = v} {w = w} a b g) h = to (sym (append_assoc v w z)) (omega arith) (omega arith) (pair a b (gives_seq g h))
  gives_seq {w = z} (quoted_pair {v = v} {w = w} a b g) h = to (sym (append_assoc v w z)) (omega arith) (omega arith) (quoted_pair a b (gives_seq g h))
  gives_seq {w = z} (quoted_path {v = v} {w = w} a b g) h = to (sym (append_assoc v w z)) (omega arith) (omega arith) (quoted_path a b (gives_seq g h))
  gives_seq {w = z} (quoted_node {v = v} {w = w} b g) h = to (sym (append_assoc v w z)) (omega arith) (omega arith) (quoted_node b (gives_seq g h))

-- the inside of a path is no longer than the question that it leads to
inside_narrow : {M : Map} {q : Question} {v : List Atom} (u γ : List Atom) → u ++ γ ≡ q.path → (d : Answers M q v) → Narrow d → length u ≤ path_limit
inside_narrow u γ e (def k t l w) x = omega (arith, length-append u γ, ap length e, x.0)

a_path : {M : Map} {q : Quoting} {n : Option Node} {φ rest : Terms} {v w : List Atom} {i k i' k' i'' k'' : ℕ} {L : Type 0} (s : Site) (u : List Atom)
    → Worked M s φ u i k L → Asked M (path_asks_lem s q n u) v i' k' L → u ++ s.extension ≡ (path_asks_lem s q n u).path → Worked M s rest w i'' k'' L
    → Worked M s (Terms.path q n φ rest) (v ++ w) (i + (i' + i'')) (max k (max k' k'')) L
a_path s u a b e c = record {
  tree = path a.tree b.tree c.tree;
  counts = omega arith;
  depth = omega arith;
  narrow = λ l. (inside_narrow u s.extension e b.tree (b.narrow l), a.narrow l, b.narrow l, c.narrow l);
}

-- a right side, written out, gives what its terms give
works : (M : Map) (L : Type 0) (s : Site) (α : List Atom) → α ++ s.extension ≡ s.at.path → (t : Terms) {v : List Atom} {n k : ℕ}
    → Gives M s.at.context s.extension L (written_out s.at.node α t) v n k → Worked M s t v n k L
works M L s α h Terms.done nothing = record { tree = end; counts = refl; depth = refl; narrow = λ x. tt }
works M L s α h (Terms.atom a rest) (itself g) =
    let w = works M L s α h rest g in
    record { tree = atom w.tree; counts = w.counts; depth = w.depth; narrow = w.narrow }
works M L s α h (Terms.node Plain n rest) (pair a b g) =
    let e = val_gives α a in
    let x = asked_of (ap (λ u. same s.at.context n (u ++ s.extension)) e.0 ∙ ap (same s.at.context n) h) b in
    let w = works M L s α h rest g in
    record {
      tree = node x.tree w.tree;
      counts = omega (arith, e.1);
      depth = omega (arith, e.2);
      narrow = λ l. (x.narrow l, w.narrow l);
    }
works M L s α h (Terms.node Quoted n rest) (quoted_node b g) =
    let w = works M L s α h rest g in
    record { tree = node b.tree w.tree; counts = omega arith; depth = omega arith; narrow = λ l. (b.narrow l, w.narrow l) }
works M L s α h (Terms.path Plain (Some n) φ rest) (pair {u = u} a b g) = a_path s u (works M L s α h φ a) b refl (works M L s α h rest g)
works M L s α h (Terms.path Plain None φ rest) (pair {u = u} a b g) = a_path s u (works M L s α h φ a) b refl (works M L s α h rest g)
works M L s α h (Terms.path Quoted (Some n) φ rest) (quoted_pair {u = u} a b g) = a_path s u (works M L s α h φ a) b refl (works M L s α h rest g)
works M L s α h (Terms.path Quoted None φ rest) (quoted_path {u = u} a b g) = a_path s u (works M L s α h φ a) b refl (works M L s α h rest g)

-- the sentence that is most specific is the one that the look-up finds

record Looked (M : Map) (N : Node) (α γ : List Atom) (φ : Descs) : Type 0 where
  terms : Terms
  is : φ ≡ written_out N α terms
  longest : Longest M N (α ++ γ) (length α) terms

looked : {M : Map} {N : Node} {α γ : List Atom} {φ : Descs} → MostSpecific (theory M) N α γ φ → Looked M N α γ φ
looked {M} {N} {α} {γ} {φ} l = go (M N α) refl
  where
    none : (j : ℕ) → length α < j → j ≤ length (α ++ γ) → (o : Option Terms) → M N (take j (α ++ γ)) ≡ o → M N (take j (α ++ γ)) ≡ None
    none j i m None e = e
    none j i m (Some t) e =
        let h = l.longest (take j (α ++ γ)) (drop j (α ++ γ)) (written_out N (take j (α ++ γ)) t) (take-append-drop j (α ++ γ)) (ap (sentence_of N (take j (α ++ γ))) e) in
        absurd (omega (arith, length-take-le j (α ++ γ) m))

    go : (o : Option Terms) → M N α ≡ o → Looked M N α γ φ
    go None e = absurd (no_sentence M N α φ e l.sentence)
    go (Some t) e = record {
      terms = t;
      is = let a : sentence_of N α (Some t) ≡ Some φ = ap (sentence_of N α) (sym e) ∙ l.sentence in cc;
      longest = record {
        within = omega (arith, length-append α γ);
        sentence = ap (M N) (take-append_seam α γ) ∙ e;
        longest = λ j i m. none j i m (M N (take j (α ++ γ))) refl;
      };
    }

answered : {M : Map} {C : Context} {N : Node} {α γ β : List Atom} {φ : Descs} {n k : ℕ} {L : Type 0} → MostSpecific (theory M) N α γ φ
    → Gives M C γ L φ β n k → Asked M (same C N (α ++ γ)) β (suc n) (suc k) ((length (α ++ γ) ≤ path_limit) × L)
answered {M} {C} {N} {α} {γ} {β} {φ} {n} {k} {L} l g =
    let o = looked l in
    let q : Question = same C N (α ++ γ) in
    let s : Site = site q (length α) in
    let a : Gives M C γ L (written_out N α o.terms) β n k = subst (λ φ. Gives M C γ L φ β n k) o.is g in
    let b : Gives M C s.extension L (written_out N α o.terms) β n k =
    subst (λ γ. Gives M C γ L (written_out N α o.terms) β n k) (sym (drop-append_seam α γ)) a in
    let w = works M L s α (ap (λ x. α ++ x) (drop-append_seam α γ)) o.terms b in
    record {
      tree = def (length α) o.terms o.longest w.tree;
      counts = ap suc w.counts;
      depth = ap suc w.depth;
      narrow = λ x. (x.0, w.narrow x.1);
    }

gives : {M : Map} {C : Context} {φ : Descs} {γ β : List Atom} (d : theory M ∣ C ⊢ φ ⇒₍ γ ₎ β) → Gives M C γ (Slim d) φ β (def_uses d) (def_depth d)
gives (Val {α = α}) = gives_val α
gives {M} {C} (Def {N = N} {α = α} {γ = γ} l d) =
    to refl (omega arith) (omega arith)
    (a_pair (gives_val (α ++ γ)) (asked_of (ap (same C N) (sym (append-nil (α ++ γ)))) (answered l (gives d))))
gives (Seq d e) = gives_seq (gives_if (λ x. x.0) (gives d)) (gives_if (λ x. x.1) (gives e))
gives (Sub₁ {α = α} d e) = a_pair (gives_if (λ x. x.1) (gives d)) (asked_if (λ x. x.2) (of_pair α (gives e)))
gives (Sub₂ {α = α} d e) = a_quoted_pair (gives_if (λ x. x.1) (gives d)) (asked_if (λ x. x.2) (of_quoted_pair α (gives e)))
gives (Sub₃ {α = α} d e) = a_quoted_path (gives_if (λ x. x.1) (gives d)) (asked_if (λ x. x.2) (of_quoted_path α (gives e)))
gives (Quo₁ α d) = to refl (omega arith) (omega arith) (a_quoted_pair (gives_val α) (of_pair α (gives d)))
gives (Quo₂ α d) = to refl (omega arith) (omega arith) (a_quoted_path (gives_val α) (of_pair α (gives d)))
gives (Quo₃ α d) = a_quoted_node (of_pair α (gives d))
gives {C = C} (Ext {N = N} {γ = γ} α d) =
    to refl (omega arith) (omega arith)
    (a_pair (gives_val α) (asked_of (ap (same C N) (append-nil (α ++ γ))) (of_pair (α ++ γ) (gives d))))

-- a derivation of a question by Keller's rules is one by the table
pub by_table : {M : Map} {q : Question} {v : List Atom} (d : Derives M q v) → Asked M q v (def_uses d) (def_depth d) (Slim d)
by_table {q = q} d = asked_of (ap (same q.context q.node) (append-nil q.path)) (of_pair q.path (gives d))

pub table_derives_as_Keller : TableDerivesAsKeller
table_derives_as_Keller M q v n = ((there, back), (there_fits, back_fits))
  where
    there : (d : Answers M q v) × (uses d ≡ n) → (d : Derives M q v) × (def_uses d ≡ n)
    there x = let a = derives x.0 in (a.tree, a.counts ∙ x.1)

    back : (d : Derives M q v) × (def_uses d ≡ n) → (d : Answers M q v) × (uses d ≡ n)
    back x = let a = by_table x.0 in (a.tree, a.counts ∙ x.1)

    there_fits : (d : Answers M q v) × Fits d × (uses d ≡ n) → (d : Derives M q v) × Within d × (def_uses d ≡ n)
    there_fits x =
        let a = derives x.0 in
        (a.tree, record { slim = a.slim x.1.narrow; branches = omega (arith, a.depth, x.1.branches); short = x.1.short }, a.counts ∙ x.2)

    back_fits : (d : Derives M q v) × Within d × (def_uses d ≡ n) → (d : Answers M q v) × Fits d × (uses d ≡ n)
    back_fits x =
        let a = by_table x.0 in
        (a.tree, record { narrow = a.narrow x.1.slim; branches = omega (arith, a.depth, x.1.branches); short = x.1.short }, a.counts ∙ x.2)

pub most_specific_is_found_lem : MostSpecificIsFound
most_specific_is_found_lem M N α γ φ = (there, back)
  where
    there : MostSpecific (theory M) N α γ φ → (t : Terms) × (look_up (M N) (α ++ γ) ≡ found (length α) t) × (φ ≡ written_out N α t)
    there l = let o = looked l in (o.terms, ((look_up_finds_the_longest_lem M N (α ++ γ)).0 (length α) o.terms).1 o.longest, o.is)

    back : ((t : Terms) × (look_up (M N) (α ++ γ) ≡ found (length α) t) × (φ ≡ written_out N α t)) → MostSpecific (theory M) N α γ φ
    back x =
        let l = most_specific (((look_up_finds_the_longest_lem M N (α ++ γ)).0 (length α) x.0).0 x.1) in
        let P : List Atom → List Atom → Descs → Type 0 = λ a c d. MostSpecific (theory M) N a c d in
        subst₃ P (take-append_seam α γ) (drop-append_seam α γ) (ap (λ a. written_out N a x.0) (take-append_seam α γ) ∙ sym x.2) l
