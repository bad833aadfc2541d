-- A question has at most one value, and every derivation of it uses Def equally often.
use Rattle.std.proofs.Common.{◌≡◌, ℕ, suc, List, ◌∷◌, refl, ap, ◌∙◌, subst}
use Rattle.terms.specs.declared.items.Atom.{Atom}
use Rattle.terms.specs.Terms.{Terms}
use Rattle.terms.specs.Maps.{Map}
use Rattle.rules.specs.Questions.{Question}
use Rattle.rules.specs.Table.{Site, site, path_asks_lem, Answers, Works, def, end, atom, node, path, uses, uses_in}
use Rattle.terms.proofs.LookUp.{one_longest}

-- a derivation of a question is one of an equal question
pub move : {M : Map} {q q' : Question} {v : List Atom} → q ≡ q' → (d : Answers M q' v) → (e : Answers M q v) × (uses e ≡ uses d)
move {M} {q} {q'} {v} p d =
    let P : Question → Type 0 = λ r. (d : Answers M r v) → (e : Answers M q v) × (uses e ≡ uses d) in
    subst P p (λ d. (d, refl)) d

pub move_in : {M : Map} {q : Question} {k k' : ℕ} {t t' : Terms} {v : List Atom} → k ≡ k' → t ≡ t' → (d : Works M (site q k') t' v)
    → (e : Works M (site q k) t v) × (uses_in e ≡ uses_in d)
move_in {M} {q} {k} {k'} {t} {t'} {v} p r d =
    let P : ℕ → Type 0 = λ j. (d : Works M (site q j) t' v) → (e : Works M (site q k) t v) × (uses_in e ≡ uses_in d) in
    let Q : Terms → Type 0 = λ z. (d : Works M (site q k) z v) → (e : Works M (site q k) t v) × (uses_in e ≡ uses_in d) in
    subst P p (subst Q r (λ d. (d, refl))) d

mutual
  pub same_answer : {M : Map} {q : Question} {v w : List Atom} (d : Answers M q v) (e : Answers M q w) → (v ≡ w) × (uses d ≡ uses e)
  same_answer (def k t l d) (def k' t' l' e) =
      let o = one_longest l l' in
      let m = move_in o.0 o.1 e in
      let h = same_work d m.0 in
      (h.0, ap suc (h.1 ∙ m.1))

  pub same_work : {M : Map} {s : Site} {t : Terms} {v w : List Atom} (d : Works M s t v) (e : Works M s t w) → (v ≡ w) × (uses_in d ≡ uses_in e)
  same_work end end = (refl, refl)
  same_work (atom {a = a} d) (atom e) = let h = same_work d e in (ap (λ v. a ∷ v) h.0, h.1)
  same_work (node a b) (node a' b') =
      let h = same_answer a a' in
      let g = same_work b b' in
      (cc (h.0, g.0), cc (h.1, g.1))
  same_work (path {s = s} {q = q} {n = n} a b c) (path a' b' c') =
      let f = same_work a a' in
      let m = move (ap (path_asks_lem s q n) f.0) b' in
      let h = same_answer b m.0 in
      let g = same_work c c' in
      (cc (h.0, g.0), cc (f.1, h.1, m.1, g.1))
