-- Names only grow, and can be cut back.
use Rattle.std.proofs.Common.{◌≡◌, ℕ, Bool, true, false, cond, List, [], ◌∷◌, ◌++◌, length, take, sym, refl, ap, ◌∙◌, subst, append_assoc, append-nil}
use lib.Seq.{take-append_seam}
use Rattle.std.specs.Str.{bytes_eq}
use Rattle.names.specs.Numbers.{met}
use Rattle.words.specs.Words.{Token}
use Rattle.grammar.specs.Texts.{Names, token_names}
use Rattle.questions.specs.Steps.{Longer, Grown, names_with_node, names_with_atom}

same : (a : List (List ℕ)) → Longer a a
same a = ([], sym (append-nil a))

further : (a b c : List (List ℕ)) → Longer a b → Longer b c → Longer a c
further a b c (x, p) (y, q) = (x ++ y, q ∙ ap (λ (l : List (List ℕ)). l ++ y) p ∙ append_assoc a x y)

with_met : (a : List (List ℕ)) (x : List ℕ) → Longer a (met a x)
with_met [] x = (x ∷ [], refl)
with_met (y ∷ ys) x = go (with_met ys x) (bytes_eq y x)
  where
    go : Longer ys (met ys x) → (b : Bool) → Longer (y ∷ ys) (cond b (y ∷ ys) (y ∷ met ys x))
    go m true = same (y ∷ ys)
    go m false = (m.0, ap (λ (l : List (List ℕ)). y ∷ l) m.1)

pub still : (a : Names) → Grown a a
still a = (same a.nodes, same a.atoms)

pub on : (a b c : Names) → Grown a b → Grown b c → Grown a c
on a b c (p, q) (p', q') = (further a.nodes b.nodes c.nodes p p', further a.atoms b.atoms c.atoms q q')

by_token : (a : Names) (t : Token) → Grown a (token_names a t)
by_token a (Token.sign x) = still a
by_token a (Token.node x) = (with_met a.nodes x, same a.atoms)
by_token a (Token.atom x) = (same a.nodes, with_met a.atoms x)
by_token a Token.text_end = still a

-- with a word's name, or without
by_name : (a b : Names) (t : Token) (c : Bool) → b ≡ cond c (token_names a t) a → Grown a b
by_name a b t true e = subst (Grown a) (sym e) (by_token a t)
by_name a b t false e = subst (Grown a) (sym e) (still a)

pub by_node : (a b : Names) (x : List ℕ) → b ≡ names_with_node a x → Grown a b
by_node a b x e = by_name a b (Token.node x) _ e

pub by_atom : (a b : Names) (x : List ℕ) → b ≡ names_with_atom a x → Grown a b
by_atom a b x e = by_name a b (Token.atom x) _ e

-- cut back to as many as there were
back : (a b c : List (List ℕ)) → Longer a b → c ≡ take (length a) b → c ≡ a
back a b c (x, p) e = e ∙ ap (take (length a)) p ∙ take-append_seam a x

pub cut_back : (a b c : Names) (n m : ℕ) → Grown a b → n ≡ length a.nodes → m ≡ length a.atoms → c.nodes ≡ take n b.nodes → c.atoms ≡ take m b.atoms → c ≡ a
cut_back a b c n m (g, h) en em p q =
    let x = back a.nodes b.nodes c.nodes g (p ∙ ap (λ (k : ℕ). take k b.nodes) en) in
    let y = back a.atoms b.atoms c.atoms h (q ∙ ap (λ (k : ℕ). take k b.atoms) em) in
    ap (λ (l : List (List ℕ)). record { nodes = l; atoms = c.atoms }) x ∙ ap (λ (l : List (List ℕ)). record { nodes = a.nodes; atoms = l }) y
