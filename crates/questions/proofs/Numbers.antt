-- The number of a name stays as names are met.
use Rattle.std.proofs.Common.{◌≡◌, ℕ, suc, ◌<◌, Bool, true, false, cond, List, [], ◌∷◌, length, Some, sym, refl, ap, ◌∙◌, subst, arith}
use Rattle.std.specs.Str.{bytes_eq}
use Rattle.std.proofs.lemmas.Slice.Eq.{bytes_eq-Decides}
use Rattle.names.specs.Numbers.{number, met, name_at}
use Rattle.words.specs.Words.{Token}
use Rattle.words.specs.Texts.{Words, end_at, fault_at}
use Rattle.grammar.specs.Texts.{Names, token_names, all_names}

-- the name is in the table
abbrev pub In : List (List ℕ) → List ℕ → Type 0
In ys x = number ys x < length ys

-- a name that is met, and every name that was in the table
pub record Stays (ys zs : List (List ℕ)) (x : List ℕ) : Type 0 where
  pub number_is : number zs x ≡ number ys x
  pub inside : In zs x

pub met_self : (ys : List (List ℕ)) (x : List ℕ) → Stays ys (met ys x) x
met_self [] x = record { number_is = ap (λ (b : Bool). cond b 0 1) ((bytes_eq-Decides x x).1 refl); inside = subst (λ (b : Bool). cond b 0 1 < 1) (sym ((bytes_eq-Decides x x).1 refl)) (omega arith) }
met_self (y ∷ ys) x = go (bytes_eq y x) refl (met_self ys x)
  where
    go : (b : Bool) → bytes_eq y x ≡ b → Stays ys (met ys x) x → Stays (y ∷ ys) (cond b (y ∷ ys) (y ∷ met ys x)) x
    go true e h = record { number_is = refl; inside = subst (λ (b : Bool). cond b 0 (suc (number ys x)) < suc (length ys)) (sym e) (omega arith) }
    go false e h =
        let n = h.number_is in
        let i = h.inside in record {
          number_is = ap (λ (k : ℕ). cond (bytes_eq y x) 0 (suc k)) n;
          inside = subst (λ (b : Bool). cond b 0 (suc (number (met ys x) x)) < suc (length (met ys x))) (sym e) (omega arith);
        }

pub met_other : (ys : List (List ℕ)) (x z : List ℕ) → In ys x → Stays ys (met ys z) x
met_other [] x z h = absurd (omega arith)
met_other (y ∷ ys) x z h = go (bytes_eq y z) (bytes_eq y x) refl h (met_other ys x z)
  where
    go : (b c : Bool) → bytes_eq y x ≡ c → cond c 0 (suc (number ys x)) < suc (length ys) → (In ys x → Stays ys (met ys z) x) → Stays (y ∷ ys) (cond b (y ∷ ys) (y ∷ met ys z)) x
    go true c e h f = record { number_is = refl; inside = subst (λ (b : Bool). cond b 0 (suc (number ys x)) < suc (length ys)) (sym e) h }
    go false true e h f = record {
      number_is = ap (λ (b : Bool). cond b 0 (suc (number (met ys z) x))) e ∙ sym (ap (λ (b : Bool). cond b 0 (suc (number ys x))) e);
      inside = subst (λ (b : Bool). cond b 0 (suc (number (met ys z) x)) < suc (length (met ys z))) (sym e) (omega arith);
    }
    go false false e h f =
        let s = f (omega arith) in
        let n = s.number_is in
        let i = s.inside in record {
          number_is = ap (λ (k : ℕ). cond (bytes_eq y x) 0 (suc k)) n;
          inside = subst (λ (b : Bool). cond b 0 (suc (number (met ys z) x)) < suc (length (met ys z))) (sym e) (omega arith);
        }

stays_on : {ys zs vs : List (List ℕ)} (x : List ℕ) → Stays ys zs x → (In zs x → Stays zs vs x) → Stays ys vs x
stays_on x a f = let b = f a.inside in record { number_is = b.number_is ∙ a.number_is; inside = b.inside }

stays : {ys : List (List ℕ)} (x : List ℕ) → In ys x → Stays ys ys x
stays x i = record { number_is = refl; inside = i }

-- over all words
node_stays : (W : Words) (ns : Names) (x : List ℕ) → In ns.nodes x → Stays ns.nodes (all_names ns W).nodes x
unfolding all_names
node_stays (Words.word s (Token.sign y) e W) ns x i = node_stays W ns x i
node_stays (Words.word s (Token.node y) e W) ns x i = stays_on x (met_other ns.nodes x y i) (node_stays W (token_names ns (Token.node y)) x)
node_stays (Words.word s (Token.atom y) e W) ns x i = node_stays W (token_names ns (Token.atom y)) x i
node_stays (Words.word s Token.text_end e W) ns x i = node_stays W ns x i
node_stays (end_at s) ns x i = stays x i
node_stays (fault_at r s) ns x i = stays x i

atom_stays : (W : Words) (ns : Names) (x : List ℕ) → In ns.atoms x → Stays ns.atoms (all_names ns W).atoms x
unfolding all_names
atom_stays (Words.word s (Token.sign y) e W) ns x i = atom_stays W ns x i
atom_stays (Words.word s (Token.node y) e W) ns x i = atom_stays W (token_names ns (Token.node y)) x i
atom_stays (Words.word s (Token.atom y) e W) ns x i = stays_on x (met_other ns.atoms x y i) (atom_stays W (token_names ns (Token.atom y)) x)
atom_stays (Words.word s Token.text_end e W) ns x i = atom_stays W ns x i
atom_stays (end_at s) ns x i = stays x i
atom_stays (fault_at r s) ns x i = stays x i

-- a word's name has its number for good
pub node_numbered : (ns : Names) (x : List ℕ) (W : Words) → Stays ns.nodes (all_names (token_names ns (Token.node x)) W).nodes x
node_numbered ns x W = stays_on x (met_self ns.nodes x) (node_stays W (token_names ns (Token.node x)) x)

pub atom_numbered : (ns : Names) (x : List ℕ) (W : Words) → Stays ns.atoms (all_names (token_names ns (Token.atom x)) W).atoms x
atom_numbered ns x W = stays_on x (met_self ns.atoms x) (atom_stays W (token_names ns (Token.atom x)) x)

-- the name with that number
pub named : (ys : List (List ℕ)) (x : List ℕ) → In ys x → name_at ys (number ys x) ≡ Some x
named [] x h = absurd (omega arith)
named (y ∷ ys) x h = go (bytes_eq y x) refl h (named ys x)
  where
    go : (b : Bool) → bytes_eq y x ≡ b → cond b 0 (suc (number ys x)) < suc (length ys) → (In ys x → name_at ys (number ys x) ≡ Some x) → name_at (y ∷ ys) (cond b 0 (suc (number ys x))) ≡ Some x
    go true e h f = ap Some ((bytes_eq-Decides y x).0 e)
    go false e h f = f (omega arith)
