-- The number of the sentence of a pair, along the chain of its bucket.
use Rattle.std.proofs.Common.{◌≡◌, ℕ, suc, ◌+◌, ◌/◌, ◌<◌, ◌≤◌, Bool, true, false, cond, eqb, List, [], ◌∷◌, ◌++◌, map, length, get_or, take, is_some, IfSome, IfNone, Some, None, Option, sym, ap, ◌∙◌, ⊎_elim, arith}
use lib.ListN.{length-map}
use Rattle.std.specs.List.{slice_get}
use Rattle.std.proofs.lemmas.List.{take_more, map_push, length-take-le}
use Rattle.std.proofs.lemmas.List.Sums.{fold-append}
use Rattle.std.proofs.lemmas.Option.{slice_get-get_or}
use Rattle.std.proofs.lemmas.Nat.{and_le_r}
use Rattle.std.proofs.lemmas.Bool.{eq-eqb, cases_Bool}
use Rattle.terms.specs.declared.items.Node.{Node}
use Rattle.terms.specs.declared.items.Atom.{Atom}
use Rattle.terms.specs.LookUp.{look_up, length_found}
use Rattle.stores.specs.Sentences.{Sentence, map_of, is_pair}
use Rattle.stores.proofs.Pairs.{pair_is}
use Rattle.stores.proofs.Longest.{upto, found_upto}
use Rattle.kept.specs.declared.Room.{Room}
use Rattle.kept.specs.Held.{of_pair, passes, smaller}
use Rattle.kept.proofs.Rooms.{within, within_smaller}
use Rattle.kept.specs.Firsts.{first_by}
use Rattle.kept.proofs.Firsts.{first_other, first_new, first_none, some_first}
use Rattle.chains.specs.Last.{last_by, up_to}
use Rattle.chains.proofs.Lasts.{last_push, same_up}
use Rattle.chains.specs.Found.{IsLastPassing, AllFailFrom}
use Rattle.chains.proofs.Walks.{found_last}
use Rattle.listed.specs.Hash.{mix, mixed, hash_of_lem, bucket, bucket_of_lem}

-- what reads past an end would give
none : Sentence
none = record { node = record { 0 = 0 }; left = []; right = [] }

abbrev pub atom0 : Atom
atom0 = record { 0 = 0 }

abbrev pub pair_bucket : ℕ → Node → List Atom → ℕ
pair_bucket m n l = bucket m (hash_of_lem n l)

bucket_same : (m : ℕ) (n : Node) (l : List Atom) (s : Sentence) → is_pair n l s ≡ true → eqb (pair_bucket m n l) (bucket_of_lem m s) ≡ true
bucket_same m n l s h =
    let p = pair_is n l s h in
    eq-eqb (pair_bucket m n l) (bucket_of_lem m s) (ap (λ x. pair_bucket m x l) p.0 ∙ ap (pair_bucket m s.node) p.1)

abbrev pub Once : List Sentence → Type 0
Once ss = (n : Node) (l : List Atom) → up_to (last_by (is_pair n l) ss) ≡ up_to (first_by (is_pair n l) ss)

-- what is found in the chains is the number of the first sentence of a pair
pub number_found : (m h b : ℕ) (ss : List Sentence) (bs : List ℕ) (n : Node) (l : List Atom) (answers : ℕ → Bool → Type 0) (o : Option ℕ) → bs ≡ map (bucket_of_lem m) ss → Once ss → b ≡ bucket m h → h ≡ hash_of_lem n l
    → ((i : ℕ) (r : Bool) → answers i r → r ≡ of_pair (slice_get ss i) n l) → IfSome o (IsLastPassing bs b answers) → IfNone o (AllFailFrom bs b answers 0) → o ≡ first_by (is_pair n l) ss
number_found m h b ss bs n l answers o eb once ex eh told some none_of =
    let e : b ≡ pair_bucket m n l = ex ∙ ap (bucket m) eh in
    found_last (is_pair n l) (bucket_of_lem m) ss none bs b answers eb (λ s t. ap (λ k. eqb k (bucket_of_lem m s)) e ∙ bucket_same m n l s t)
    (λ i r w a. told i r a ∙ ap (λ x. of_pair x n l) (slice_get-get_or ss i none w)) o some none_of
    ∙ same_up (last_by (is_pair n l) ss) (first_by (is_pair n l) ss) (once n l)

-- ---- one sentence more
pub once_more : (ss ss' : List Sentence) (s : Sentence) → Once ss → is_some (map_of ss s.node s.left) ≡ false → ss' ≡ ss ++ s ∷ [] → Once ss'
once_more ss ss' s once fresh e n l =
    ap (λ x. up_to (last_by (is_pair n l) x)) e
    ∙ ap up_to (last_push (is_pair n l) ss s)
    ∙ ⊎_elim
    (λ (h : is_pair n l s ≡ true).
    let p = pair_is n l s h in
    let f : map_of ss n l ≡ map_of ss s.node s.left = ap (λ x. map_of ss x l) p.0 ∙ ap (map_of ss s.node) p.1 in
    ap (λ b. up_to (cond b (Some (length ss)) (last_by (is_pair n l) ss))) h ∙ sym (ap up_to (first_new (is_pair n l) ss s h (first_none ss n l (ap is_some f ∙ fresh)))))
    (λ (h : is_pair n l s ≡ false).
    ap (λ b. up_to (cond b (Some (length ss)) (last_by (is_pair n l) ss))) h ∙ once n l ∙ sym (ap up_to (first_other (is_pair n l) ss s h)))
    (cases_Bool (is_pair n l s))
    ∙ sym (ap (λ x. up_to (first_by (is_pair n l) x)) e)

pub chained_more : (m : ℕ) (ss ss' : List Sentence) (bs bs' : List ℕ) (s : Sentence) (x h : ℕ) → bs ≡ map (bucket_of_lem m) ss → bs' ≡ bs ++ x ∷ [] → x ≡ bucket m h → h ≡ hash_of_lem s.node s.left → ss' ≡ ss ++ s ∷ []
    → bs' ≡ map (bucket_of_lem m) ss'
chained_more m ss ss' bs bs' s x h eb ex exx eh es =
    ex ∙ ap (λ v. bs ++ v ∷ []) (exx ∙ ap (bucket m) eh) ∙ ap (λ v. v ++ bucket_of_lem m s ∷ []) eb ∙ sym (map_push (bucket_of_lem m) ss s) ∙ ap (map (bucket_of_lem m)) (sym es)

-- the chains take one entry more
pub takes : (m h : ℕ) (most room : Room) (ss : List Sentence) (bs : List ℕ) (a i w r b : ℕ) → passes (smaller most room) ss a i ≡ false → bs ≡ map (bucket_of_lem m) ss → b ≡ bucket m h → m < w → room.sentences ≤ r
    → (b < w) × (length bs < r)
takes m h most room ss bs a i w r b e eb ex l k =
    let n = ap length eb ∙ length-map ss (bucket_of_lem m) in
    let v = (within_smaller most room ss a i (within (smaller most room) ss a i e)).sentences in
    let u = and_le_r (h / 32768) m in
    (omega arith, omega arith)

-- ---- the loops
pub mixed_more : (h x y : ℕ) (p : List Atom) (i : ℕ) → i < length p → x ≡ mixed h (take i p) → y ≡ mix x (get_or p i atom0).0 → y ≡ mixed h (take (i + 1) p)
mixed_more h x y p i l e f = f ∙ ap (λ v. mix v (get_or p i atom0).0) e ∙ sym (fold-append (λ k (a : Atom). mix k a.0) h (take i p) (get_or p i atom0 ∷ [])) ∙ ap (mixed h) (sym (take_more p i atom0 l))

pub best_none : (ss : List Sentence) (n : Node) (p q : List Atom) (best : Option ℕ) → q ≡ [] → best ≡ cond (is_some (first_by (is_pair n q) ss)) (Some (length q)) None → best ≡ upto (map_of ss n) p 0
best_none ss n p q best e b =
    b ∙ ap (λ v. cond (is_some (first_by (is_pair n v) ss)) (Some (length v)) None) e ∙ ap (λ v. cond v (Some 0) None) (sym (some_first ss n []))

pub best_more : (ss : List Sentence) (n : Node) (p q : List Atom) (i : ℕ) (best best' : Option ℕ) → i < length p → q ≡ take (i + 1) p → best ≡ upto (map_of ss n) p i
    → best' ≡ cond (is_some (first_by (is_pair n q) ss)) (Some (length q)) best → best' ≡ upto (map_of ss n) p (i + 1)
best_more ss n p q i best best' l e b b' =
    let s : i + 1 ≡ suc i = omega arith in
    let w : i + 1 ≤ length p = omega arith in
    b' ∙ ap (cond (is_some (first_by (is_pair n q) ss)) (Some (length q))) b
    ∙ ap (λ v. cond (is_some (first_by (is_pair n v) ss)) (Some (length v)) (upto (map_of ss n) p i)) e
    ∙ ap (λ k. cond (is_some (first_by (is_pair n (take (i + 1) p)) ss)) (Some k) (upto (map_of ss n) p i)) (length-take-le (i + 1) p w)
    ∙ ap (λ v. cond v (Some (i + 1)) (upto (map_of ss n) p i)) (sym (some_first ss n (take (i + 1) p)))
    ∙ ap (λ k. cond (is_some (map_of ss n (take k p))) (Some k) (upto (map_of ss n) p i)) s
    ∙ sym (ap (upto (map_of ss n) p) s)

pub best_all : (ss : List Sentence) (n : Node) (p : List Atom) (i : ℕ) (best : Option ℕ) → i ≡ length p → best ≡ upto (map_of ss n) p i → best ≡ length_found (look_up (map_of ss n) p)
best_all ss n p i best e b = b ∙ ap (upto (map_of ss n) p) e ∙ found_upto (map_of ss n) p
