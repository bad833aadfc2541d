-- The search for a child along the chain of its bucket.
use Rattle.std.proofs.Common.{◌≡◌, ℕ, ◌<◌, Bool, IfSome, IfNone, true, eqb, List, map, length, get_or, Option, ap, ◌∙◌}
use Rattle.std.proofs.lemmas.Bool.{eq-eqb}
use Rattle.chains.specs.Last.{last_by}
use Rattle.chains.specs.Found.{IsLastPassing, AllFailFrom}
use Rattle.chains.proofs.Walks.{found_last}
use Rattle.trie.specs.declared.Edge.{Edge}
use Rattle.std.specs.List.{slice_get}
use Rattle.std.proofs.lemmas.Option.{slice_get-get_or}
use Rattle.trie.specs.Ways.{blank, edge, is_edge, is_the_edge, bucket_of_lem, bucket}
use Rattle.trie.proofs.Grows.{edge_is}

edge_bucket : (p a : ℕ) (e : Edge) → is_edge p a e ≡ true → eqb (bucket p a) (bucket_of_lem e) ≡ true
edge_bucket p a e h = let q = edge_is p a e h in eq-eqb (bucket p a) (bucket_of_lem e) (ap (λ x. bucket x a) q.0 ∙ ap (bucket e.parent) q.1)

-- What is found in the chains leads to the child, where the test answers for each edge whether it is this one.
module _ (es : List Edge) (bs : List ℕ) (p a b : ℕ) (answers : ℕ → Bool → Type 0) (o : Option ℕ) (eb : bs ≡ map bucket_of_lem es) (ex : b ≡ bucket p a) where
  found_child : ((i : ℕ) (r : Bool) → i < length es → answers i r → r ≡ is_edge p a (get_or es i blank)) → IfSome o (IsLastPassing bs b answers) → IfNone o (AllFailFrom bs b answers 0) → o ≡ last_by (is_edge p a) es
  found_child told some none = found_last (is_edge p a) bucket_of_lem es blank bs b answers eb (λ e t. ap (λ k. eqb k (bucket_of_lem e)) ex ∙ edge_bucket p a e t) told o some none

-- ... also where it is said for numbers past the last edge as for a blank one
pub child_found : (es : List Edge) (bs : List ℕ) (p a b : ℕ) (answers : ℕ → Bool → Type 0) (o : Option ℕ) → bs ≡ map bucket_of_lem es → b ≡ bucket p a
    → ((i : ℕ) (r : Bool) → answers i r → r ≡ is_edge p a (get_or es i blank)) → IfSome o (IsLastPassing bs b answers) → IfNone o (AllFailFrom bs b answers 0) → o ≡ last_by (is_edge p a) es
child_found es bs p a b answers o eb ex told some none = found_child es bs p a b answers o eb ex (λ i r w h. told i r h) some none

-- ... or no past the last edge
pub edge_found : (es : List Edge) (bs : List ℕ) (p a b : ℕ) (answers : ℕ → Bool → Type 0) (o : Option ℕ) → bs ≡ map bucket_of_lem es → b ≡ bucket p a
    → ((i : ℕ) (r : Bool) → answers i r → r ≡ is_the_edge (edge p a) (slice_get es i)) → IfSome o (IsLastPassing bs b answers) → IfNone o (AllFailFrom bs b answers 0) → o ≡ last_by (is_edge p a) es
edge_found es bs p a b answers o eb ex told some none = found_child es bs p a b answers o eb ex (λ i r w h. told i r h ∙ ap (is_the_edge (edge p a)) (slice_get-get_or es i blank w)) some none
