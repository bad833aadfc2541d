-- What `insert` does where there is memory.
use Rattle.std.proofs.Common.{◌≡◌, ℕ, ◌<◌, cond, ltb, Ok, Err, OnOk, Result, ap, ◌∙◌, subst}
use Rattle.std.proofs.lemmas.Bool.{lt-ltb}
use Rattle.trie.specs.declared.InsertError.{InsertError}
use Rattle.trie.specs.declared.InsertError.TheVariants as refused

pub inserted : (P : Type 0) (n m : ℕ) (r : Result (Unit {0}) InsertError) → r ≡ cond (ltb n m) (Ok tt) (Err refused.Full) → n < m → OnOk r P → P
inserted P n m r g l h = let e : r ≡ Ok tt = g ∙ ap (λ b. cond b (Ok tt) (Err refused.Full)) (lt-ltb n m l) in subst (λ v. OnOk v P) e h
