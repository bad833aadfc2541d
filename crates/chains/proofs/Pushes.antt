-- What `push` does where there is such a bucket, and memory.
use Rattle.std.proofs.Common.{◌≡◌, ℕ, ◌<◌, cond, ltb, [], ◌∷◌, ◌++◌, length, is_ok, Ok, Err, Result, ap, ◌∙◌}
use Rattle.std.proofs.lemmas.Bool.{lt-ltb}
use Rattle.chains.specs.declared.PushError.{PushError}
use Rattle.chains.specs.declared.PushError.TheVariants as refused
use Rattle.chains.specs.Entries.{Entries, with_buckets}

pub pushed : (old new : Entries) (b : ℕ) (r : Result (Unit {0}) PushError) → r ≡ cond (ltb b old.width) (cond (ltb (length old.buckets) old.room) (Ok tt) (Err refused.Full)) (Err refused.NoBucket)
    → new ≡ with_buckets old (cond (is_ok r) (old.buckets ++ b ∷ []) old.buckets) → b < old.width → length old.buckets < old.room
    → (r ≡ Ok tt) × (new ≡ with_buckets old (old.buckets ++ b ∷ []))
pushed old new b r g e w l =
    let o : r ≡ Ok tt =
    g ∙ ap (λ v. cond v (cond (ltb (length old.buckets) old.room) (Ok tt) (Err refused.Full)) (Err refused.NoBucket)) (lt-ltb b old.width w)
    ∙ ap (λ v. cond v (Ok tt) (Err refused.Full)) (lt-ltb (length old.buckets) old.room l) in
    (o, e ∙ ap (λ v. with_buckets old (cond (is_ok v) (old.buckets ++ b ∷ []) old.buckets)) o)
