-- Bytes spelled one behind the other.
use Rattle.std.proofs.Common.{◌≡◌, ℕ, ◌+◌, ◌^◌, ◌<◌, ◌≤◌, List, [], ◌++◌, length, take, drop, sym, ap, ◌∙◌, subst, append_assoc, add-zero, arith, length-append, take-append-drop}
use Rattle.std.proofs.lemmas.List.{length-take-le, drop-drop, take_at, drop_at}
use Rattle.lines.specs.Pages.{written, behind, Spelled}

pub none : (page : List ℕ) (at : ℕ) → at < 2 ^ 64 → Spelled page at [] at page
none page at h = record {
  ends = omega arith;
  wrote = λ _. sym (ap (λ k. take at page ++ drop k page) (add-zero at) ∙ take-append-drop at page);
}

written_behind : (page a b : List ℕ) (at : ℕ) → at + length (a ++ b) ≤ length page
    → written (written page at a) (at + length a) b ≡ written page at (a ++ b)
written_behind page a b at h =
    let front : List ℕ = take at page in
    let back : List ℕ = drop (at + length a) page in
    let sum : length (a ++ b) ≡ length a + length b = length-append a b in
    let l : length (front ++ a) ≡ at + length a =
    length-append front a ∙ ap (λ k. k + length a) (length-take-le at page (omega arith)) in
    let whole : written page at a ≡ (front ++ a) ++ back = sym (append_assoc front a back) in
    let kept : take (at + length a) (written page at a) ≡ front ++ a = ap (take (at + length a)) whole ∙ take_at (front ++ a) back (at + length a) l in
    let rest : drop (at + length a) (written page at a) ≡ back = ap (drop (at + length a)) whole ∙ drop_at (front ++ a) back (at + length a) l in
    let places : (at + length a) + length b ≡ at + length (a ++ b) = omega arith in
    let left : drop ((at + length a) + length b) (written page at a) ≡ drop (at + length (a ++ b)) page =
    sym (drop-drop (length b) (at + length a) (written page at a)) ∙ (ap (drop (length b)) rest
    ∙ (drop-drop (length b) (at + length a) page ∙ ap (λ k. drop k page) places)) in
    ap (λ l. l ++ (b ++ drop ((at + length a) + length b) (written page at a))) kept
    ∙ (ap (λ l. (front ++ a) ++ (b ++ l)) left
    ∙ (append_assoc front a (b ++ drop (at + length (a ++ b)) page)
    ∙ ap (λ l. front ++ l) (sym (append_assoc a b (drop (at + length (a ++ b)) page)))))

pub then : {p q s : List ℕ} {at m e : ℕ} {a b : List ℕ} → length p < 2 ^ 64 → length q ≡ length p
    → Spelled p at a m q → Spelled q m b e s → Spelled p at (a ++ b) e s
then {p} {q} {s} {at} {m} {e} {a} {b} few same x y =
    let sum : length (a ++ b) ≡ length a + length b = length-append a b in
    let first : m ≡ behind at (length a) = x.ends in
    let second : e ≡ behind m (length b) = y.ends in
    record {
      ends = omega arith;
      wrote = λ h.
          let k : m ≡ at + length a = omega arith in
          let w : s ≡ written q m b = y.wrote (omega arith) in
          w ∙ (ap (λ l. written l m b) (x.wrote (omega arith)) ∙ (ap (λ n. written (written p at a) n b) k ∙ written_behind p a b at h));
    }

pub spells : {p s : List ℕ} {at e : ℕ} {a b : List ℕ} → a ≡ b → Spelled p at a e s → Spelled p at b e s
spells {p} {s} {at} {e} same x = subst (λ l. Spelled p at l e s) same x
