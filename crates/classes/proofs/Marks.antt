-- Each mark has one byte.
use Rattle.std.proofs.Common.{◌≡◌, ℕ, Bool, true, false, cond, eqb, refl, ap, ◌∙◌}
use Rattle.std.proofs.lemmas.Bool.{eqb-true}
use Rattle.classes.specs.declared.Mark.{Mark}
use Rattle.classes.specs.declared.Mark.TheVariants.{Less, Greater, Colon, Equals, Stop, Quote, Tick, Percent, Open, Close, Hash, Dollar, LeftBrace, RightBrace}
use Rattle.classes.specs.declared.ByteClass.{ByteClass}
use Rattle.classes.specs.declared.ByteClass.TheVariants.{Mark as Marked}
use Rattle.classes.specs.Classes.{blank, control, capital, class_of, mark_byte}

module _ (b : ℕ) (m : Mark) where
  -- one test of the chain: the byte is this mark's, or the rest of the chain tells
  test : (n : Mark) {k : ByteClass} → (k ≡ Marked m → b ≡ mark_byte m) → cond (eqb b (mark_byte n)) (Marked n) k ≡ Marked m → b ≡ mark_byte m
  test n {k} more e = go (eqb b (mark_byte n)) refl e
    where
      go : (t : Bool) → eqb b (mark_byte n) ≡ t → cond t (Marked n) k ≡ Marked m → b ≡ mark_byte m
      go true t e = let h : n ≡ m = cc in eqb-true b (mark_byte n) t ∙ ap mark_byte h
      go false t e = more e

  past : {k l : ByteClass} (t : Bool) → (k ≡ Marked m → b ≡ mark_byte m) → (l ≡ Marked m → b ≡ mark_byte m) → cond t k l ≡ Marked m → b ≡ mark_byte m
  past true f g e = f e
  past false f g e = g e

  pub byte_of_mark : class_of b ≡ Marked m → b ≡ mark_byte m
  byte_of_mark =
      past (blank b) (λ e. cc) (past (control b) (λ e. cc)
      (test Less (test Greater (test Colon (test Equals (test Stop (test Quote (test Tick (test Percent (test Open (test Close
      (test Hash (test Dollar (test LeftBrace (test RightBrace (past (capital b) (λ e. cc) (λ e. cc)))))))))))))))))
