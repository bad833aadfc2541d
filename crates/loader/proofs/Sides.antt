-- Right sides.
use Rattle.std.proofs.Common.{◌≡◌, ℕ, Bool, true, false, List, ◌++◌, None, sym, refl, ap, ◌∙◌, append_assoc, arith, Ok, Err, Result}
use Rattle.terms.specs.declared.items.Item.{Item}
use Rattle.terms.specs.declared.items.Quoting.TheVariants.{Plain as plain}
use Rattle.terms.specs.Terms.{Terms, flat, path, done}
use Rattle.stores.specs.Refusals.{Limits}
use Rattle.grammar.specs.Parsing.{Stream, side, ready, closed, outside, Head, then}
use Rattle.grammar.specs.Loading.{load}
use Rattle.grammar.specs.Texts.{Names}
use Rattle.words.specs.declared.faults.WordRefusal.{WordRefusal}
use Rattle.lookahead.specs.declared.word.Word.{Word}
use Rattle.lookahead.specs.declared.word.Word.TheVariants as w
use Rattle.lookahead.specs.Ahead.{cons}
use Rattle.loader.specs.Readings.{is_next, Through, ThroughPath, ThroughSide}
use Rattle.loader.proofs.Turns.{flat_then, range_then, nesting_then, with_names}

pub side_more : (r : Bool) (S S₁ S₂ : Stream) (F F₁ F₂ : Names) (out out₁ out₂ : List Item) → ThroughSide r S F out S₁ F₁ out₁ → Through 4 ready S₁ F₁ out₁ S₂ F₂ out₂ → ThroughSide r S F out S₂ F₂ out₂
side_more r S S₁ S₂ F F₁ F₂ out out₁ out₂ x y = record {
  terms = then x.terms y.terms;
  in_range = range_then x.terms y.terms x.in_range y.in_range;
  nests = nesting_then x.terms y.terms 4 x.nests y.nests;
  items = y.items ∙ ap (λ (m : List Item). m ++ flat y.terms) x.items ∙ append_assoc out (flat x.terms) (flat y.terms) ∙ ap (λ (m : List Item). out ++ m) (sym (flat_then x.terms y.terms));
  comes = λ l h. x.comes l h ∙ y.comes l h r outside x.terms refl;
}

settled_side : (l : Limits) (h : Head) (r : Bool) (p : ℕ) (i : Terms) (b : Terms) (s : ℕ) (k : Result Word WordRefusal) (R : Stream) → is_next r k ≡ false → load l (cons s k R) (side h r (closed p i) outside b) ≡ load l (cons s k R) (side h r ready outside (then b (path plain None i done)))
unfolding load
settled_side l h false p i b s (Ok (w.Atom a)) R e = refl
settled_side l h false p i b s (Ok w.UnnumberedAtom) R e = refl
settled_side l h true p i b s (Ok (w.Atom a)) R e = refl
settled_side l h true p i b s (Ok w.UnnumberedAtom) R e = refl
settled_side l h false p i b s (Ok (w.Node n)) R e = refl
settled_side l h false p i b s (Ok w.UnnumberedNode) R e = refl
settled_side l h true p i b s (Ok (w.Node n)) R e = refl
settled_side l h true p i b s (Ok w.UnnumberedNode) R e = refl
settled_side l h false p i b s (Ok w.Less) R e = refl
settled_side l h true p i b s (Ok w.Less) R e = refl
settled_side l h false p i b s (Ok w.Greater) R e = refl
settled_side l h true p i b s (Ok w.Greater) R e = refl
settled_side l h false p i b s (Ok w.Quote) R e = refl
settled_side l h true p i b s (Ok w.Quote) R e = refl
settled_side l h false p i b s (Ok w.Colon) R e = refl
settled_side l h true p i b s (Ok w.Colon) R e = refl
settled_side l h false p i b s (Ok w.Equals) R e = absurd (grind arith)
settled_side l h true p i b s (Ok w.Equals) R e = refl
settled_side l h false p i b s (Ok w.Stop) R e = refl
settled_side l h true p i b s (Ok w.Stop) R e = refl
settled_side l h false p i b s (Ok w.Open) R e = refl
settled_side l h true p i b s (Ok w.Open) R e = refl
settled_side l h false p i b s (Ok w.Close) R e = refl
settled_side l h true p i b s (Ok w.Close) R e = refl
settled_side l h false p i b s (Ok w.Stray) R e = refl
settled_side l h true p i b s (Ok w.Stray) R e = refl
settled_side l h false p i b s (Ok w.End) R e = refl
settled_side l h false p i b s (Err x) R e = refl
settled_side l h true p i b s (Ok w.End) R e = refl
settled_side l h true p i b s (Err x) R e = refl

pub side_path : (r : Bool) (S S₁ : Stream) (F F₁ F₂ : Names) (s : ℕ) (k : Result Word WordRefusal) (R : Stream) (out out₁ out₂ : List Item) (p : ℕ) → is_next r k ≡ false → ThroughSide r S F out S₁ F₁ out₁ → ThroughPath 4 plain None p S₁ F₁ out₁ (cons s k R) F₂ out₂ → ThroughSide r S F out (cons s k R) F₂ out₂
side_path r S S₁ F F₁ F₂ s k R out out₁ out₂ p e x y = record {
  terms = then x.terms (path plain None y.inside done);
  in_range = range_then x.terms (path plain None y.inside done) x.in_range y.in_range;
  nests = nesting_then x.terms (path plain None y.inside done) 4 x.nests (let k = y.nests in omega arith);
  items = y.items ∙ ap (λ (m : List Item). m ++ flat (path plain None y.inside done)) x.items ∙ append_assoc out (flat x.terms) (flat (path plain None y.inside done)) ∙ ap (λ (m : List Item). out ++ m) (sym (flat_then x.terms (path plain None y.inside done)));
  comes = λ l h. x.comes l h ∙ y.comes l h r outside x.terms refl ∙ with_names F₂ (settled_side l h r p y.inside x.terms s k R e);
}
