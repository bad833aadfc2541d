-- Keller's evaluation rules for DATR, literally, one constructor each: Val, Def, Seq, Sub₁₋₃, Quo₁₋₃ and Ext. As with him N is a node, α, β
-- and γ are sequences of atoms, φ and ψ sequences of descriptors, and C is a context. What follows the rules is ours: the limits, and how
-- a right side is written out in descriptors.
use Rattle.std.specs.Prelude.{◌≡◌, ℕ, suc, ◌+◌, ◌≤◌, max, List, [], ◌∷◌, ◌++◌, length, Some, None, Option}
use Rattle.terms.specs.declared.items.Node.{Node}
use Rattle.terms.specs.declared.items.Atom.{Atom}
use Rattle.terms.specs.declared.items.Quoting.TheVariants.{Plain, Quoted}
use Rattle.terms.specs.Limits.{path_limit, open_limit, value_limit}
use Rattle.terms.specs.Terms.{Terms}
use Rattle.terms.specs.Maps.{Map}
use Rattle.rules.specs.Questions.{Context, Question}

infix 70 ◌:⟨◌⟩
infix 70 “◌:⟨◌⟩”
infix 70 “⟨◌⟩”
infix 70 “◌”
infixr 67 ◌▸◌
infixr 65 ◌⧺◌
infix 40 ◌∣◌⊢◌⇒₍◌₎◌
-- Descriptors: a, N:<φ>, "N:<φ>", "<φ>" and "N". φ is a sequence of descriptors: none, or one and then a sequence.
mutual
  pub data Desc : Type 0 where
    atom : Atom → Desc
    ◌:⟨◌⟩ : Node → Descs → Desc
    “◌:⟨◌⟩” : Node → Descs → Desc
    “⟨◌⟩” : Descs → Desc
    “◌” : Node → Desc

  pub data Descs : Type 0 where
    ε : Descs
    ◌▸◌ : Desc → Descs → Descs

-- φψ
abbrev pub ◌⧺◌ : Descs → Descs → Descs
ε ⧺ ψ = ψ
(d ▸ φ) ⧺ ψ = d ▸ (φ ⧺ ψ)

-- a value, which is a sequence of atoms, as a sequence of descriptors
abbrev pub val : List Atom → Descs
val [] = ε
val (a ∷ α) = atom a ▸ val α

-- A theory: sentences N:<α> == φ, at most one for each N and α.
abbrev pub Theory : Type 0
Theory = Node → List Atom → Option Descs

-- α is the longest prefix of αγ such that the theory has a sentence N:<α> == φ
pub record MostSpecific (T : Theory) (N : Node) (α γ : List Atom) (φ : Descs) : Type 0 where
  pub sentence : T N α ≡ Some φ
  pub longest : (α' γ' : List Atom) (ψ : Descs) → α' ++ γ' ≡ α ++ γ → T N α' ≡ Some ψ → length α' ≤ length α

-- (N, α)
abbrev pub context : Node → List Atom → Context
context N α = record { node = N; path = α }

-- T ∣ C ⊢ φ ⇒₍ γ ₎ β: in the context C, with the path extension γ, φ evaluates to β. The rules have premises above and the conclusion last.
pub data ◌∣◌⊢◌⇒₍◌₎◌ (T : Theory) : Context → Descs → List Atom → List Atom → Type 0 where
  -- values: atoms evaluate to themselves
  Val : {C : Context} {γ α : List Atom}
      → T ∣ C ⊢ val α ⇒₍ γ ₎ α
  -- definitions: a question evaluates to what its most specific sentence gives, with the rest of its path as the extension
  Def : {C : Context} {N : Node} {α γ β : List Atom} {φ : Descs} → MostSpecific T N α γ φ
      → T ∣ C ⊢ φ ⇒₍ γ ₎ β
      → T ∣ C ⊢ N :⟨ val (α ++ γ) ⟩ ▸ ε ⇒₍ [] ₎ β
  -- sequences
  Seq : {C : Context} {γ α β : List Atom} {φ ψ : Descs}
      → T ∣ C ⊢ φ ⇒₍ γ ₎ α → T ∣ C ⊢ ψ ⇒₍ γ ₎ β
      → T ∣ C ⊢ φ ⧺ ψ ⇒₍ γ ₎ α ++ β
  -- evaluable paths: the inside of a path is evaluated first
  Sub₁ : {C : Context} {N : Node} {γ α β : List Atom} {φ : Descs}
      → T ∣ C ⊢ φ ⇒₍ γ ₎ α → T ∣ C ⊢ N :⟨ val α ⟩ ▸ ε ⇒₍ γ ₎ β
      → T ∣ C ⊢ N :⟨ φ ⟩ ▸ ε ⇒₍ γ ₎ β
  Sub₂ : {C : Context} {N : Node} {γ α β : List Atom} {φ : Descs}
      → T ∣ C ⊢ φ ⇒₍ γ ₎ α → T ∣ C ⊢ “ N :⟨ val α ⟩” ▸ ε ⇒₍ γ ₎ β
      → T ∣ C ⊢ “ N :⟨ φ ⟩” ▸ ε ⇒₍ γ ₎ β
  Sub₃ : {C : Context} {γ α β : List Atom} {φ : Descs}
      → T ∣ C ⊢ φ ⇒₍ γ ₎ α → T ∣ C ⊢ “⟨ val α ⟩” ▸ ε ⇒₍ γ ₎ β
      → T ∣ C ⊢ “⟨ φ ⟩” ▸ ε ⇒₍ γ ₎ β
  -- quoted descriptors: what the context has is filled in, and the question becomes the context
  Quo₁ : {C : Context} {N : Node} {γ β : List Atom} (α : List Atom)
      → T ∣ context N (α ++ γ) ⊢ N :⟨ val α ⟩ ▸ ε ⇒₍ γ ₎ β
      → T ∣ C ⊢ “ N :⟨ val α ⟩” ▸ ε ⇒₍ γ ₎ β
  Quo₂ : {N : Node} {γ β α' : List Atom} (α : List Atom)
      → T ∣ context N (α ++ γ) ⊢ N :⟨ val α ⟩ ▸ ε ⇒₍ γ ₎ β
      → T ∣ context N α' ⊢ “⟨ val α ⟩” ▸ ε ⇒₍ γ ₎ β
  Quo₃ : {N N' : Node} {γ β : List Atom} (α : List Atom)
      → T ∣ context N (α ++ γ) ⊢ N :⟨ val α ⟩ ▸ ε ⇒₍ γ ₎ β
      → T ∣ context N' α ⊢ “ N ” ▸ ε ⇒₍ γ ₎ β
  -- path extensions
  Ext : {C : Context} {N : Node} {γ β : List Atom} (α : List Atom)
      → T ∣ C ⊢ N :⟨ val (α ++ γ) ⟩ ▸ ε ⇒₍ [] ₎ β
      → T ∣ C ⊢ N :⟨ val α ⟩ ▸ ε ⇒₍ γ ₎ β

-- How often a derivation uses Def. One use of Def is one use of a sentence.
abbrev pub def_uses : {T : Theory} {C : Context} {φ : Descs} {γ β : List Atom} → T ∣ C ⊢ φ ⇒₍ γ ₎ β → ℕ
def_uses Val = 0
def_uses (Def l d) = suc (def_uses d)
def_uses (Seq d e) = def_uses d + def_uses e
def_uses (Sub₁ d e) = def_uses d + def_uses e
def_uses (Sub₂ d e) = def_uses d + def_uses e
def_uses (Sub₃ d e) = def_uses d + def_uses e
def_uses (Quo₁ α d) = def_uses d
def_uses (Quo₂ α d) = def_uses d
def_uses (Quo₃ α d) = def_uses d
def_uses (Ext α d) = def_uses d

-- the most uses of Def on one branch
abbrev pub def_depth : {T : Theory} {C : Context} {φ : Descs} {γ β : List Atom} → T ∣ C ⊢ φ ⇒₍ γ ₎ β → ℕ
def_depth Val = 0
def_depth (Def l d) = suc (def_depth d)
def_depth (Seq d e) = max (def_depth d) (def_depth e)
def_depth (Sub₁ d e) = max (def_depth d) (def_depth e)
def_depth (Sub₂ d e) = max (def_depth d) (def_depth e)
def_depth (Sub₃ d e) = max (def_depth d) (def_depth e)
def_depth (Quo₁ α d) = def_depth d
def_depth (Quo₂ α d) = def_depth d
def_depth (Quo₃ α d) = def_depth d
def_depth (Ext α d) = def_depth d

-- No question and no inside of a path has more atoms than a path may have. A question is what Def is used on; the inside of a path is
-- what a Sub evaluates first.
abbrev pub Slim : {T : Theory} {C : Context} {φ : Descs} {γ β : List Atom} → T ∣ C ⊢ φ ⇒₍ γ ₎ β → Type 0
Slim Val = Unit {0}
Slim (Def {α = α} {γ = γ} l d) = (length (α ++ γ) ≤ path_limit) × Slim d
Slim (Seq d e) = Slim d × Slim e
Slim (Sub₁ {α = α} d e) = (length α ≤ path_limit) × Slim d × Slim e
Slim (Sub₂ {α = α} d e) = (length α ≤ path_limit) × Slim d × Slim e
Slim (Sub₃ {α = α} d e) = (length α ≤ path_limit) × Slim d × Slim e
Slim (Quo₁ α d) = Slim d
Slim (Quo₂ α d) = Slim d
Slim (Quo₃ α d) = Slim d
Slim (Ext α d) = Slim d

-- a derivation that keeps the limits
pub record Within {T : Theory} {C : Context} {φ : Descs} {γ β : List Atom} (d : T ∣ C ⊢ φ ⇒₍ γ ₎ β) : Type 0 where
  pub slim : Slim d
  pub branches : def_depth d ≤ open_limit
  pub short : length β ≤ value_limit

-- The terms of a right side as descriptors, in the sentence N:<α> == ..: an unquoted node N' is short for N':<α>, and an unquoted
-- path <φ> for N:<φ>.
abbrev pub written_out : Node → List Atom → Terms → Descs
written_out N α Terms.done = ε
written_out N α (Terms.atom a rest) = atom a ▸ written_out N α rest
written_out N α (Terms.node Plain N' rest) = N' :⟨ val α ⟩ ▸ written_out N α rest
written_out N α (Terms.node Quoted N' rest) = “ N' ” ▸ written_out N α rest
written_out N α (Terms.path Plain (Some N') φ rest) = N' :⟨ written_out N α φ ⟩ ▸ written_out N α rest
written_out N α (Terms.path Plain None φ rest) = N :⟨ written_out N α φ ⟩ ▸ written_out N α rest
written_out N α (Terms.path Quoted (Some N') φ rest) = “ N' :⟨ written_out N α φ ⟩” ▸ written_out N α rest
written_out N α (Terms.path Quoted None φ rest) = “⟨ written_out N α φ ⟩” ▸ written_out N α rest

abbrev pub sentence_of : Node → List Atom → Option Terms → Option Descs
sentence_of N α (Some t) = Some (written_out N α t)
sentence_of N α None = None

-- the theory that a store's map stands for
abbrev pub theory : Map → Theory
theory M N α = sentence_of N α (M N α)

-- Keller's rules, over the map's theory, derive the value v for the question q in its context.
abbrev pub Derives : Map → Question → List Atom → Type 0
Derives M q v = theory M ∣ q.context ⊢ q.node :⟨ val q.path ⟩ ▸ ε ⇒₍ [] ₎ v
