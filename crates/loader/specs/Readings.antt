-- What the readers of terms come to.
use Rattle.std.specs.Prelude.{◌≡◌, ℕ, suc, ◌+◌, ◌≤◌, Bool, true, false, List, ◌++◌, length, Some, None, Ok, Err, Option, Result, vec_len, vec_capacity}
use Rattle.std.specs.Global.{Vec}
use Rattle.terms.specs.declared.items.Node.{Node}
use Rattle.terms.specs.declared.items.Item.{Item}
use Rattle.terms.specs.declared.items.Quoting.{Quoting}
use Rattle.terms.specs.declared.items.Quoting.TheVariants.{Plain as plain, Quoted as quoted}
use Rattle.terms.specs.Limits.{nesting_limit}
use Rattle.terms.specs.Terms.{Terms, done, path, flat, nesting}
use Rattle.terms.specs.Maps.{every, item_in_range}
use Rattle.stores.specs.Refusals.{Limits}
use Rattle.grammar.specs.Parsing.{Stream, State, side, Phase, ready, closed, coloned, quoting, unquoting, Frames, outside, Head, then, open_paths}
use Rattle.grammar.specs.Texts.{Names, rejected}
use Rattle.faults.specs.declared.kinds.GrammarFault.{GrammarFault}
use Rattle.faults.specs.Grammar.{number, place}
use Rattle.words.specs.declared.faults.WordRefusal.{WordRefusal}
use Rattle.lookahead.specs.declared.word.Word.{Word}
use Rattle.lookahead.specs.declared.word.Word.TheVariants as w
use Rattle.lookahead.specs.Ahead.{names_of, rest, final, size, gives}
use Rattle.loader.specs.declared.reader.Reader.{Reader}
use Rattle.loader.specs.Onward.{Onward}
use Rattle.loader.specs.declared.ends.NextEquation.{NextEquation}

abbrev pub is_less_lem : Result Word WordRefusal → Bool
is_less_lem (Ok (w.Atom a)) = false
is_less_lem (Ok w.UnnumberedAtom) = false
is_less_lem (Ok (w.Node n)) = false
is_less_lem (Ok w.UnnumberedNode) = false
is_less_lem (Ok w.Less) = true
is_less_lem (Ok w.Greater) = false
is_less_lem (Ok w.Quote) = false
is_less_lem (Ok w.Colon) = false
is_less_lem (Ok w.Equals) = false
is_less_lem (Ok w.Stop) = false
is_less_lem (Ok w.Open) = false
is_less_lem (Ok w.Close) = false
is_less_lem (Ok w.Stray) = false
is_less_lem (Ok w.End) = false
is_less_lem (Err r) = false

abbrev pub is_equals_lem : Result Word WordRefusal → Bool
is_equals_lem (Ok (w.Atom a)) = false
is_equals_lem (Ok w.UnnumberedAtom) = false
is_equals_lem (Ok (w.Node n)) = false
is_equals_lem (Ok w.UnnumberedNode) = false
is_equals_lem (Ok w.Less) = false
is_equals_lem (Ok w.Greater) = false
is_equals_lem (Ok w.Quote) = false
is_equals_lem (Ok w.Colon) = false
is_equals_lem (Ok w.Equals) = true
is_equals_lem (Ok w.Stop) = false
is_equals_lem (Ok w.Open) = false
is_equals_lem (Ok w.Close) = false
is_equals_lem (Ok w.Stray) = false
is_equals_lem (Ok w.End) = false
is_equals_lem (Err r) = false

-- a word with which a term begins
abbrev pub starts : Result Word WordRefusal → Bool
starts (Ok (w.Atom a)) = true
starts (Ok w.UnnumberedAtom) = true
starts (Ok (w.Node n)) = true
starts (Ok w.UnnumberedNode) = true
starts (Ok w.Less) = true
starts (Ok w.Greater) = false
starts (Ok w.Quote) = true
starts (Ok w.Colon) = false
starts (Ok w.Equals) = false
starts (Ok w.Stop) = false
starts (Ok w.Open) = false
starts (Ok w.Close) = false
starts (Ok w.Stray) = false
starts (Ok w.End) = false
starts (Err r) = false

-- Terms are read: whatever stood before, the load goes on behind them; their items are added.
pub record Through (left : ℕ) (ph : Phase) (S : Stream) (F : Names) (out : List Item) (S' : Stream) (F' : Names) (out' : List Item) : Type 0 where
  pub terms : Terms
  pub items : out' ≡ out ++ flat terms
  pub in_range : every item_in_range (flat terms) ≡ true
  pub nests : nesting terms ≤ left
  pub comes : (l : Limits) (h : Head) (r : Bool) (f : Frames) (b : Terms) → open_paths f + left ≡ nesting_limit → gives l S F (side h r ph f b) ≡ gives l S' F' (side h r ready f (then b terms))

abbrev pub Goes : ℕ → Phase → Stream → Names → List Item → Result (Unit {0}) GrammarFault → Stream → Names → List Item → Type 0
Goes left ph S F out (Ok u) S' F' out' = Through left ph S F out S' F' out'
Goes left ph S F out (Err e) S' F' out' = (l : Limits) (h : Head) (r : Bool) (f : Frames) (b : Terms) → open_paths f + left ≡ nesting_limit → gives l S F (side h r ph f b) ≡ rejected (number e) (place e)

-- before a path's <, and behind its end
abbrev pub entering : Quoting → Option Node → Phase
entering plain None = ready
entering plain (Some n) = coloned plain n
entering quoted None = quoting
entering quoted (Some n) = coloned quoted n

abbrev pub behind : Head → Bool → Quoting → Option Node → ℕ → Terms → Frames → Terms → State
behind h r plain None p i f b = side h r (closed p i) f b
behind h r plain (Some n) p i f b = side h r ready f (then b (path plain (Some n) i done))
behind h r quoted n p i f b = side h r ready f (then b (path quoted n i done))

-- A path is read.
pub record ThroughPath (left : ℕ) (q : Quoting) (n : Option Node) (p : ℕ) (S : Stream) (F : Names) (out : List Item) (S' : Stream) (F' : Names) (out' : List Item) : Type 0 where
  pub inside : Terms
  pub items : out' ≡ out ++ flat (path q n inside done)
  pub in_range : every item_in_range (flat (path q n inside done)) ≡ true
  pub nests : suc (nesting inside) ≤ left
  pub comes : (l : Limits) (h : Head) (r : Bool) (f : Frames) (b : Terms) → open_paths f + left ≡ nesting_limit → gives l S F (side h r (entering q n) f b) ≡ gives l S' F' (behind h r q n p inside f b)

abbrev pub GoesPath : ℕ → Quoting → Option Node → ℕ → Stream → Names → List Item → Result (Unit {0}) GrammarFault → Stream → Names → List Item → Type 0
GoesPath left q n p S F out (Ok u) S' F' out' = ThroughPath left q n p S F out S' F' out'
GoesPath left q n p S F out (Err e) S' F' out' = (l : Limits) (h : Head) (r : Bool) (f : Frames) (b : Terms) → open_paths f + left ≡ nesting_limit → gives l S F (side h r (entering q n) f b) ≡ rejected (number e) (place e)

-- the quote mark behind a quoted path
abbrev pub GoesEnd : Stream → Names → Result (Unit {0}) GrammarFault → Stream → Names → Type 0
GoesEnd S F (Ok u) S' F' = (l : Limits) (h : Head) (r : Bool) (n : Option Node) (i : Terms) (f : Frames) (b : Terms) → open_paths f ≤ nesting_limit → gives l S F (side h r (unquoting n i) f b) ≡ gives l S' F' (side h r ready f (then b (path quoted n i done)))
GoesEnd S F (Err e) S' F' = (l : Limits) (h : Head) (r : Bool) (n : Option Node) (i : Terms) (f : Frames) (b : Terms) → open_paths f ≤ nesting_limit → gives l S F (side h r (unquoting n i) f b) ≡ rejected (number e) (place e)

-- the word begins the next equation, behind a path outside of ( )
abbrev pub is_next : Bool → Result Word WordRefusal → Bool
is_next true k = false
is_next false k = is_equals_lem k

-- The terms of a right side are read;
pub record ThroughSide (r : Bool) (S : Stream) (F : Names) (out : List Item) (S' : Stream) (F' : Names) (out' : List Item) : Type 0 where
  pub terms : Terms
  pub items : out' ≡ out ++ flat terms
  pub in_range : every item_in_range (flat terms) ≡ true
  pub nests : nesting terms ≤ nesting_limit
  pub comes : (l : Limits) (h : Head) → gives l S F (side h r ready outside done) ≡ gives l S' F' (side h r ready outside terms)

-- and a path with its < at p, whose items are those from m on, and which == follows.
pub record ThroughNext (r : Bool) (S : Stream) (F : Names) (out : List Item) (m p : ℕ) (S' : Stream) (F' : Names) (out' : List Item) : Type 0 where
  pub terms : Terms
  pub inside : Terms
  pub items : out' ≡ (out ++ flat terms) ++ flat (path plain None inside done)
  pub mark : m ≡ length (out ++ flat terms)
  pub in_range : every item_in_range (flat terms) ≡ true
  pub nests : nesting terms ≤ nesting_limit
  pub inside_in_range : every item_in_range (flat (path plain None inside done)) ≡ true
  pub comes : (l : Limits) (h : Head) → gives l S F (side h r ready outside done) ≡ gives l S' F' (side h r (closed p inside) outside terms)

abbrev pub GoesSide : Bool → Stream → Names → List Item → Result (Option NextEquation) GrammarFault → Stream → Names → List Item → Type 0
GoesSide r S F out (Ok None) S' F' out' = ThroughSide r S F out S' F' out'
GoesSide r S F out (Ok (Some n)) S' F' out' = ThroughNext r S F out n.mark n.place S' F' out'
GoesSide r S F out (Err e) S' F' out' = (l : Limits) (h : Head) → gives l S F (side h r ready outside done) ≡ rejected (number e) (place e)

-- the word behind a right side: none that begins a term, or the == of the next equation
abbrev pub Stops : Bool → Result (Option NextEquation) GrammarFault → Result Word WordRefusal → Type 0
Stops r (Ok None) k = starts k ≡ false
Stops r (Ok (Some n)) k = is_next r k ≡ true
Stops r (Err e) k = Unit {0}

-- The same of a reader, before and after.
abbrev pub words_left : Reader → ℕ
words_left x = size (rest (names_of x.names.now) x.parser)

-- there is room for an item for each word that is left, and for so many more
abbrev pub HasRoom : ℕ → Reader → Vec Item → Type 0
HasRoom more x out = more + (vec_len out + words_left x) ≤ vec_capacity out

-- The items keep their memory, and each item has taken a word, but for so many more.
pub record TakesWords (more : ℕ) (x : Reader) (out : Vec Item) (read : Bool) (x' : Reader) (out' : Vec Item) : Type 0 where
  pub onward : Onward x x'
  pub capacity : vec_capacity out' ≡ vec_capacity out
  pub each : read ≡ true → vec_len out' + words_left x' ≤ more + (vec_len out + words_left x)

abbrev pub ReadsTerms : ℕ → Phase → Reader → List Item → Result (Unit {0}) GrammarFault → Reader → List Item → Type 0
ReadsTerms left ph x out r x' out' =
    Goes left ph (rest (names_of x.names.now) x.parser) (final (names_of x.names.now) x.parser) out r (rest (names_of x'.names.now) x'.parser) (final (names_of x'.names.now) x'.parser) out'

abbrev pub ReadsPath : ℕ → Quoting → Option Node → Reader → List Item → Result (Unit {0}) GrammarFault → Reader → List Item → Type 0
ReadsPath left q m x out r x' out' =
    GoesPath left q m x.parser.place (rest (names_of x.names.now) x.parser) (final (names_of x.names.now) x.parser) out r (rest (names_of x'.names.now) x'.parser) (final (names_of x'.names.now) x'.parser) out'

abbrev pub ReadsEnd : Reader → Result (Unit {0}) GrammarFault → Reader → Type 0
ReadsEnd x r x' = GoesEnd (rest (names_of x.names.now) x.parser) (final (names_of x.names.now) x.parser) r (rest (names_of x'.names.now) x'.parser) (final (names_of x'.names.now) x'.parser)

abbrev pub ReadsSide : Bool → Reader → List Item → Result (Option NextEquation) GrammarFault → Reader → List Item → Type 0
ReadsSide b x out r x' out' =
    GoesSide b (rest (names_of x.names.now) x.parser) (final (names_of x.names.now) x.parser) out r (rest (names_of x'.names.now) x'.parser) (final (names_of x'.names.now) x'.parser) out'
