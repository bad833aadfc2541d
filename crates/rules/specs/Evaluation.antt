-- What a question comes to, worked from left to right, and the steps that this takes.
use Rattle.std.specs.Prelude.{ℕ, zero, suc, ◌-◌, Bool, true, false, ◌&&◌, ◌||◌, List, [], ◌∷◌, length, Some, None, Option, ◌==◌, nat_le}
use Rattle.terms.specs.Limits.{path_limit, open_limit, value_limit}
use Rattle.terms.specs.Terms.{Terms}
use Rattle.terms.specs.Maps.{Map, same_atoms}
use Rattle.terms.specs.LookUp.{Look, found, nothing, look_up}
use Rattle.rules.specs.Questions.{Question}
use Rattle.rules.specs.Table.{Site, site, node_asks_lem, path_asks_lem}
use Rattle.rules.specs.Outcomes.{Stop, Outcome, value, stopped, later, behind, then}

-- equal in node, path and context
abbrev pub same_question : Question → Question → Bool
same_question q r =
    (q.node.0 == r.node.0) && (same_atoms q.path r.path
    && (q.context.node.0 == r.context.node.0 && same_atoms q.context.path r.context.path))

abbrev pub among : Question → List Question → Bool
among q [] = false
among q (r ∷ opened) = same_question q r || among q opened

-- The first tests of a new question, while sentences for the questions `opened` are open: for path, then circular.
unfoldable pub barred : List Question → Question → Option Stop
barred opened q =
    elim (nat_le (length q.path) path_limit) [
      | false ↦ Some Stop.path
      | true ↦ elim (among q opened) [ true ↦ Some Stop.circular | false ↦ None ]
    ]

-- Terms, worked at a site from left to right. `ask` gives what a new question comes to. There is room for so many atoms more, of the
-- value or of the inside of a path, and `full` is how it ends when one comes that has none.
unfoldable pub work : (Question → ℕ → Stop → Outcome) → Site → Terms → ℕ → Stop → Outcome
work ask s Terms.done room full = value [] 0
work ask s (Terms.atom a rest) zero full = stopped full 0
work ask s (Terms.atom a rest) (suc room) full = behind (a ∷ []) (work ask s rest room full)
work ask s (Terms.node q n rest) room full =
    then (ask (node_asks_lem s q n) room full)
    (λ v. behind v (work ask s rest (room - length v) full))
work ask s (Terms.path q n inside rest) room full =
    then (work ask s inside path_limit Stop.path)
    (λ u. then (ask (path_asks_lem s q n u) room full)
    (λ v. behind v (work ask s rest (room - length v) full)))

-- a test's stop, which takes no step of its own; otherwise what follows
abbrev pub unless : Option Stop → (Unit {0} → Outcome) → Outcome
unless (Some s) f = stopped s 0
unless None f = f tt

-- one step: the look-up, and all work up to the next question
abbrev pub step : Look → (ℕ → Terms → Outcome) → Outcome
step nothing f = stopped Stop.undefined 1
step (found k t) f = later 1 (f k t)

-- What a new question comes to, while sentences for the questions `opened` are open and `left` more may be: the tests, with that for depth
-- as the last, and then the step.
unfoldable pub ask : Map → ℕ → List Question → Question → ℕ → Stop → Outcome
ask M zero opened q room full = unless (barred opened q) (λ _. stopped Stop.depth 0)
ask M (suc left) opened q room full =
    unless (barred opened q)
    (λ _. step (look_up (M q.node) q.path) (λ k t. work (ask M left (q ∷ opened)) (site q k) t room full))

-- what a question comes to that is asked first
unfoldable pub outcome : Map → Question → Outcome
outcome M q = ask M open_limit [] q value_limit Stop.length
