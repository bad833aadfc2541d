-- What is still to come of a state: the outcome that its question has from there on.
use Rattle.std.specs.Prelude.{ℕ, ◌-◌, List, [], ◌∷◌, length}
use Rattle.terms.specs.Limits.{open_limit}
use Rattle.terms.specs.Terms.{Terms}
use Rattle.terms.specs.Maps.{Map}
use Rattle.terms.specs.LookUp.{look_up}
use Rattle.rules.specs.Questions.{Question}
use Rattle.rules.specs.Table.{Site, site, path_asks_lem}
use Rattle.rules.specs.Outcomes.{Stop, Outcome, value, stopped, then}
use Rattle.rules.specs.Evaluation.{work, ask, step}
use Rattle.machine.specs.Steps.{Built, room, full, put, so_far, close, Open, questions, State, asks, has, stops}

-- of a question that is asked while the sentences of others are open
abbrev pub inner : Map → List Question → Question → ℕ → Stop → Outcome
inner M opened = ask M (open_limit - length opened) opened

-- of terms, with atoms going to b
abbrev pub worked : Map → List Question → Site → Terms → Built → (Built → Outcome) → Outcome
worked M opened s t b k = then (work (inner M opened) s t (room b) (full b)) (λ v. k (put v b))

-- behind the close of each path that is open
unfoldable pub closing : Map → List Question → Site → List Terms → (Built → Outcome) → Built → Outcome
closing M opened s [] k b = k b
closing M opened s (t ∷ ts) k b =
    close b (stopped Stop.undefined 0)
    (λ c n u g. then (inner M opened (path_asks_lem s c n u) (room g) (full g)) (λ v. worked M opened s t (put v g) (closing M opened s ts k)))

-- of all open sentences
unfoldable pub resumed : Map → List Open → Built → Outcome
resumed M [] b = value (so_far b) 0
resumed M (o ∷ opens) b =
    let opened : List Question = o.at ∷ questions opens in
    worked M opened (site o.at o.left) o.now b (closing M opened (site o.at o.left) o.behind (resumed M opens))

-- of a question that is to be looked up
abbrev pub asked : Map → List Question → Question → ℕ → Stop → Outcome
asked M opened q room full =
    step (look_up (M q.node) q.path) (λ k t. work (inner M (q ∷ opened)) (site q k) t room full)

unfoldable pub to_come : Map → State Open → Outcome
to_come M (asks q opens b) = then (asked M (questions opens) q (room b) (full b)) (λ v. resumed M opens (put v b))
to_come M (has v) = value v 0
to_come M (stops s) = stopped s 0
