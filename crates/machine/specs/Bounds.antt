-- What stays in range while steps are worked, and how often the store is asked.
use Rattle.std.specs.Prelude.{◌≡◌, ℕ, suc, ◌+◌, ◌-◌, ◌*◌, ◌<◌, ◌≤◌, List, [], ◌∷◌, length}
use Rattle.terms.specs.Limits.{item_limit, nesting_limit, open_limit}
use Rattle.terms.specs.Maps.{Map}
use Rattle.terms.specs.LookUp.{look_up, length_found}
use Rattle.rules.specs.Questions.{Question}
use Rattle.stores.specs.Items.{item_at}
use Rattle.machine.specs.Steps.{Built, whole, inside, asks, has, stops}
use Rattle.machine.specs.Items.{Position, right_side, standing, Progress, working, reached, took, looked_up}

-- the insides that are built at a time: of each open sentence as many as paths nest
abbrev pub inside_limit : ℕ
inside_limit = open_limit * nesting_limit

abbrev pub insides : Built → ℕ
insides (whole v) = 0
insides (inside c n u b) = suc (insides b)

-- the paths that are open in sentences
abbrev pub paths_open : Map → List Position → ℕ
paths_open M [] = 0
paths_open M (o ∷ os) = length (standing M o).behind + paths_open M os

-- the insides that are built are those of the paths that are open
abbrev pub InsidesMatch : Map → Progress Position → Type 0
InsidesMatch M (working os b) = insides b ≡ paths_open M os
InsidesMatch M (reached (asks q os b)) = insides b ≡ paths_open M os
InsidesMatch M (reached (has v)) = Unit {0}
InsidesMatch M (reached (stops s)) = Unit {0}

-- the sentences that are open at most
abbrev pub FewOpen : Progress Position → Type 0
FewOpen (working os b) = length os ≤ open_limit
FewOpen (reached (asks q os b)) = length os < open_limit
FewOpen (reached (has v)) = Unit {0}
FewOpen (reached (stops s)) = Unit {0}

-- how many items of the open sentences can come, the end of each right side counted
abbrev pub items_left : List Position → ℕ
items_left [] = 0
items_left (o ∷ os) = suc (item_limit - o.place) + items_left os

abbrev pub work_left : Progress Position → ℕ
work_left (working os b) = items_left os
work_left (reached p) = 0

-- `Asked M w steps n z`: from w the evaluation comes to z in so many steps, for which the store of the map M is asked n times: once
-- for the look-up of each step, and once for each item that it works and for the end of each right side.
pub data Asked (M : Map) (w : Progress Position) : ℕ → ℕ → Progress Position → Type 0 where
  not_yet : Asked M w 0 0 w
  for_a_look_up : {steps n : ℕ} (q : Question) (os : List Position) (b : Built) → Asked M w steps n (reached (asks q os b))
      → Asked M w (suc steps) (suc n) (looked_up (length_found (look_up (M q.node) q.path)) q os b)
  for_an_item : {steps n : ℕ} (o : Position) (os : List Position) (b : Built) → Asked M w steps n (working (o ∷ os) b)
      → Asked M w steps (suc n) (took (item_at (right_side M o) o.place) (working (o ∷ os) b))

-- how often one step can ask the store: once for its look-up, and for all items and the end of each open sentence's right side
abbrev pub asked_limit : ℕ
asked_limit = 1 + open_limit * (item_limit + 1)
