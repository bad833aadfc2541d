-- One step takes one off what is still to come.
use Rattle.std.proofs.Common.{◌≡◌, ℕ, zero, suc, ◌-◌, List, [], ◌∷◌, ◌++◌, length, Some, None, Option, sym, refl, ap, ◌∙◌, arith}
use Rattle.terms.specs.declared.items.Atom.{Atom}
use Rattle.terms.specs.declared.items.Node.{Node}
use Rattle.terms.specs.declared.items.Quoting.{Quoting}
use Rattle.terms.specs.Limits.{path_limit, open_limit, value_limit}
use Rattle.terms.specs.Terms.{Terms}
use Rattle.terms.specs.Maps.{Map}
use Rattle.rules.specs.Questions.{Question}
use Rattle.rules.specs.Table.{Site, site, node_asks_lem, path_asks_lem}
use Rattle.rules.specs.Outcomes.{Stop, Outcome, stopped, later, behind, then}
use Rattle.terms.specs.LookUp.{Look, found, nothing, look_up}
use Rattle.rules.specs.Evaluation.{barred, step, work, ask, outcome}
use Rattle.machine.specs.Steps.{Built, whole, inside, room, full, put, Open, open_sentence, questions, asks, stops, allowed, pose, work_terms, work_sentences, looked, next, start}
use Rattle.machine.specs.ToCome.{inner, worked, closing, resumed, to_come}
use Rattle.machine.proofs.Laws.{later_zero, then_same, then_value, then_later, then_behind, then_then, put_none, put_put, room_put, full_put}

-- what a new question comes to, and all that is behind it
abbrev pub posed : Map → Question → List Open → Built → Outcome
posed M q opens h = then (inner M (questions opens) q (room h) (full h)) (λ v. resumed M opens (put v h))

pub allowed_to_come : (M : Map) (q : Question) (opens : List Open) (h : Built) (left : ℕ) → left ≡ open_limit - length (questions opens)
    → (b : Option Stop) → barred (questions opens) q ≡ b
    → to_come M (allowed b left (asks q opens h)) ≡ then (ask M left (questions opens) q (room h) (full h)) (λ v. resumed M opens (put v h))
unfolding to_come ask
allowed_to_come M q opens h zero e (Some s) b = rw b
allowed_to_come M q opens h zero e None b = rw b
allowed_to_come M q opens h (suc left) e (Some s) b = rw b
allowed_to_come M q opens h (suc left) e None b =
    let l : open_limit - suc (length (questions opens)) ≡ left = omega arith in
    rw b (rw l refl)

pub pose_to_come : (M : Map) (q : Question) (opens : List Open) (h : Built) → to_come M (pose (questions opens) q opens h) ≡ posed M q opens h
unfolding pose
pose_to_come M q opens h = allowed_to_come M q opens h (open_limit - length (questions opens)) refl (barred (questions opens) q) refl

-- What is to come of terms, by the first of them.
module _ (M : Map) (opened : List Question) (s : Site) where
  worked_done : (h : Built) (k : Built → Outcome) → worked M opened s Terms.done h k ≡ k h
  unfolding work
  worked_done h k = later_zero (k (put [] h)) ∙ ap k (put_none h)

  worked_full : (a : Atom) (t : Terms) (h : Built) (k : Built → Outcome) → room h ≡ zero
      → worked M opened s (Terms.atom a t) h k ≡ stopped (full h) 0
  unfolding work
  worked_full a t h k e = rw e

  -- terms behind atoms that have just come
  again : (t : Terms) (h : Built) (k : Built → Outcome) (v : List Atom) (m : ℕ) → room h - length v ≡ m
      → then (behind v (work (inner M opened) s t m (full h))) (λ w. k (put w h)) ≡ worked M opened s t (put v h) k
  again t h k v m e =
      then_behind v (work (inner M opened) s t m (full h)) (λ w. k (put w h))
      ∙ rw (← e, room_put v h, full_put v h)
      (then_same (work (inner M opened) s t (room h - length v) (full h)) (λ w. k (put (v ++ w) h)) (λ w. k (put w (put v h)))
      (λ w. ap k (put_put v w h)))

  worked_atom : (a : Atom) (t : Terms) (h : Built) (k : Built → Outcome) (m : ℕ) → room h ≡ suc m
      → worked M opened s (Terms.atom a t) h k ≡ worked M opened s t (put (a ∷ []) h) k
  unfolding work
  worked_atom a t h k m e = ap (λ r. then (work (inner M opened) s (Terms.atom a t) r (full h)) (λ v. k (put v h))) e ∙ again t h k (a ∷ []) m (omega arith)

  worked_node : (c : Quoting) (n : Node) (t : Terms) (h : Built) (k : Built → Outcome)
      → worked M opened s (Terms.node c n t) h k
      ≡ then (inner M opened (node_asks_lem s c n) (room h) (full h)) (λ v. worked M opened s t (put v h) k)
  unfolding work
  worked_node c n t h k =
      then_then (inner M opened (node_asks_lem s c n) (room h) (full h)) (λ v. behind v (work (inner M opened) s t (room h - length v) (full h))) (λ v. k (put v h))
      ∙ then_same (inner M opened (node_asks_lem s c n) (room h) (full h)) _ _ (λ v. again t h k v (room h - length v) refl)

  worked_path : (c : Quoting) (n : Option Node) (i t : Terms) (ts : List Terms) (h : Built) (k : Built → Outcome)
      → worked M opened s (Terms.path c n i t) h (closing M opened s ts k)
      ≡ worked M opened s i (inside c n [] h) (closing M opened s (t ∷ ts) k)
  unfolding work closing
  worked_path c n i t ts h k =
      then_then (work (inner M opened) s i path_limit Stop.path)
      (λ u. then (inner M opened (path_asks_lem s c n u) (room h) (full h)) (λ v. behind v (work (inner M opened) s t (room h - length v) (full h))))
      (λ v. closing M opened s ts k (put v h))
      ∙ then_same (work (inner M opened) s i path_limit Stop.path) _ _
      (λ u. then_then (inner M opened (path_asks_lem s c n u) (room h) (full h)) (λ v. behind v (work (inner M opened) s t (room h - length v) (full h))) (λ v. closing M opened s ts k (put v h))
      ∙ then_same (inner M opened (path_asks_lem s c n u) (room h) (full h)) _ _ (λ v. again t h (closing M opened s ts k) v (room h - length v) refl))

-- In one open-sentence: its terms, and those behind its open paths.
pub terms_to_come : (M : Map) (q : Question) (i : ℕ) (opens : List Open) → ((g : Built) → resumed M opens g ≡ to_come M (work_sentences opens g))
    → (t : Terms) (ts : List Terms) (h : Built)
    → resumed M (open_sentence q i t ts ∷ opens) h ≡ to_come M (work_terms q i t ts opens h (work_sentences opens))
unfolding work_terms resumed closing to_come
terms_to_come M q i opens ih Terms.done [] h = worked_done M (q ∷ questions opens) (site q i) h (closing M (q ∷ questions opens) (site q i) [] (resumed M opens)) ∙ ih h
terms_to_come M q i opens ih Terms.done (t ∷ ts) (whole v) =
    worked_done M (q ∷ questions opens) (site q i) (whole v) (closing M (q ∷ questions opens) (site q i) (t ∷ ts) (resumed M opens))
terms_to_come M q i opens ih Terms.done (t ∷ ts) (inside c n u h) =
    worked_done M (q ∷ questions opens) (site q i) (inside c n u h) (closing M (q ∷ questions opens) (site q i) (t ∷ ts) (resumed M opens))
    ∙ sym (pose_to_come M (path_asks_lem (site q i) c n u) (open_sentence q i t ts ∷ opens) h)
terms_to_come M q i opens ih (Terms.atom a t) ts h = by_room (room h) refl (terms_to_come M q i opens ih t ts (put (a ∷ []) h))
  where
    by_room : (m : ℕ) → room h ≡ m
        → resumed M (open_sentence q i t ts ∷ opens) (put (a ∷ []) h) ≡ to_come M (work_terms q i t ts opens (put (a ∷ []) h) (work_sentences opens))
        → resumed M (open_sentence q i (Terms.atom a t) ts ∷ opens) h
        ≡ to_come M (elim m [ zero ↦ stops (full h) | suc r ↦ work_terms q i t ts opens (put (a ∷ []) h) (work_sentences opens) ])
    by_room zero e r = worked_full M (q ∷ questions opens) (site q i) a t h (closing M (q ∷ questions opens) (site q i) ts (resumed M opens)) e
    by_room (suc m) e r = worked_atom M (q ∷ questions opens) (site q i) a t h (closing M (q ∷ questions opens) (site q i) ts (resumed M opens)) m e ∙ r
terms_to_come M q i opens ih (Terms.node c n t) ts h =
    worked_node M (q ∷ questions opens) (site q i) c n t h (closing M (q ∷ questions opens) (site q i) ts (resumed M opens))
    ∙ sym (pose_to_come M (node_asks_lem (site q i) c n) (open_sentence q i t ts ∷ opens) h)
terms_to_come M q i opens ih (Terms.path c n u t) ts h =
    worked_path M (q ∷ questions opens) (site q i) c n u t ts h (resumed M opens) ∙ terms_to_come M q i opens ih u (t ∷ ts) (inside c n [] h)

-- In all.
pub sentences_to_come : (M : Map) (opens : List Open) (h : Built) → resumed M opens h ≡ to_come M (work_sentences opens h)
unfolding work_sentences resumed to_come
sentences_to_come M [] h = refl
sentences_to_come M (o ∷ opens) h = terms_to_come M o.at o.left opens (sentences_to_come M opens) o.now o.behind h

-- One step takes one off what is to come.
pub next_to_come : (M : Map) (q : Question) (opens : List Open) (h : Built) → to_come M (asks q opens h) ≡ later 1 (to_come M (next M (asks q opens h)))
unfolding next to_come resumed closing
next_to_come M q opens h = by_look (look_up (M q.node) q.path)
  where
    by_look : (x : Look)
        → then (step x (λ k t. work (inner M (q ∷ questions opens)) (site q k) t (room h) (full h))) (λ v. resumed M opens (put v h))
        ≡ later 1 (to_come M (looked q opens h x))
    by_look nothing = refl
    by_look (found k t) =
        then_later 1 (work (inner M (q ∷ questions opens)) (site q k) t (room h) (full h)) (λ v. resumed M opens (put v h))
        ∙ ap (later 1) (sentences_to_come M (open_sentence q k t [] ∷ opens) h)

-- At the start all is to come.
pub start_to_come : (M : Map) (q : Question) → to_come M (start q) ≡ outcome M q
unfolding outcome resumed
start_to_come M q = pose_to_come M q [] (whole []) ∙ then_value (ask M open_limit [] q value_limit Stop.length)
