use Rattle.std.proofs.Common.{◌≡◌, ◌-◌, ◌<◌, ◌≤◌, [], ◌∷◌, length, take, vec_items, vec_len, sym, ap, ◌∙◌, arith}
use Rattle.std.proofs.lemmas.Bool.Decides.{nat_tests}
use Rattle.std.proofs.lemmas.Grind.{common_steps}
use Rattle.std.proofs.lemmas.Result.{err_from_is_err_and}
use Rattle.terms.specs.Limits.{path_limit, value_limit}
use Rattle.machine.specs.Steps.{whole, inside, room, full, put}
use Rattle.path.specs.Atoms.{atoms_of}
use Rattle.engine.specs.States.{built_of}
use Rattle.engine.proofs.Stacks.{built_last, built_set, none_long}
use Rattle.engine.proofs.inner.Machine.gather.Goals as goal

pub returns-in_ok-push-clause-gathered : goal.returns-in_ok-push-clause-gathered
returns-in_ok-push-clause-gathered c =
    let is = c.args.self.now.insides in
    let v = whole (vec_items c.args.self.now.value) in
    let x = c.in-Some.inside.now in
    let some : 0 < vec_len is = grind (arith, nat_tests) in
    let short : length (atoms_of x.atoms) < path_limit = grind (arith, common_steps) in
    let e = built_last (vec_items is) (vec_len is) is.ok.0 some v x c.in-Some.ensures.value in (
      (path_limit - 1 - length (atoms_of x.atoms), ap room e ∙ omega arith),
      built_set (vec_items is) (vec_len is) is.ok.0 some v (record { quoting = x.quoting; node = x.node; atoms = c.push.new.self })
          ∙ (ap (λ u. inside x.quoting x.node u (built_of (take (vec_len is - 1) (vec_items is)) v)) c.in_ok-push.ensures.ok
          ∙ sym (ap (put (c.args.atom ∷ [])) e)),
    )

pub returns-in_err-push-clause-gathered : goal.returns-in_err-push-clause-gathered
returns-in_err-push-clause-gathered c =
    let is = c.args.self.now.insides in
    let v = whole (vec_items c.args.self.now.value) in
    let x = c.in-Some.inside.now in
    let some : 0 < vec_len is = grind (arith, nat_tests) in
    let long : path_limit ≤ length (atoms_of x.atoms) = grind (arith, common_steps) in
    let e = built_last (vec_items is) (vec_len is) is.ok.0 some v x c.in-Some.ensures.value in
    let p = err_from_is_err_and c.from_residual.result c.from_residual.ensures.1 in
    rw (p.1, p.2) (ap room e ∙ omega arith, sym (ap full e))

pub returns-then-len-lt-VALUE_ATOMS-clause-gathered : goal.returns-then-len-lt-VALUE_ATOMS-clause-gathered
returns-then-len-lt-VALUE_ATOMS-clause-gathered c =
    let is = c.args.self.now.insides in
    let v = vec_items c.args.self.now.value in
    let none : length (vec_items is) ≡ 0 = grind (arith, nat_tests) in
    let e = none_long (vec_items is) none in (
      (value_limit - 1 - length v, ap (λ l. room (built_of l (whole v))) e ∙ omega arith),
      ap (λ l. built_of l (whole (vec_items c.push_reserved.new.self))) e
          ∙ (ap whole c.push_reserved.ensures.items ∙ sym (ap (λ l. put (c.args.atom ∷ []) (built_of l (whole v))) e)),
    )
