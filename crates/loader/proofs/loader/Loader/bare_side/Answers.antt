use Rattle.std.proofs.Common.{◌≡◌, false, Ok, rules, None, Some, vec_items, sym, refl, ap, ◌∙◌, arith, take, drop, ◌+◌, ◌-◌}
use Rattle.std.proofs.lemmas.Result.{err_from_is_err_and}
use Rattle.lookahead.specs.declared.word.Word.TheVariants as w
use Rattle.loader.specs.Equations.{collected}
use Rattle.loader.proofs.Onward
use Rattle.loader.proofs.Runs
use Rattle.loader.proofs.Lefts.{only_equals}
use Rattle.loader.proofs.Atoms.{not_collected}
use Rattle.loader.proofs.Sentences
use Rattle.loader.proofs.loader.Loader.bare_side.Goals as goal

pub returns-in_err-keep-in-Ok-Stop-clause-goes : goal.returns-in_err-keep-in-Ok-Stop-clause-goes
returns-in_err-keep-in-Ok-Stop-clause-goes g c =
    let q : c.right_side.new.self.parser.word ≡ Ok w.Stop = search rules in
    let told = c.in_ok-right_side.ensures in
    let x = (Sentences.ended_so false _ _ _ _ _ _ _ _ None c.in-None.is told.goes told.stops).0 in
    let p = err_from_is_err_and c.from_residual-in_err-keep-in-Ok-Stop.result c.from_residual-in_err-keep-in-Ok-Stop.ensures.1 in
    let k = c.in_err-keep-in-Ok-Stop.ensures.goes in
    rw (p.1, p.2) (Sentences.side_ends_refused false _ _ _ _ _ _ _ _ c.clear.ensures.items x g.K.Keeper.limits c.args.node (g.K.Keeper.kept c.args.keeper.now) c.args.place _ q _ (Sentences.as_sentence _ _ _ _ _ c.as_slice.ensures.value c.as_slice-in-Ok-Stop.ensures.value) k.0 k.1.0 c.in_err-keep-in-Ok-Stop.field-0.0 k.1.1.0 k.1.1.1.0)

pub returns-in_ok-keep-in-Ok-Stop : goal.returns-in_ok-keep-in-Ok-Stop
returns-in_ok-keep-in-Ok-Stop g c =
    let q : c.right_side.new.self.parser.word ≡ Ok w.Stop = search rules in
    let told = c.in_ok-right_side.ensures in
    let x = (Sentences.ended_so false _ _ _ _ _ _ _ _ None c.in-None.is told.goes told.stops).0 in
    let k = c.in_ok-keep-in-Ok-Stop.ensures.goes in
    record {
      goes = Sentences.side_ends false _ _ _ _ _ _ _ _ c.clear.ensures.items x g.K.Keeper.limits c.args.node (g.K.Keeper.kept c.args.keeper.now) c.args.place _ q c.requires.left _ (Sentences.as_sentence _ _ _ _ _ c.as_slice.ensures.value c.as_slice-in-Ok-Stop.ensures.value) k.0 _ k.1 _ _ c.advance.ensures.moves;
      onward = Onward.on _ _ _ told.takes.onward c.advance.ensures.onward;
      less = λ e. omega (arith, told.less refl, Runs.one_word c.right_side.new.self.parser.place c.right_side.new.self.parser.word w.Stop _ _ q refl c.advance.ensures.size);
    }

pub returns-in_default-clause-goes : goal.returns-in_default-clause-goes
returns-in_default-clause-goes g c =
    let not : c.right_side.new.self.parser.word ≡ Ok w.Stop → ⊥ = λ q. grind arith in
    let told = c.in_ok-right_side.ensures in
    let x = Sentences.ended_so false _ _ _ _ _ _ _ _ None c.in-None.is told.goes told.stops in
    Sentences.side_bad false _ _ _ _ _ _ _ _ c.clear.ensures.items x.0 g.K.Keeper.limits c.args.node (g.K.Keeper.kept c.args.keeper.now) c.args.place _ x.1 not c.misplaced.result c.misplaced.ensures.number c.misplaced.ensures.place

pub returns-in_default-collect_atoms-clause-goes : goal.returns-in_default-collect_atoms-clause-goes
returns-in_default-collect_atoms-clause-goes g c =
    let told = c.in_ok-right_side.ensures in
    let x = Sentences.ended_so false _ _ _ _ _ _ _ _ (Some c.in-Some.next) c.in-Some.is told.goes told.stops in
    let i = Sentences.inside_part x.0.terms x.0.inside _ _ _ c.clear.ensures.items x.0.items x.0.mark _ c.len-end.result c.as_slice-in-Some.ensures.value (c.len-end.ensures ∙ c.right_side.new.items.ok.0) in
    Sentences.next_left_bad _ _ _ _ _ _ _ _ _ _ x.0 (only_equals _ x.1) g.K.Keeper.limits c.args.node (g.K.Keeper.kept c.args.keeper.now) c.args.place _ (sym (ap collected i) ∙ not_collected (take ((c.len-end.result - 1) - (c.in-Some.next.mark + 1)) (drop (c.in-Some.next.mark + 1) c.as_slice-in-Some.result.now)) c.collect_atoms.result (vec_items c.collect_atoms.new.into) c.collect_atoms.ensures.goes c.in_default-collect_atoms.not-Ok) c.misplaced-in_default-collect_atoms.result c.misplaced-in_default-collect_atoms.ensures.number c.misplaced-in_default-collect_atoms.ensures.place

pub returns-in_err-keep-in-Some-clause-goes : goal.returns-in_err-keep-in-Some-clause-goes
returns-in_err-keep-in-Some-clause-goes g c =
    let told = c.in_ok-right_side.ensures in
    let x = Sentences.ended_so false _ _ _ _ _ _ _ _ (Some c.in-Some.next) c.in-Some.is told.goes told.stops in
    let i = Sentences.inside_part x.0.terms x.0.inside _ _ _ c.clear.ensures.items x.0.items x.0.mark _ c.len-end.result c.as_slice-in-Some.ensures.value (c.len-end.ensures ∙ c.right_side.new.items.ok.0) in
    let r = Sentences.right_part x.0.terms x.0.inside _ _ _ c.clear.ensures.items x.0.items x.0.mark _ c.as_slice-in-Some-3.ensures.value in
    let p = err_from_is_err_and c.from_residual-in_err-keep-in-Some.result c.from_residual-in_err-keep-in-Some.ensures.1 in
    let k = c.in_err-keep-in-Some.ensures.goes in
    rw (p.1, p.2) (Sentences.next_left_refused _ _ _ _ _ _ _ _ _ _ x.0 (only_equals _ x.1) g.K.Keeper.limits c.args.node (g.K.Keeper.kept c.args.keeper.now) c.args.place _ _ r _ (sym (ap collected i) ∙ c.in-Ok.ensures.goes) _ (Sentences.as_sentence _ _ _ _ _ c.as_slice-in-Some-2.ensures.value refl) k.0 k.1.0 c.in_err-keep-in-Some.field-0.0 k.1.1.0 k.1.1.1.0)

pub returns-in_ok-keep-in-Some : goal.returns-in_ok-keep-in-Some
returns-in_ok-keep-in-Some g c =
    let told = c.in_ok-right_side.ensures in
    let x = Sentences.ended_so false _ _ _ _ _ _ _ _ (Some c.in-Some.next) c.in-Some.is told.goes told.stops in
    let i = Sentences.inside_part x.0.terms x.0.inside _ _ _ c.clear.ensures.items x.0.items x.0.mark _ c.len-end.result c.as_slice-in-Some.ensures.value (c.len-end.ensures ∙ c.right_side.new.items.ok.0) in
    let r = Sentences.right_part x.0.terms x.0.inside _ _ _ c.clear.ensures.items x.0.items x.0.mark _ c.as_slice-in-Some-3.ensures.value in
    let k = c.in_ok-keep-in-Some.ensures.goes in
    record {
      goes = Sentences.next_left_read _ _ _ _ _ _ _ _ _ _ x.0 (only_equals _ x.1) g.K.Keeper.limits c.args.node (g.K.Keeper.kept c.args.keeper.now) c.args.place _ _ r (vec_items c.swap.new.x) (sym (ap collected i) ∙ c.in-Ok.ensures.goes ∙ ap (λ v. Some (vec_items v)) (sym c.swap.ensures.x_after)) _ (Sentences.as_sentence _ _ _ _ _ c.as_slice-in-Some-2.ensures.value refl) k.0 _ k.1 _ _ c.advance-in-Some.ensures.moves;
      onward = Onward.on _ _ _ told.takes.onward c.advance-in-Some.ensures.onward;
      less = λ e. omega (arith, told.less refl, Runs.one_word c.right_side.new.self.parser.place c.right_side.new.self.parser.word w.Equals _ _ (only_equals _ x.1) refl c.advance-in-Some.ensures.size);
    }
