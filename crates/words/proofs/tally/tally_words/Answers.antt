use Rattle.std.proofs.Common.{◌≡◌, length, Err, ap, ◌∙◌, arith}
use Rattle.std.proofs.lemmas.Result.{err_from_is_err_and}
use Rattle.words.specs.Tallies.{none, tallied}
use Rattle.words.specs.Texts.{words_of}
use Rattle.words.proofs.Exact.{words_are_exact}
use Rattle.words.proofs.Counting.{counting_faults, counting_ends, counting_more}
use Rattle.words.proofs.tally.tally_words.Goals as goal

pub returns-in_err-word : goal.returns-in_err-word
returns-in_err-word c =
    let p = err_from_is_err_and c.from_residual.result c.from_residual.ensures.1 in
    let f = counting_faults c.loop-word.reader.text.now c.loop-word.reader.at c.loop-word.tally c.loop-word.invariant.1 c.loop-word.reader.within _ _ c.in_err-word.ensures.value in
    record { counts = p.1 ∙ ap Err p.2 ∙ f ∙ ap (λ x. tallied none (words_of x)) c.loop-word.invariant.0; exact = words_are_exact _ }

pub returns-then-is_end : goal.returns-then-is_end
returns-then-is_end c = record {
  counts =
      counting_ends c.loop-word.reader.text.now c.loop-word.reader.at c.loop-word.tally c.loop-word.invariant.1 c.loop-word.reader.within _ _ _
      c.in_ok-word.ensures.value c.if-is_end.ensures ∙ ap (λ x. tallied none (words_of x)) c.loop-word.invariant.0;
  exact = words_are_exact _;
}

pub loop-word-smaller : goal.loop-word-smaller
loop-word-smaller c =
    let m = counting_more c.loop-word.reader.text.now c.loop-word.reader.at c.loop-word.tally c.loop-word.invariant.1 c.loop-word.reader.within _ _ _ c.in_ok-word.ensures.value c.if-is_end.ensures in
    let n = ap length c.loop-word.invariant.0 in omega (arith, m.0, m.1, n)

pub loop-word-preserved : goal.loop-word-preserved
loop-word-preserved c =
    let m = counting_more c.loop-word.reader.text.now c.loop-word.reader.at c.loop-word.tally c.loop-word.invariant.1 c.loop-word.reader.within _ _ _ c.in_ok-word.ensures.value c.if-is_end.ensures in
    let same : c.next.new.self.text.now ≡ c.loop-word.reader.text.now = ap (λ r. r.now) c.next.ensures.same in
    (same ∙ c.loop-word.invariant.0, rw (same, c.count.ensures) m.2)
