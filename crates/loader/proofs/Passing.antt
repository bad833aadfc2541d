-- Passing a word.
use Rattle.std.proofs.Common.{◌≡◌, suc, true, Ok, Err, Result, refl, ◌∙◌, arith}
use Rattle.std.specs.Prelude.{is_ok}
use Rattle.faults.specs.declared.kinds.GrammarFault.{GrammarFault}
use Rattle.lookahead.specs.declared.word.Word.TheVariants as w
use Rattle.loader.specs.declared.reader.Reader.{Reader}
use Rattle.loader.specs.Onward.{Passes}
use Rattle.loader.specs.Readings.{words_left, ReadsEnd}
use Rattle.loader.proofs.Runs
use Rattle.loader.proofs.Turns.{with_names, by_number}

-- the quote mark behind a quoted path
module _ (x x' : Reader) where
  pub ends : (res : Result (Unit {0}) GrammarFault) → Passes w.Quote x res x' → ReadsEnd x res x'
  ends (Ok u) y = λ l h r n i f b d. with_names _ (Runs.at_end l h r f b _ _ _ n i y.ahead d) ∙ y.moves l _
  ends (Err e) y = λ l h r n i f b d. by_number l _ _ _ _ _ e (Runs.no_end l h r n i f b _ _ _ y.other) y.kind y.at

  pub fewer : (res : Result (Unit {0}) GrammarFault) → Passes w.Quote x res x' → is_ok res ≡ true → words_left x ≡ suc (words_left x')
  fewer (Ok u) y e = Runs.one_word x.parser.place x.parser.word w.Quote _ _ y.ahead refl y.taken
  fewer (Err v) y e = absurd (grind arith)
