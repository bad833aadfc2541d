-- The format by example.
use Rattle.std.proofs.Common.{◌≡◌, [], ◌∷◌, codes, refl}
use Rattle.std.specs.Fmt.{digits}
use Rattle.rules.specs.Outcomes as outcomes
use Rattle.lines.specs.Bytes.{line_bytes, equals_bytes, stop_bytes, refusal_bytes, title_bytes}

of_a_value : line_bytes (codes "Lamp") (codes "many" ∷ []) (equals_bytes (codes "lamp" ∷ codes "en" ∷ [])) 4 ≡ codes "Lamp:<many> = lamp en [4]\n"
unfolding digits
of_a_value = refl

of_no_atoms : line_bytes (codes "Echo") [] (equals_bytes []) 1 ≡ codes "Echo:<> = [1]\n"
unfolding digits
of_no_atoms = refl

of_no_value : line_bytes (codes "Word") (codes "stem" ∷ []) (stop_bytes outcomes.Stop.undefined) 1 ≡ codes "Word:<stem> : undefined [1]\n"
unfolding digits
of_no_value = refl

of_names_in_quotes : line_bytes (codes "Word") (codes "a" ∷ codes "B" ∷ codes "c d" ∷ []) (equals_bytes (codes "X" ∷ codes "yZ" ∷ [])) 120 ≡ codes "Word:<a 'B' 'c d'> = 'X' yZ [120]\n"
unfolding digits
of_names_in_quotes = refl

of_a_refused_question : refusal_bytes 4 17 ≡ codes "? 4 17\n"
unfolding digits
of_a_refused_question = refl

of_a_refused_text : title_bytes (codes "theory") 11 65536 ≡ codes "theory : 11 65536\n"
unfolding digits
of_a_refused_text = refl
