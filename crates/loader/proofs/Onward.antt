-- Reading on, and on again.
use Rattle.std.proofs.Common.{refl, ◌∙◌}
use Rattle.lookahead.proofs.Growth
use Rattle.loader.specs.declared.reader.Reader.{Reader}
use Rattle.loader.specs.Onward.{Onward}

pub still : (r : Reader) → Onward r r
still r = record { same = refl; grows = Growth.still _ }

pub on : (a b c : Reader) → Onward a b → Onward b c → Onward a c
on a b c x y = record { same = y.same ∙ x.same; grows = Growth.on _ _ _ x.grows y.grows }
