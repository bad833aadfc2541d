use Rattle.std.proofs.Common.{refl, arith}
use Rattle.classes.proofs.Entries.{at}
use Rattle.classes.proofs.class_of.Goals as goal

pub returns : goal.returns
returns c = at _ refl c.args.b _ (omega (arith, c.ranges.b.fits))
