use Rattle.std.proofs.Common.{sym, refl, ◌∙◌, arith}
use Rattle.loader.proofs.Onward.{on}
use Rattle.loader.proofs.Sides.{side_more, side_path}
use Rattle.loader.proofs.reader.Reader.right_side.Goals as goal

pub loop-items-preserved : goal.loop-items-preserved
loop-items-preserved c = let told = c.in_ok-unopened-in_default.ensures in (side_more _ _ _ _ _ _ _ _ _ _ c.loop-items.invariant.0 told.goes, on _ _ _ c.loop-items.invariant.1 told.takes.onward, omega (arith, told.less refl, c.loop-items.invariant.2), omega (arith, told.takes.each refl, told.takes.capacity, c.loop-items.invariant.3), omega (arith, told.takes.each refl, c.loop-items.invariant.4), told.takes.capacity ∙ c.loop-items.invariant.5)

pub loop-items-preserved-in-Less-1 : goal.loop-items-preserved-in-Less-1
loop-items-preserved-in-Less-1 c =
    let told = c.in_ok-path-in-Ok-Less.ensures in
    (side_path _ _ _ _ _ _ _ _ _ _ _ _ _ (sym c.if-begins_next.ensures) c.loop-items.invariant.0 told.goes, on _ _ _ c.loop-items.invariant.1 told.takes.onward, omega (arith, told.less refl, c.loop-items.invariant.2), omega (arith, told.takes.each refl, told.takes.capacity, c.loop-items.invariant.3), omega (arith, told.takes.each refl, c.loop-items.invariant.4), told.takes.capacity ∙ c.loop-items.invariant.5)
