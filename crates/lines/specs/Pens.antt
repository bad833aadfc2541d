-- What a pen spells.
use Rattle.std.specs.Prelude.{◌≡◌, ℕ, List, length}
use Rattle.lines.specs.declared.pen.Pen.{Pen}
use Rattle.lines.specs.Pages.{Spelled}

-- A pen that spelled these bytes is on the same page, which is as long, behind them.
pub record Spells (before : Pen) (bytes : List ℕ) (after : Pen) : Type 0 where
  pub same_reference : after.page.ghost_name ≡ before.page.ghost_name
  pub same_length : length after.page.now ≡ length before.page.now
  pub spelled : Spelled before.page.now before.at bytes after.at after.page.now
