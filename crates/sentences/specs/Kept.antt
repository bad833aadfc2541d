-- What is meant by a question and an open sentence that are kept.
use Rattle.std.specs.Prelude.{◌≡◌, ◌<◌, ◌≤◌, List, ◌++◌, length, Some, None, Option}
use Rattle.terms.specs.declared.items.Atom.{Atom}
use Rattle.terms.specs.Limits.{path_limit}
use Rattle.rules.specs.Questions.{Question}
use Rattle.rules.specs.Table.{Site, site}
use Rattle.machine.specs.Items.{Position}
use Rattle.path.specs.declared.Path.{Path}
use Rattle.path.specs.Atoms.{atoms_of}
use Rattle.sentences.specs.declared.table.Question.{Question as Kept}
use Rattle.sentences.specs.declared.table.Open.{Open}

abbrev pub question_of : Kept → Question
question_of q = record { node = q.node; path = atoms_of q.path; context = record { node = q.global_node; path = atoms_of q.global_path } }

abbrev pub position_of : Open → Position
position_of o = record { at = question_of o.at; left = o.left; place = o.place }

abbrev pub site_of : Open → Site
site_of o = site (question_of o.at) o.left

-- atoms with an extension behind them, or none where a path has no room for both
abbrev pub Extended : Option Path → List Atom → List Atom → Type 0
Extended None u e = path_limit < length (u ++ e)
Extended (Some p) u e = (atoms_of p ≡ u ++ e) × (length (u ++ e) ≤ path_limit)

-- a question, or none where its path would be too long
abbrev pub Asks : Option Kept → Question → Type 0
Asks None q = path_limit < length q.path
Asks (Some k) q = (question_of k ≡ q) × (length q.path ≤ path_limit)
