-- The line that is written for a value.
use Rattle.std.specs.Prelude.{ℕ, List, [], ◌∷◌, ◌++◌}
use Rattle.serde_json.specs.Data.{Data}
use Rattle.serde_json.specs.Written.{compact_text}

-- the compact text, and a line feed
abbrev pub line : Data → List ℕ
line d = compact_text d ++ 10 ∷ []
