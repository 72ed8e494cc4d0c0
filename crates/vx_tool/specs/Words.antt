-- What the words of a command line ask for.
use Rattle.std.specs.Prelude.{ℕ, List, [], ◌∷◌, Bool, true, false, codes, bytes_eq}

-- no word, or the one word `run`
abbrev pub is_run : List (List ℕ) → Bool
is_run [] = true
is_run (word ∷ []) = bytes_eq word (codes "run")
is_run (word ∷ other ∷ words) = false
