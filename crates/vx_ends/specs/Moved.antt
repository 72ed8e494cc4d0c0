-- What calls have taken from a source and put into a sink, where these tell their bytes.
use Rattle.std.specs.Prelude.{◌≡◌, ℕ, ◌-◌, ◌≤◌, List, length, take, Some, None, IfSome}
use Rattle.std.specs.declared.option.Option.{Option}
use Rattle.std.specs.Io.KnownBytes.{Appends, Consumes}

-- how many bytes were taken; 0 where the source doesn't tell
abbrev pub taken_len : Option (List ℕ) → Option (List ℕ) → ℕ
taken_len (Some xs) (Some ys) = length xs - length ys
taken_len (Some xs) None = 0
taken_len None new = 0

-- These are the bytes, where they are told.
abbrev pub Tells : Option (List ℕ) → List ℕ → Type 0
Tells known bytes = IfSome known (λ xs. xs ≡ bytes)

-- The source lost the front of its bytes, perhaps nothing of them.
abbrev pub TakesFront : Option (List ℕ) → Option (List ℕ) → Type 0
TakesFront old new = (taken : List ℕ) × Consumes old new taken

-- The sink gained the front of the text, perhaps nothing of it.
abbrev pub AppendsFront : Option (List ℕ) → Option (List ℕ) → List ℕ → Type 0
AppendsFront old new text = (n : ℕ) × (n ≤ length text) × Appends old new (take n text)
