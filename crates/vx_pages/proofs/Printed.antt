-- The text of what the writer was handed.
use Rattle.std.proofs.Common.{◌≡◌, ℕ, List, [], ◌∷◌, ◌++◌, ap, ◌∙◌}
use Rattle.json.specs.Token.{Token}
use Rattle.json.specs.Print.{print}
use Rattle.serde_json.specs.Data.{Data}
use Rattle.serde_json.proofs.Texts.{print-outline}
use Rattle.vx_pages.specs.Lines.{line}
use Rattle.vx_pages.specs.Tokens.{tokens_of}

-- a writer that began with nothing was handed a value
pub printed_line : (d : Data) (before text : List ℕ) (ts : List Token)
    → before ≡ [] → ts ≡ tokens_of d → text ≡ (before ++ print ts) ++ 10 ∷ [] → text ≡ line d
printed_line d before text ts empty written ended =
    ended ∙ ap (λ front. (front ++ print ts) ++ 10 ∷ []) empty
    ∙ ap (λ us. print us ++ 10 ∷ []) written ∙ ap (λ s. s ++ 10 ∷ []) (print-outline d)
