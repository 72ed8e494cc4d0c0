-- How sides and results print.
use Rattle.std.specs.Prelude.{ℕ, List, ◌++◌, codes}
use Rattle.std.specs.Fmt.{decimal}
use Rattle.vx_search.specs.declared.result.SearchResult.{SearchResult}
use Rattle.vx_search.specs.declared.result.SearchResult.TheVariants.{Found, NotFound}
use Rattle.vx_search.specs.declared.result.SearchSortedSide.{SearchSortedSide}
use Rattle.vx_search.specs.declared.result.SearchSortedSide.TheVariants.{Left, Right}

abbrev pub side_text : SearchSortedSide → List ℕ
side_text Left = codes "left"
side_text Right = codes "right"

abbrev pub result_text : SearchResult → List ℕ
result_text (Found i) = codes "Found(" ++ (decimal i ++ codes ")")
result_text (NotFound i) = codes "NotFound(" ++ (decimal i ++ codes ")")
