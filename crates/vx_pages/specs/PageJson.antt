-- The JSON of pages.
use Rattle.std.specs.Prelude.{ℕ, Bool, List, map, codes, Option, Some, None}
use Rattle.serde_json.specs.Data.{Data, null, boolean, array, object, member, no_members}
use Rattle.serde_json.specs.View.{items_of}
use Rattle.vx_search.specs.declared.result.SearchResult.{SearchResult}
use Rattle.vx_search.specs.declared.result.SearchResult.TheVariants.{Found, NotFound}
use Rattle.vx_job.specs.PageView.{PageView}
use Rattle.vx_job.specs.declared.page.Answer.{Answer}
use Rattle.vx_job.specs.declared.page.Answer.TheVariants.{Rows, Place, Bits}
use Rattle.vx_pages.specs.TypeJson.{type_json}
use Rattle.vx_pages.specs.RowJson.{rows_json}
use Rattle.vx_pages.specs.RefusalJson.{whole_json}

-- an object of one number
abbrev pub number_under : List ℕ → ℕ → Data
number_under key n = object (member key (whole_json n) no_members)

-- `{"found":n}`, or `{"not_found":n}`
abbrev pub place_json : SearchResult → Data
place_json (Found i) = number_under (codes "found") i
place_json (NotFound i) = number_under (codes "not_found") i

abbrev pub bit_json : Option Bool → Data
bit_json None = null
bit_json (Some bit) = boolean bit

-- `[b or null]`
abbrev pub bits_json : List (Option Bool) → Data
bits_json bits = array (items_of (map bit_json bits))

-- `{"rows":[row]}`, a place, or `{"bits":[b or null]}`
abbrev pub answer_json : Answer → Data
answer_json (Rows rows) = object (member (codes "rows") (rows_json rows) no_members)
answer_json (Place place) = place_json place
answer_json (Bits bits) = object (member (codes "bits") (bits_json bits) no_members)

-- `{"answers":[A],"rows":[row],"type":T}`
abbrev pub page_json : PageView → Data
page_json p =
    object (member (codes "answers") (array (items_of (map answer_json p.answers)))
    (member (codes "rows") (rows_json p.rows) (member (codes "type") (type_json p.dtype) no_members)))
