-- Rows that are read and tested one by one are those that are read, and then tested together.
use Rattle.std.proofs.Common.{◌≡◌, List, ◌∷◌, Bool, true, false, Option, Some, None, option_map, refl, sym, ap, ◌∙◌}
use Rattle.std.specs.Prelude.{if◌then◌else◌, ◌&&◌, IsTrue}
use Rattle.serde_json.specs.Data.{Data, null, boolean, number, string, array, object, Items, no_items, item}
use Rattle.vx_rows.specs.Fits.{row_fits, rows_fit}
use Rattle.vx_rows.specs.declared.dtype.DType.{DType}
use Rattle.vx_rows.specs.declared.value.Value.{Value}
use Rattle.vx_base.specs.Column.{flat}
use Rattle.vx_json_rows.specs.Forms.{◌>>=◌, Fails, all_items, list_of}
use Rattle.vx_json_rows.specs.declared.forms.Unread.{Unread}
use Rattle.vx_json_rows.specs.declared.forms.Unread.TheVariants.{NoForm, OutOfMemory}
use Rattle.vx_json_rows.specs.Flat.{fitted, fitted_rows}
use Rattle.vx_json_rows.specs.Rows.{row_of, fitting_row}

-- rows, where a test allows them
kept : Bool → List (Option Value) → Option (List (Option Value))
kept true rows = Some rows
kept false rows = None

-- one row in front of others
joined : (a b : Bool) (row : Option Value) (rows : List (Option Value))
    → ((if a then Some row else None) >>= λ r. option_map (λ rs. r ∷ rs) (kept b rows)) ≡ kept (a && b) (row ∷ rows)
unfolding kept
joined true true row rows = refl
joined true false row rows = refl
joined false true row rows = refl
joined false false row rows = refl

unread : (a : Bool) (row : Option Value)
    → ((if a then Some row else None) >>= λ r. option_map (λ (rs : List (Option Value)). r ∷ rs) None) ≡ None
unread true row = refl
unread false row = refl

pushed : (t : DType) (o : Option (Option Value)) (rest : Option (List (Option Value)))
    → ((o >>= λ row. if row_fits t row then Some row else None) >>= λ r. option_map (λ rs. r ∷ rs) (rest >>= λ rows. kept (rows_fit t rows) rows))
    ≡ ((o >>= λ r. option_map (λ rs. r ∷ rs) rest) >>= λ rows. kept (rows_fit t rows) rows)
pushed t None rest = refl
pushed t (Some row) None = unread (row_fits t row) row
pushed t (Some row) (Some rows) = joined (row_fits t row) (rows_fit t rows) row rows

each_item : (t : DType) (ds : Items)
    → all_items (fitting_row t) ds ≡ (all_items (row_of t) ds >>= λ rows. kept (rows_fit t rows) rows)
unfolding kept
each_item t no_items = refl
each_item t (item d ds) =
    ap (λ rest. fitting_row t d >>= λ r. option_map (λ rs. r ∷ rs) rest) (each_item t ds)
    ∙ pushed t (row_of t d) (all_items (row_of t) ds)

list_fitted : (t : DType) (d : Data)
    → list_of (fitting_row t) d ≡ (list_of (row_of t) d >>= λ rows. kept (rows_fit t rows) rows)
list_fitted t null = refl
list_fitted t (boolean b) = refl
list_fitted t (number n) = refl
list_fitted t (string s) = refl
list_fitted t (array ds) = each_item t ds
list_fitted t (object ms) = refl

column_kept : (t : DType) (b : Bool) (rs rows : List (Option Value)) → kept b rs ≡ Some rows
    → (if b then Some (flat t rs) else None) ≡ Some (flat t rows)
unfolding kept
column_kept t true rs rows is = let same : rs ≡ rows = cc is in ap (λ r. Some (flat t r)) same
column_kept t false rs rows is = cc is

column_gone : (t : DType) (b : Bool) (rs : List (Option Value)) → kept b rs ≡ None
    → (if b then Some (flat t rs) else None) ≡ None
unfolding kept
column_gone t true rs is = cc is
column_gone t false rs is = refl

column_of : (t : DType) (o : Option (List (Option Value))) (rows : List (Option Value))
    → (o >>= λ rs. kept (rows_fit t rs) rs) ≡ Some rows → (o >>= fitted t) ≡ Some (flat t rows)
column_of t None rows is = cc is
column_of t (Some rs) rows is = column_kept t (rows_fit t rs) rs rows is

no_column : (t : DType) (o : Option (List (Option Value)))
    → (o >>= λ rs. kept (rows_fit t rs) rs) ≡ None → (o >>= fitted t) ≡ None
no_column t None is = refl
no_column t (Some rs) is = column_gone t (rows_fit t rs) rs is

-- rows that were read and tested one by one make a column
pub read_rows : (t : DType) (d : Data) (rows : List (Option Value))
    → list_of (fitting_row t) d ≡ Some rows → fitted_rows t d ≡ Some (flat t rows)
read_rows t d rows is = column_of t (list_of (row_of t) d) rows (sym (list_fitted t d) ∙ is)

-- where one was not read, or doesn't fit, there is no column
pub unread_rows : (t : DType) (d : Data)
    → list_of (fitting_row t) d ≡ None → fitted_rows t d ≡ None
unread_rows t d is = no_column t (list_of (row_of t) d) (sym (list_fitted t d) ∙ is)

pub fails_fitted : (t : DType) (d : Data) (e : Unread)
    → Fails e (list_of (fitting_row t) d) → Fails e (fitted_rows t d)
fails_fitted t d (NoForm reason) h = unread_rows t d h
fails_fitted t d OutOfMemory h = tt

fits_kept : (t : DType) (b : Bool) (rs rows : List (Option Value)) → rows_fit t rs ≡ b → kept b rs ≡ Some rows
    → IsTrue (rows_fit t rows)
unfolding kept
fits_kept t true rs rows e is = let same : rs ≡ rows = cc is in ap (rows_fit t) (sym same) ∙ e
fits_kept t false rs rows e is = cc is

all_kept : (t : DType) (o : Option (List (Option Value))) (rows : List (Option Value))
    → (o >>= λ rs. kept (rows_fit t rs) rs) ≡ Some rows → IsTrue (rows_fit t rows)
all_kept t None rows is = cc is
all_kept t (Some rs) rows is = fits_kept t (rows_fit t rs) rs rows refl is

-- and they fit
pub rows_that_fit : (t : DType) (d : Data) (rows : List (Option Value))
    → list_of (fitting_row t) d ≡ Some rows → IsTrue (rows_fit t rows)
rows_that_fit t d rows is = all_kept t (list_of (row_of t) d) rows (sym (list_fitted t d) ∙ is)
