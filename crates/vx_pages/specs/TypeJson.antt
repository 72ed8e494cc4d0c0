-- The JSON of types.
use Rattle.std.specs.Prelude.{ℕ, ℤ, List, [], ◌++◌, map, codes}
use Rattle.serde_json.specs.Data.{Data, Items, no_items, item, member, no_members}
use Rattle.serde_json.specs.Data.{boolean, number, unsigned, string, array, object}
use Rattle.serde_json.specs.Find.{of_integer}
use Rattle.serde_json.specs.View.{items_of}
use Rattle.vx_rows.specs.Fits.{is_nullable}
use Rattle.vx_rows.specs.Types.{layer_fields}
use Rattle.vx_rows.specs.declared.kinds.Nullability.{Nullability}
use Rattle.vx_rows.specs.declared.kinds.Nullability.TheVariants.{NonNullable, Nullable}
use Rattle.vx_rows.specs.declared.kinds.PType.{PType}
use Rattle.vx_rows.specs.declared.kinds.PType.TheVariants.{U8, U16, U32, U64, I8, I16, I32, I64}
use Rattle.vx_rows.specs.declared.dtype.DType.{DType, fold-DType}
use Rattle.vx_rows.specs.declared.dtype.DType.TheOpen.{DType-F}
use Rattle.vx_rows.specs.declared.dtype.Fields.{Fields, fold-Fields}
use Rattle.vx_rows.specs.declared.dtype.DType.TheOpen.{Fields-F}

-- the name of an integer type
abbrev pub ptype_name : PType → List ℕ
ptype_name U8 = codes "u8"
ptype_name U16 = codes "u16"
ptype_name U32 = codes "u32"
ptype_name U64 = codes "u64"
ptype_name I8 = codes "i8"
ptype_name I16 = codes "i16"
ptype_name I32 = codes "i32"
ptype_name I64 = codes "i64"

-- what follows the name of a nullable type
abbrev pub mark : Nullability → List ℕ
mark NonNullable = []
mark Nullable = codes "?"

-- a type that is a name
abbrev pub named : List ℕ → Nullability → Data
named name n = string (name ++ mark n)

-- a list of two
abbrev pub pair : Data → Data → Data
pair first second = array (item first (item second no_items))

-- the two numbers of a decimal type
abbrev pub digits : ℕ × ℤ → Data
digits d = pair (number (unsigned d.0)) (number (of_integer d.1))

-- a field's name and type
abbrev pub field_pair : List ℕ × Data → Data
field_pair f = pair (string f.0) f.1

-- types that aren't names, over the JSON of what they hold
abbrev pub decimal_type : ℕ × ℤ → Nullability → Data
decimal_type d n =
    object (member (codes "decimal") (digits d) (member (codes "nullable") (boolean (is_nullable n)) no_members))

abbrev pub list_type : Data → Nullability → Data
list_type t n =
    object (member (codes "list") t (member (codes "nullable") (boolean (is_nullable n)) no_members))

abbrev pub fixed_type : Data → ℕ → Nullability → Data
fixed_type t size n =
    object (member (codes "fixed") (pair t (number (unsigned size)))
    (member (codes "nullable") (boolean (is_nullable n)) no_members))

abbrev pub struct_type : Items → Nullability → Data
struct_type fields n =
    object (member (codes "nullable") (boolean (is_nullable n))
    (member (codes "struct") (array fields) no_members))

-- one level, with each type inside already seen as its JSON
abbrev pub type_step : DType-F Data Items → Data
type_step (DType-F.Bool n) = named (codes "bool") n
type_step (DType-F.Primitive p n) = named (ptype_name p) n
type_step (DType-F.Decimal d n) = decimal_type d n
type_step (DType-F.Utf8 n) = named (codes "utf8") n
type_step (DType-F.Binary n) = named (codes "binary") n
type_step (DType-F.List t n) = list_type t n
type_step (DType-F.FixedSizeList t size n) = fixed_type t size n
type_step (DType-F.Struct fields n) = struct_type fields n

abbrev pub fields_step : Fields-F Data Items → Items
fields_step fs = items_of (map field_pair (layer_fields fs))

abbrev pub type_json : DType → Data
type_json = fold-DType Data Items type_step fields_step

abbrev pub fields_json : Fields → Items
fields_json = fold-Fields Data Items type_step fields_step

-- a field's name and type
abbrev pub field_json : List ℕ × DType → Data
field_json f = pair (string f.0) (type_json f.1)
