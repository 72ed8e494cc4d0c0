-- The numbers of types in messages.
use Rattle.std.specs.Prelude.{ℤ, pos, negsuc, Result, Ok, Err, Option, Some, None, nat_le, ◌==◌, if◌then◌else◌}
use Rattle.vx_rows.specs.declared.error.WireFault.{WireFault}
use Rattle.vx_rows.specs.declared.error.WireFault.TheVariants.{UnknownType, FloatType, NotUnsigned}
use Rattle.vx_rows.specs.declared.kinds.PType.{PType}
use Rattle.vx_rows.specs.declared.kinds.PType.TheVariants.{U8, U16, U32, U64, I8, I16, I32, I64}
use Rattle.vx_rows.specs.declared.kinds.Nullability.TheVariants.{NonNullable}
use Rattle.vx_rows.specs.declared.dtype.DType.{DType}
use Rattle.vx_rows.specs.declared.dtype.DType.TheVariants.{Primitive}

abbrev pub number_of_type : PType → ℤ
number_of_type U8 = pos 0
number_of_type U16 = pos 1
number_of_type U32 = pos 2
number_of_type U64 = pos 3
number_of_type I8 = pos 4
number_of_type I16 = pos 5
number_of_type I32 = pos 6
number_of_type I64 = pos 7

-- the type of a number; 8, 9 and 10 are floats
abbrev pub type_of_number : ℤ → Result PType WireFault
type_of_number (negsuc n) = Err (UnknownType (negsuc n))
type_of_number (pos n) =
    if n == 0 then Ok U8 else if n == 1 then Ok U16 else if n == 2 then Ok U32 else if n == 3 then Ok U64
    else if n == 4 then Ok I8 else if n == 5 then Ok I16 else if n == 6 then Ok I32 else if n == 7 then Ok I64
    else if nat_le n 10 then Err (FloatType (pos n)) else Err (UnknownType (pos n))

-- the type, of which no row is null
abbrev pub plain_dtype : PType → DType
plain_dtype ptype = Primitive ptype NonNullable

abbrev pub with_type : (PType → Result DType WireFault) → Result PType WireFault → Result DType WireFault
with_type f (Ok ptype) = f ptype
with_type f (Err fault) = Err fault

abbrev pub dtype_of_number : ℤ → Result DType WireFault
dtype_of_number z = with_type (λ ptype. Ok (plain_dtype ptype)) (type_of_number z)

-- the same, of unsigned integers alone
abbrev pub unsigned_alone : ℤ → PType → Result DType WireFault
unsigned_alone z U8 = Ok (plain_dtype U8)
unsigned_alone z U16 = Ok (plain_dtype U16)
unsigned_alone z U32 = Ok (plain_dtype U32)
unsigned_alone z U64 = Ok (plain_dtype U64)
unsigned_alone z _ = Err (NotUnsigned z)

abbrev pub unsigned_of_number : ℤ → Result DType WireFault
unsigned_of_number z = with_type (unsigned_alone z) (type_of_number z)

-- an absent number is of no type
abbrev pub optional_type : Result DType WireFault → Result (Option DType) WireFault
optional_type (Ok dtype) = Ok (Some dtype)
optional_type (Err fault) = Err fault

abbrev pub optional_dtype : Option ℤ → Result (Option DType) WireFault
optional_dtype None = Ok None
optional_dtype (Some z) = optional_type (dtype_of_number z)
