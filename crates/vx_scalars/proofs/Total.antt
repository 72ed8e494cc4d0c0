-- The order of rows is a total order.
use Rattle.std.proofs.Common.{ℕ, ℤ, pos, ◌≡◌, Bool, false, List, [], ◌∷◌, Option, Some, None, map, refl, sym, ap, ◌∙◌, subst}
use Rattle.std.specs.declared.cmp.Ordering.{Ordering}
use Rattle.std.specs.declared.cmp.Ordering.TheVariants.{Less, Equal, Greater}
use Rattle.std.specs.Ordering.{ordering_then, ordering_reverse, nat_cmp, int_cmp, bool_cmp, on, then_cmp}
use Rattle.std.specs.Cmp.{IsTotalOrder, bool_cmp_total}
use Rattle.std.proofs.lemmas.Cmp.{nat_cmp_total, int_cmp_total, lists_total, alike_right}
use Rattle.std.specs.Cmp.Lexicographic.{slice_cmp}
use Rattle.vx_rows.specs.Order.{option_cmp, kind_rank, layer_cmp, apply_to, value_cmp, row_cmp, rows_cmp}
use Rattle.vx_rows.specs.declared.value.Value.{Value, out-Value}
use Rattle.vx_rows.specs.declared.value.Value.TheOpen.{Value-F}
use Rattle.vx_rows.specs.declared.value.Value.TheViews.{roll-Value, roll-out-Value, out-roll-Value}
use Rattle.vx_rows.specs.declared.value.Value.TheFolds.{ind-Value, map-Value, fold-roll-Value}

-- the laws of an order at one element
pub record LawsAt {K : Type 0} (R : K → K → Ordering) (x : K) : Type 0 where
  pub antisymm : (y : K) → R x y ≡ ordering_reverse (R y x)
  pub trans : (y z : K) → R x y ≡ Less → R y z ≡ Less → R x z ≡ Less
  pub congr : (y z : K) → R x y ≡ Equal → R x z ≡ R y z
  pub alike : (y z : K) → R y z ≡ Equal → R x y ≡ R x z

pub total_from : {K : Type 0} (R : K → K → Ordering) → ((x : K) → LawsAt R x) → IsTotalOrder R
total_from R l = record { antisymm = λ x y. (l x).antisymm y; trans = λ x y z. (l x).trans y z; congr = λ x y z. (l x).congr y z }

pub at_total : {K : Type 0} (R : K → K → Ordering) → IsTotalOrder R → (x : K) → LawsAt R x
at_total R o x = record { antisymm = o.antisymm x; trans = o.trans x; congr = o.congr x; alike = λ y z e. alike_right o y z x e }

then_reverse : (a b p q : Ordering) → a ≡ ordering_reverse b → p ≡ ordering_reverse q → ordering_then a p ≡ ordering_reverse (ordering_then b q)
then_reverse a Less p q e f = rw e refl
then_reverse a Equal p q e f = rw e f
then_reverse a Greater p q e f = rw e refl

pub then_equal : (a p : Ordering) → ordering_then a p ≡ Equal → (a ≡ Equal) × (p ≡ Equal)
then_equal Less p e = absurd (cc)
then_equal Equal p e = (refl, e)
then_equal Greater p e = absurd (cc)

then_less : (a b c p q r : Ordering) → (a ≡ Less → b ≡ Less → c ≡ Less) → (b ≡ Equal → a ≡ c) → (a ≡ Equal → c ≡ b) → (p ≡ Less → q ≡ Less → r ≡ Less)
    → ordering_then a p ≡ Less → ordering_then b q ≡ Less → ordering_then c r ≡ Less
then_less Less Less c p q r t back front u e f = rw (t refl refl) refl
then_less Less Equal c p q r t back front u e f = rw (sym (back refl)) refl
then_less Less Greater c p q r t back front u e f = absurd (cc)
then_less Equal Less c p q r t back front u e f = rw (front refl) refl
then_less Equal Equal c p q r t back front u e f = rw (front refl) (u e f)
then_less Equal Greater c p q r t back front u e f = absurd (cc)
then_less Greater b c p q r t back front u e f = absurd (cc)

then_same : (a b p q : Ordering) → a ≡ b → p ≡ q → ordering_then a p ≡ ordering_then b q
then_same a b p q e f = λ i. ordering_then (e i) (f i)

then_at : {K : Type 0} (R S : K → K → Ordering) (x : K) → LawsAt R x → LawsAt S x → LawsAt (then_cmp R S) x
then_at R S x l m = record {
  antisymm = λ y. then_reverse (R x y) (R y x) (S x y) (S y x) (l.antisymm y) (m.antisymm y);
  trans = λ y z. then_less (R x y) (R y z) (R x z) (S x y) (S y z) (S x z) (l.trans y z) (l.alike y z) (l.congr y z) (m.trans y z);
  congr = λ y z e. let b = then_equal (R x y) (S x y) e in then_same (R x z) (R y z) (S x z) (S y z) (l.congr y z b.0) (m.congr y z b.1);
  alike = λ y z e. let b = then_equal (R y z) (S y z) e in then_same (R x y) (R x z) (S x y) (S x z) (l.alike y z b.0) (m.alike y z b.1);
}

on_at : {K J : Type 0} (f : K → J) (R : J → J → Ordering) (x : K) → LawsAt R (f x) → LawsAt (on f R) x
on_at f R x l = record { antisymm = λ y. l.antisymm (f y); trans = λ y z. l.trans (f y) (f z); congr = λ y z. l.congr (f y) (f z); alike = λ y z. l.alike (f y) (f z) }

none_trans : {K : Type 0} (R : K → K → Ordering) (y z : Option K) → option_cmp R None y ≡ Less → option_cmp R y z ≡ Less → option_cmp R None z ≡ Less
none_trans R None z e f = absurd (cc)
none_trans R (Some y) None e f = absurd (cc)
none_trans R (Some y) (Some z) e f = refl

none_congr : {K : Type 0} (R : K → K → Ordering) (y z : Option K) → option_cmp R None y ≡ Equal → option_cmp R None z ≡ option_cmp R y z
none_congr R None z e = refl
none_congr R (Some y) z e = absurd (cc)

none_alike : {K : Type 0} (R : K → K → Ordering) (y z : Option K) → option_cmp R y z ≡ Equal → option_cmp R None y ≡ option_cmp R None z
none_alike R None None e = refl
none_alike R None (Some z) e = absurd (cc)
none_alike R (Some y) None e = absurd (cc)
none_alike R (Some y) (Some z) e = refl

none_antisymm : {K : Type 0} (R : K → K → Ordering) (y : Option K) → option_cmp R None y ≡ ordering_reverse (option_cmp R y None)
none_antisymm R None = refl
none_antisymm R (Some y) = refl

none_at : {K : Type 0} (R : K → K → Ordering) → LawsAt (option_cmp R) None
none_at R = record { antisymm = none_antisymm R; trans = none_trans R; congr = none_congr R; alike = none_alike R }

some_antisymm : {K : Type 0} (R : K → K → Ordering) (x : K) (l : LawsAt R x) (y : Option K) → option_cmp R (Some x) y ≡ ordering_reverse (option_cmp R y (Some x))
some_antisymm R x l None = refl
some_antisymm R x l (Some y) = l.antisymm y

some_trans : {K : Type 0} (R : K → K → Ordering) (x : K) (l : LawsAt R x) (y z : Option K) → option_cmp R (Some x) y ≡ Less → option_cmp R y z ≡ Less → option_cmp R (Some x) z ≡ Less
some_trans R x l None z e f = absurd (cc)
some_trans R x l (Some y) None e f = absurd (cc)
some_trans R x l (Some y) (Some z) e f = l.trans y z e f

some_congr : {K : Type 0} (R : K → K → Ordering) (x : K) (l : LawsAt R x) (y z : Option K) → option_cmp R (Some x) y ≡ Equal → option_cmp R (Some x) z ≡ option_cmp R y z
some_congr R x l None z e = absurd (cc)
some_congr R x l (Some y) None e = refl
some_congr R x l (Some y) (Some z) e = l.congr y z e

some_alike : {K : Type 0} (R : K → K → Ordering) (x : K) (l : LawsAt R x) (y z : Option K) → option_cmp R y z ≡ Equal → option_cmp R (Some x) y ≡ option_cmp R (Some x) z
some_alike R x l None None e = refl
some_alike R x l None (Some z) e = absurd (cc)
some_alike R x l (Some y) None e = absurd (cc)
some_alike R x l (Some y) (Some z) e = l.alike y z e

some_at : {K : Type 0} (R : K → K → Ordering) (x : K) → LawsAt R x → LawsAt (option_cmp R) (Some x)
some_at R x l = record { antisymm = some_antisymm R x l; trans = some_trans R x l; congr = some_congr R x l; alike = some_alike R x l }

pub options_total : {K : Type 0} (R : K → K → Ordering) → IsTotalOrder R → IsTotalOrder (option_cmp R)
options_total R o = total_from (option_cmp R) (λ x. elim x as (λ x. LawsAt (option_cmp R) x) [ None ↦ none_at R | Some y ↦ some_at R y (at_total R o y) ])

module _ {E K : Type 0} (R : K → K → Ordering) (f : E → K) (l : (e : E) → LawsAt R (f e)) where
  list_antisymm : (es : List E) (ys : List K) → slice_cmp R (map f es) ys ≡ ordering_reverse (slice_cmp R ys (map f es))
  list_antisymm [] [] = refl
  list_antisymm [] (y ∷ ys) = refl
  list_antisymm (e ∷ es) [] = refl
  list_antisymm (e ∷ es) (y ∷ ys) = then_reverse (R (f e) y) (R y (f e)) (slice_cmp R (map f es) ys) (slice_cmp R ys (map f es)) ((l e).antisymm y) (list_antisymm es ys)

  list_trans : (es : List E) (ys zs : List K) → slice_cmp R (map f es) ys ≡ Less → slice_cmp R ys zs ≡ Less → slice_cmp R (map f es) zs ≡ Less
  list_trans [] [] zs p q = absurd (cc)
  list_trans [] (y ∷ ys) [] p q = absurd (cc)
  list_trans [] (y ∷ ys) (z ∷ zs) p q = refl
  list_trans (e ∷ es) [] zs p q = absurd (cc)
  list_trans (e ∷ es) (y ∷ ys) [] p q = absurd (cc)
  list_trans (e ∷ es) (y ∷ ys) (z ∷ zs) p q =
      then_less (R (f e) y) (R y z) (R (f e) z) (slice_cmp R (map f es) ys) (slice_cmp R ys zs) (slice_cmp R (map f es) zs)
      ((l e).trans y z) ((l e).alike y z) ((l e).congr y z) (list_trans es ys zs) p q

  list_congr : (es : List E) (ys zs : List K) → slice_cmp R (map f es) ys ≡ Equal → slice_cmp R (map f es) zs ≡ slice_cmp R ys zs
  list_congr [] [] zs p = refl
  list_congr [] (y ∷ ys) zs p = absurd (cc)
  list_congr (e ∷ es) [] zs p = absurd (cc)
  list_congr (e ∷ es) (y ∷ ys) [] p = refl
  list_congr (e ∷ es) (y ∷ ys) (z ∷ zs) p =
      let b = then_equal (R (f e) y) (slice_cmp R (map f es) ys) p in
      then_same (R (f e) z) (R y z) (slice_cmp R (map f es) zs) (slice_cmp R ys zs) ((l e).congr y z b.0) (list_congr es ys zs b.1)

  list_alike : (es : List E) (ys zs : List K) → slice_cmp R ys zs ≡ Equal → slice_cmp R (map f es) ys ≡ slice_cmp R (map f es) zs
  list_alike es [] [] p = refl
  list_alike es [] (z ∷ zs) p = absurd (cc)
  list_alike es (y ∷ ys) [] p = absurd (cc)
  list_alike [] (y ∷ ys) (z ∷ zs) p = refl
  list_alike (e ∷ es) (y ∷ ys) (z ∷ zs) p =
      let b = then_equal (R y z) (slice_cmp R ys zs) p in
      then_same (R (f e) y) (R (f e) z) (slice_cmp R (map f es) ys) (slice_cmp R (map f es) zs) ((l e).alike y z b.0) (list_alike es ys zs b.1)

  lists_at : (es : List E) → LawsAt (slice_cmp R) (map f es)
  lists_at es = record { antisymm = list_antisymm es; trans = list_trans es; congr = list_congr es; alike = list_alike es }

-- the parts of a layer, by kind

abbrev as_bool : {A : Type 0} → Value-F A → Bool
as_bool (Value-F.Bool a) = a
as_bool (Value-F.Int a) = false
as_bool (Value-F.Decimal a) = false
as_bool (Value-F.Utf8 a) = false
as_bool (Value-F.Binary a) = false
as_bool (Value-F.List a) = false
as_bool (Value-F.Struct a) = false

abbrev as_int : {A : Type 0} → Value-F A → ℤ
as_int (Value-F.Bool a) = pos 0
as_int (Value-F.Int a) = a
as_int (Value-F.Decimal a) = pos 0
as_int (Value-F.Utf8 a) = pos 0
as_int (Value-F.Binary a) = pos 0
as_int (Value-F.List a) = pos 0
as_int (Value-F.Struct a) = pos 0

abbrev as_decimal : {A : Type 0} → Value-F A → ℤ
as_decimal (Value-F.Bool a) = pos 0
as_decimal (Value-F.Int a) = pos 0
as_decimal (Value-F.Decimal a) = a
as_decimal (Value-F.Utf8 a) = pos 0
as_decimal (Value-F.Binary a) = pos 0
as_decimal (Value-F.List a) = pos 0
as_decimal (Value-F.Struct a) = pos 0

abbrev as_text : {A : Type 0} → Value-F A → List ℕ
as_text (Value-F.Bool a) = []
as_text (Value-F.Int a) = []
as_text (Value-F.Decimal a) = []
as_text (Value-F.Utf8 a) = a
as_text (Value-F.Binary a) = []
as_text (Value-F.List a) = []
as_text (Value-F.Struct a) = []

abbrev as_bytes : {A : Type 0} → Value-F A → List ℕ
as_bytes (Value-F.Bool a) = []
as_bytes (Value-F.Int a) = []
as_bytes (Value-F.Decimal a) = []
as_bytes (Value-F.Utf8 a) = []
as_bytes (Value-F.Binary a) = a
as_bytes (Value-F.List a) = []
as_bytes (Value-F.Struct a) = []

abbrev as_list : {A : Type 0} → Value-F A → List (Option A)
as_list (Value-F.Bool a) = []
as_list (Value-F.Int a) = []
as_list (Value-F.Decimal a) = []
as_list (Value-F.Utf8 a) = []
as_list (Value-F.Binary a) = []
as_list (Value-F.List a) = a
as_list (Value-F.Struct a) = []

abbrev as_struct : {A : Type 0} → Value-F A → List (Option A)
as_struct (Value-F.Bool a) = []
as_struct (Value-F.Int a) = []
as_struct (Value-F.Decimal a) = []
as_struct (Value-F.Utf8 a) = []
as_struct (Value-F.Binary a) = []
as_struct (Value-F.List a) = []
as_struct (Value-F.Struct a) = a

-- a layer's order, part by part
abbrev parts_cmp : {A : Type 0} → (A → A → Ordering) → Value-F A → Value-F A → Ordering
parts_cmp R = then_cmp (on kind_rank nat_cmp) (then_cmp (on as_bool bool_cmp) (then_cmp (on as_int int_cmp) (then_cmp (on as_decimal int_cmp) (then_cmp (on as_text (slice_cmp nat_cmp)) (then_cmp (on as_bytes (slice_cmp nat_cmp)) (then_cmp (on as_list (slice_cmp (option_cmp R))) (on as_struct (slice_cmp (option_cmp R)))))))))

then_nothing : (o : Ordering) → o ≡ ordering_then o Equal
then_nothing Less = refl
then_nothing Equal = refl
then_nothing Greater = refl

by_parts : {A : Type 0} (R : A → A → Ordering) (x y : Value-F A) → layer_cmp R x y ≡ parts_cmp R x y
by_parts R (Value-F.Bool a) (Value-F.Bool b) = then_nothing (bool_cmp a b)
by_parts R (Value-F.Bool a) (Value-F.Int b) = refl
by_parts R (Value-F.Bool a) (Value-F.Decimal b) = refl
by_parts R (Value-F.Bool a) (Value-F.Utf8 b) = refl
by_parts R (Value-F.Bool a) (Value-F.Binary b) = refl
by_parts R (Value-F.Bool a) (Value-F.List b) = refl
by_parts R (Value-F.Bool a) (Value-F.Struct b) = refl
by_parts R (Value-F.Int a) (Value-F.Bool b) = refl
by_parts R (Value-F.Int a) (Value-F.Int b) = then_nothing (int_cmp a b)
by_parts R (Value-F.Int a) (Value-F.Decimal b) = refl
by_parts R (Value-F.Int a) (Value-F.Utf8 b) = refl
by_parts R (Value-F.Int a) (Value-F.Binary b) = refl
by_parts R (Value-F.Int a) (Value-F.List b) = refl
by_parts R (Value-F.Int a) (Value-F.Struct b) = refl
by_parts R (Value-F.Decimal a) (Value-F.Bool b) = refl
by_parts R (Value-F.Decimal a) (Value-F.Int b) = refl
by_parts R (Value-F.Decimal a) (Value-F.Decimal b) = then_nothing (int_cmp a b)
by_parts R (Value-F.Decimal a) (Value-F.Utf8 b) = refl
by_parts R (Value-F.Decimal a) (Value-F.Binary b) = refl
by_parts R (Value-F.Decimal a) (Value-F.List b) = refl
by_parts R (Value-F.Decimal a) (Value-F.Struct b) = refl
by_parts R (Value-F.Utf8 a) (Value-F.Bool b) = refl
by_parts R (Value-F.Utf8 a) (Value-F.Int b) = refl
by_parts R (Value-F.Utf8 a) (Value-F.Decimal b) = refl
by_parts R (Value-F.Utf8 a) (Value-F.Utf8 b) = then_nothing (slice_cmp nat_cmp a b)
by_parts R (Value-F.Utf8 a) (Value-F.Binary b) = refl
by_parts R (Value-F.Utf8 a) (Value-F.List b) = refl
by_parts R (Value-F.Utf8 a) (Value-F.Struct b) = refl
by_parts R (Value-F.Binary a) (Value-F.Bool b) = refl
by_parts R (Value-F.Binary a) (Value-F.Int b) = refl
by_parts R (Value-F.Binary a) (Value-F.Decimal b) = refl
by_parts R (Value-F.Binary a) (Value-F.Utf8 b) = refl
by_parts R (Value-F.Binary a) (Value-F.Binary b) = then_nothing (slice_cmp nat_cmp a b)
by_parts R (Value-F.Binary a) (Value-F.List b) = refl
by_parts R (Value-F.Binary a) (Value-F.Struct b) = refl
by_parts R (Value-F.List a) (Value-F.Bool b) = refl
by_parts R (Value-F.List a) (Value-F.Int b) = refl
by_parts R (Value-F.List a) (Value-F.Decimal b) = refl
by_parts R (Value-F.List a) (Value-F.Utf8 b) = refl
by_parts R (Value-F.List a) (Value-F.Binary b) = refl
by_parts R (Value-F.List a) (Value-F.List b) = then_nothing (slice_cmp (option_cmp R) a b)
by_parts R (Value-F.List a) (Value-F.Struct b) = refl
by_parts R (Value-F.Struct a) (Value-F.Bool b) = refl
by_parts R (Value-F.Struct a) (Value-F.Int b) = refl
by_parts R (Value-F.Struct a) (Value-F.Decimal b) = refl
by_parts R (Value-F.Struct a) (Value-F.Utf8 b) = refl
by_parts R (Value-F.Struct a) (Value-F.Binary b) = refl
by_parts R (Value-F.Struct a) (Value-F.List b) = refl
by_parts R (Value-F.Struct a) (Value-F.Struct b) = refl

bool_total : IsTotalOrder bool_cmp
bool_total = bool_cmp_total

parts_at : {A : Type 0} (R : A → A → Ordering) (x : Value-F A) → LawsAt (slice_cmp (option_cmp R)) (as_list x) → LawsAt (slice_cmp (option_cmp R)) (as_struct x) → LawsAt (parts_cmp R) x
parts_at R x in_list in_struct = then_at (on kind_rank nat_cmp) (then_cmp (on as_bool bool_cmp) (then_cmp (on as_int int_cmp) (then_cmp (on as_decimal int_cmp) (then_cmp (on as_text (slice_cmp nat_cmp)) (then_cmp (on as_bytes (slice_cmp nat_cmp)) (then_cmp (on as_list (slice_cmp (option_cmp R))) (on as_struct (slice_cmp (option_cmp R))))))))) x (on_at kind_rank nat_cmp x (at_total nat_cmp nat_cmp_total (kind_rank x))) (then_at (on as_bool bool_cmp) (then_cmp (on as_int int_cmp) (then_cmp (on as_decimal int_cmp) (then_cmp (on as_text (slice_cmp nat_cmp)) (then_cmp (on as_bytes (slice_cmp nat_cmp)) (then_cmp (on as_list (slice_cmp (option_cmp R))) (on as_struct (slice_cmp (option_cmp R)))))))) x (on_at as_bool bool_cmp x (at_total bool_cmp bool_total (as_bool x))) (then_at (on as_int int_cmp) (then_cmp (on as_decimal int_cmp) (then_cmp (on as_text (slice_cmp nat_cmp)) (then_cmp (on as_bytes (slice_cmp nat_cmp)) (then_cmp (on as_list (slice_cmp (option_cmp R))) (on as_struct (slice_cmp (option_cmp R))))))) x (on_at as_int int_cmp x (at_total int_cmp int_cmp_total (as_int x))) (then_at (on as_decimal int_cmp) (then_cmp (on as_text (slice_cmp nat_cmp)) (then_cmp (on as_bytes (slice_cmp nat_cmp)) (then_cmp (on as_list (slice_cmp (option_cmp R))) (on as_struct (slice_cmp (option_cmp R)))))) x (on_at as_decimal int_cmp x (at_total int_cmp int_cmp_total (as_decimal x))) (then_at (on as_text (slice_cmp nat_cmp)) (then_cmp (on as_bytes (slice_cmp nat_cmp)) (then_cmp (on as_list (slice_cmp (option_cmp R))) (on as_struct (slice_cmp (option_cmp R))))) x (on_at as_text (slice_cmp nat_cmp) x (at_total (slice_cmp nat_cmp) (lists_total nat_cmp_total) (as_text x))) (then_at (on as_bytes (slice_cmp nat_cmp)) (then_cmp (on as_list (slice_cmp (option_cmp R))) (on as_struct (slice_cmp (option_cmp R)))) x (on_at as_bytes (slice_cmp nat_cmp) x (at_total (slice_cmp nat_cmp) (lists_total nat_cmp_total) (as_bytes x))) (then_at (on as_list (slice_cmp (option_cmp R))) (on as_struct (slice_cmp (option_cmp R))) x (on_at as_list (slice_cmp (option_cmp R)) x in_list) (on_at as_struct (slice_cmp (option_cmp R)) x in_struct)))))))

same_laws : {K : Type 0} (R S : K → K → Ordering) (e : (x y : K) → R x y ≡ S x y) (x : K) → LawsAt S x → LawsAt R x
same_laws R S e x l = record {
  antisymm = λ y. e x y ∙ l.antisymm y ∙ ap ordering_reverse (sym (e y x));
  trans = λ y z p q. e x z ∙ l.trans y z (sym (e x y) ∙ p) (sym (e y z) ∙ q);
  congr = λ y z p. e x z ∙ l.congr y z (sym (e x y) ∙ p) ∙ sym (e y z);
  alike = λ y z p. e x y ∙ l.alike y z (sym (e y z) ∙ p) ∙ sym (e x z);
}

-- the order of values is that of their layers
folded : (g : Option Value → Option (Value → Ordering)) → g None ≡ None → ((v : Value) → g (Some v) ≡ Some (value_cmp v))
    → (xs ys : List (Option Value)) → slice_cmp (option_cmp (λ f w. f w)) (map g xs) ys ≡ slice_cmp row_cmp xs ys
folded g n s [] [] = refl
folded g n s [] (y ∷ ys) = refl
folded g n s (x ∷ xs) [] = refl
folded g n s (None ∷ xs) (None ∷ ys) = rw n (folded g n s xs ys)
folded g n s (None ∷ xs) (Some w ∷ ys) = rw n refl
folded g n s (Some v ∷ xs) (None ∷ ys) = rw (s v) refl
folded g n s (Some v ∷ xs) (Some w ∷ ys) = rw (s v) (ap (ordering_then (value_cmp v w)) (folded g n s xs ys))

layer_of : (x y : Value-F Value) → layer_cmp (λ f w. f w) (map-Value Value (Value → Ordering) value_cmp x) y ≡ layer_cmp value_cmp x y
layer_of (Value-F.Bool a) (Value-F.Bool b) = refl
layer_of (Value-F.Bool a) (Value-F.Int b) = refl
layer_of (Value-F.Bool a) (Value-F.Decimal b) = refl
layer_of (Value-F.Bool a) (Value-F.Utf8 b) = refl
layer_of (Value-F.Bool a) (Value-F.Binary b) = refl
layer_of (Value-F.Bool a) (Value-F.List b) = refl
layer_of (Value-F.Bool a) (Value-F.Struct b) = refl
layer_of (Value-F.Int a) (Value-F.Bool b) = refl
layer_of (Value-F.Int a) (Value-F.Int b) = refl
layer_of (Value-F.Int a) (Value-F.Decimal b) = refl
layer_of (Value-F.Int a) (Value-F.Utf8 b) = refl
layer_of (Value-F.Int a) (Value-F.Binary b) = refl
layer_of (Value-F.Int a) (Value-F.List b) = refl
layer_of (Value-F.Int a) (Value-F.Struct b) = refl
layer_of (Value-F.Decimal a) (Value-F.Bool b) = refl
layer_of (Value-F.Decimal a) (Value-F.Int b) = refl
layer_of (Value-F.Decimal a) (Value-F.Decimal b) = refl
layer_of (Value-F.Decimal a) (Value-F.Utf8 b) = refl
layer_of (Value-F.Decimal a) (Value-F.Binary b) = refl
layer_of (Value-F.Decimal a) (Value-F.List b) = refl
layer_of (Value-F.Decimal a) (Value-F.Struct b) = refl
layer_of (Value-F.Utf8 a) (Value-F.Bool b) = refl
layer_of (Value-F.Utf8 a) (Value-F.Int b) = refl
layer_of (Value-F.Utf8 a) (Value-F.Decimal b) = refl
layer_of (Value-F.Utf8 a) (Value-F.Utf8 b) = refl
layer_of (Value-F.Utf8 a) (Value-F.Binary b) = refl
layer_of (Value-F.Utf8 a) (Value-F.List b) = refl
layer_of (Value-F.Utf8 a) (Value-F.Struct b) = refl
layer_of (Value-F.Binary a) (Value-F.Bool b) = refl
layer_of (Value-F.Binary a) (Value-F.Int b) = refl
layer_of (Value-F.Binary a) (Value-F.Decimal b) = refl
layer_of (Value-F.Binary a) (Value-F.Utf8 b) = refl
layer_of (Value-F.Binary a) (Value-F.Binary b) = refl
layer_of (Value-F.Binary a) (Value-F.List b) = refl
layer_of (Value-F.Binary a) (Value-F.Struct b) = refl
layer_of (Value-F.List a) (Value-F.Bool b) = refl
layer_of (Value-F.List a) (Value-F.Int b) = refl
layer_of (Value-F.List a) (Value-F.Decimal b) = refl
layer_of (Value-F.List a) (Value-F.Utf8 b) = refl
layer_of (Value-F.List a) (Value-F.Binary b) = refl
layer_of (Value-F.List a) (Value-F.List b) = folded _ refl (λ v. refl) a b
layer_of (Value-F.List a) (Value-F.Struct b) = refl
layer_of (Value-F.Struct a) (Value-F.Bool b) = refl
layer_of (Value-F.Struct a) (Value-F.Int b) = refl
layer_of (Value-F.Struct a) (Value-F.Decimal b) = refl
layer_of (Value-F.Struct a) (Value-F.Utf8 b) = refl
layer_of (Value-F.Struct a) (Value-F.Binary b) = refl
layer_of (Value-F.Struct a) (Value-F.List b) = refl
layer_of (Value-F.Struct a) (Value-F.Struct b) = folded _ refl (λ v. refl) a b

pub value_layer : (x y : Value) → value_cmp x y ≡ layer_cmp value_cmp (out-Value x) (out-Value y)
value_layer x y = ap (λ v. value_cmp v y) (sym (roll-out-Value x)) ∙ ap (λ h. h y) (fold-roll-Value (Value → Ordering) apply_to (out-Value x)) ∙ layer_of (out-Value x) (out-Value y)

value_parts : (x y : Value) → value_cmp x y ≡ on out-Value (parts_cmp value_cmp) x y
value_parts x y = value_layer x y ∙ by_parts value_cmp (out-Value x) (out-Value y)

-- a value with its laws
abbrev Lawful : Type 0
Lawful = (v : Value) × LawsAt value_cmp v

abbrev plain : Value-F Lawful → Value-F Value
plain = map-Value Lawful Value (λ e. e.0)

rows_at : (g : Option Lawful → Option Value) → g None ≡ None → ((e : Lawful) → g (Some e) ≡ Some e.0) → (es : List (Option Lawful)) → LawsAt (slice_cmp row_cmp) (map g es)
rows_at g n s = lists_at row_cmp g (λ e. elim e as (λ e. LawsAt row_cmp (g e)) [ None ↦ subst (LawsAt row_cmp) (sym n) (none_at value_cmp) | Some e ↦ subst (LawsAt row_cmp) (sym (s e)) (some_at value_cmp e.0 e.1) ])

nothing : Option Value → Option Value
nothing e = None

nothing_at : (e : Option Value) → LawsAt row_cmp (nothing e)
unfolding nothing
nothing_at e = none_at value_cmp

no_rows : LawsAt (slice_cmp row_cmp) []
no_rows = lists_at row_cmp nothing nothing_at []

list_held : (y : Value-F Lawful) → LawsAt (slice_cmp row_cmp) (as_list (plain y))
list_held (Value-F.Bool a) = no_rows
list_held (Value-F.Int a) = no_rows
list_held (Value-F.Decimal a) = no_rows
list_held (Value-F.Utf8 a) = no_rows
list_held (Value-F.Binary a) = no_rows
list_held (Value-F.List a) = rows_at _ refl (λ e. refl) a
list_held (Value-F.Struct a) = no_rows

struct_held : (y : Value-F Lawful) → LawsAt (slice_cmp row_cmp) (as_struct (plain y))
struct_held (Value-F.Bool a) = no_rows
struct_held (Value-F.Int a) = no_rows
struct_held (Value-F.Decimal a) = no_rows
struct_held (Value-F.Utf8 a) = no_rows
struct_held (Value-F.Binary a) = no_rows
struct_held (Value-F.List a) = no_rows
struct_held (Value-F.Struct a) = rows_at _ refl (λ e. refl) a

value_at : (v : Value) → LawsAt value_cmp v
value_at = ind-Value (LawsAt value_cmp) (λ x y e.
    let here : LawsAt (parts_cmp value_cmp) x = subst (LawsAt (parts_cmp value_cmp)) e (parts_at value_cmp (plain y) (list_held y) (struct_held y)) in
    same_laws value_cmp (on out-Value (parts_cmp value_cmp)) value_parts (roll-Value x) (on_at out-Value (parts_cmp value_cmp) (roll-Value x) (subst (LawsAt (parts_cmp value_cmp)) (sym (out-roll-Value x)) here)))

pub value_cmp_total : IsTotalOrder value_cmp
value_cmp_total = total_from value_cmp value_at

pub row_cmp_total : IsTotalOrder row_cmp
row_cmp_total = options_total value_cmp value_cmp_total

pub rows_cmp_total : IsTotalOrder rows_cmp
rows_cmp_total = lists_total row_cmp_total
