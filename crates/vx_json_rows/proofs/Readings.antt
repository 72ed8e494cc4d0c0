-- What the readers of forms rest on: an object's length, and loops over the items of an array.
use Rattle.std.proofs.Common.{◌≡◌, ◌<◌, ◌+◌, ℕ, zero, suc, List, [], ◌∷◌, ◌++◌, length, get_or, take}
use Rattle.std.proofs.Common.{Option, Some, None, String, Global, refl, sym, ap, ◌∙◌, eq-eqb, arith}
use Rattle.std.proofs.lemmas.Bool.{ne_eqb}
use Rattle.std.proofs.lemmas.List.{take_more}
use Rattle.std.specs.Prelude.{option_map}
use Rattle.serde_json.proofs.Views.{members_len-members_view}
use Rattle.serde_json.specs.Data.{Data}
use Rattle.serde_json.specs.Find.{as_object, as_array}
use Rattle.serde_json.specs.View.{view, items_view, members_view}
use Rattle.serde_json.specs.declared.value.Value.{Value}
use Rattle.vx_json_rows.specs.declared.forms.Unread.{Unread}
use Rattle.vx_json_rows.specs.declared.forms.Unread.TheVariants.{NoForm, OutOfMemory}
use Rattle.vx_json_rows.specs.Forms.{◌>>=◌, Fails, object_of, all_items, list_of, two_items, pair_of}

pub has_len_yes : (d : Data) (es : List (String Global × Value)) (n : ℕ)
    → Some (members_view es) ≡ as_object d → length es ≡ n → object_of n d ≡ Some tt
has_len_yes d es n is len = rw (← is, members_len-members_view es, eq-eqb _ _ len) refl

pub has_len_no : (d : Data) (es : List (String Global × Value)) (n : ℕ)
    → Some (members_view es) ≡ as_object d → (length es ≡ n → ⊥) → object_of n d ≡ None
has_len_no d es n is len = rw (← is, members_len-members_view es, ne_eqb _ _ len) refl

onto : {X : Type 0} (o : Option X) (a : Option (List X)) (b : Option X)
    → (o >>= λ x. option_map (λ xs. x ∷ xs) (a >>= λ ys. b >>= λ y. Some (ys ++ y ∷ []))) ≡
    ((o >>= λ x. option_map (λ xs. x ∷ xs) a) >>= λ ys. b >>= λ y. Some (ys ++ y ∷ []))
onto None a b = refl
onto (Some x) None b = refl
onto (Some x) (Some ys) None = refl
onto (Some x) (Some ys) (Some y) = refl

-- one item more is read after the others
pub all_items-push : {X : Type 0} (f : Data → Option X) (vs : List Value) (v : Value)
    → all_items f (items_view (vs ++ v ∷ [])) ≡
    (all_items f (items_view vs) >>= λ ys. f (view v) >>= λ y. Some (ys ++ y ∷ []))
all_items-push f [] v = refl
all_items-push f (u ∷ us) v = ap (λ a. f (view u) >>= λ x. option_map (λ xs. x ∷ xs) a)
    (all_items-push f us v) ∙ onto (f (view u)) (all_items f (items_view us)) (f (view v))

pub all_items-next : {X : Type 0} (f : Data → Option X) (vs : List Value) (i : ℕ) (v : Value)
    (ys : List X) (y : X)
    → i < length vs → v ≡ get_or vs i v → all_items f (items_view (take i vs)) ≡ Some ys
    → f (view v) ≡ Some y → all_items f (items_view (take (i + 1) vs)) ≡ Some (ys ++ y ∷ [])
all_items-next f vs i v ys y lt is before here =
    ap (λ us. all_items f (items_view us)) (take_more vs i v lt ∙ ap (λ u. take i vs ++ u ∷ []) (sym is))
    ∙ all_items-push f (take i vs) v ∙ rw (before, here) refl

-- an item more, where what was read of it stands at the end
pub all_items-grown : {X : Type 0} (f : Data → Option X) (vs : List Value) (i : ℕ) (v : Value)
    (ys new : List X)
    → i < length vs → v ≡ get_or vs i v → all_items f (items_view (take i vs)) ≡ Some ys
    → (f (view v) >>= λ y. Some (ys ++ y ∷ [])) ≡ Some new → all_items f (items_view (take (i + 1) vs)) ≡ Some new
all_items-grown f vs i v ys new lt is before here =
    ap (λ us. all_items f (items_view us)) (take_more vs i v lt ∙ ap (λ u. take i vs ++ u ∷ []) (sym is))
    ∙ all_items-push f (take i vs) v ∙ rw before here

stops : {X : Type 0} (o : Option X) → (o >>= λ x. option_map (λ xs. x ∷ xs) None) ≡ None
stops None = refl
stops (Some x) = refl

-- an item that is not read leaves the list unread
pub all_items-none : {X : Type 0} (f : Data → Option X) (vs : List Value) (i : ℕ) (d : Value)
    → i < length vs → f (view (get_or vs i d)) ≡ None → all_items f (items_view vs) ≡ None
all_items-none f [] i d lt h = absurd (omega arith)
all_items-none f (v ∷ vs) zero d lt h = rw h refl
all_items-none f (v ∷ vs) (suc i) d lt h = rw (all_items-none f vs i d (omega arith) h) (stops (f (view v)))

pub list_fails : {X : Type 0} (f : Data → Option X) (d : Data) (vs : List Value) (i : ℕ) (v : Value)
    (e : Unread)
    → as_array d ≡ Some (items_view vs) → i < length vs → v ≡ get_or vs i v → Fails e (f (view v))
    → Fails e (list_of f d)
list_fails f d vs i v (NoForm reason) is lt at h =
    rw is (all_items-none f vs i v lt (ap (λ u. f (view u)) (sym at) ∙ h))
list_fails f d vs i v OutOfMemory is lt at h = tt

two_items-other : {X Y : Type 0} (f : Data → Option X) (g : Data → Option Y) (vs : List Value)
    → (length vs ≡ 2 → ⊥) → two_items f g (items_view vs) ≡ None
two_items-other f g [] h = refl
two_items-other f g (u ∷ []) h = refl
two_items-other f g (u ∷ v ∷ []) h = absurd (h refl)
two_items-other f g (u ∷ v ∷ w ∷ ws) h = refl

-- another number of items than two
pub pair_other : {X Y : Type 0} (f : Data → Option X) (g : Data → Option Y) (d : Data) (vs : List Value)
    → as_array d ≡ Some (items_view vs) → (length vs ≡ 2 → ⊥) → pair_of f g d ≡ None
pair_other f g d vs is h = rw is (two_items-other f g vs h)
