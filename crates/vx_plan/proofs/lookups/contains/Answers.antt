use Rattle.std.proofs.Common.{◌≡◌, ◌⊎◌, ◌<◌, ℕ, zero, suc, List, [], ◌∷◌, length, get_or, arith, Option, Some, map, sym, ◌∙◌, ap, subst}
use Rattle.std.specs.Prelude.{IfOk, IfErr, OnOk}
use Rattle.std.specs.List.{slice_get}
use Rattle.std.specs.Option.{option_map}
use Rattle.std.proofs.lemmas.Option.{slice_get-map}
use Rattle.std.proofs.lemmas.Result.{on_ok_weaker}
use Rattle.vx_rows.specs.declared.error.ColumnError.{ColumnError}
use Rattle.vx_rows.specs.declared.error.ColumnError.TheVariants.{OutOfMemory}
use Rattle.vx_base.specs.Column.{Flat}
use Rattle.vx_job.specs.Lookups.{IsContainsError, contained}
use Rattle.vx_job.proofs.LookupErrors.{contains_free}
use Rattle.vx_column.specs.Columns.{rows_of, type_of, flat_of}
use Rattle.vx_column.specs.declared.column.Column.{Column}
use Rattle.vx_plan.proofs.lookups.contains.Goals as goal

there : (xs : List Column) (i : ℕ) (x : Column) → i < length xs → x ≡ get_or xs i x → slice_get xs i ≡ Some x
there [] i x h e = absurd (omega arith)
there (y ∷ xs) zero x h e = ap (λ (z : Column). Some z) (sym e)
there (y ∷ xs) (suc i) x h e = there xs i x (omega arith) e

-- the source, by its type and rows
of_source : (sources : List Column) (source : ℕ) (set : Column) → source < length sources → set ≡ get_or sources source set
    → Some (flat_of set) ≡ slice_get (map flat_of sources) source
of_source sources source set h e = sym (slice_get-map flat_of sources source ∙ ap (option_map flat_of) (there sources source set h e))

pub returns-in-Some-clause-ok : goal.returns-in-Some-clause-ok
returns-in-Some-clause-ok g c =
    subst (λ (other : Option Flat). IfOk c.contains.result (λ bits. bits ≡ contained (rows_of c.args.column.now) other))
    (of_source c.args.sources.now c.args.source c.in-Some.set.now c.in-Some.ensures.lookup.3.0 c.in-Some.ensures.lookup.1) c.contains.ensures.ok

pub returns-in-Some-clause-free : goal.returns-in-Some-clause-free
returns-in-Some-clause-free g c =
    let set = c.in-Some.set.now in
    let t = type_of c.args.column.now in
    subst (λ (other : Option Flat). OnOk c.contains.result ((e : ColumnError) → IsContainsError c.args.source other t e → ⊥))
    (of_source c.args.sources.now c.args.source set c.in-Some.ensures.lookup.3.0 c.in-Some.ensures.lookup.1) (on_ok_weaker c.contains.result (contains_free c.args.source (flat_of set) t) c.contains.ensures.alike)

pub returns-in-Some-clause-err : goal.returns-in-Some-clause-err
returns-in-Some-clause-err g c =
    subst (λ (other : Option Flat). IfErr c.contains.result (λ e. (e ≡ OutOfMemory) ⊎ IsContainsError c.args.source other (type_of c.args.column.now) e))
    (of_source c.args.sources.now c.args.source c.in-Some.set.now c.in-Some.ensures.lookup.3.0 c.in-Some.ensures.lookup.1) c.contains.ensures.err
