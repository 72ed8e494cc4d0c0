use Rattle.std.proofs.Common.{rules, arith, ◌≡◌, ◌∷◌, map, sym, subst, Bor, Option, Some, None, IfSome}
use Rattle.std.specs.List.{All}
use Rattle.std.specs.Option.{option_copied, option_map}
use Rattle.vx_base.specs.Column.{Flat}
use Rattle.vx_column.specs.Columns.{IsSound, index_of, listed}
use Rattle.vx_column.specs.declared.column.Column.{Column}
use Rattle.vx_column.specs.declared.column.Column.TheVariants as column
use Rattle.vx_column.proofs.excepted.Excepted+Column.chunk_offsets.Goals as goal

slot_is_sound : (indices : Flat) (slot : Option (Bor Column)) (rows : Option Flat) → option_copied slot ≡ option_map column.Flat rows →
    All IsSound (map column.Flat (indices ∷ listed rows)) → IfSome slot (λ s. IsSound s.now)
slot_is_sound indices None rows e all = tt
slot_is_sound indices (Some s) None e all = absurd cc
slot_is_sound indices (Some s) (Some rows) e all =
    let same : s.now ≡ column.Flat rows = cc in
    subst IsSound (sym same) (all 1 (column.Flat rows) (omega arith))

pub returns-clause-value : goal.returns-clause-value
returns-clause-value c = search rules

pub returns-clause-sound : goal.returns-clause-sound
returns-clause-sound c =
    let index = index_of c.args.self.now in
    slot_is_sound index.indices c.get.result index.chunk_offsets (returns-clause-value c) (subst (All IsSound) c.slots.ensures.value c.slots.ensures.sound)
