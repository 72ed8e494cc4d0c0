-- How the fields of exceptions stand for what callers see.
use Rattle.vx_patches.specs.declared.patches.Patches.TheInside.{Inside}
use Rattle.vx_patches.specs.Pairs.{Overlay, IsOverlay}

abbrev pub overlay_of : Inside → Overlay
overlay_of p = record { index = p.index; values = p.values }

abbrev pub IsSound : Inside → Type 0
IsSound p = IsOverlay (overlay_of p)
