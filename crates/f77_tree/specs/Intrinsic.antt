-- The intrinsic functions and their names (ANSI X3.9-1978, 15.10).
use Rattle.std.specs.Prelude.{ℕ, List, Option, Some, None, if◌then◌else◌, codes}
use Rattle.std.specs.Str.{bytes_eq}
use Rattle.f77_tree.specs.declared.intrinsic.Intrinsic.{Intrinsic}
use Rattle.f77_tree.specs.declared.intrinsic.Intrinsic.TheVariants.{Mod, Iabs, Min0, Max0}

-- the name by which a function is called (15.10)
abbrev pub function_name : Intrinsic → List ℕ
function_name Mod = codes "MOD"
function_name Iabs = codes "IABS"
function_name Min0 = codes "MIN0"
function_name Max0 = codes "MAX0"

-- Rule: expressions, levels, functions (5, 6, 15.10)
-- the function of this name
unfoldable pub function_named : List ℕ → Option Intrinsic
function_named name =
    if bytes_eq name (codes "MOD") then Some Mod
    else (if bytes_eq name (codes "IABS") then Some Iabs
    else (if bytes_eq name (codes "MIN0") then Some Min0
    else (if bytes_eq name (codes "MAX0") then Some Max0
    else None)))
