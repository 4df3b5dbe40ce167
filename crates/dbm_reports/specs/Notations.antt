-- The notation that the options select.
use Rattle.std.specs.Prelude.{ℕ, Bool, true, false, List, Option, Some, None, option_map}
use Rattle.std.specs.Borrow.{Bor}
use Rattle.std.specs.declared.alloc.Global.{Global}
use Rattle.byte_text.specs.Layouts.{layout_of}
use Rattle.dbm_script.specs.declared.notations.Notation.{Notation}
use Rattle.dbm_script.specs.declared.notations.Notation.TheVariants.{Hex, Text, Layout}

-- the notation that `--text` and `--as` select, or None if the layout is invalid
abbrev pub notation_by : Bool → Option (Bor (List ℕ)) → Option (Notation Global)
notation_by text (Some layout) = option_map Layout (layout_of layout.now)
notation_by true None = Some Text
notation_by false None = Some Hex
