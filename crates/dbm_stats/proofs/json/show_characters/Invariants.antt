use Rattle.std.proofs.Common.{◌≡◌, ◌++◌, take}
use Rattle.std.specs.List.{flat_map}
use Rattle.dbm_stats.specs.Json.{escaped_character}
use Rattle.dbm_stats.proofs.json.show_characters.Given as goal

abbrev pub invariant-loop-byte : goal.invariant-loop-byte
invariant-loop-byte g l = l.text.items ≡ l.initial.text.items ++ flat_map escaped_character (take l.byte-index l.string)
