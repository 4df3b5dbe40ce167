-- The helper table on values.
use Rattle.std.proofs.Common.{◌≡◌, refl}
use Rattle.std.specs.Prelude.{pos, negsuc, false, Some, None}
use Rattle.bpf_helpers.specs.Helpers.{helper_answer}
use Rattle.bpf_helpers.proofs.Running.{here}

-- the argument becomes the word
reply : helper_answer (pos 1) 9 here 7 ≡ Some (record { value = 0; word = 9 })
reply = refl

now : helper_answer (pos 2) 9 here 7 ≡ Some (record { value = 1700000000; word = 7 })
now = refl

present : helper_answer (pos 3) 9 here 7 ≡ Some (record { value = 1; word = 7 })
present = refl

absent : helper_answer (pos 3) 9 (record { now = 0; present = false; who = 0 }) 7 ≡ Some (record { value = 0; word = 7 })
absent = refl

who : helper_answer (pos 4) 9 here 7 ≡ Some (record { value = 3; word = 7 })
who = refl

copy : helper_answer (pos 5) 9 here 7 ≡ Some (record { value = 9; word = 7 })
copy = refl

zeroth : helper_answer (pos 0) 9 here 7 ≡ None
zeroth = refl

sixth : helper_answer (pos 6) 9 here 7 ≡ None
sixth = refl

negative : helper_answer (negsuc 0) 9 here 7 ≡ None
negative = refl
