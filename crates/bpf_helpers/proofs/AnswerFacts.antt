-- The answers of the helpers, and the agreement of a step with the helper table.
use Rattle.std.proofs.Common.{ℕ, ℤ, ◌≡◌, ◌≤◌, ◌<◌, ◌^◌, Some, refl, arith}
use Rattle.std.specs.Option.{option_map}
use Rattle.std.specs.Prelude.{true, false, Bool}
use Rattle.std.specs.Int.{from_bool}
use Rattle.bpf_helpers.specs.declared.values.Env.{Env}
use Rattle.bpf_helpers.specs.declared.helpers.Helper.{Helper}
use Rattle.bpf_helpers.specs.declared.helpers.Helper.TheVariants.{Reply, Now, Present, Who, Copy}
use Rattle.bpf_helpers.specs.Helpers.{Answer, IsGiven, IsEnv, answer_of, greatest_answer, helper_answer, numbered}
use Rattle.bpf_helpers.specs.Machine.{Config, after_answer, answered}

at_most_one : (b : Bool) → from_bool b ≤ 1
at_most_one true = omega arith
at_most_one false = omega arith

pub answer_fits : (h : Helper) (given word : ℕ) (env : Env) → IsGiven h given → IsEnv env → (answer_of h given env word).value ≤ greatest_answer h
answer_fits Reply given word env g e = omega arith
answer_fits Now given word env g e = let n : env.now < 2 ^ 64 = e.now_fits in omega arith
answer_fits Present given word env g e = at_most_one env.present
answer_fits Who given word env g e = let n : env.who < 2 ^ 64 = e.who_fits in omega arith
answer_fits Copy given word env g e = g

-- A step with a helper's answer is one with the table's answer for the helper's number.
pub answered_by_table : (id : ℤ) (h : Helper) (given : ℕ) (c : Config) → numbered id ≡ Some h
    → option_map (λ (a : Answer). after_answer a c) (helper_answer id given c.env c.word) ≡ Some (answered h given c)
answered_by_table id h given c is = rw is refl
