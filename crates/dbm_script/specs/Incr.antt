-- Adding to a number by the stock program `bounded_counter`.
use Rattle.std.specs.Prelude.{ℕ, List, ◌++◌}
use Rattle.byte_text.specs.Numbers.{low_bytes}
use Rattle.bpf_insn.specs.Code.{image_of}
use Rattle.stock_programs.specs.BoundedCounter.{bounded_counter}

-- the image of the program
abbrev pub counter_image : List ℕ
counter_image = image_of bounded_counter

-- the argument of the program: the amount in two's complement, then the least and the greatest allowed number
abbrev pub counter_argument : ℕ → ℕ → ℕ → List ℕ
counter_argument amount least greatest = low_bytes 8 amount ++ (low_bytes 8 least ++ low_bytes 8 greatest)
